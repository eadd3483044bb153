-- What rule typing gives, from what its parts gave.
use Rattle.std.proofs.Common.{List, [], ◌∷◌, ◌++◌, ◌≡◌, ℕ, length, Option, Some, None, refl, ap, ◌∙◌, sym as flip, subst}
use Rattle.dk_model.specs.Trees.{Tree, apply, bare, product}
use Rattle.dk_model.specs.Substitution.{shift, substitute}
use Rattle.dk_model.specs.Signatures.{Pattern, Patterns, more_patterns, abstraction_pattern, PlainSignature}
use Rattle.dk_model.specs.Captures.{renamed}
use Rattle.dk_model.specs.Typing.{Judged, answer, refused, ended, next, as_product, variable_type}
use Rattle.dk_model.specs.Bindings.{Bindings, under}
use Rattle.dk_model.specs.Solving.{solved}
use Rattle.dk_model.specs.RuleTyping.{Found, Walked, Posed, with_type, with_wildcard, with_bindings, occurrence, outermost_first, confined, bound_type, first_type, first_typed, later_type, rule_variable_walked, wildcard_walked, walked, spine_walked, as_expected}
use Rattle.dk_model.specs.declared.code.Code.TheVariants.{E34}
use Rattle.dk_model.specs.declared.stop.TypeFault.{TypeFault}
use Rattle.infer_check.specs.Given.{Fails}
use Rattle.infer_check.proofs.Judging.{fails_next, fails_is, next_next}
use Rattle.rule_check.specs.Steps.{met_first, later_fits, met}

-- stages

goes : {A B : Type 0} (x : Judged A) (a : A) (n : ℕ) (g : A → ℕ → Judged B) → x ≡ answer a n → next x g ≡ g a n
goes x a n g e = ap (λ y. next y g) e

met_later : (X : Judged Posed) (C : Posed → ℕ → Judged Bindings) (w : Found) (K : Found → ℕ → Judged Walked)
    → next X (λ T m. next (C T m) (λ s i. K (with_bindings w s) i)) ≡ next (next (next X C) (λ s i. answer (with_bindings w s) i)) K
met_later (answer T m) C w K = flip (next_next (C T m) (λ s i. answer (with_bindings w s) i) K)
met_later (refused c n) C w K = refl
met_later ended C w K = refl

module _ (S : PlainSignature) (G : List Tree) where
  -- a confined type
  pub bound_fails : (f : TypeFault) (spare : ℕ) (d : ℕ) (xs : List ℕ) (A : Tree) (n : ℕ) → d ≡ length G → Fails f spare (confined S d xs A n) → Fails f spare (bound_type S G xs A n)
  bound_fails f spare d xs A n e h = let P : ℕ → Type 0 = λ k. Fails f spare (confined S k xs A n) in
      fails_next f spare (confined S (length G) xs A n) (λ U m. answer (renamed 0 (length G) xs U) m) (subst P e h)

  pub bound_given : (d : ℕ) (xs : List ℕ) (A U : Tree) (n m : ℕ) → d ≡ length G → confined S d xs A n ≡ answer U m → bound_type S G xs A n ≡ answer (renamed 0 d xs U) m
  bound_given d xs A U n m e h = let P : ℕ → Type 0 = λ k. bound_type S G xs A n ≡ answer (renamed 0 k xs U) m in let Q : ℕ → Type 0 = λ k. confined S k xs A n ≡ answer U m in
      subst P (flip e) (goes (confined S (length G) xs A n) U m (λ U m. answer (renamed 0 (length G) xs U) m) (subst Q e h))

  -- the type of a first occurrence
  pub first_domain_fails : (f : TypeFault) (spare : ℕ) (before xs : List ℕ) (x : ℕ) (A : Tree) (n : ℕ) → Fails f spare (bound_type S G before (variable_type G x) n) → Fails f spare (first_type S G before (x ∷ xs) A n)
  first_domain_fails f spare before xs x A n h = fails_next f spare (bound_type S G before (variable_type G x) n) _ h

  pub first_codomain_fails : (f : TypeFault) (spare : ℕ) (before xs : List ℕ) (x : ℕ) (A D : Tree) (n m : ℕ) → bound_type S G before (variable_type G x) n ≡ answer D m
      → Fails f spare (first_type S G (before ++ x ∷ []) xs A m) → Fails f spare (first_type S G before (x ∷ xs) A n)
  first_codomain_fails f spare before xs x A D n m e h = fails_is f spare _ _ (goes (bound_type S G before (variable_type G x) n) D m _ e) (fails_next f spare (first_type S G (before ++ x ∷ []) xs A m) _ h)

  pub first_given : (before xs : List ℕ) (x : ℕ) (A D B : Tree) (n m i : ℕ) → bound_type S G before (variable_type G x) n ≡ answer D m
      → first_type S G (before ++ x ∷ []) xs A m ≡ answer B i → first_type S G before (x ∷ xs) A n ≡ answer (product D B) i
  first_given before xs x A D B n m i e h = goes (bound_type S G before (variable_type G x) n) D m _ e ∙ goes (first_type S G (before ++ x ∷ []) xs A m) B i _ h

  -- a wildcard
  pub wildcard_fails : (f : TypeFault) (spare : ℕ) (xs : List ℕ) (A : Tree) (w : Found) (n : ℕ) → xs ≡ outermost_first (length G) → Fails f spare (first_typed S w.bindings G xs A n) → Fails f spare (wildcard_walked S G A w n)
  wildcard_fails f spare xs A w n e h = let P : List ℕ → Type 0 = λ ys. Fails f spare (first_typed S w.bindings G ys A n) in fails_next f spare (first_typed S w.bindings G (outermost_first (length G)) A n) _ (subst P e h)

  pub wildcard_given : (xs : List ℕ) (A T : Tree) (w : Found) (n m : ℕ) → xs ≡ outermost_first (length G) → first_typed S w.bindings G xs A n ≡ answer T m
      → wildcard_walked S G A w n ≡ answer (record { term = occurrence (length w.types) xs; typ = A; found = with_wildcard w T }) m
  wildcard_given xs A T w n m e h =
      let P : List ℕ → Type 0 = λ ys. first_typed S w.bindings G ys A n ≡ answer T m in
      let Q : List ℕ → Type 0 = λ ys. wildcard_walked S G A w n ≡ answer (record { term = occurrence (length w.types) ys; typ = A; found = with_wildcard w T }) m in
      subst Q (flip e) (goes (first_typed S w.bindings G (outermost_first (length G)) A n) T m _ (subst P e h))

  -- a head with its patterns
  pub expected_fails : (f : TypeFault) (spare : ℕ) (t F A : Tree) (ps : Patterns) (w : Found) (n : ℕ) → Fails f spare (spine_walked S G t F ps w n) → Fails f spare (next (spine_walked S G t F ps w n) (as_expected S A))
  expected_fails f spare t F A ps w n h = fails_next f spare (spine_walked S G t F ps w n) (as_expected S A) h

  expected_compared : (t F A : Tree) (ps : Patterns) (w : Found) (a : Walked) (n m : ℕ) → spine_walked S G t F ps w n ≡ answer a m
      → next (spine_walked S G t F ps w n) (as_expected S A) ≡ next (solved S a.found.bindings a.typ A m) (λ s i. answer (record { term = a.term; typ = A; found = with_bindings a.found s }) i)
  expected_compared t F A ps w a n m e = goes (spine_walked S G t F ps w n) a m (as_expected S A) e

  pub expected_compared_fails : (f : TypeFault) (spare : ℕ) (t F A : Tree) (ps : Patterns) (w : Found) (a : Walked) (n m : ℕ) → spine_walked S G t F ps w n ≡ answer a m
      → Fails f spare (solved S a.found.bindings a.typ A m) → Fails f spare (next (spine_walked S G t F ps w n) (as_expected S A))
  expected_compared_fails f spare t F A ps w a n m e h = fails_is f spare _ _ (expected_compared t F A ps w a n m e) (fails_next f spare (solved S a.found.bindings a.typ A m) _ h)

  pub expected_given : (t F A : Tree) (ps : Patterns) (w : Found) (a : Walked) (s : Bindings) (n m i : ℕ) → spine_walked S G t F ps w n ≡ answer a m → solved S a.found.bindings a.typ A m ≡ answer s i
      → next (spine_walked S G t F ps w n) (as_expected S A) ≡ answer (record { term = a.term; typ = A; found = with_bindings a.found s }) i
  expected_given t F A ps w a s n m i e h = expected_compared t F A ps w a n m e ∙ goes (solved S a.found.bindings a.typ A m) s i _ h

  -- an abstraction
  pub abstraction_product_fails : (f : TypeFault) (spare : ℕ) (p : Pattern) (A : Tree) (w : Found) (n : ℕ) → Fails f spare (as_product S E34 (under w.bindings A) n) → Fails f spare (walked S G (abstraction_pattern p) A w n)
  abstraction_product_fails f spare p A w n h = fails_next f spare (as_product S E34 (under w.bindings A) n) _ h

  abstraction_body : (p : Pattern) (A D B : Tree) (w : Found) (n m : ℕ) → as_product S E34 (under w.bindings A) n ≡ answer (D, B) m
      → walked S G (abstraction_pattern p) A w n ≡ next (walked S (D ∷ G) p B w m) (λ a i. answer (record { term = bare a.term; typ = A; found = a.found }) i)
  abstraction_body p A D B w n m e = goes (as_product S E34 (under w.bindings A) n) (D, B) m _ e

  pub abstraction_body_fails : (f : TypeFault) (spare : ℕ) (p : Pattern) (A D B : Tree) (w : Found) (n m : ℕ) → as_product S E34 (under w.bindings A) n ≡ answer (D, B) m
      → Fails f spare (walked S (D ∷ G) p B w m) → Fails f spare (walked S G (abstraction_pattern p) A w n)
  abstraction_body_fails f spare p A D B w n m e h = fails_is f spare _ _ (abstraction_body p A D B w n m e) (fails_next f spare (walked S (D ∷ G) p B w m) _ h)

  pub abstraction_given : (p : Pattern) (A D B : Tree) (w : Found) (a : Walked) (n m i : ℕ) → as_product S E34 (under w.bindings A) n ≡ answer (D, B) m
      → walked S (D ∷ G) p B w m ≡ answer a i → walked S G (abstraction_pattern p) A w n ≡ answer (record { term = bare a.term; typ = A; found = a.found }) i
  abstraction_given p A D B w a n m i e h = abstraction_body p A D B w n m e ∙ goes (walked S (D ∷ G) p B w m) a i _ h

  -- a spine
  pub spine_product_fails : (f : TypeFault) (spare : ℕ) (t F : Tree) (p : Pattern) (ps : Patterns) (w : Found) (n : ℕ) → Fails f spare (as_product S E34 (under w.bindings F) n) → Fails f spare (spine_walked S G t F (more_patterns p ps) w n)
  spine_product_fails f spare t F p ps w n h = fails_next f spare (as_product S E34 (under w.bindings F) n) _ h

  spine_argument : (t F A B : Tree) (p : Pattern) (ps : Patterns) (w : Found) (n m : ℕ) → as_product S E34 (under w.bindings F) n ≡ answer (A, B) m
      → spine_walked S G t F (more_patterns p ps) w n ≡ next (walked S G p A w m) (λ a i. spine_walked S G (apply t a.term) (substitute 0 a.term B) ps a.found i)
  spine_argument t F A B p ps w n m e = goes (as_product S E34 (under w.bindings F) n) (A, B) m _ e

  pub spine_argument_fails : (f : TypeFault) (spare : ℕ) (t F A B : Tree) (p : Pattern) (ps : Patterns) (w : Found) (n m : ℕ) → as_product S E34 (under w.bindings F) n ≡ answer (A, B) m
      → Fails f spare (walked S G p A w m) → Fails f spare (spine_walked S G t F (more_patterns p ps) w n)
  spine_argument_fails f spare t F A B p ps w n m e h = fails_is f spare _ _ (spine_argument t F A B p ps w n m e) (fails_next f spare (walked S G p A w m) _ h)

  pub spine_goes_on : (t F A B : Tree) (p : Pattern) (ps : Patterns) (w : Found) (a : Walked) (n m i : ℕ) → as_product S E34 (under w.bindings F) n ≡ answer (A, B) m → walked S G p A w m ≡ answer a i
      → spine_walked S G t F (more_patterns p ps) w n ≡ spine_walked S G (apply t a.term) (substitute 0 a.term B) ps a.found i
  spine_goes_on t F A B p ps w a n m i e h = spine_argument t F A B p ps w n m e ∙ goes (walked S G p A w m) a i _ h

  -- an occurrence, by what it finds
  pub by_meeting : (k : ℕ) (xs : List ℕ) (o : Option Tree) (A : Tree) (w : Found) (n : ℕ)
      → rule_variable_walked S G k xs o A w n ≡ next (met S G k xs o A w n) (λ w' m. answer (record { term = occurrence k xs; typ = A; found = w' }) m)
  by_meeting k xs None A w n = flip (next_next (first_typed S w.bindings G xs A n) (λ T m. answer (with_type w k T) m) (λ w' m. answer (record { term = occurrence k xs; typ = A; found = w' }) m))
  by_meeting k xs (Some F) A w n = met_later (later_type S G xs (shift 0 (length G) F) w.bindings n) (λ T m. solved S T.bindings T.typ A m) w (λ w' m. answer (record { term = occurrence k xs; typ = A; found = w' }) m)

  pub meeting_fails : (f : TypeFault) (spare : ℕ) (k : ℕ) (xs : List ℕ) (o : Option Tree) (A : Tree) (w : Found) (n : ℕ) → Fails f spare (met S G k xs o A w n) → Fails f spare (rule_variable_walked S G k xs o A w n)
  meeting_fails f spare k xs o A w n h = fails_is f spare _ _ (by_meeting k xs o A w n) (fails_next f spare (met S G k xs o A w n) _ h)

  pub meeting_given : (k : ℕ) (xs : List ℕ) (o : Option Tree) (A : Tree) (w v : Found) (n m : ℕ) → met S G k xs o A w n ≡ answer v m
      → rule_variable_walked S G k xs o A w n ≡ answer (record { term = occurrence k xs; typ = A; found = v }) m
  meeting_given k xs o A w v n m e = by_meeting k xs o A w n ∙ goes (met S G k xs o A w n) v m _ e

  pub meet_first_given : (k : ℕ) (xs : List ℕ) (A T : Tree) (w : Found) (n m : ℕ) → first_typed S w.bindings G xs A n ≡ answer T m → met_first S G k xs A w n ≡ answer (with_type w k T) m
  meet_first_given k xs A T w n m e = goes (first_typed S w.bindings G xs A n) T m _ e

  pub meet_first_fails : (f : TypeFault) (spare : ℕ) (k : ℕ) (xs : List ℕ) (A : Tree) (w : Found) (n : ℕ) → Fails f spare (first_typed S w.bindings G xs A n) → Fails f spare (met_first S G k xs A w n)
  meet_first_fails f spare k xs A w n h = fails_next f spare (first_typed S w.bindings G xs A n) _ h

  pub meet_later_given : (k : ℕ) (xs : List ℕ) (F A : Tree) (w : Found) (s : Bindings) (n m : ℕ) → later_fits S G xs (shift 0 (length G) F) A w.bindings n ≡ answer s m → met S G k xs (Some F) A w n ≡ answer (with_bindings w s) m
  meet_later_given k xs F A w s n m e = goes (later_fits S G xs (shift 0 (length G) F) A w.bindings n) s m _ e

  pub meet_later_fails : (f : TypeFault) (spare : ℕ) (k : ℕ) (xs : List ℕ) (F A : Tree) (w : Found) (n : ℕ) → Fails f spare (later_fits S G xs (shift 0 (length G) F) A w.bindings n) → Fails f spare (met S G k xs (Some F) A w n)
  meet_later_fails f spare k xs F A w n h = fails_next f spare (later_fits S G xs (shift 0 (length G) F) A w.bindings n) _ h
