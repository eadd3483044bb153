-- What rule typing gives after a call of a reducer is what it gave before it.
use Rattle.std.proofs.Common.{List, [], ◌∷◌, ◌++◌, ◌≡◌, ℕ, Option, Some, None, map, ap, ◌∙◌, sym as flip, subst, refl, arith}
use Rattle.std.specs.Prelude.{Result, Ok, Err, slice_set, length, zero, suc}
use Rattle.dk_model.specs.Trees.{Tree, variable, product}
use Rattle.dk_model.specs.Substitution.{shift, substitute}
use Rattle.dk_model.specs.Captures.{renamed}
use Rattle.dk_model.specs.Signatures.{maybe_by, PlainSignature}
use Rattle.dk_model.specs.Bindings.{Bindings as PlainBindings, under}
use Rattle.dk_model.specs.Solving.{solved}
use Rattle.dk_model.specs.Typing.{Judged, answer, refused, ended, next, as_product, variable_type}
use Rattle.dk_model.proofs.Unders.{variable_under}
use Rattle.dk_model.specs.RuleTyping.{Found as PlainFound, Walked, Posed, found_type, with_type, with_wildcard, occurrence, first_type, later_type, confined, bound_type}
use Rattle.dk_model.specs.declared.code.Code.TheVariants.{E34}
use Rattle.dk_model.specs.declared.stop.TypeFault.{TypeFault}
use Rattle.signature_log.specs.Reducers.{Keeps, AreOwned, OwnsSome, OwnsSomes}
use Rattle.infer_check.specs.declared.context.Context.{Context}
use Rattle.infer_check.specs.Contexts.{innermost_first, bound_types, OwnsContext}
use Rattle.infer_check.specs.Given.{GivesType, Fails}
use Rattle.infer_check.proofs.Contexts.{bound_types_kept, length_bound_types, types_kept as values_kept}
use Rattle.infer_check.proofs.Spines.{map_pushed}
use Rattle.rule_check.specs.Clauses.{Binds, BindsArgument, GivesProductOf, FitsVariable, GivesStep, later_due, MeetsFirst, Meets}
use Rattle.rule_check.specs.declared.found.Found.{Found}
use Rattle.rule_check.specs.declared.found.Bindings.{Bindings}
use Rattle.rule_check.specs.Founds.{types_of, terms_of, guards_of, found_of, OwnsGuards, OwnsBindings, OwnsFound, IsRebound}
use Rattle.rule_check.specs.Given.{GivesFound, GivesBindings, GivesPosed, IsKnown}
use Rattle.rule_check.specs.Steps.{found_at, applied_type, met_first, later_fits, met}
use Rattle.rule_check.proofs.Judging.{first_codomain_fails, first_given, meet_later_given, meet_later_fails}
use Rattle.rule_check.proofs.Resolved.{levels_closed}
use Rattle.rule_check.proofs.Founds.{same_found, found_kept, found_same, rebound_same, rebound_owned, terms_kept, types_set, types_of_kept, guards_of_kept, owned_set, types_pushed, owned_type_pushed}
use Rattle.infer_check.proofs.Judging.{fails_next, fails_is, next_next}

pub same_walked : {t u A : Tree} {w v : PlainFound} → t ≡ u → w ≡ v → (let a : Walked = record { term = t; typ = A; found = w } in a) ≡ (let a : Walked = record { term = u; typ = A; found = v } in a)
same_walked {t} {u} {A} {w} {v} e f = ap (λ (x : Tree). (let a : Walked = record { term = x; typ = A; found = w } in a)) e ∙ ap (λ (x : PlainFound). (let a : Walked = record { term = u; typ = A; found = x } in a)) f

pub moved_over_options : (xs : List (Option Tree)) (y : Option Tree) (ys : List (Option Tree)) → (xs ++ y ∷ []) ++ ys ≡ xs ++ y ∷ ys
moved_over_options [] y ys = refl
moved_over_options (x ∷ xs) y ys = ap (λ (zs : List (Option Tree)). x ∷ zs) (moved_over_options xs y ys)

pub same_posed : {t u : Tree} {s r : PlainBindings} → t ≡ u → s ≡ r → (let p : Posed = record { typ = t; bindings = s } in p) ≡ (let p : Posed = record { typ = u; bindings = r } in p)
same_posed {t} {u} {s} {r} e f = ap (λ (x : Tree). (let p : Posed = record { typ = x; bindings = s } in p)) e ∙ ap (λ (x : PlainBindings). (let p : Posed = record { typ = u; bindings = x } in p)) f

map_length : (f : Tree → Tree) (ts : List Tree) → length (map f ts) ≡ length ts
map_length f [] = refl
map_length f (t ∷ ts) = ap suc (map_length f ts)

pub moved_over : (xs : List Tree) (y : Tree) (ys : List Tree) → (xs ++ y ∷ []) ++ ys ≡ xs ++ y ∷ ys
moved_over [] y ys = refl
moved_over (x ∷ xs) y ys = ap (λ (zs : List Tree). x ∷ zs) (moved_over xs y ys)

module _ {R T : Type 0} {owns : R → T → Type 0} {denotes : R → T → Tree} (S : PlainSignature) (old mid : R) (c : Context T) (k : Keeps owns denotes old mid) (h : OwnsContext owns old c) where
  types_are : bound_types denotes mid c ≡ bound_types denotes old c
  types_are = bound_types_kept old mid c k h

  module _ (b : Bindings T) (o : OwnsBindings owns denotes old b) where
    under_is : map (under (terms_of denotes mid b)) (bound_types denotes mid c) ≡ map (under (terms_of denotes old b)) (bound_types denotes old c)
    under_is = ap (λ s. map (under s) (bound_types denotes mid c)) (terms_kept old mid k b o) ∙ ap (map (under (terms_of denotes old b))) types_are

    -- the first occurrence
    pub product_of_moved : (new : R) (before xs : List ℕ) (A B : Tree) (n m : ℕ) (r : Result T TypeFault) → A ≡ B
        → GivesProductOf owns denotes S mid c b before xs A n new r m → GivesProductOf owns denotes S old c b before xs B n new r m
    product_of_moved new before xs A B n m r e g = let P : List Tree → Type 0 = λ G. GivesType owns denotes (first_type S G before xs B n) new r m in
        let Q : Tree → Type 0 = λ X. GivesType owns denotes (first_type S (map (under (terms_of denotes mid b)) (bound_types denotes mid c)) before xs X n) new r m in
        subst P under_is (subst Q e g)

    -- an argument's type, under the bindings
    pub argument_moved : (new : R) (xs : List ℕ) (x : ℕ) (A : Tree) (n m : ℕ) (r : Result T TypeFault) → A ≡ under (terms_of denotes old b) (variable_type (bound_types denotes old c) x)
        → GivesType owns denotes (bound_type S (bound_types denotes old c) xs A n) new r m → BindsArgument owns denotes S old c b xs x n new r m
    argument_moved new xs x A n m r e g =
        let H : List Tree = map (under (terms_of denotes old b)) (bound_types denotes old c) in
        let q : A ≡ variable_type H x = e ∙ variable_under (terms_of denotes old b) (levels_closed o.levels) (bound_types denotes old c) x in
        let P : Tree → Type 0 = λ X. GivesType owns denotes (bound_type S (bound_types denotes old c) xs X n) new r m in
        let Q : ℕ → Type 0 = λ d. GivesType owns denotes (bound_by d xs (variable_type H x) n) new r m in
        subst Q (flip (map_length (under (terms_of denotes old b)) (bound_types denotes old c))) (subst P q g)
      where
        bound_by : ℕ → List ℕ → Tree → ℕ → Judged Tree
        bound_by d xs T n = next (confined S d xs T n) (λ U m. answer (renamed 0 d xs U) m)

    pub fit_moved : (x : ℕ) (A : Tree) (n m : ℕ) (new : R) (after : Bindings T) (r : Result Unit TypeFault) → FitsVariable owns denotes S mid c b x A n new after r m → FitsVariable owns denotes S old c b x A n new after r m
    fit_moved x A n m new after r g = let P : List Tree → Type 0 = λ G. GivesBindings owns denotes (solved S (terms_of denotes old b) (variable_type G x) A n) new after r m in
        let Q : PlainBindings → Type 0 = λ s. GivesBindings owns denotes (solved S s (variable_type (bound_types denotes mid c) x) A n) new after r m in
        subst P types_are (subst Q (terms_kept old mid k b o) g)

  -- a step at a state between
  pub step_moved : (new : R) (x : ℕ) (F : Tree) (b after : Bindings T) (n m : ℕ) (o : Result T TypeFault) → GivesStep owns denotes S mid c b x F n new after o m
      → GivesPosed owns denotes (applied_type S (bound_types denotes old c) x F (terms_of denotes mid b) n) new after o m
  step_moved new x F b after n m o g = let P : List Tree → Type 0 = λ G. GivesPosed owns denotes (applied_type S G x F (terms_of denotes mid b) n) new after o m in subst P types_are g

  pub binds_moved : (new : R) (xs : List ℕ) (A B : Tree) (n m : ℕ) (o : Result T TypeFault) → A ≡ B
      → Binds owns denotes S mid c xs A n new o m → Binds owns denotes S old c xs B n new o m
  binds_moved new xs A B n m o e g = let P : List Tree → Type 0 = λ G. GivesType owns denotes (bound_type S G xs B n) new o m in
      let Q : Tree → Type 0 = λ X. GivesType owns denotes (bound_type S (bound_types denotes mid c) xs X n) new o m in
      subst P types_are (subst Q e g)

-- by the first of a list

module _ (S : PlainSignature) (G : List Tree) where
  pub product_fails : (f : TypeFault) (spare : ℕ) (before rest others front b : List ℕ) (x : ℕ) (A D : Tree) (n m : ℕ) → rest ≡ x ∷ others → b ≡ before ++ x ∷ [] → front ≡ before → bound_type S G front (variable_type G x) n ≡ answer D m
      → Fails f spare (first_type S G b others A m) → Fails f spare (first_type S G before rest A n)
  product_fails f spare before rest others front b x A D n m e q i h k = let P : List ℕ → Type 0 = λ l. Fails f spare (first_type S G before l A n) in
      let Q : List ℕ → Type 0 = λ l. Fails f spare (first_type S G l others A m) in subst P (flip e) (first_codomain_fails S G f spare before others x A D n m (ap (λ l. bound_type S G l (variable_type G x) n) (flip i) ∙ h) (subst Q q k))

  pub product_given : (before rest others front b : List ℕ) (x : ℕ) (A D B : Tree) (n m i : ℕ) → rest ≡ x ∷ others → b ≡ before ++ x ∷ [] → front ≡ before → bound_type S G front (variable_type G x) n ≡ answer D m
      → first_type S G b others A m ≡ answer B i → first_type S G before rest A n ≡ answer (product D B) i
  product_given before rest others front b x A D B n m i e q j h k = let P : List ℕ → Type 0 = λ l. first_type S G before l A n ≡ answer (product D B) i in
      let Q : List ℕ → Type 0 = λ l. first_type S G l others A m ≡ answer B i in subst P (flip e) (first_given S G before others x A D B n m i (ap (λ l. bound_type S G l (variable_type G x) n) (flip j) ∙ h) (subst Q q k))

  stepped : (X : Judged (Tree × Tree)) (C : Tree × Tree → ℕ → Judged PlainBindings) (s : Tree × Tree → Tree) (K : Posed → ℕ → Judged Posed)
      → next X (λ p m. next (C p m) (λ r i. K (record { typ = s p; bindings = r }) i)) ≡ next (next X (λ p m. next (C p m) (λ r i. answer (record { typ = s p; bindings = r }) i))) K
  stepped (answer p m) C s K = flip (next_next (C p m) (λ r i. answer (record { typ = s p; bindings = r }) i) K)
  stepped (refused c n) C s K = refl
  stepped ended C s K = refl

  later_step : (x : ℕ) (xs : List ℕ) (F : Tree) (s : PlainBindings) (n : ℕ) → later_type S G (x ∷ xs) F s n ≡ next (applied_type S G x F s n) (λ B i. later_type S G xs B.typ B.bindings i)
  later_step x xs F s n = stepped (as_product S E34 (under s F) n) (λ p m. solved S s (variable_type G x) p.0 m) (λ p. substitute 0 (variable x) p.1) (λ B i. later_type S G xs B.typ B.bindings i)

  pub step_fails : (f : TypeFault) (spare : ℕ) (rest others : List ℕ) (x : ℕ) (F : Tree) (s : PlainBindings) (n : ℕ) → rest ≡ x ∷ others → Fails f spare (applied_type S G x F s n) → Fails f spare (later_type S G rest F s n)
  step_fails f spare rest others x F s n e h = let P : List ℕ → Type 0 = λ l. Fails f spare (later_type S G l F s n) in
      subst P (flip e) (fails_is f spare _ _ (later_step x others F s n) (fails_next f spare (applied_type S G x F s n) _ h))

  pub step_given : (rest others : List ℕ) (x : ℕ) (F : Tree) (s : PlainBindings) (B : Posed) (n m : ℕ) → rest ≡ x ∷ others → applied_type S G x F s n ≡ answer B m → later_type S G others B.typ B.bindings m ≡ later_type S G rest F s n
  step_given rest others x F s B n m e h = let P : List ℕ → Type 0 = λ l. later_type S G others B.typ B.bindings m ≡ later_type S G l F s n in
      subst P (flip e) (flip (later_step x others F s n ∙ ap (λ y. next y (λ C i. later_type S G others C.typ C.bindings i)) h))

  pub applied_fails : (f : TypeFault) (spare : ℕ) (x : ℕ) (F A B : Tree) (s : PlainBindings) (n m : ℕ) → as_product S E34 (under s F) n ≡ answer (A, B) m → Fails f spare (solved S s (variable_type G x) A m) → Fails f spare (applied_type S G x F s n)
  applied_fails f spare x F A B s n m e h = fails_is f spare _ _ (ap (λ y. next y (λ p m. next (solved S s (variable_type G x) p.0 m) (λ r i. answer (record { typ = substitute 0 (variable x) p.1; bindings = r }) i))) e)
      (fails_next f spare (solved S s (variable_type G x) A m) _ h)

  pub applied_given : (x : ℕ) (F A B : Tree) (s r : PlainBindings) (n m i : ℕ) → as_product S E34 (under s F) n ≡ answer (A, B) m → solved S s (variable_type G x) A m ≡ answer r i
      → applied_type S G x F s n ≡ answer (record { typ = substitute 0 (variable x) B; bindings = r }) i
  applied_given x F A B s r n m i e h = ap (λ y. next y (λ p m. next (solved S s (variable_type G x) p.0 m) (λ r i. answer (record { typ = substitute 0 (variable x) p.1; bindings = r }) i))) e
      ∙ ap (λ y. next y (λ r i. answer (record { typ = substitute 0 (variable x) B; bindings = r }) i)) h

-- rule variables

module _ {R T : Type 0} (owns : R → T → Type 0) (denotes : R → T → Tree) (r : R) where
  pub type_missing : (os : List (Option T)) (i : ℕ) → found_at os i ≡ None → found_type (types_of denotes r os) i ≡ None
  type_missing [] i h = refl
  type_missing (None ∷ os) zero h = refl
  type_missing (Some t ∷ os) zero h = cc
  type_missing (o ∷ os) (suc i) h = type_missing os i h

  pub type_known : (os : List (Option T)) (i : ℕ) (t : T) → found_at os i ≡ Some t → found_type (types_of denotes r os) i ≡ Some (denotes r t)
  type_known [] i t h = cc
  type_known (None ∷ os) zero t h = cc
  type_known (Some u ∷ os) zero t h = ap (maybe_by (denotes r)) h
  type_known (o ∷ os) (suc i) t h = type_known os i t h

  pub type_owned : (os : List (Option T)) (i : ℕ) (t : T) → found_at os i ≡ Some t → OwnsSomes owns r os → owns r t
  type_owned [] i t h o = cc
  type_owned (None ∷ os) zero t h o = cc
  type_owned (Some u ∷ os) zero t h o = subst (OwnsSome owns r) h o.0
  type_owned (x ∷ os) (suc i) t h o = type_owned os i t h o.1

module _ {R T : Type 0} {owns : R → T → Type 0} {denotes : R → T → Tree} (S : PlainSignature) (old mid : R) (c : Context T) (k : Keeps owns denotes old mid) (h : OwnsContext owns old c) where
  pub later_moved : (b : Bindings T) → OwnsBindings owns denotes old b → (xs : List ℕ) (F A B : Tree) (n m : ℕ) (new : R) (after : Bindings T) (o : Result Unit TypeFault) → A ≡ B
      → GivesBindings owns denotes (later_due denotes S mid c b xs F A n) new after o m → GivesBindings owns denotes (later_fits S (bound_types denotes old c) xs F B (terms_of denotes old b) n) new after o m
  later_moved b h' xs F A B n m new after o e g = let P : List Tree → Type 0 = λ G. GivesBindings owns denotes (later_fits S G xs F B (terms_of denotes old b) n) new after o m in
      let Q : Tree → Type 0 = λ X. GivesBindings owns denotes (later_fits S (bound_types denotes mid c) xs F X (terms_of denotes old b) n) new after o m in
      let W : PlainBindings → Type 0 = λ s. GivesBindings owns denotes (later_fits S (bound_types denotes mid c) xs F A s n) new after o m in
      subst P (bound_types_kept old mid c k h) (subst Q e (subst W (terms_kept old mid k b h') g))

  module _ (w : Found T) (q : OwnsFound owns denotes old w) where
    pub first_met_moved : (x : ℕ) (xs : List ℕ) (A B : Tree) (n m : ℕ) (new : R) (found : Found T) (o : Result Unit TypeFault) → A ≡ B
        → MeetsFirst owns denotes S mid c w x xs A n new found o m → GivesFound owns denotes (met_first S (bound_types denotes old c) x xs B (found_of denotes old w) n) new found o m
    first_met_moved x xs A B n m new found o e g =
        let P : List Tree → Type 0 = λ G. GivesFound owns denotes (met_first S G x xs B (found_of denotes old w) n) new found o m in
        let Q : Tree → Type 0 = λ X. GivesFound owns denotes (met_first S (bound_types denotes mid c) x xs X (found_of denotes old w) n) new found o m in
        let F : PlainFound → Type 0 = λ y. GivesFound owns denotes (met_first S (bound_types denotes mid c) x xs A y n) new found o m in
        subst P (bound_types_kept old mid c k h) (subst Q e (subst F (found_same old mid k w q) g))

  found_later : (w v : Found T) (q : OwnsFound owns denotes old w) (x : ℕ) (xs : List ℕ) (F B : Tree) (n m : ℕ) (new : R) (l : Keeps owns denotes old new) (o : Result Unit TypeFault) → IsRebound w v
      → GivesBindings owns denotes (later_fits S (bound_types denotes old c) xs (shift 0 (length (bound_types denotes old c)) F) B (terms_of denotes old w.bindings) n) new v.bindings o m
      → GivesFound owns denotes (met S (bound_types denotes old c) x xs (Some F) B (found_of denotes old w) n) new v o m
  found_later w v q x xs F B n m new l (Ok u) i g = (
    meet_later_given S (bound_types denotes old c) x xs F B (found_of denotes old w) (terms_of denotes new v.bindings) n m g.0 ∙ ap (λ y. answer y m) (flip (rebound_same old new l w v q i)),
    rebound_owned old new l w v q i g.1,
  )
  found_later w v q x xs F B n m new l (Err f) i g = meet_later_fails S (bound_types denotes old c) f m x xs F B (found_of denotes old w) n g

  -- an occurrence where the rule variable has no type yet, and where it has one
  pub meets_first : (w : Found T) (q : OwnsFound owns denotes old w) (x : ℕ) (xs : List ℕ) (A B : Tree) (n m : ℕ) (new : R) (found : Found T) (o : Result Unit TypeFault) (t : Option T)
      → t ≡ None → IsKnown owns denotes old w x (length c.bound) mid t → A ≡ B → MeetsFirst owns denotes S mid c w x xs A n new found o m → Meets owns denotes S old c w x xs B n new found o m
  meets_first w q x xs A B n m new found o t a b e g =
      let known : found_type (types_of denotes old w.types.items) x ≡ None = subst (IsKnown owns denotes old w x (length c.bound) mid) a b in
      let P : Option Tree → Type 0 = λ y. GivesFound owns denotes (met S (bound_types denotes old c) x xs y B (found_of denotes old w) n) new found o m in
      subst P (flip known) (first_met_moved w q x xs A B n m new found o e g)

  pub meets_later : (w v : Found T) (q : OwnsFound owns denotes old w) (x : ℕ) (xs : List ℕ) (A B : Tree) (n m : ℕ) (new : R) (o : Result Unit TypeFault) (t : Option T) (u : T)
      → t ≡ Some u → IsKnown owns denotes old w x (length c.bound) mid t → A ≡ B → Keeps owns denotes old new → IsRebound w v
      → GivesBindings owns denotes (later_due denotes S mid c w.bindings xs (denotes mid u) A n) new v.bindings o m
      → Meets owns denotes S old c w x xs B n new v o m
  meets_later w v q x xs A B n m new o t u a b e l i g =
      let known : IsKnown owns denotes old w x (length c.bound) mid (Some u) = subst (IsKnown owns denotes old w x (length c.bound) mid) a b in
      let F : Tree = known.0 in
      let len : length c.bound ≡ length (bound_types denotes old c) = flip (length_bound_types denotes old c) in
      let shifted : denotes mid u ≡ shift 0 (length (bound_types denotes old c)) F = known.2 ∙ ap (λ d. shift 0 d F) len in
      let fits : GivesBindings owns denotes (later_fits S (bound_types denotes old c) xs (shift 0 (length (bound_types denotes old c)) F) B (terms_of denotes old w.bindings) n) new v.bindings o m =
      (let P : Tree → Type 0 = λ X. GivesBindings owns denotes (later_fits S (bound_types denotes old c) xs X B (terms_of denotes old w.bindings) n) new v.bindings o m in subst P shifted (later_moved w.bindings q.bindings xs (denotes mid u) A B n m new v.bindings o e g)) in
      let P : Option Tree → Type 0 = λ y. GivesFound owns denotes (met S (bound_types denotes old c) x xs y B (found_of denotes old w) n) new v o m in
      subst P (flip known.1) (found_later w v q x xs F B n m new l o i fits)

  -- what is found with one type more
  pub set_found : (w found : Found T) (q : OwnsFound owns denotes old w) (x : ℕ) (t : T) → found.types.items ≡ slice_set w.types.items x (Some t) → found.guards.items ≡ w.guards.items → found.bindings ≡ w.bindings → owns mid t
      → (found_of denotes mid found ≡ with_type (found_of denotes old w) x (denotes mid t)) × OwnsFound owns denotes mid found
  set_found w found q x t e g z o =
      let kept : OwnsFound owns denotes mid w = found_kept old mid k w q in
      let types : types_of denotes mid found.types.items ≡ slice_set (types_of denotes old w.types.items) x (Some (denotes mid t)) =
      ap (types_of denotes mid) e ∙ types_set owns denotes mid w.types.items x t ∙ ap (λ (ys : List (Option Tree)). slice_set ys x (Some (denotes mid t))) (types_of_kept old mid k w.types.items q.types) in
      let guards : guards_of denotes mid found.guards.items ≡ guards_of denotes old w.guards.items =
      ap (guards_of denotes mid) g ∙ guards_of_kept old mid k w.guards.items q.guards in (
        same_found types guards (ap (terms_of denotes mid) z ∙ terms_kept old mid k w.bindings q.bindings),
        record {
          types = subst (OwnsSomes owns mid) (flip e) (owned_set owns denotes mid w.types.items x t kept.types o);
          guards = subst (OwnsGuards owns mid) (flip g) kept.guards;
          bindings = subst (OwnsBindings owns denotes mid) (flip z) kept.bindings;
        },
      )

module _ {R T : Type 0} {owns : R → T → Type 0} {denotes : R → T → Tree} (old mid : R) (k : Keeps owns denotes old mid) where
  pub wildcard_found : (w found : Found T) (q : OwnsFound owns denotes old w) (t : T) → found.types.items ≡ w.types.items ++ Some t ∷ [] → found.guards.items ≡ w.guards.items → found.bindings ≡ w.bindings → owns mid t
      → (found_of denotes mid found ≡ with_wildcard (found_of denotes old w) (denotes mid t)) × OwnsFound owns denotes mid found
  wildcard_found w found q t e g z o =
      let kept : OwnsFound owns denotes mid w = found_kept old mid k w q in
      let types : types_of denotes mid found.types.items ≡ types_of denotes old w.types.items ++ Some (denotes mid t) ∷ [] =
      ap (types_of denotes mid) e ∙ types_pushed owns denotes mid w.types.items t ∙ ap (λ (ys : List (Option Tree)). ys ++ Some (denotes mid t) ∷ []) (types_of_kept old mid k w.types.items q.types) in
      let guards : guards_of denotes mid found.guards.items ≡ guards_of denotes old w.guards.items =
      ap (guards_of denotes mid) g ∙ guards_of_kept old mid k w.guards.items q.guards in (
        same_found types guards (ap (terms_of denotes mid) z ∙ terms_kept old mid k w.bindings q.bindings),
        record {
          types = subst (OwnsSomes owns mid) (flip e) (owned_type_pushed owns denotes mid w.types.items t kept.types o);
          guards = subst (OwnsGuards owns mid) (flip g) kept.guards;
          bindings = subst (OwnsBindings owns denotes mid) (flip z) kept.bindings;
        },
      )

length_types : {R T : Type 0} (denotes : R → T → Tree) (r : R) (os : List (Option T)) → length (types_of denotes r os) ≡ length os
length_types denotes r [] = refl
length_types denotes r (o ∷ os) = let q : length (types_of denotes r os) ≡ length os = length_types denotes r os in omega (arith, q)

pub wildcard_occurs : {R T : Type 0} (denotes : R → T → Tree) (r : R) (w : Found T) (k : ℕ) (xs ys : List ℕ) → k ≡ length w.types.items → xs ≡ ys
    → occurrence (length (types_of denotes r w.types.items)) xs ≡ occurrence k ys
wildcard_occurs denotes r w k xs ys e f = ap (λ j. occurrence j xs) (length_types denotes r w.types.items ∙ flip e) ∙ ap (occurrence k) f

-- lists of values

pub copied_more : {R T : Type 0} {owns : R → T → Type 0} {denotes : R → T → Tree} (old at new : R) (ts done rest others : List T) (x y : T) → Keeps owns denotes old at → Keeps owns denotes at new
    → AreOwned owns old ts → AreOwned owns at done → AreOwned owns old rest → map (denotes at) done ++ map (denotes old) rest ≡ map (denotes old) ts → rest ≡ x ∷ others → denotes new y ≡ denotes at x
    → map (denotes new) (done ++ y ∷ []) ++ map (denotes old) others ≡ map (denotes old) ts
copied_more {R} {T} {owns} {denotes} old at new ts done rest others x y k l a b d e f h =
    let o : owns old x × AreOwned owns old others = subst (AreOwned owns old) f d in
    let p : denotes new y ≡ denotes old x = h ∙ k.same x o.0 in
    ap (λ (zs : List Tree). zs ++ map (denotes old) others) (map_pushed (denotes new) done y ∙ ap (λ (zs : List Tree). zs ++ denotes new y ∷ []) (values_kept at new done l b))
    ∙ moved_over (map (denotes at) done) (denotes new y) (map (denotes old) others)
    ∙ ap (λ (z : Tree). map (denotes at) done ++ z ∷ map (denotes old) others) p
    ∙ ap (λ (zs : List T). map (denotes at) done ++ map (denotes old) zs) (flip f) ∙ e

pub under_more : {R T : Type 0} {owns : R → T → Type 0} {denotes : R → T → Tree} (old at new : R) (b : Bindings T) → OwnsBindings owns denotes old b → (ts done rest others : List T) (x y : T) → Keeps owns denotes old at → Keeps owns denotes at new
    → AreOwned owns at done → AreOwned owns old rest
    → map (denotes at) done ++ map (under (terms_of denotes old b)) (map (denotes old) rest) ≡ map (under (terms_of denotes old b)) (map (denotes old) ts) → rest ≡ x ∷ others
    → denotes new y ≡ under (terms_of denotes at b) (denotes at x)
    → map (denotes new) (done ++ y ∷ []) ++ map (under (terms_of denotes old b)) (map (denotes old) others) ≡ map (under (terms_of denotes old b)) (map (denotes old) ts)
under_more {R} {T} {owns} {denotes} old at new b w ts done rest others x y k l c d e f h =
    let s : PlainBindings = terms_of denotes old b in
    let o : owns old x × AreOwned owns old others = subst (AreOwned owns old) f d in
    let p : denotes new y ≡ under s (denotes old x) = h ∙ ap (λ z. under z (denotes at x)) (terms_kept old at k b w) ∙ ap (under s) (k.same x o.0) in
    ap (λ (zs : List Tree). zs ++ map (under s) (map (denotes old) others)) (map_pushed (denotes new) done y ∙ ap (λ (zs : List Tree). zs ++ denotes new y ∷ []) (values_kept at new done l c))
    ∙ moved_over (map (denotes at) done) (denotes new y) (map (under s) (map (denotes old) others))
    ∙ ap (λ (z : Tree). map (denotes at) done ++ z ∷ map (under s) (map (denotes old) others)) p
    ∙ ap (λ (zs : List T). map (denotes at) done ++ map (under s) (map (denotes old) zs)) (flip f) ∙ e

pub mapped_is : {R T : Type 0} (denotes : R → T → Tree) (new : R) (ts : List T) (xs : List Tree) {us : List T} → ts ≡ us → map (denotes new) ts ++ xs ≡ map (denotes new) us ++ xs
mapped_is denotes new ts xs e = ap (λ (ys : List _). map (denotes new) ys ++ xs) e

pub none_owned : {R T : Type 0} (owns : R → T → Type 0) (r : R) (ts : List T) → ts ≡ [] → AreOwned owns r ts
none_owned owns r ts e = subst (AreOwned owns r) (flip e) tt

pub none_bound : {R T : Type 0} (denotes : R → T → Tree) (r : R) (ts : List T) → ts ≡ [] → innermost_first denotes r ts ≡ []
none_bound denotes r ts e = ap (innermost_first denotes r) e
