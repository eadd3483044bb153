-- The typing of rules over similar signatures, of rules that are alike: the same fault or none, and the same units.
use Rattle.std.proofs.Common.{List, [], ◌∷◌, ◌++◌, map, length, ℕ, ◌≡◌, Bool, true, false, Option, Some, None, refl, ap, subst}
use Rattle.dk_model.specs.PlainTerms.{Tree, variable}
use Rattle.dk_model.specs.PlainEntries.{Pattern, Patterns, PlainRule, PlainSignature}
use Rattle.dk_model.specs.Captures.{renamed}
use Rattle.dk_model.specs.Bindings.{Bindings}
use Rattle.dk_model.specs.Typing.{by_units, answer, next}
use Rattle.dk_model.specs.RuleTyping.{Guard, Found, Walked, Posed, found_type, with_type, with_wildcard, with_guard, with_bindings, type_or_kind, all_types, types_under, outermost_first, occurrence, guard_walked, abstraction_over, nothing_found, patterns_of, allowed, confined, bound_type, first_type, later_type, first_typed, rule_variable_walked, wildcard_walked, as_expected, walked, spine_walked, notes_agree, guards_fit, sides_fit, rule_checked, rules_typed}
use Rattle.dk_model.specs.declared.code.Code.TheVariants.{E34}
use Rattle.prune_theory.specs.Alike.{Each, none_left, one_more, Maybe, neither, both, InJudged, both_answer, both_refused, Alike, alike_kind, alike_symbol, alike_variable, alike_rule_variable, alike_apply, alike_bare, alike_product, AlikePattern, alike_rule_variable_pattern, alike_wildcard_pattern, alike_guard_pattern, alike_symbol_pattern, alike_variable_pattern, alike_abstraction_pattern, AlikePatterns, alike_no_patterns, alike_more_patterns, AlikeRule, alike_rule, AreSimilar}
use Rattle.prune_theory.proofs.Lists.{if_alike, option_alike, each_append, each_get, each_length, each_map, each_set, each_replicate}
use Rattle.prune_theory.proofs.Terms.{substitute_alike, erased_alike, applied_alike, mentions_alike, renamed_alike}
use Rattle.prune_theory.proofs.Bindings.{AlikeBindings, under_alike, all_under_alike}
use Rattle.prune_theory.proofs.Evaluation.{normal_alike}
use Rattle.prune_theory.proofs.Typing.{after_alike, next_alike, Passes, variable_type_alike, placed_alike, as_product_alike, as_convertible_alike, checked_alike}
use Rattle.prune_theory.proofs.Solving.{solved_alike}

pub data AlikeGuard (Q : ℕ → ℕ → Type 0) : Guard → Guard → Type 0 where
  alike_guard : {G H : List Tree} {t u T U : Tree} → Each (Alike Q) G H → Alike Q t u → Alike Q T U → AlikeGuard Q (record { context = G; term = t; typ = T }) (record { context = H; term = u; typ = U })

pub data AlikeFound (Q : ℕ → ℕ → Type 0) : Found → Found → Type 0 where
  alike_found : {ts us : List (Option Tree)} {gs hs : List Guard} {s r : Bindings} → Each (Maybe (Alike Q)) ts us → Each (AlikeGuard Q) gs hs → AlikeBindings Q s r
      → AlikeFound Q (record { types = ts; guards = gs; bindings = s }) (record { types = us; guards = hs; bindings = r })

pub data AlikeWalked (Q : ℕ → ℕ → Type 0) : Walked → Walked → Type 0 where
  alike_walked : {t u T U : Tree} {f g : Found} → Alike Q t u → Alike Q T U → AlikeFound Q f g → AlikeWalked Q (record { term = t; typ = T; found = f }) (record { term = u; typ = U; found = g })

pub data AlikePosed (Q : ℕ → ℕ → Type 0) : Posed → Posed → Type 0 where
  alike_posed : {T U : Tree} {s r : Bindings} → Alike Q T U → AlikeBindings Q s r → AlikePosed Q (record { typ = T; bindings = s }) (record { typ = U; bindings = r })

module _ {Q : ℕ → ℕ → Type 0} where
  allowed_alike : (d : ℕ) (xs : List ℕ) (n : ℕ) {T U : Tree} → Alike Q T U → InJudged (Alike Q) (allowed d xs T n) (allowed d xs U n)
  allowed_alike d xs n p = if_alike (InJudged (Alike Q)) _ _ _ _ _ _ (mentions_alike 0 d xs p) both_refused (both_answer p)

  bindings_of : {f g : Found} → AlikeFound Q f g → AlikeBindings Q f.bindings g.bindings
  bindings_of (alike_found ts gs s) = s

  with_bindings_alike : {f g : Found} {s r : Bindings} → AlikeFound Q f g → AlikeBindings Q s r → AlikeFound Q (with_bindings f s) (with_bindings g r)
  with_bindings_alike (alike_found ts gs b) s = alike_found ts gs s

  found_type_alike : {f g : Found} → AlikeFound Q f g → (k : ℕ) → Maybe (Alike Q) (found_type f.types k) (found_type g.types k)
  found_type_alike (alike_found ts gs s) k = option_alike (Maybe (Alike Q)) _ _ _ _ (each_get ts k) neither (λ a b m. m)

  with_type_alike : (k : ℕ) {f g : Found} {T U : Tree} → AlikeFound Q f g → Alike Q T U → AlikeFound Q (with_type f k T) (with_type g k U)
  with_type_alike k {T} {U} (alike_found ts gs s) p = alike_found (each_set k (Some T) (Some U) ts (both p)) gs s

  with_wildcard_alike : {f g : Found} {T U : Tree} → AlikeFound Q f g → Alike Q T U → AlikeFound Q (with_wildcard f T) (with_wildcard g U)
  with_wildcard_alike (alike_found ts gs s) p = alike_found (each_append ts (one_more (both p) none_left)) gs s

  with_guard_alike : {f g : Found} {x y : Guard} → AlikeFound Q f g → AlikeGuard Q x y → AlikeFound Q (with_guard f x) (with_guard g y)
  with_guard_alike (alike_found ts gs s) p = alike_found ts (each_append gs (one_more p none_left)) s

  type_or_kind_alike : (a b : Option Tree) → Maybe (Alike Q) a b → Alike Q (type_or_kind a) (type_or_kind b)
  type_or_kind_alike a b neither = alike_kind
  type_or_kind_alike a b (both p) = p

  all_types_alike : {ts us : List (Option Tree)} → Each (Maybe (Alike Q)) ts us → Each (Alike Q) (all_types ts) (all_types us)
  all_types_alike = each_map type_or_kind type_or_kind type_or_kind_alike

  variables_alike : (xs : List ℕ) → Each (Alike Q) (map variable xs) (map variable xs)
  variables_alike [] = none_left
  variables_alike (x ∷ xs) = one_more alike_variable (variables_alike xs)

  occurrence_alike : (k l : ℕ) (xs ys : List ℕ) → k ≡ l → xs ≡ ys → Alike Q (occurrence k xs) (occurrence l ys)
  occurrence_alike k l xs ys e d = subst (λ z. Alike Q (occurrence k xs) (occurrence z ys)) e (subst (λ z. Alike Q (occurrence k xs) (occurrence k z)) d (applied_alike alike_rule_variable (variables_alike xs)))

  guard_walked_alike : {G H : List Tree} {t u A B : Tree} {f g : Found} → Each (Alike Q) G H → Alike Q t u → Alike Q A B → AlikeFound Q f g → AlikeWalked Q (guard_walked G t A f) (guard_walked H u B g)
  guard_walked_alike g t p w = alike_walked (placed_alike g (erased_alike t)) p (with_guard_alike w (alike_guard g (placed_alike g (erased_alike t)) p))

  nothing_alike : (vars : ℕ) → AlikeFound Q (nothing_found vars) (nothing_found vars)
  nothing_alike vars = alike_found (each_replicate vars None None neither) none_left none_left

  patterns_alike : {ps qs : List Pattern} → Each (AlikePattern Q) ps qs → AlikePatterns Q (patterns_of ps) (patterns_of qs)
  patterns_alike none_left = alike_no_patterns
  patterns_alike (one_more p e) = alike_more_patterns p (patterns_alike e)

  types_length : {f g : Found} → AlikeFound Q f g → length f.types ≡ length g.types
  types_length (alike_found ts gs s) = each_length ts

module _ {Q : ℕ → ℕ → Type 0} {S S' : PlainSignature} (similar : AreSimilar Q S S') where
  confined_alike : (d : ℕ) (xs : List ℕ) (n : ℕ) {T U : Tree} → Alike Q T U → InJudged (Alike Q) (confined S d xs T n) (confined S' d xs U n)
  confined_alike d xs n p = if_alike (InJudged (Alike Q)) _ _ _ _ _ _ (mentions_alike 0 d xs p) (after_alike (normal_alike similar n p) (λ t u m r. allowed_alike d xs m r)) (both_answer p)

  bound_type_alike : (xs : List ℕ) (n : ℕ) {G H : List Tree} {T U : Tree} → Each (Alike Q) G H → Alike Q T U → InJudged (Alike Q) (bound_type S G xs T n) (bound_type S' H xs U n)
  bound_type_alike xs n {G} {T} {U} g p = subst (λ z. InJudged (Alike Q) (bound_type S G xs T n) (next (confined S' z xs U n) (λ W m. answer (renamed 0 z xs W) m))) (each_length g)
      (next_alike (confined_alike (length G) xs n p) (λ a b m r. both_answer (renamed_alike 0 (length G) xs r)))

  first_type_alike : (before xs : List ℕ) (n : ℕ) {G H : List Tree} {A B : Tree} → Each (Alike Q) G H → Alike Q A B → InJudged (Alike Q) (first_type S G before xs A n) (first_type S' H before xs B n)
  first_type_alike before [] n g p = bound_type_alike before n g p
  first_type_alike before (x ∷ xs) n g p = next_alike (bound_type_alike before n g (variable_type_alike g x)) (λ D E m r. next_alike (first_type_alike (before ++ (x ∷ [])) xs m g p) (λ B C i s. both_answer (alike_product r s)))

  first_typed_alike : (xs : List ℕ) (n : ℕ) {s r : Bindings} {G H : List Tree} {A B : Tree} → AlikeBindings Q s r → Each (Alike Q) G H → Alike Q A B
      → InJudged (Alike Q) (first_typed S s G xs A n) (first_typed S' r H xs B n)
  first_typed_alike xs n s g p = first_type_alike [] xs n (all_under_alike s g) (under_alike s p)

  later_type_alike : (xs : List ℕ) (n : ℕ) {s r : Bindings} {G H : List Tree} {F F' : Tree} → Each (Alike Q) G H → Alike Q F F' → AlikeBindings Q s r
      → InJudged (AlikePosed Q) (later_type S G xs F s n) (later_type S' H xs F' r n)
  later_type_alike [] n g p s = both_answer (alike_posed p s)
  later_type_alike (x ∷ xs) n g p s = next_alike (as_product_alike similar E34 n (under_alike s p)) (λ a b m r. next_alike (solved_alike similar m s (variable_type_alike g x) r.0) (λ u v i q.
      later_type_alike xs i g (substitute_alike 0 (alike_variable {k = x}) r.1) q))

  posed_alike : (n : ℕ) {A B : Tree} {x y : Posed} → Alike Q A B → AlikePosed Q x y → InJudged (AlikeBindings Q) ((by_units S).solve n x.bindings x.typ A) ((by_units S').solve n y.bindings y.typ B)
  posed_alike n p (alike_posed q s) = solved_alike similar n s q p

  rule_variable_alike : (k : ℕ) (xs : List ℕ) (n : ℕ) {G H : List Tree} {o o' : Option Tree} {A B : Tree} {f f' : Found} → Each (Alike Q) G H → Maybe (Alike Q) o o' → Alike Q A B → AlikeFound Q f f'
      → InJudged (AlikeWalked Q) (rule_variable_walked S G k xs o A f n) (rule_variable_walked S' H k xs o' B f' n)
  rule_variable_alike k xs n g neither p w = next_alike (first_typed_alike xs n (bindings_of w) g p) (λ T U m r. both_answer (alike_walked (occurrence_alike k k xs xs refl refl) p (with_type_alike k w r)))
  rule_variable_alike k xs n g (both q) p w = next_alike (later_type_alike xs n g (placed_alike g q) (bindings_of w)) (λ T U m r. next_alike (posed_alike m p r) (λ u v i s.
      both_answer (alike_walked (occurrence_alike k k xs xs refl refl) p (with_bindings_alike w s))))

  wildcard_alike : (n : ℕ) {G H : List Tree} {A B : Tree} {f f' : Found} → Each (Alike Q) G H → Alike Q A B → AlikeFound Q f f' → InJudged (AlikeWalked Q) (wildcard_walked S G A f n) (wildcard_walked S' H B f' n)
  wildcard_alike n {G} {H} {A} {B} {f} {f'} g p w = next_alike
      (subst (λ z. InJudged (Alike Q) (first_typed S f.bindings G (outermost_first (length G)) A n) (first_typed S' f'.bindings H (outermost_first z) B n)) (each_length g)
      (first_typed_alike (outermost_first (length G)) n (bindings_of w) g p))
      (λ T U m r. both_answer (alike_walked (occurrence_alike _ _ _ _ (types_length w) (ap outermost_first (each_length g))) p (with_wildcard_alike w r)))

  as_expected_alike : (n : ℕ) {A B : Tree} {x y : Walked} → Alike Q A B → AlikeWalked Q x y → InJudged (AlikeWalked Q) (as_expected S A x n) (as_expected S' B y n)
  as_expected_alike n p (alike_walked t q w) = next_alike (solved_alike similar n (bindings_of w) q p) (λ u v m r. both_answer (alike_walked t p (with_bindings_alike w r)))

  over_alike : (n : ℕ) {A B : Tree} {x y : Walked} → Alike Q A B → AlikeWalked Q x y → InJudged (AlikeWalked Q) (abstraction_over A x n) (abstraction_over B y n)
  over_alike n p (alike_walked t q w) = both_answer (alike_walked (alike_bare t) p w)

  mutual
    walked_alike : (n : ℕ) {G H : List Tree} {p q : Pattern} {A B : Tree} {f f' : Found} → Each (Alike Q) G H → AlikePattern Q p q → Alike Q A B → AlikeFound Q f f'
        → InJudged (AlikeWalked Q) (walked S G p A f n) (walked S' H q B f' n)
    walked_alike n g (alike_rule_variable_pattern {k} {xs}) p w = rule_variable_alike k xs n g (found_type_alike w k) p w
    walked_alike n g alike_wildcard_pattern p w = wildcard_alike n g p w
    walked_alike n g (alike_guard_pattern t) p w = both_answer (guard_walked_alike g t p w)
    walked_alike n g (alike_symbol_pattern {j} {k} q ps) p w = next_alike (spine_alike n g (alike_symbol q) (similar.types j k q) ps w) (λ x y m r. as_expected_alike m p r)
    walked_alike n g (alike_variable_pattern {k} ps) p w = next_alike (spine_alike n g (alike_variable {k = k}) (variable_type_alike g k) ps w) (λ x y m r. as_expected_alike m p r)
    walked_alike n g (alike_abstraction_pattern b) p w = next_alike (as_product_alike similar E34 n (under_alike (bindings_of w) p)) (λ x y m r. next_alike (walked_alike m (one_more r.0 g) b r.1 w) (λ a c i s. over_alike i p s))

    spine_alike : (n : ℕ) {G H : List Tree} {t u F F' : Tree} {ps qs : Patterns} {f f' : Found} → Each (Alike Q) G H → Alike Q t u → Alike Q F F' → AlikePatterns Q ps qs → AlikeFound Q f f'
        → InJudged (AlikeWalked Q) (spine_walked S G t F ps f n) (spine_walked S' H u F' qs f' n)
    spine_alike n g t p alike_no_patterns w = both_answer (alike_walked t p w)
    spine_alike n g t p (alike_more_patterns q qs) w = next_alike (as_product_alike similar E34 n (under_alike (bindings_of w) p)) (λ x y m r. next_alike (walked_alike m g q r.0 w) (λ a b i s.
        spine_alike i g (alike_apply t (term_of s)) (substitute_alike 0 (term_of s) r.1) qs (found_of s)))
      where
        term_of : {x y : Walked} → AlikeWalked Q x y → Alike Q x.term y.term
        term_of (alike_walked t q w) = t

        found_of : {x y : Walked} → AlikeWalked Q x y → AlikeFound Q x.found y.found
        found_of (alike_walked t q w) = w

  notes_alike : (n : ℕ) {s r : Bindings} {ns ms ts us : List (Option Tree)} → AlikeBindings Q s r → Each (Maybe (Alike Q)) ns ms → Each (Maybe (Alike Q)) ts us
      → Passes (notes_agree S s ns ts n) (notes_agree S' r ms us n)
  notes_alike n s none_left ts = both_answer refl
  notes_alike n s (one_more neither ns) none_left = both_answer refl
  notes_alike n s (one_more (both a) ns) none_left = both_answer refl
  notes_alike n s (one_more neither ns) (one_more t ts) = notes_alike n s ns ts
  notes_alike n s (one_more (both a) ns) (one_more neither ts) = notes_alike n s ns ts
  notes_alike n s (one_more (both a) ns) (one_more (both t) ts) = next_alike (as_convertible_alike similar E34 n (under_alike s (erased_alike a)) (under_alike s t)) (λ u v m r. notes_alike m s ns ts)

  guards_alike : (n : ℕ) {s r : Bindings} {V W : List Tree} {gs hs : List Guard} → AlikeBindings Q s r → Each (Alike Q) V W → Each (AlikeGuard Q) gs hs
      → Passes (guards_fit S s V gs n) (guards_fit S' r W hs n)
  guards_alike n s v none_left = both_answer refl
  guards_alike n s v (one_more (alike_guard g t p) gs) = next_alike (checked_alike similar v n (all_under_alike s g) (under_alike s t) (under_alike s p)) (λ u w m r. guards_alike m s v gs)

  types_under_alike : {s r : Bindings} {ts us : List (Option Tree)} → AlikeBindings Q s r → Each (Maybe (Alike Q)) ts us → Each (Alike Q) (types_under s ts) (types_under r us)
  types_under_alike s ts = all_under_alike s (all_types_alike ts)

  sides_alike : (n : ℕ) {ns ms : List (Option Tree)} {t u : Tree} {x y : Walked} → Each (Maybe (Alike Q)) ns ms → Alike Q t u → AlikeWalked Q x y → Passes (sides_fit S ns t x n) (sides_fit S' ms u y n)
  sides_alike n ns t (alike_walked l p (alike_found ts gs s)) = next_alike (notes_alike n s ns ts) (λ u v m r. next_alike (guards_alike m s (types_under_alike s ts) gs) (λ a b i e.
      checked_alike similar (types_under_alike s ts) i none_left (under_alike s t) (under_alike s p)))

  rule_checked_alike : (n : ℕ) {r s : PlainRule} → AlikeRule Q r s → Passes (rule_checked S r n) (rule_checked S' s n)
  rule_checked_alike n (alike_rule {j} {k} {vars} q ps ns t) = next_alike (spine_alike n none_left (alike_symbol q) (similar.types j k q) (patterns_alike ps) (nothing_alike vars)) (λ x y m r. sides_alike m ns t r)

  pub rules_typed_alike : (n : ℕ) {rs qs : List PlainRule} → Each (AlikeRule Q) rs qs → Passes (rules_typed S rs n) (rules_typed S' qs n)
  rules_typed_alike n none_left = both_answer refl
  rules_typed_alike n (one_more r e) = next_alike (rule_checked_alike n r) (λ u v m s. rules_typed_alike m e)
