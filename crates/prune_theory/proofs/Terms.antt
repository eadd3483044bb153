-- Operations on terms that are alike give terms that are alike.
use Rattle.std.proofs.Common.{List, [], ◌∷◌, ℕ, ◌≡◌, ◌+◌, ◌-◌, nat_lt, eqb, ◌&&◌, ◌||◌, refl}
use Rattle.dk_model.specs.PlainTerms.{Tree}
use Rattle.dk_model.specs.Substitution.{shift, substitute, equal}
use Rattle.dk_model.specs.Erasure.{erased}
use Rattle.dk_model.specs.Spines.{head, arguments, applied, head_symbol, body_of, contraction, pairs_of}
use Rattle.dk_model.specs.Captures.{mentions_others, renamed, abstracted, captured, Captures, capture_at, filled}
use Rattle.prune_theory.specs.Alike.{Each, none_left, one_more, Maybe, neither, both, Alike, alike_star, alike_kind, alike_symbol, alike_variable, alike_rule_variable, alike_apply, alike_bare, alike_annotated, alike_product, IsMatching}
use Rattle.prune_theory.proofs.Lists.{if_alike, option_alike, each_append, each_get}

-- both are alike to both
abbrev pub AlikePair : (ℕ → ℕ → Type 0) → (Tree × Tree) → (Tree × Tree) → Type 0
AlikePair Q p q = Alike Q p.0 q.0 × Alike Q p.1 q.1

abbrev pub AlikeCaptures : (ℕ → ℕ → Type 0) → Captures → Captures → Type 0
AlikeCaptures Q = Each (Maybe (Alike Q))

module _ {Q : ℕ → ℕ → Type 0} where
  pub shift_alike : (cut by' : ℕ) {t u : Tree} → Alike Q t u → Alike Q (shift cut by' t) (shift cut by' u)
  shift_alike cut by' alike_star = alike_star
  shift_alike cut by' alike_kind = alike_kind
  shift_alike cut by' (alike_symbol q) = alike_symbol q
  shift_alike cut by' alike_variable = alike_variable
  shift_alike cut by' alike_rule_variable = alike_rule_variable
  shift_alike cut by' (alike_apply p q) = alike_apply (shift_alike cut by' p) (shift_alike cut by' q)
  shift_alike cut by' (alike_bare p) = alike_bare (shift_alike (cut + 1) by' p)
  shift_alike cut by' (alike_annotated p q) = alike_annotated (shift_alike cut by' p) (shift_alike (cut + 1) by' q)
  shift_alike cut by' (alike_product p q) = alike_product (shift_alike cut by' p) (shift_alike (cut + 1) by' q)

  pub substitute_alike : (depth : ℕ) {u v t s : Tree} → Alike Q u v → Alike Q t s → Alike Q (substitute depth u t) (substitute depth v s)
  substitute_alike depth e alike_star = alike_star
  substitute_alike depth e alike_kind = alike_kind
  substitute_alike depth e (alike_symbol q) = alike_symbol q
  substitute_alike depth e (alike_variable {k}) = if_alike (Alike Q) _ _ _ _ (nat_lt k depth) (nat_lt k depth) refl alike_variable (if_alike (Alike Q) _ _ _ _ (eqb k depth) (eqb k depth) refl (shift_alike 0 depth e) alike_variable)
  substitute_alike depth e alike_rule_variable = alike_rule_variable
  substitute_alike depth e (alike_apply p q) = alike_apply (substitute_alike depth e p) (substitute_alike depth e q)
  substitute_alike depth e (alike_bare p) = alike_bare (substitute_alike (depth + 1) e p)
  substitute_alike depth e (alike_annotated p q) = alike_annotated (substitute_alike depth e p) (substitute_alike (depth + 1) e q)
  substitute_alike depth e (alike_product p q) = alike_product (substitute_alike depth e p) (substitute_alike (depth + 1) e q)

  pub erased_alike : {t u : Tree} → Alike Q t u → Alike Q (erased t) (erased u)
  erased_alike alike_star = alike_star
  erased_alike alike_kind = alike_kind
  erased_alike (alike_symbol q) = alike_symbol q
  erased_alike alike_variable = alike_variable
  erased_alike alike_rule_variable = alike_rule_variable
  erased_alike (alike_apply p q) = alike_apply (erased_alike p) (erased_alike q)
  erased_alike (alike_bare p) = alike_bare (erased_alike p)
  erased_alike (alike_annotated p q) = alike_bare (erased_alike q)
  erased_alike (alike_product p q) = alike_product (erased_alike p) (erased_alike q)

  pub equal_alike : IsMatching Q → {t u v w : Tree} → Alike Q t v → Alike Q u w → equal t u ≡ equal v w
  equal_alike k alike_star alike_star = refl
  equal_alike k alike_kind alike_kind = refl
  equal_alike k (alike_symbol {j = j} {k = a} p) (alike_symbol {j = l} {k = b} q) = k j l a b p q
  equal_alike k alike_variable alike_variable = refl
  equal_alike k alike_rule_variable alike_rule_variable = refl
  equal_alike k (alike_apply p q) (alike_apply r s) = λ i. equal_alike k p r i && equal_alike k q s i
  equal_alike k (alike_bare p) (alike_bare q) = equal_alike k p q
  equal_alike k (alike_annotated p q) (alike_annotated r s) = λ i. equal_alike k p r i && equal_alike k q s i
  equal_alike k (alike_product p q) (alike_product r s) = λ i. equal_alike k p r i && equal_alike k q s i
  equal_alike k p q = refl

  -- ---- spines

  pub head_alike : {t u : Tree} → Alike Q t u → Alike Q (head t) (head u)
  head_alike (alike_apply p q) = head_alike p
  head_alike alike_star = alike_star
  head_alike alike_kind = alike_kind
  head_alike (alike_symbol q) = alike_symbol q
  head_alike alike_variable = alike_variable
  head_alike alike_rule_variable = alike_rule_variable
  head_alike (alike_bare p) = alike_bare p
  head_alike (alike_annotated p q) = alike_annotated p q
  head_alike (alike_product p q) = alike_product p q

  pub arguments_alike : {t u : Tree} → Alike Q t u → Each (Alike Q) (arguments t) (arguments u)
  arguments_alike (alike_apply p q) = each_append (arguments_alike p) (one_more q none_left)
  arguments_alike p = none_left

  pub applied_alike : {as' bs : List Tree} {t u : Tree} → Alike Q t u → Each (Alike Q) as' bs → Alike Q (applied t as') (applied u bs)
  applied_alike p none_left = p
  applied_alike p (one_more q e) = applied_alike (alike_apply p q) e

  pub head_symbol_alike : {t u : Tree} → Alike Q t u → Maybe Q (head_symbol t) (head_symbol u)
  head_symbol_alike (alike_apply p q) = head_symbol_alike p
  head_symbol_alike (alike_symbol q) = both q
  head_symbol_alike p = neither

  pub body_alike : {t u : Tree} → Alike Q t u → Maybe (Alike Q) (body_of t) (body_of u)
  body_alike (alike_bare p) = both p
  body_alike p = neither

  pub contraction_alike : {t u : Tree} → Alike Q t u → Maybe (Alike Q) (contraction t) (contraction u)
  contraction_alike (alike_apply p q) = option_alike (Maybe (Alike Q)) _ _ _ _ (body_alike p)
      (option_alike (Maybe (Alike Q)) _ _ _ _ (contraction_alike p) neither (λ g h r. both (alike_apply r q)))
      (λ b c r. both (substitute_alike 0 q r))
  contraction_alike p = neither

  pub pairs_alike : IsMatching Q → {t u v w : Tree} → Alike Q t v → Alike Q u w → Maybe (Each (AlikePair Q)) (pairs_of t u) (pairs_of v w)
  pairs_alike k (alike_apply p q) (alike_apply r s) = option_alike (Maybe (Each (AlikePair Q))) _ _ _ _ (pairs_alike k p r) neither (λ a b e. both (each_append e (one_more (q, s) none_left)))
  pairs_alike k alike_star alike_star = both none_left
  pairs_alike k alike_kind alike_kind = both none_left
  pairs_alike k (alike_symbol {j = j} {k = a} p) (alike_symbol {j = l} {k = b} q) = if_alike (Maybe (Each (AlikePair Q))) _ _ _ _ (eqb j l) (eqb a b) (k j l a b p q) (both none_left) neither
  pairs_alike k (alike_variable {k = a}) (alike_variable {k = b}) = if_alike (Maybe (Each (AlikePair Q))) _ _ _ _ (eqb a b) (eqb a b) refl (both none_left) neither
  pairs_alike k (alike_rule_variable {k = a}) (alike_rule_variable {k = b}) = if_alike (Maybe (Each (AlikePair Q))) _ _ _ _ (eqb a b) (eqb a b) refl (both none_left) neither
  pairs_alike k (alike_bare p) (alike_bare q) = both (one_more (p, q) none_left)
  pairs_alike k (alike_product p q) (alike_product r s) = both (one_more (p, r) (one_more (q, s) none_left))
  pairs_alike k p q = neither

  -- ---- captures

  pub mentions_alike : (under depth : ℕ) (xs : List ℕ) {t u : Tree} → Alike Q t u → mentions_others under depth xs t ≡ mentions_others under depth xs u
  mentions_alike under depth xs (alike_apply p q) = λ i. mentions_alike under depth xs p i || mentions_alike under depth xs q i
  mentions_alike under depth xs (alike_bare p) = mentions_alike (under + 1) depth xs p
  mentions_alike under depth xs (alike_annotated p q) = λ i. mentions_alike under depth xs p i || mentions_alike (under + 1) depth xs q i
  mentions_alike under depth xs (alike_product p q) = λ i. mentions_alike under depth xs p i || mentions_alike (under + 1) depth xs q i
  mentions_alike under depth xs p = refl

  pub renamed_alike : (under depth : ℕ) (xs : List ℕ) {t u : Tree} → Alike Q t u → Alike Q (renamed under depth xs t) (renamed under depth xs u)
  renamed_alike under depth xs alike_star = alike_star
  renamed_alike under depth xs alike_kind = alike_kind
  renamed_alike under depth xs (alike_symbol q) = alike_symbol q
  renamed_alike under depth xs (alike_variable {k}) = if_alike (Alike Q) _ _ _ _ (nat_lt k under) (nat_lt k under) refl alike_variable
      (if_alike (Alike Q) _ _ _ _ (nat_lt (k - under) depth) (nat_lt (k - under) depth) refl alike_variable alike_variable)
  renamed_alike under depth xs alike_rule_variable = alike_rule_variable
  renamed_alike under depth xs (alike_apply p q) = alike_apply (renamed_alike under depth xs p) (renamed_alike under depth xs q)
  renamed_alike under depth xs (alike_bare p) = alike_bare (renamed_alike (under + 1) depth xs p)
  renamed_alike under depth xs (alike_annotated p q) = alike_annotated (renamed_alike under depth xs p) (renamed_alike (under + 1) depth xs q)
  renamed_alike under depth xs (alike_product p q) = alike_product (renamed_alike under depth xs p) (renamed_alike (under + 1) depth xs q)

  pub abstracted_alike : (xs : List ℕ) {t u : Tree} → Alike Q t u → Alike Q (abstracted xs t) (abstracted xs u)
  abstracted_alike [] p = p
  abstracted_alike (x ∷ xs) p = alike_bare (abstracted_alike xs p)

  pub captured_alike : (depth : ℕ) (xs : List ℕ) {t u : Tree} → Alike Q t u → Alike Q (captured depth xs t) (captured depth xs u)
  captured_alike depth xs p = abstracted_alike xs (renamed_alike 0 depth xs p)

  pub capture_alike : {cs ds : Captures} → AlikeCaptures Q cs ds → (k : ℕ) → Maybe (Alike Q) (capture_at cs k) (capture_at ds k)
  capture_alike e k = option_alike (Maybe (Alike Q)) _ _ _ _ (each_get e k) neither (λ a b m. m)

  pub filled_alike : {cs ds : Captures} → AlikeCaptures Q cs ds → (under : ℕ) {t u : Tree} → Alike Q t u → Alike Q (filled cs under t) (filled ds under u)
  filled_alike e under alike_star = alike_star
  filled_alike e under alike_kind = alike_kind
  filled_alike e under (alike_symbol q) = alike_symbol q
  filled_alike e under alike_variable = alike_variable
  filled_alike e under (alike_rule_variable {k}) = option_alike (Alike Q) _ _ _ _ (capture_alike e k) alike_rule_variable (λ a b p. shift_alike 0 under p)
  filled_alike e under (alike_apply p q) = alike_apply (filled_alike e under p) (filled_alike e under q)
  filled_alike e under (alike_bare p) = alike_bare (filled_alike e (under + 1) p)
  filled_alike e under (alike_annotated p q) = alike_annotated (filled_alike e under p) (filled_alike e (under + 1) q)
  filled_alike e under (alike_product p q) = alike_product (filled_alike e under p) (filled_alike e (under + 1) q)
