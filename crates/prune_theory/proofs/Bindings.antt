-- Terms that are alike, under bindings that are alike.
use Rattle.std.proofs.Common.{List, [], ◌∷◌, map, ℕ, zero, suc, ◌≡◌, ◌+◌, Bool, ◌&&◌, ◌||◌, Option, Some, None, refl, ap}
use Rattle.std.specs.Prelude.{not}
use Rattle.dk_model.specs.PlainTerms.{Tree}
use Rattle.dk_model.specs.Bindings.{Bindings, bound_or, under, under_option, with_binding, bound, mentions_rule_variable, is_closed_at, may_bind}
use Rattle.prune_theory.specs.Alike.{Each, none_left, one_more, Maybe, neither, both, Alike, alike_star, alike_kind, alike_symbol, alike_variable, alike_rule_variable, alike_apply, alike_bare, alike_annotated, alike_product}
use Rattle.prune_theory.proofs.Lists.{each_map}
use Rattle.prune_theory.proofs.Terms.{capture_alike}

abbrev pub AlikeBindings : (ℕ → ℕ → Type 0) → Bindings → Bindings → Type 0
AlikeBindings Q = Each (Maybe (Alike Q))

module _ {Q : ℕ → ℕ → Type 0} where
  bound_or_alike : (k : ℕ) {o o' : Option Tree} → Maybe (Alike Q) o o' → Alike Q (bound_or k o) (bound_or k o')
  bound_or_alike k neither = alike_rule_variable
  bound_or_alike k (both p) = p

  pub under_alike : {s r : Bindings} → AlikeBindings Q s r → {t u : Tree} → Alike Q t u → Alike Q (under s t) (under r u)
  under_alike s alike_star = alike_star
  under_alike s alike_kind = alike_kind
  under_alike s (alike_symbol q) = alike_symbol q
  under_alike s alike_variable = alike_variable
  under_alike s (alike_rule_variable {k}) = bound_or_alike k (capture_alike s k)
  under_alike s (alike_apply p q) = alike_apply (under_alike s p) (under_alike s q)
  under_alike s (alike_bare p) = alike_bare (under_alike s p)
  under_alike s (alike_annotated p q) = alike_annotated (under_alike s p) (under_alike s q)
  under_alike s (alike_product p q) = alike_product (under_alike s p) (under_alike s q)

  pub all_under_alike : {s r : Bindings} → AlikeBindings Q s r → {ts us : List Tree} → Each (Alike Q) ts us → Each (Alike Q) (map (under s) ts) (map (under r) us)
  all_under_alike {s} {r} b e = each_map (under s) (under r) (λ t u p. under_alike b p) e

  option_under_alike : {s r : Bindings} → AlikeBindings Q s r → (o o' : Option Tree) → Maybe (Alike Q) o o' → Maybe (Alike Q) (under_option s o) (under_option r o')
  option_under_alike s o o' neither = neither
  option_under_alike s o o' (both p) = both (under_alike s p)

  with_binding_alike : (k : ℕ) {s r : Bindings} {u v : Tree} → AlikeBindings Q s r → Alike Q u v → AlikeBindings Q (with_binding s k u) (with_binding r k v)
  with_binding_alike zero none_left p = one_more (both p) none_left
  with_binding_alike (suc k) none_left p = one_more neither (with_binding_alike k none_left p)
  with_binding_alike zero (one_more o s) p = one_more (both p) s
  with_binding_alike (suc k) (one_more o s) p = one_more o (with_binding_alike k s p)

  pub bound_alike : (k : ℕ) {s r : Bindings} {u v : Tree} → AlikeBindings Q s r → Alike Q u v → AlikeBindings Q (bound s k u) (bound r k v)
  bound_alike k {u} {v} s p = with_binding_alike k (each_map (under_option (with_binding [] k u)) (under_option (with_binding [] k v)) (option_under_alike (with_binding_alike k none_left p)) s) p

  mentions_rule_variable_alike : (k : ℕ) {t u : Tree} → Alike Q t u → mentions_rule_variable k t ≡ mentions_rule_variable k u
  mentions_rule_variable_alike k (alike_apply p q) = λ i. mentions_rule_variable_alike k p i || mentions_rule_variable_alike k q i
  mentions_rule_variable_alike k (alike_bare p) = mentions_rule_variable_alike k p
  mentions_rule_variable_alike k (alike_annotated p q) = λ i. mentions_rule_variable_alike k p i || mentions_rule_variable_alike k q i
  mentions_rule_variable_alike k (alike_product p q) = λ i. mentions_rule_variable_alike k p i || mentions_rule_variable_alike k q i
  mentions_rule_variable_alike k p = refl

  closed_alike : (depth : ℕ) {t u : Tree} → Alike Q t u → is_closed_at depth t ≡ is_closed_at depth u
  closed_alike depth (alike_apply p q) = λ i. closed_alike depth p i && closed_alike depth q i
  closed_alike depth (alike_bare p) = closed_alike (depth + 1) p
  closed_alike depth (alike_annotated p q) = λ i. closed_alike depth p i && closed_alike (depth + 1) q i
  closed_alike depth (alike_product p q) = λ i. closed_alike depth p i && closed_alike (depth + 1) q i
  closed_alike depth p = refl

  pub may_bind_alike : (k : ℕ) {t u : Tree} → Alike Q t u → may_bind k t ≡ may_bind k u
  may_bind_alike k p = λ i. not (mentions_rule_variable_alike k p i) && closed_alike 0 p i
