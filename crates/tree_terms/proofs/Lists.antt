-- Lists under a view: arguments, and the rules of a symbol, one after another.
use Rattle.std.proofs.Common.{List, [], ◌∷◌, ◌++◌, ◌≡◌, ◌+◌, ◌≤◌, ℕ, zero, suc, length, map, take, refl, ap, ◌∙◌, sym as flip, arith, Some}
use Rattle.std.specs.Prelude.{slice_get}
use Rattle.std.proofs.lemmas.List.{map-append}
use Rattle.dk_model.specs.Trees.{Tree, tree}
use Rattle.dk_model.specs.Signatures.{PlainRule}
use Rattle.dk_model.specs.declared.term.Term.{Term}
use Rattle.tree_terms.specs.declared.rules.SymbolRule.{SymbolRule}
use Rattle.tree_terms.specs.Rules.{rule}

pub argument_pushed : (ts new : List Term) (a : Term) (xs : List Tree) → new ≡ ts ++ (a ∷ []) → map tree ts ≡ xs → map tree new ≡ xs ++ (tree a ∷ [])
argument_pushed ts new a xs e q = ap (map tree) e ∙ map-append tree ts (a ∷ []) ∙ ap (λ (l : List Tree). l ++ (tree a ∷ [])) q

take_next : (rs : List PlainRule) (j : ℕ) (r : PlainRule) → slice_get rs j ≡ Some r → take (suc j) rs ≡ take j rs ++ (r ∷ [])
take_next [] j r e = cc
take_next (x ∷ rs) zero r e = let q : x ≡ r = cc in ap (λ (y : PlainRule). y ∷ []) q
take_next (x ∷ rs) (suc j) r e = ap (λ (l : List PlainRule). x ∷ l) (take_next rs j r e)

pub rule_listed : (rs : List PlainRule) (xs new : List SymbolRule) (j : ℕ) (r : SymbolRule) → slice_get rs j ≡ Some (rule r) → map rule xs ≡ take j rs
    → new ≡ xs ++ (r ∷ []) → map rule new ≡ take (j + 1) rs
rule_listed rs xs new j r e h q =
    ap (map rule) q ∙ map-append rule xs (r ∷ []) ∙ ap (λ (l : List PlainRule). l ++ (rule r ∷ [])) h
    ∙ flip (take_next rs j (rule r) e) ∙ ap (λ (k : ℕ). take k rs) (let i : suc j ≡ j + 1 = omega arith in i)

pub all_listed : (rs : List PlainRule) (j : ℕ) → length rs ≤ j → take j rs ≡ rs
all_listed [] zero le = refl
all_listed [] (suc j) le = refl
all_listed (x ∷ rs) zero le = absurd (omega arith)
all_listed (x ∷ rs) (suc j) le = ap (λ (l : List PlainRule). x ∷ l) (all_listed rs j (omega arith))
