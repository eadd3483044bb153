-- An application without annotations, argument by argument.
use Rattle.std.proofs.Common.{◌≡◌, ap, refl, List, [], ◌∷◌, ◌++◌, map}
use Rattle.std.specs.Borrow.{Bor}
use Rattle.dk_model.specs.Trees.{Tree, apply, tree}
use Rattle.dk_model.specs.Erasure.{erased}
use Rattle.dk_model.specs.Winding.{wound, behind_references}
use Rattle.dk_model.specs.declared.term.Term.{Term}

pub erased_applied : (t : Tree) (xs : List Tree) → wound (erased t) (map erased xs) ≡ erased (wound t xs)
erased_applied t [] = refl
erased_applied t (x ∷ xs) = ap (λ (u : Tree). apply u (erased x)) (erased_applied t xs)

pub erased_pushed : (t : Tree) (rs : List (Bor Term)) (r : Bor Term) → wound t (map erased (behind_references (rs ++ r ∷ []))) ≡ wound (apply t (erased (tree r.now))) (map erased (behind_references rs))
erased_pushed t [] r = refl
erased_pushed t (x ∷ rs) r = ap (λ (u : Tree). apply u (erased (tree x.now))) (erased_pushed t rs r)
