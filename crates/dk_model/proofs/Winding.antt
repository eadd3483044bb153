-- An application, argument by argument.
use Rattle.std.proofs.Common.{List, [], ◌∷◌, ◌++◌, ◌≡◌, ◌+◌, refl, ap, arith}
use Rattle.std.specs.Borrow.{Bor}
use Rattle.dk_model.specs.Trees.{Tree, apply, tree}
use Rattle.dk_model.specs.declared.term.Term.{Term}
use Rattle.dk_model.specs.Winding.{wound, behind_references, size, total_size}

-- one more argument below the others
pub wound_pushed : (t : Tree) (xs : List Tree) (a : Tree) → wound t (xs ++ (a ∷ [])) ≡ wound (apply t a) xs
wound_pushed t [] a = refl
wound_pushed t (x ∷ xs) a = ap (λ (u : Tree). apply u x) (wound_pushed t xs a)

pub total_pushed : (xs : List Tree) (x : Tree) → total_size (xs ++ (x ∷ [])) ≡ total_size xs + size x
total_pushed [] x = omega arith
total_pushed (y ∷ xs) x = let q : total_size (xs ++ (x ∷ [])) ≡ total_size xs + size x = total_pushed xs x in omega (arith, q)

-- the same of references
pub references_pushed : (t : Tree) (rs : List (Bor Term)) (r : Bor Term) → wound t (behind_references (rs ++ (r ∷ []))) ≡ wound (apply t (tree r.now)) (behind_references rs)
references_pushed t [] r = refl
references_pushed t (x ∷ rs) r = ap (λ (u : Tree). apply u (tree x.now)) (references_pushed t rs r)

pub references_total : (rs : List (Bor Term)) (r : Bor Term) → total_size (behind_references (rs ++ (r ∷ []))) ≡ total_size (behind_references rs) + size (tree r.now)
references_total [] r = omega arith
references_total (x ∷ rs) r = let q = references_total rs r in omega (arith, q)
