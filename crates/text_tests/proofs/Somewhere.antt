-- What holds of each element of a list holds of some, where there is one.
use Rattle.std.proofs.Common.{◌<◌, All, List, [], ◌∷◌, length, refl, arith}
use Rattle.std.specs.List.{Any}

pub some_of : {A : Type 0} (P : A → Type 0) (xs : List A) → 0 < length xs → All P xs → Any P xs
some_of P [] some all = absurd (omega (arith, some))
some_of P (x ∷ xs) some all = (0, x, omega arith, refl, all 0 x (omega arith))
