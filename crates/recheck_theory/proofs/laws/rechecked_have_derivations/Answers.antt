use Rattle.std.proofs.Common.{refl, arith}
use Rattle.recheck_theory.proofs.Parts.{parts_of}
use Rattle.recheck_theory.proofs.laws.rechecked_have_derivations.Goals as goal

pub returns : goal.returns
returns c = λ commands bytes count a. let p = parts_of a count refl in (omega (arith, p.0), c.certified_have_derivations.ensures commands p.1.0 p.1.1)
