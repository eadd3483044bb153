-- Sorts and products are their own weak head forms.
use Rattle.std.proofs.Common.{ℕ, suc, ◌≡◌, ◌+◌, true, Some, None, refl, arith}
use Rattle.dk_model.specs.Trees.{Tree}
use Rattle.dk_model.specs.Signatures.{PlainSignature}
use Rattle.dk_model.specs.Evaluation.{whnf_of}
use Rattle.dk_model.specs.declared.node.NodeOf.{NodeOf}
use Rattle.dk_model.specs.declared.node.NodeOf.TheVariants.{Star, Kind, Sym, Var, Rvar, App, Abs, Prod}
use Rattle.dk_model.proofs.Turns.{whnf_stands}
use Rattle.signature_log.specs.Reducers.{built}
use Rattle.infer_check.specs.Formed.{is_formed}

one_more : (m : ℕ) → m + 1 ≡ suc m
one_more m = omega arith

-- for one unit
pub formed_stands : {R T : Type 0} (denotes : R → T → Tree) (r : R) (S : PlainSignature) (n : NodeOf T) (m : ℕ) → is_formed n ≡ true
    → whnf_of S (m + 1) (built denotes r n) ≡ Some (built denotes r n, m)
formed_stands denotes r S Star m e = rw (one_more m) (whnf_stands S m _ refl refl)
formed_stands denotes r S Kind m e = rw (one_more m) (whnf_stands S m _ refl refl)
formed_stands denotes r S (Prod a b) m e = rw (one_more m) (whnf_stands S m _ refl refl)
formed_stands denotes r S (Sym k) m e = cc
formed_stands denotes r S (Var k) m e = cc
formed_stands denotes r S (Rvar k) m e = cc
formed_stands denotes r S (App f a) m e = cc
formed_stands denotes r S (Abs a b) m e = cc

-- for none there is no weak head form
pub unit_wanted : (S : PlainSignature) (t : Tree) → whnf_of S 0 t ≡ None
unit_wanted S t = refl
