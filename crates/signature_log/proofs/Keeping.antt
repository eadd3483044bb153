-- From one call of a reducer to the next.
use Rattle.std.proofs.Common.{refl, ◌∙◌}
use Rattle.dk_model.specs.Trees.{Tree}
use Rattle.signature_log.specs.Reducers.{Keeps}

pub keeps_none : {R T : Type 0} {owns : R → T → Type 0} {denotes : R → T → Tree} (r : R) → Keeps owns denotes r r
keeps_none r = record { own = λ t o. o; same = λ t o. refl }

pub keeps_further : {R T : Type 0} {owns : R → T → Type 0} {denotes : R → T → Tree} (old mid new : R) → Keeps owns denotes old mid → Keeps owns denotes mid new → Keeps owns denotes old new
keeps_further old mid new h k = record { own = λ t o. k.own t (h.own t o); same = λ t o. k.same t (h.own t o) ∙ h.same t o }
