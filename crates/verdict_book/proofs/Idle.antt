-- A worker that answers what it claimed leaves all workers idle that were.
use Rattle.std.proofs.Common.{ℕ, ◌&&◌, eqb, ne_eqb, List, [], ◌∷◌, ◌++◌, refl, sym, ap, subst}
use mathlib.Core.Logic.{dite}
use native.Mathlib.Decide.{ℕ_discrete}
use Rattle.dk_model.specs.declared.code.Verdict.{Verdict}
use Rattle.board_core.specs.declared.event.Event.{Event}
use Rattle.board_core.specs.declared.event.Event.TheVariants.{Claim, Answer}
use Rattle.board_core.specs.Machine.{HoldsNone}
use Rattle.board_core.proofs.Lawful.{still_none}

pub idle_again : (w n : ℕ) (v : Verdict) (es : List Event) → ((u : ℕ) → HoldsNone u es) → HoldsNone w ((es ++ Claim w n ∷ []) ++ Answer w n v ∷ []) → (u : ℕ) → HoldsNone u ((es ++ Claim w n ∷ []) ++ Answer w n v ∷ [])
idle_again w n v es idle own u = dite (ℕ_discrete u w)
    (λ i. subst (λ x. HoldsNone x ((es ++ Claim w n ∷ []) ++ Answer w n v ∷ [])) (sym i) own)
    (λ d. still_none u (es ++ Claim w n ∷ []) (Answer w n v) (still_none u es (Claim w n) (idle u) (λ m. ap (λ b. b && eqb n m) (ne_eqb w u (λ e. d (sym e))))) (λ m. refl))
