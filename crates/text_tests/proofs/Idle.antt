-- Nobody has a task where two workers have none and nobody else has.
use Rattle.std.proofs.Common.{◌≡◌, ◌≢◌, ℕ, List, sym, subst}
use mathlib.Core.Logic.{dite}
use native.Mathlib.Decide.{ℕ_discrete}
use Rattle.board_core.specs.declared.event.Event.{Event}
use Rattle.board_core.specs.Machine.{HoldsNone}

pub idle_of_two : (es : List Event) → HoldsNone 1 es → HoldsNone 2 es → ((u : ℕ) → u ≢ 1 → u ≢ 2 → HoldsNone u es) → (u : ℕ) → HoldsNone u es
idle_of_two es one two others u = dite (ℕ_discrete u 1)
    (λ i. subst (λ x. HoldsNone x es) (sym i) one)
    (λ d. dite (ℕ_discrete u 2)
    (λ i. subst (λ x. HoldsNone x es) (sym i) two)
    (λ e. others u d e))
