-- A sealed book is finished where each of its jobs is settled.
use Rattle.std.proofs.Common.{◌≡◌, ℕ, ◌-◌, ◌<◌, ◌≤◌, Bool, true, false, List, [], ◌∷◌, ◌++◌, length, All, sym, refl, ◌∙◌, arith}
use Rattle.std.proofs.lemmas.List.Elements.{All-get_or, All-map}
use Rattle.board_core.specs.declared.event.End.{End}
use Rattle.board_core.specs.declared.event.Event.TheVariants.{Seal}
use Rattle.board_core.specs.Events.{is_seal, is_settled, puts}
use Rattle.board_core.specs.Machine.{IsFinished, marks_of}
use Rattle.board_core.specs.Shown.{Shown}
use Rattle.board_core.proofs.Histories.{any_hit, puts_snoc}
use Rattle.board_core.proofs.Holding.{count_marks}

settled_at : {J : Type 0} (jobs : List (J × Bool)) → All (λ j. j.1 ≡ true) jobs → (n : ℕ) → 0 < n → n ≤ length jobs → is_settled (marks_of jobs) n ≡ true
settled_at jobs settled n some within =
    All-get_or (λ m. m ≡ true) (marks_of jobs) (n - 1) false (let t = count_marks jobs in omega (arith, t, some, within))
    (All-map (λ m. m ≡ true) (λ j. j.1) jobs settled)

pub finished_by : {J : Type 0} (b : Shown J) (end : End) → puts b.events ≡ length b.jobs → All (λ j. j.1 ≡ true) b.jobs → IsFinished (marks_of b.jobs) (b.events ++ Seal end ∷ [])
finished_by b end counted settled = record {
  sealed = any_hit is_seal b.events (Seal end) refl;
  answered = λ n some put unsettled below.
      let within : n ≤ length b.jobs = (let t = puts_snoc b.events (Seal end) in omega (arith, t, put, counted)) in
      let is = settled_at b.jobs settled n some within in
      absurd (let z : true ≡ false = sym is ∙ unsettled in cc);
}
