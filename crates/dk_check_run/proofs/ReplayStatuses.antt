-- What the rows of `replay` say, each by the status.
use Rattle.std.proofs.Common.{◌≡◌, ◌≢◌, ℕ, List, refl, subst, arith}
use Rattle.std.specs.Prelude.{Some}
use Rattle.dk_io.specs.Bytes.{Books, added}
use Rattle.dk_model.specs.declared.limits.Limits.{Limits}
use Rattle.command_line.specs.Requests.{ReplayRequest}
use Rattle.book_reader.specs.Shelves.{ShelfState}
use Rattle.replay_script.specs.Replays.{IsTextOf, script_lines}
use Rattle.dk_check_run.specs.Replay.{HasScriptFault, IsDue, IsOfScript, ReplaysScript, by_opening, by_read, of_a_failed_opening, of_a_failed_read, of_memory, of_no_memory, of_the_script}
use Rattle.dk_check_run.specs.Rows.{Cause, Shows}
use Rattle.dk_check_run.specs.Run.{SinkState}

module _ (limits : Limits) (q : ReplayRequest) (old new : ShelfState) (before after : SinkState) where
  -- at 3 the opening of the script failed, or a read
  pub replay_failed : (cause : Cause) (status : ℕ) (text : List ℕ) → IsDue limits q old new cause status text → Shows cause status old new → status ≡ 3 → after.taken ≡ added before.taken text
      → HasScriptFault limits q old new before.taken after.taken
  replay_failed cause status text (of_the_script written of) shows three taken = absurd (omega (arith, three))
  replay_failed cause status text (of_a_failed_read given written within writes of) shows three taken = by_read given written shows.1 writes taken
  replay_failed cause status text (of_a_failed_opening leaves) shows three taken = by_opening leaves shows.1 taken
  replay_failed cause status text (of_memory lines written writes of) shows three taken = absurd (omega (arith, three))
  replay_failed cause status text of_no_memory shows three taken = absurd (omega (arith, three))

  -- at 0 the row is that of the whole script
  pub replay_own : (held : Books) → old.books ≡ Some held → (cause : Cause) (status : ℕ) (text : List ℕ) → IsDue limits q old new cause status text → Shows cause status old new → status ≢ 3 → status ≢ 4
      → after.taken ≡ added before.taken text → ReplaysScript limits q held before.taken after.taken status
  replay_own held is cause status text (of_the_script written of) shows not3 not4 taken =
      let b : IsOfScript q (Some held) (λ bytes. IsTextOf limits q.budget (script_lines limits bytes) written) = subst (λ books. IsOfScript q books (λ bytes. IsTextOf limits q.budget (script_lines limits bytes) written)) is of in
      record { status = refl; bytes = b.0; bytes_are = b.1; text = written; writes = b.2; taken = taken }
  replay_own held is cause status text (of_a_failed_read given written within writes of) shows not3 not4 taken = absurd (not3 refl)
  replay_own held is cause status text (of_a_failed_opening leaves) shows not3 not4 taken = absurd (not3 refl)
  replay_own held is cause status text (of_memory lines written writes of) shows not3 not4 taken = absurd (not4 refl)
  replay_own held is cause status text of_no_memory shows not3 not4 taken = absurd (not4 refl)
