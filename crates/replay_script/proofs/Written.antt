-- What a line writes.
use Rattle.std.proofs.Common.{◌≡◌, ℕ, List, ◌++◌, subst, sym}
use Rattle.std.specs.Prelude.{Option, Result, Ok, Err}
use Rattle.edit_session.specs.Sessions.{AreReached, PlainSession, PlainSlot, checks, kept_then, texts_of}
use Rattle.script_lines.specs.Scripts.{Line, reports}
use Rattle.replay_script.specs.Replays.{Takes, bad_line, checked_line, of_a_report, report_text}
use Rattle.replay_script.specs.Standing.{Cuts, Output, Puts, Sends, TakesLine}
use Rattle.replay_script.specs.declared.line.Stop.{Stop}
use Rattle.replay_script.specs.declared.line.Stop.TheVariants.{Unread, SinkFailed, NoMemory}
use Rattle.replay_script.proofs.Sending.{cuts_longer, cuts_then, sends_then}

-- that a line is bad
pub bad_put : (old new : PlainSession) (number : ℕ) (line : Line) (before after : Output) (result : Result (Unit {0}) Stop) → Takes old.limits old.budget number old.slots line new.slots (bad_line number)
    → Puts before after (bad_line number) result → TakesLine old new number line before after result
bad_put old new number line before after (Ok u) takes sends = (bad_line number, takes, sends)
bad_put old new number line before after (Err SinkFailed) takes cuts = (new.slots, bad_line number, takes, cuts)
bad_put old new number line before after (Err Unread) takes never = absurd never
bad_put old new number line before after (Err NoMemory) takes never = absurd never

-- a report, and behind it the number of its checks
module _ (old new : PlainSession) (number : ℕ) (before : Output) (lists : List (Option (List (List ℕ)))) (reached : AreReached old.limits old.budget (texts_of old.slots) lists) where
  pub report_put : (middle after : Output) (count : ℕ) (result : Result (Unit {0}) Stop) → new.slots ≡ kept_then old.slots lists → count ≡ checks old.slots lists → Sends before middle (report_text old.limits old.budget (texts_of old.slots))
      → Puts middle after (checked_line count) result → TakesLine old new number reports before after result
  report_put middle after count (Ok u) slots_are count_is sends last_sends = (
    report_text old.limits old.budget (texts_of old.slots) ++ checked_line (checks old.slots lists),
    subst (λ (slots : List PlainSlot). Takes old.limits old.budget number old.slots reports slots (report_text old.limits old.budget (texts_of old.slots) ++ checked_line (checks old.slots lists))) (sym slots_are) (of_a_report lists reached),
    sends_then sends (subst (λ n. Sends middle after (checked_line n)) count_is last_sends),
  )
  report_put middle after count (Err SinkFailed) slots_are count_is sends last_cuts = (
    kept_then old.slots lists,
    report_text old.limits old.budget (texts_of old.slots) ++ checked_line (checks old.slots lists),
    of_a_report lists reached,
    cuts_then sends (subst (λ n. Cuts middle after (checked_line n)) count_is last_cuts),
  )
  report_put middle after count (Err Unread) slots_are count_is sends never = absurd never
  report_put middle after count (Err NoMemory) slots_are count_is sends never = absurd never

  -- a front of the report alone
  pub report_cut : (after : Output) → Cuts before after (report_text old.limits old.budget (texts_of old.slots)) → TakesLine old new number reports before after (Err SinkFailed)
  report_cut after cuts = (
    kept_then old.slots lists,
    report_text old.limits old.budget (texts_of old.slots) ++ checked_line (checks old.slots lists),
    of_a_report lists reached,
    cuts_longer (checked_line (checks old.slots lists)) cuts,
  )
