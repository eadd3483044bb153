-- What the taking of a script comes to is a row of `replay`.
use Rattle.std.proofs.Common.{◌≡◌, ◌≢◌, ◌+◌, inl, inr, ℕ, List, ◌++◌, length, take, refl, sym, ap, subst, ◌∙◌, arith}
use Rattle.std.specs.Prelude.{Option, Some, None}
use Rattle.dk_io.specs.Bytes.{Books, Opens, added}
use Rattle.dk_io.specs.Causes.{Rose}
use Rattle.dk_io.proofs.Adds.{added-added}
use Rattle.std.proofs.Math.Seq.{take-append-add}
use Rattle.dk_io.proofs.Gather.{adds_longer}
use Rattle.dk_model.specs.declared.limits.Limits.{Limits}
use Rattle.command_line.specs.Requests.{ReplayRequest, to_replay}
use Rattle.book_reader.specs.Shelves.{HasHeld, ShelfState}
use Rattle.script_lines.specs.Scripts.{Line, ended_lines}
use Rattle.replay_script.specs.Replays.{IsTextOf, script_lines}
use Rattle.replay_script.specs.Standing.{AreFirstOf, Cuts, Ends, IsGiven, IsOfLeft, Output, Sends}
use Rattle.replay_script.specs.declared.script.Ending.TheVariants as ending
use Rattle.dk_check_run.specs.Replay as replay
use Rattle.dk_check_run.specs.Replay.{IsOfScript, memory_line, unread_line}
use Rattle.dk_check_run.specs.Rows.{books, unread, unopened, memory}
use Rattle.dk_check_run.specs.Run.{LeavesBooks, SinkState, Writes, memory_at_once}
use Rattle.dk_check_run.specs.Run as line
use Rattle.dk_check_run.specs.Table.{RunsCommand}

-- a sink as the taking of a script sees it
abbrev pub output : SinkState → Output
output s = record { taken = s.taken; faults = s.faults }

-- what is so of all that was left is so of the script
of_script : (q : ReplayRequest) (told : Option Books) (left : Option (List ℕ)) (P : List ℕ → Type 0) → Opens told q.script left → IsOfLeft left P → IsOfScript q told P
of_script q None left P opens of = tt
of_script q (Some held) left P (bytes, has, is) of = (bytes, has, subst (λ o. IsOfLeft o P) is of)

-- a text behind another one
writes_then : (old middle new : SinkState) (first text : List ℕ) (status result : ℕ) → status ≢ 5 → Sends (output old) (output middle) first → Writes middle new text status result → Writes old new (first ++ text) status result
writes_then old middle new first text status result not5 sends w = record {
  known = w.known;
  whole = λ n. w.whole n ∙ ap (λ o. added o text) sends.taken ∙ added-added old.taken first text;
  held = λ n. w.held n ∙ sends.faults;
  failed = λ five. subst (λ n. Rose n new.faults) sends.faults (w.failed five);
  front = λ five.
      let f = w.front five in
      (length first + f.0, f.1 ∙ ap (λ o. added o (take f.0 text)) sends.taken ∙ added-added old.taken first (take f.0 text) ∙ ap (added old.taken) (sym (take-append-add first text f.0)));
}

writes_whole : (old new : SinkState) (text : List ℕ) (status : ℕ) → status ≢ 5 → Sends (output old) (output new) text → Writes old new text status status
writes_whole old new text status not5 sends = record {
  known = inl refl;
  whole = λ n. sends.taken;
  held = λ n. sends.faults;
  failed = λ five. absurd (not5 five);
  front = λ five. absurd (not5 five);
}

-- a front of a text is one of it with a last line
writes_cut : (old new : SinkState) (text last : List ℕ) (status : ℕ) → Cuts (output old) (output new) text → Writes old new (text ++ last) status 5
writes_cut old new text last status cuts = record {
  known = inr refl;
  whole = λ not. absurd (not refl);
  held = λ not. absurd (not refl);
  failed = λ _. cuts.faults;
  front = λ _. adds_longer old.taken new.taken text last cuts.taken;
}

-- the script couldn't be opened
pub missed_row : (limits : Limits) (q : ReplayRequest) (old new : ShelfState) (before after : SinkState) (result : ℕ) → LeavesBooks old new → Rose (old.missed q.script) (new.missed q.script)
    → Writes before after (line.unopened q.script) 3 result → RunsCommand limits (to_replay q) old new before after result
missed_row limits q old new before after result leaves rose w =
    record { cause = unopened q.script; status = 3; text = line.unopened q.script; row = replay.of_a_failed_opening leaves; shows = (refl, rose); writes = w }

module _ (limits : Limits) (q : ReplayRequest) (old middle new : ShelfState) (before after : SinkState) (result : ℕ) (opens : Opens old.books q.script middle.left) where
  abbrev pub Row : Type 0
  Row = RunsCommand limits (to_replay q) old new before after result

  pub whole_row : Ends limits q.budget middle.left new.left (output before) (output after) ending.Whole → HasHeld old new → result ≡ 0 → Row
  whole_row (lines, text, writes, sends, of) held zero = record {
    cause = books;
    status = 0;
    text = text;
    row = replay.of_the_script text (of_script q old.books middle.left (λ bytes. IsTextOf limits q.budget (script_lines limits bytes) text) opens (by middle.left of));
    shows = (inl refl, held);
    writes = subst (λ r. Writes before after text 0 r) (sym zero) (writes_whole before after text 0 (λ f. absurd (omega (arith, f))) sends);
  }
    where
      by : (left : Option (List ℕ)) → IsOfLeft left (λ bytes. script_lines limits bytes ≡ lines) → IsOfLeft left (λ bytes. IsTextOf limits q.budget (script_lines limits bytes) text)
      by None o = tt
      by (Some bytes) e = subst (λ (ls : List Line). IsTextOf limits q.budget ls text) (sym e) writes

  pub unread_row : (number : ℕ) (between : SinkState) → Ends limits q.budget middle.left new.left (output before) (output between) (ending.Unread number) → Rose old.faults new.faults
      → Writes between after (unread_line number) 3 result → Row
  unread_row number between (given, text, within, writes, sends, is, of) rose w = record {
    cause = unread;
    status = 3;
    text = text ++ unread_line (length (ended_lines given) + 1);
    row = replay.of_a_failed_read given text within writes (of_script q old.books middle.left (IsGiven given new.left) opens of);
    shows = (refl, rose);
    writes = subst (λ n. Writes before after (text ++ unread_line n) 3 result) is (writes_then before between after text (unread_line number) 3 result (λ f. absurd (omega (arith, f))) sends w);
  }

  pub memory_row : (number : ℕ) (between : SinkState) → Ends limits q.budget middle.left new.left (output before) (output between) (ending.NoMemory number)
      → Writes between after (memory_line number) 4 result → Row
  memory_row number between (lines, text, writes, sends, is, of) w = record {
    cause = memory;
    status = 4;
    text = text ++ memory_line (length lines + 1);
    row = replay.of_memory lines text writes (of_script q old.books middle.left (λ bytes. AreFirstOf limits bytes lines) opens of);
    shows = refl;
    writes = subst (λ n. Writes before after (text ++ memory_line n) 4 result) is (writes_then before between after text (memory_line number) 4 result (λ f. absurd (omega (arith, f))) sends w);
  }

  -- of the text due so far the sink took a front
  pub cut_row : Ends limits q.budget middle.left new.left (output before) (output after) ending.SinkFailed → result ≡ 5 → Row
  cut_row (lines, text, writes, cuts, of) five = record {
    cause = memory;
    status = 4;
    text = text ++ memory_line (length lines + 1);
    row = replay.of_memory lines text writes (of_script q old.books middle.left (λ bytes. AreFirstOf limits bytes lines) opens of);
    shows = refl;
    writes = subst (λ r. Writes before after (text ++ memory_line (length lines + 1)) 4 r) (sym five) (writes_cut before after text (memory_line (length lines + 1)) 4 cuts);
  }
