-- For callers: how far a script was taken, what was written by then, and what stopped it.
use Rattle.std.specs.Prelude.{◌≡◌, ◌<◌, ◌≤◌, ◌+◌, ℕ, Bool, true, false, List, [], ◌++◌, length, Option, None, Some, Result, Ok, Err}
use Rattle.dk_io.specs.Bytes.{AddsSome, added}
use Rattle.dk_io.specs.Causes.{Rose}
use Rattle.dk_io.specs.declared.sink.Sink.{Ghosts as Sink}
use Rattle.dk_lexer.specs.Tokens.{input_limit}
use Rattle.dk_model.specs.declared.limits.Limits.{Limits}
use Rattle.edit_session.specs.Sessions.{PlainSession, PlainSlot}
use Rattle.script_lines.specs.Scripts.{Line, cut, ended_lines}
use Rattle.replay_script.specs.Replays.{IsTextOf, Replays, Takes, script_lines}
use Rattle.replay_script.specs.declared.line.Stop.{Stop}
use Rattle.replay_script.specs.declared.line.Stop.TheVariants.{Unread, SinkFailed, NoMemory}
use Rattle.replay_script.specs.declared.piece.Replay.{Replay}
use Rattle.replay_script.specs.declared.script.Ending.{Ending}
use Rattle.replay_script.specs.declared.script.Ending.TheVariants as ending

-- ---- the sink

-- a sink, as its meanings tell it
pub record Output : Type 0 where
  pub taken : Option (List ℕ)
  pub faults : ℕ

abbrev pub output_of : {S : Type 0} → Sink S → S → Output
output_of m sink = record { taken = m.taken sink; faults = m.faults sink }

-- the text was written
pub record Sends (old new : Output) (text : List ℕ) : Type 0 where
  pub taken : new.taken ≡ added old.taken text
  pub faults : new.faults ≡ old.faults

-- a write failed, and a front of the text was written
pub record Cuts (old new : Output) (text : List ℕ) : Type 0 where
  pub taken : AddsSome old.taken new.taken text
  pub faults : Rose old.faults new.faults

abbrev pub Puts : Output → Output → List ℕ → Result (Unit {0}) Stop → Type 0
Puts old new text (Ok _) = Sends old new text
Puts old new text (Err SinkFailed) = Cuts old new text
Puts old new text (Err Unread) = ⊥
Puts old new text (Err NoMemory) = ⊥

-- ---- one line

-- the line of that number was taken, and what it writes was written; or the sink took a front of that; or memory ended, and
-- nothing was written
abbrev pub TakesLine : PlainSession → PlainSession → ℕ → Line → Output → Output → Result (Unit {0}) Stop → Type 0
TakesLine old new number line before after (Ok _) = (more : List ℕ) × Takes old.limits old.budget number old.slots line new.slots more × Sends before after more
TakesLine old new number line before after (Err SinkFailed) =
    (kept : List PlainSlot) × (more : List ℕ) × Takes old.limits old.budget number old.slots line kept more × Cuts before after more
TakesLine old new number line before after (Err NoMemory) = Sends before after []
TakesLine old new number line before after (Err Unread) = ⊥

-- ---- a script, byte by byte

-- there are fewer texts than lines, and a byte for each line and for all that is open
pub record IsWithin (r : Replay) : Type 0 where
  pub few : length r.session.slots < r.number
  pub short : r.number + length r.line.items ≤ r.count + 1

-- after these bytes this was written
pub record IsAfter (limits : Limits) (budget : ℕ) (given : List ℕ) (r : Replay) (text : List ℕ) : Type 0 where
  pub limits_are : r.session.limits ≡ limits
  pub budget_is : r.session.budget ≡ budget
  pub line_is : r.line.items ≡ (cut given).behind
  pub number_is : r.number ≡ length (ended_lines given) + 1
  pub count_is : r.count ≡ length given
  pub replays : Replays limits budget (ended_lines given) r.session.slots text

-- these are the first lines of every script that begins with these bytes; and these are all of them
abbrev pub AreFirst : Limits → List ℕ → List Line → Type 0
AreFirst limits given lines = (rest : List ℕ) → (more : List Line) × (script_lines limits (given ++ rest) ≡ lines ++ more)

abbrev pub AreAll : Limits → List ℕ → List Line → Type 0
AreAll limits given lines = (rest : List ℕ) → script_lines limits (given ++ rest) ≡ lines

-- these are first lines of the script of these bytes
abbrev pub AreFirstOf : Limits → List ℕ → List Line → Type 0
AreFirstOf limits bytes lines = (more : List Line) × (script_lines limits bytes ≡ lines ++ more)

-- behind this text some lines were written that are so, and what they write
pub record Wrote (P : List Line → Type 0) (limits : Limits) (budget : ℕ) (text : List ℕ) (before after : Output) : Type 0 where
  pub lines : List Line
  pub slots : List PlainSlot
  pub more : List ℕ
  pub are : P lines
  pub replays : Replays limits budget lines slots (text ++ more)
  pub sends : Sends before after more

-- the same, of which the sink took a front
pub record Cut (P : List Line → Type 0) (limits : Limits) (budget : ℕ) (text : List ℕ) (before after : Output) : Type 0 where
  pub lines : List Line
  pub slots : List PlainSlot
  pub more : List ℕ
  pub are : P lines
  pub replays : Replays limits budget lines slots (text ++ more)
  pub cuts : Cuts before after more

-- why it stopped, at the line of that number
abbrev pub StopsAt : (List Line → Type 0) → Limits → ℕ → List ℕ → ℕ → Output → Output → Stop → Type 0
StopsAt P limits budget text number before after SinkFailed = Cut P limits budget text before after
StopsAt P limits budget text number before after NoMemory = Wrote (λ lines. P lines × (number ≡ length lines + 1)) limits budget text before after
StopsAt P limits budget text number before after Unread = ⊥

-- more bytes were taken
pub record Goes (limits : Limits) (budget : ℕ) (given : List ℕ) (new : Replay) (text : List ℕ) (before after : Output) : Type 0 where
  pub more : List ℕ
  pub is_after : IsAfter limits budget given new (text ++ more)
  pub sends : Sends before after more

-- of a piece so much was taken, up to a limit
pub record HasTaken (most : ℕ) (old new : Replay) (piece rest : List ℕ) (before after : Output) : Type 0 where
  pub front : List ℕ
  pub parts : piece ≡ front ++ rest
  pub within : IsWithin new
  pub count : new.count ≡ old.count + length front
  pub below : new.count ≤ most
  pub goes : (limits : Limits) (budget : ℕ) (given text : List ℕ) → IsAfter limits budget given old text → most ≡ input_limit limits
      → Goes limits budget (given ++ front) new text before after

-- a byte was taken
abbrev pub TakesByte : Limits → ℕ → List ℕ → Replay → List ℕ → Output → Output → Result (Unit {0}) Stop → Type 0
TakesByte limits budget given new text before after (Ok _) = Goes limits budget given new text before after
TakesByte limits budget given new text before after (Err stop) = StopsAt (AreFirst limits given) limits budget text new.number before after stop

-- some bytes were taken, or as many of them as a script may have
abbrev pub TakesPiece : Limits → ℕ → List ℕ → Replay → List ℕ → Output → Output → Result Bool Stop → Type 0
TakesPiece limits budget given new text before after (Ok true) = Goes limits budget given new text before after
TakesPiece limits budget given new text before after (Ok false) = Wrote (AreAll limits given) limits budget text before after
TakesPiece limits budget given new text before after (Err stop) = StopsAt (AreFirst limits given) limits budget text new.number before after stop

-- the last line was taken
abbrev pub TakesRest : Limits → ℕ → List ℕ → Replay → List ℕ → Output → Output → Result (Unit {0}) Stop → Type 0
TakesRest limits budget given new text before after (Ok _) = Wrote (λ lines. script_lines limits given ≡ lines) limits budget text before after
TakesRest limits budget given new text before after (Err stop) = StopsAt (AreFirstOf limits given) limits budget text new.number before after stop

-- ---- a script that is read from a shelf

-- where it is told, this is so of what was left to be read
abbrev pub IsOfLeft : Option (List ℕ) → (List ℕ → Type 0) → Type 0
IsOfLeft None P = Unit {0}
IsOfLeft (Some bytes) P = P bytes

-- so much was given, and this is left
abbrev pub IsGiven : List ℕ → Option (List ℕ) → List ℕ → Type 0
IsGiven given left bytes = (rest : List ℕ) × (left ≡ Some rest) × (bytes ≡ given ++ rest)

-- of a script so much was taken, up to a limit
pub record HasRead (most : ℕ) (old new : Replay) (before after : Output) (left_before left_after : Option (List ℕ)) : Type 0 where
  pub given : List ℕ
  pub is_given : IsOfLeft left_before (IsGiven given left_after)
  pub within : IsWithin new
  pub below : new.count ≤ most
  pub goes : (limits : Limits) (budget : ℕ) → IsAfter limits budget [] old [] → most ≡ input_limit limits → Goes limits budget given new [] before after

-- how the taking of a script ended: after all of its lines; behind some of them, with what they write written or a front of
-- that; or where a read failed, while the line of that number was due
abbrev pub Ends : Limits → ℕ → Option (List ℕ) → Option (List ℕ) → Output → Output → Ending → Type 0
Ends limits budget old new before after ending.Whole =
    (lines : List Line) × (text : List ℕ) × IsTextOf limits budget lines text × Sends before after text × IsOfLeft old (λ bytes. script_lines limits bytes ≡ lines)
Ends limits budget old new before after (ending.Unread number) =
    (given : List ℕ) × (text : List ℕ) × (length given ≤ input_limit limits) × IsTextOf limits budget (ended_lines given) text × Sends before after text
    × (number ≡ length (ended_lines given) + 1) × IsOfLeft old (IsGiven given new)
Ends limits budget old new before after ending.SinkFailed =
    (lines : List Line) × (text : List ℕ) × IsTextOf limits budget lines text × Cuts before after text × IsOfLeft old (λ bytes. AreFirstOf limits bytes lines)
Ends limits budget old new before after (ending.NoMemory number) =
    (lines : List Line) × (text : List ℕ) × IsTextOf limits budget lines text × Sends before after text × (number ≡ length lines + 1)
    × IsOfLeft old (λ bytes. AreFirstOf limits bytes lines)

abbrev pub EndsAt : Limits → ℕ → Option (List ℕ) → Option (List ℕ) → ℕ → Output → Output → Result (Unit {0}) Stop → Type 0
EndsAt limits budget old new number before after (Ok _) = Ends limits budget old new before after ending.Whole
EndsAt limits budget old new number before after (Err Unread) = Ends limits budget old new before after (ending.Unread number)
EndsAt limits budget old new number before after (Err SinkFailed) = Ends limits budget old new before after ending.SinkFailed
EndsAt limits budget old new number before after (Err NoMemory) = Ends limits budget old new before after (ending.NoMemory number)
