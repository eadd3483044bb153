-- What an edit of a session answers is what the definition has of it.
use Rattle.std.proofs.Common.{◌≡◌, ◌<◌, ◌≤◌, ◌+◌, ◌-◌, ◌&&◌, ℕ, suc, zero, Bool, true, false, List, ap, cond, refl, ◌∙◌, length, arith, slice_set}
use Rattle.std.specs.Prelude.{Option, Some, None, nat_le}
use Rattle.std.specs.List.{insert, remove}
use Rattle.std.proofs.lemmas.Bool.{lt-leb}
use Rattle.dk_model.specs.declared.limits.Limits.{Limits}
use Rattle.edit_session.specs.Sessions.{PlainSlot, new_slot}
use Rattle.edit_session.specs.Texts.{is_command_text}
use Rattle.script_lines.specs.Reading.{AsksNothing, IsFar}
use Rattle.script_lines.specs.Scripts.{Line, deletes, edits, inserts, replaces, reports, unreadable}
use Rattle.replay_script.specs.Replays.{Takes, bad_line, is_place, of_a_bad_edit, of_no_line}

and_false : (a : Bool) → (a && false) ≡ false
and_false true = refl
and_false false = refl

-- there is no place of this number among so few
no_place : (k most : ℕ) → most < k → is_place k most ≡ false
no_place k most less = ap (λ (b : Bool). nat_le 1 k && b) (lt-leb k most less) ∙ and_false (nat_le 1 k)

no_place_text : (limits : Limits) (place : Bool) (text : List ℕ) (new : List PlainSlot) → place ≡ false
    → ◌≡◌ {A = Option (List PlainSlot)} (cond (place && is_command_text limits text) (Some new) None) None
no_place_text limits place text new none = ap (λ (a : Bool). cond (a && is_command_text limits text) (Some new) None) none

beyond : (k most : ℕ) → IsFar k → most ≤ 4294967295 → most < k
beyond k most far few = omega (arith, far, few)

-- a number of 2^32 and more is no place of so few texts
pub nothing_taken : (limits : Limits) (budget number : ℕ) (slots : List PlainSlot) (line : Line) → length slots < 4294967295 → AsksNothing line → Takes limits budget number slots line slots (bad_line number)
nothing_taken limits budget number slots unreadable few asks = of_no_line
nothing_taken limits budget number slots reports few asks = absurd asks
nothing_taken limits budget number slots (edits (inserts k text)) few far =
    of_a_bad_edit (inserts k text) (no_place_text limits (is_place k (length slots + 1)) text (insert slots (k - 1) (new_slot text)) (no_place k (length slots + 1) (beyond k (length slots + 1) far (omega (arith, few)))))
nothing_taken limits budget number slots (edits (replaces k text)) few far =
    of_a_bad_edit (replaces k text) (no_place_text limits (is_place k (length slots)) text (slice_set slots (k - 1) (new_slot text)) (no_place k (length slots) (beyond k (length slots) far (omega (arith, few)))))
nothing_taken limits budget number slots (edits (deletes k)) few far =
    of_a_bad_edit (deletes k) (ap (λ (b : Bool). cond b (Some (remove slots (k - 1))) None) (no_place k (length slots) (beyond k (length slots) far (omega (arith, few)))))
