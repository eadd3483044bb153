-- A line adds at most one text.
use Rattle.std.proofs.Common.{◌≡◌, ◌≤◌, ◌+◌, ◌-◌, ◌&&◌, ℕ, suc, Bool, true, false, List, [], ◌∷◌, ap, cond, drop, length, length-append, length-drop, refl, subst, take, arith, slice_set}
use Rattle.std.specs.Prelude.{Option, Some, None}
use Rattle.std.specs.List.{insert, remove}
use Rattle.std.proofs.lemmas.List.{length-set, length-take}
use Rattle.dk_model.specs.declared.limits.Limits.{Limits}
use Rattle.edit_session.specs.Sessions.{PlainSlot, kept_then, new_slot}
use Rattle.edit_session.specs.Texts.{is_command_text}
use Rattle.script_lines.specs.Scripts.{Edit, Line, deletes, inserts, replaces}
use Rattle.replay_script.specs.Replays.{Takes, edited, is_place, of_a_bad_edit, of_a_report, of_an_edit, of_no_line}

some_is : (test : Bool) (xs ys : List PlainSlot) → cond test (Some xs) None ≡ Some ys → xs ≡ ys
some_is true xs ys e = cc
some_is false xs ys e = absurd cc

inserted : (xs : List PlainSlot) (i : ℕ) (x : PlainSlot) → length (insert xs i x) ≤ length xs + 1
inserted xs i x = omega (arith, length-append (take i xs) (x ∷ drop i xs), length-take i xs, length-drop i xs)

removed : (xs : List PlainSlot) (i : ℕ) → length (remove xs i) ≤ length xs + 1
removed xs i = omega (arith, length-append (take i xs) (drop (suc i) xs), length-take i xs, length-drop (suc i) xs)

few_by : (xs ys zs : List PlainSlot) → xs ≡ ys → length xs ≤ length zs + 1 → length ys ≤ length zs + 1
few_by xs ys zs e few = subst (λ (s : List PlainSlot). length s ≤ length zs + 1) e few

few_edited : (limits : Limits) (slots new : List PlainSlot) (edit : Edit) → edited limits slots edit ≡ Some new → length new ≤ length slots + 1
few_edited limits slots new (inserts k text) e =
    few_by (insert slots (k - 1) (new_slot text)) new slots (some_is (is_place k (length slots + 1) && is_command_text limits text) (insert slots (k - 1) (new_slot text)) new e) (inserted slots (k - 1) (new_slot text))
few_edited limits slots new (replaces k text) e =
    few_by (slice_set slots (k - 1) (new_slot text)) new slots (some_is (is_place k (length slots) && is_command_text limits text) (slice_set slots (k - 1) (new_slot text)) new e)
    (let l = length-set slots (k - 1) (new_slot text) in omega (arith, l))
few_edited limits slots new (deletes k) e = few_by (remove slots (k - 1)) new slots (some_is (is_place k (length slots)) (remove slots (k - 1)) new e) (removed slots (k - 1))

kept_length : (slots : List PlainSlot) (lists : List (Option (List (List ℕ)))) → length (kept_then slots lists) ≡ length slots
kept_length [] lists = refl
kept_length (s ∷ ss) [] = refl
kept_length (s ∷ ss) (l ∷ ls) = ap suc (kept_length ss ls)

pub few_taken : {limits : Limits} {budget number : ℕ} {slots new : List PlainSlot} {line : Line} {text : List ℕ} → Takes limits budget number slots line new text → length new ≤ length slots + 1
few_taken {limits = limits} {slots = slots} {new = new} (of_an_edit edit after e) = few_edited limits slots new edit e
few_taken (of_a_bad_edit edit e) = omega arith
few_taken {slots = slots} (of_a_report lists reached) = let e = kept_length slots lists in omega (arith, e)
few_taken of_no_line = omega arith
