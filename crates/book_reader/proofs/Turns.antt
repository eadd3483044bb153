-- A turn by what it comes to.
use Rattle.std.proofs.Common.{◌≡◌, ◌≤◌, ℕ, List, [], ◌∷◌, length, refl, sym, ap, subst, ◌∙◌}
use Rattle.std.specs.Prelude.{Some, Result, Ok, Err}
use Rattle.dk_io.specs.Bytes.{Books}
use Rattle.dk_lexer.specs.Tokens as tokens
use Rattle.dk_parser.specs.FileReading.{read}
use Rattle.dk_parser.specs.FileReading as tail
use Rattle.dk_parser.specs.Written.{WrittenCommand}
use Rattle.theory_walk.specs.Walks.{Placed}
use Rattle.file_reader.specs.Progress.{IsBehind, reading}
use Rattle.book_reader.specs.declared.walker.Turn.{Turn}
use Rattle.book_reader.specs.declared.walker.WalkEnd.{WalkEnd}
use Rattle.book_reader.specs.declared.walker.WalkEnd.TheVariants as end
use Rattle.book_reader.specs.declared.walker.Walker.{Walker}
use Rattle.dk_io.specs.Causes.{Rose}
use Rattle.theory_walk.specs.BookNames.{book_named}
use Rattle.book_reader.specs.Ends.{Causes, ComesTo, HoldsCounts, KeepsBelow, LeavesRoom, Moves, below_file, books_open}
use Rattle.book_reader.specs.Shelves.{ShelfState}
use Rattle.book_reader.specs.Turns.{GivesUp}
use Rattle.book_reader.specs.Walkers.{IsAmong, books_in, open_of, opens_below, opens_of, setting_of}
use Rattle.book_reader.proofs.Turning.{among_at, given_up}
use Rattle.book_reader.proofs.Ending.{begins_so, file_ended}

-- the book being read was read to its end
pub whole_turn : (books : Books) (done : List Placed) (w mid new : Walker) (s t u : ShelfState) (result : Result Turn WalkEnd)
    → mid.root ≡ w.root → new.root ≡ mid.root → opens_below mid ≡ opens_below w → mid.opened ≡ w.opened → GivesUp mid new t u result
    → ((bytes : List ℕ) (d : List WrittenCommand) → IsBehind w.root.limits bytes d s.left w.top.reader → read w.root.limits bytes tokens.whole ≡ reading d tail.whole)
    → (open_of w.top).pending ≡ [] → t.aside ≡ s.aside → length (opens_of w) ≤ w.root.most.files
    → IsAmong (setting_of w.root books) done (opens_of w) w.opened s
    → ComesTo books done new u result
whole_turn books done w mid new s t u (Ok x) same_root new_root below same_known gone ended none aside few st =
    let os_are : opens_of w ≡ open_of w.top ∷ opens_of new = ap (λ os. open_of w.top ∷ os) (sym below ∙ gone.1) in
    let r : IsAmong (setting_of w.root books) done (opens_of new) w.opened u =
    given_up (setting_of w.root books) (open_of w.top) (open_of new.top) (opens_below new) w.opened s u done ended none (sym aside ∙ gone.3)
    (subst (λ os. length os ≤ w.root.most.files) os_are few)
    (subst (λ os. IsAmong (setting_of w.root books) done os w.opened s) os_are st) in
    subst (λ t. ComesTo books done new u (Ok t)) (sym gone.0)
    (subst (λ root. IsAmong (setting_of root books) done (opens_of new) new.opened u) (sym (new_root ∙ same_root))
    (among_at (setting_of w.root books) done (opens_of new) (opens_of new) w.opened new.opened u refl (gone.2 ∙ same_known) r))
whole_turn books done w mid new s t u (Err end.Whole) same_root new_root below same_known gone ended none aside few st =
    let os_are : opens_of w ≡ open_of w.top ∷ [] = ap (λ os. open_of w.top ∷ os) (sym below ∙ gone.0) in
    subst (λ root. ComesTo books done (record new { root = root }) u (Err end.Whole)) (sym (new_root ∙ same_root)) (
      (w.opened, file_ended (setting_of w.root books) (open_of w.top) w.opened s done none ended (subst (λ os. IsAmong (setting_of w.root books) done os w.opened s) os_are st)),
      begins_so (setting_of w.root books) (opens_of w) w.opened s done st,
    )
whole_turn books done w mid new s t u (Err (end.Refused line code)) same_root new_root below same_known gone ended none aside few st = absurd gone
whole_turn books done w mid new s t u (Err end.Unread) same_root new_root below same_known gone ended none aside few st = absurd gone
whole_turn books done w mid new s t u (Err (end.Unopened m line)) same_root new_root below same_known gone ended none aside few st = absurd gone
whole_turn books done w mid new s t u (Err (end.NoMemory line)) same_root new_root below same_known gone ended none aside few st = absurd gone

-- counts that stood until the last call
pub causes_then : (file : List ℕ) (a b c : ShelfState) (result : Result Turn WalkEnd) → HoldsCounts a b → Causes file b c result → Causes file a c result
causes_then file a b c (Ok t) held is = (is.0 ∙ held.0, λ n. is.1 n ∙ held.1 n)
causes_then file a b c (Err end.Whole) held is = (is.0 ∙ held.0, λ n. is.1 n ∙ held.1 n)
causes_then file a b c (Err (end.Refused line code)) held is = (is.0 ∙ held.0, λ n. is.1 n ∙ held.1 n)
causes_then file a b c (Err end.Unread) held is = subst (λ n. Rose n c.faults) held.0 is
causes_then file a b c (Err (end.Unopened m line)) held is = subst (λ n. Rose n (c.missed (book_named file (Some m)))) (held.1 (book_named file (Some m))) is
causes_then file a b c (Err (end.NoMemory line)) held is = (is.0 ∙ held.0, λ n. is.1 n ∙ held.1 n)

-- the book being read was given up, or is the last
pub moves_up : (w mid new : Walker) (t u : ShelfState) (result : Result Turn WalkEnd) → books_open mid ≡ books_open w → mid.opened ≡ w.opened → GivesUp mid new t u result → Moves w new result
moves_up w mid new t u (Ok x) books opened gone =
    subst (λ x. Moves w new (Ok x)) (sym gone.0) (mid.top.module, sym books ∙ ap (λ os. mid.top.module ∷ books_in os) gone.1, gone.2 ∙ opened)
moves_up w mid new t u (Err e) books opened gone = tt

-- where as many lie below
pub below_then : {T : Type 0} (w mid new : Walker) (s t u : ShelfState) (result : Result T WalkEnd) → below_file mid t ≡ below_file w s → KeepsBelow mid t new u result → KeepsBelow w s new u result
below_then w mid new s t u (Ok x) same kept = kept ∙ same
below_then w mid new s t u (Err e) same leaves = subst (λ n. LeavesRoom n u e) same leaves
