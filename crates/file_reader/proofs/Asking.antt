-- What asking for a command comes to, turn by turn.
use Rattle.std.proofs.Common.{◌≡◌, ◌≤◌, ◌<◌, ◌+◌, ℕ, Bool, true, false, List, ◌++◌, length, refl, sym, ap, subst, ◌∙◌, arith, length-append}
use Rattle.std.proofs.lemmas.List.{append_assoc}
use Rattle.std.specs.Prelude.{Option, Err}
use Rattle.dk_model.specs.declared.limits.Limits.{Limits}
use Rattle.dk_lexer.specs.Tokens.{Lexed, broken, whole}
use Rattle.one_lexer.specs.Lexers.{HasAll, ending_of, line_of}
use Rattle.dk_parser.specs.FileReading.{read}
use Rattle.dk_parser.specs.FileReading as tail
use Rattle.dk_parser.specs.Written.{WrittenCommand}
use Rattle.file_reader.specs.Counts.{MayRiseByAnswer, RoseByAnswer}
use Rattle.file_reader.specs.declared.reader.ReadEnd.{ReadEnd}
use Rattle.file_reader.specs.declared.reader.ReadEnd.TheVariants as end
use Rattle.file_reader.specs.declared.reader.Reader.{Reader}
use Rattle.file_reader.specs.Held.{EndsIn, Holds, IsDry, IsEmpty, Loads, Settles, TakesBytes, TakesPiece}
use Rattle.file_reader.specs.Rooms.{room_of}
use Rattle.file_reader.specs.Progress.{Answers, HasBegun, IsBehind, IsUnread, reading}
use Rattle.file_reader.proofs.Known.{may_come}
use Rattle.file_reader.proofs.Settling.{unread_so}
use Rattle.file_reader.proofs.Room.{in_room}

-- so many pieces were taken by now, each of a byte at least but for the end
pub record HasTurned (turns : ℕ) (r : Reader) : Type 0 where
  pub begun : HasBegun r
  pub within : r.over ≡ false → turns ≤ length begun.given
  pub few : turns ≤ 4294967295

-- a reader behind some commands has begun
abbrev pub begun_behind : (limits : Limits) (given : List ℕ) (done : List WrittenCommand) (r : Reader) → Holds limits given done r → r.given ≤ length given → HasBegun r
begun_behind limits given done r h counted = record { limits = limits; given = given; done = done; holds = h; counted = counted }

pub turned_none : (r : Reader) → HasBegun r → HasTurned 0 r
turned_none r begun = record { begun = begun; within = λ is. omega arith; few = omega arith }

-- the bytes of a reader that is dry are within the limit
dry_room : (limits : Limits) (given : List ℕ) (done : List WrittenCommand) (r : Reader) → IsDry limits given done r → length given ≤ 4294967294
dry_room limits given done r d = in_room limits given (ap (λ (l : Lexed). l.fault) (subst (λ (b : Bool). HasAll b limits given d.0.holds.taken (line_of r.lexer)) d.1 d.0.all))

-- one piece more
pub turned_more : (turns : ℕ) (r middle new : Reader) (left after : Option (List ℕ)) (t : HasTurned turns r) → IsDry t.begun.limits t.begun.given t.begun.done middle
    → middle.over ≡ r.over → middle.given ≡ r.given → TakesPiece t.begun.limits t.begun.given t.begun.done left after middle new → HasTurned (turns + 1) new
turned_more turns r middle new left after t dry same_over same piece =
    let room = dry_room t.begun.limits t.begun.given t.begun.done middle dry in
    let within = t.within (sym same_over ∙ dry.1) in
    let all = length-append t.begun.given piece.piece in
    let counted = piece.counted in
    let begun = t.begun.counted in
    record {
      begun = begun_behind t.begun.limits (t.begun.given ++ piece.piece) t.begun.done new piece.holds (omega (arith, counted, begun, same, all));
      within = λ is. let some = piece.some is in omega (arith, within, some, all);
      few = omega (arith, within, room);
    }

module _ {limits : Limits} {bytes : List ℕ} {done : List WrittenCommand} {left : Option (List ℕ)} {r : Reader} (b : IsBehind limits bytes done left r) where
  -- the commands that are given now
  pub gives : (more : List WrittenCommand) (new : Reader) → new.over ≡ r.over → Holds limits b.given more new → IsBehind limits bytes more left new
  gives more new same holds = record { given = b.given; rest = b.rest; bytes_are = b.bytes_are; left_is = b.left_is; last = λ is. b.last (ap ending_of (sym same) ∙ is); holds = holds }

  settled : (over : Bool) → over ≡ r.over → (t : tail.Tail) → Settles limits b.given over (reading done t) → read limits bytes whole ≡ reading done t
  settled over same t settles =
      ap (λ bs. read limits bs whole) b.bytes_are ∙ settles b.rest whole (may_come over b.rest (λ is. b.last (ap ending_of (sym same) ∙ is)))

  -- how reading ends behind the bytes given, it ends in the book
  pub ends : (over : Bool) → over ≡ r.over → (e : ReadEnd) (after : Option (List ℕ)) (new : Reader) → EndsIn limits b.given over done e → Answers limits bytes done after new (Err e)
  ends over same end.Whole after new is = settled over same tail.whole is
  ends over same (end.Refused line code) after new is = settled over same (tail.fault line code) is
  ends over same (end.NoMemory line) after new m = record {
    given = m.given;
    rest = m.rest ++ b.rest;
    bytes_are = b.bytes_are ∙ ap (λ bs. bs ++ b.rest) m.bytes_are ∙ append_assoc m.given m.rest b.rest;
    ending = m.ending;
    last = λ is. let w = m.last is in (ap (λ bs. bs ++ b.rest) w.0 ∙ b.last (ap ending_of (sym same) ∙ w.1), refl);
    later = m.later;
    commands_are = m.commands_are;
    line_is = m.line_is;
  }
  ends over same end.Unread after new is = absurd is

  -- one piece more
  pub loads : (after : Option (List ℕ)) (middle new : Reader) → TakesPiece limits b.given done left after middle new → IsBehind limits bytes done after new
  loads after middle new piece =
      let took = subst (λ (o : Option (List ℕ)). TakesBytes o after piece.piece) b.left_is piece.took in
      record {
        given = b.given ++ piece.piece;
        rest = took.0;
        bytes_are = b.bytes_are ∙ ap (λ bs. b.given ++ bs) took.1 ∙ sym (append_assoc b.given piece.piece took.0);
        left_is = took.2;
        last = λ is. subst IsEmpty took.2 (piece.last (over_so new.over is));
        holds = piece.holds;
      }
    where
      over_so : (over : Bool) → ending_of over ≡ whole → over ≡ true
      over_so true is = refl
      over_so false is = absurd (let bad : broken ≡ whole = is in cc)

  -- a read failed
  pub fails : (after : Option (List ℕ)) (middle : Reader) → IsDry limits b.given done middle → after ≡ left → IsUnread limits bytes done after
  fails after middle d same = (
    b.given,
    b.rest,
    b.bytes_are,
    same ∙ b.left_is,
    unread_so d.0.holds.parsed b.given (line_of middle.lexer) (subst (λ (o : Bool). HasAll o limits b.given d.0.holds.taken (line_of middle.lexer)) d.1 d.0.all),
  )

  -- no piece came
  pub fails_so : (e : ReadEnd) (after : Option (List ℕ)) (middle new other : Reader) → middle.over ≡ r.over → IsDry limits b.given done middle → Loads limits b.given done left after middle new (Err e)
      → Answers limits bytes done after other (Err e)
  fails_so end.Unread after middle new other same d is = fails after middle d is
  fails_so end.Whole after middle new other same d is = ends false (sym d.1 ∙ same) end.Whole after other is
  fails_so (end.Refused line code) after middle new other same d is = ends false (sym d.1 ∙ same) (end.Refused line code) after other is
  fails_so (end.NoMemory line) after middle new other same d is = ends false (sym d.1 ∙ same) (end.NoMemory line) after other is

-- ---- the room

-- a piece takes more room than its bytes need
pub room_loaded : (r middle new : Reader) (given : List ℕ) (limits : Limits) (done : List WrittenCommand) (left after : Option (List ℕ)) → middle.given ≡ r.given → length middle.carried ≤ length r.carried
    → IsDry limits given done middle → r.given ≤ length given → TakesPiece limits given done left after middle new → room_of new ≤ room_of r
room_loaded r middle new given limits done left after same fewer dry within piece =
    let room = dry_room limits given done middle dry in
    let few = piece.few in
    let grown = piece.grown in
    let carried = piece.carried in
    omega (arith, room, few, grown, carried, fewer, same, within)

-- a command or directive takes some of it
pub room_taken : (r new : Reader) → new.given ≡ r.given → length new.carried < length r.carried → room_of new < room_of r
room_taken r new same fewer = omega (arith, same, fewer)

-- ---- the counts

module _ (A : Type 0) (limits : Limits) (given : List ℕ) (over : Bool) (done : List WrittenCommand) where
  pub rose_so : (e : ReadEnd) (before now : ℕ) → EndsIn limits given over done e → now ≡ before → RoseByAnswer {A = A} before now (Err e)
  rose_so end.Whole before now is same = same
  rose_so (end.Refused line code) before now is same = same
  rose_so (end.NoMemory line) before now is same = same
  rose_so end.Unread before now is same = absurd is

  pub may_rise_so : (e : ReadEnd) (before now : List ℕ → ℕ) → EndsIn limits given over done e → ((name : List ℕ) → now name ≡ before name) → MayRiseByAnswer {A = A} before now (Err e)
  may_rise_so end.Whole before now is same = same
  may_rise_so (end.Refused line code) before now is same = same
  may_rise_so (end.NoMemory line) before now is same = same
  may_rise_so end.Unread before now is same = absurd is

-- an answer of the last call, behind counts that stood before
pub rose_then : (A B : Type 0) (e : ReadEnd) (a b c : ℕ) → b ≡ a → RoseByAnswer {A = A} b c (Err e) → RoseByAnswer {A = B} a c (Err e)
rose_then A B end.Whole a b c same is = is ∙ same
rose_then A B (end.Refused line code) a b c same is = is ∙ same
rose_then A B (end.NoMemory line) a b c same is = is ∙ same
rose_then A B end.Unread a b c same is = subst (λ n. RoseByAnswer {A = B} n c (Err end.Unread)) same is

pub may_rise_then : (A B : Type 0) (e : ReadEnd) (a b c : List ℕ → ℕ) → ((name : List ℕ) → b name ≡ a name) → MayRiseByAnswer {A = A} b c (Err e) → MayRiseByAnswer {A = B} a c (Err e)
may_rise_then A B end.Whole a b c same is = λ name. is name ∙ same name
may_rise_then A B (end.Refused line code) a b c same is = λ name. is name ∙ same name
may_rise_then A B (end.NoMemory line) a b c same is = λ name. is name ∙ same name
may_rise_then A B end.Unread a b c same is = λ name. let le = is name in let e = same name in omega (arith, le, e)
