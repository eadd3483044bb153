use Rattle.std.proofs.Common.{◌≡◌, ◌≤◌, ◌<◌, ◌+◌, List, [], ◌∷◌, ◌++◌, length, length-append, map, sym, ap, subst, ◌∙◌, refl, arith, false, Some}
use Rattle.std.specs.Prelude.{reverse}
use Rattle.std.specs.List.{sum_by}
use Rattle.dk_io.specs.Bytes.{Opens, put_aside}
use Rattle.std.specs.String.{string_bytes}
use Rattle.dk_io.specs.Causes.{Rose}
use Rattle.theory_walk.specs.BookNames.{book_named}
use Rattle.file_reader.specs.Progress.{HasBegun}
use Rattle.book_reader.specs.declared.walker.Frame.{Frame}
use Rattle.book_reader.specs.Ends.{AreBegun}
use Rattle.book_reader.specs.Rooms.{room_of_book}
use Rattle.book_reader.specs.Shelved.{MemoryDue}
use Rattle.book_reader.specs.Shelves.{shelf_of}
use Rattle.book_reader.specs.Turns.{with_need}
use Rattle.book_reader.specs.Walkers.{Open, books_in, has, open_of, opens_below, setting_of}
use Rattle.book_reader.proofs.Keys.{is_new}
use Rattle.book_reader.proofs.Openings.{at_limit, begun_more, below_count, below_limit, below_more}
use Rattle.book_reader.proofs.Turning.{among_at, opened_new}
use Rattle.book_reader.proofs.Ending.{begins_so, memory_at_need, newly_opened, opening_failed, too_many_files, too_many_modules}
use Rattle.book_reader.proofs.Rooms.{room_opened, room_pushed}
use Rattle.book_reader.proofs.walker.Walker.open.Goals as goal

pub add-requires : goal.add-requires
add-requires g c =
    let w = c.args.self.now in
    subst (λ m. has w.opened m ≡ false) (sym c.as_slice-2.ensures) (is_new w.root.own w.top.module (books_in (opens_below w)) w.opened c.args.name c.requires.standing).unknown

pub returns-then-len-self-clause-walks : goal.returns-then-len-self-clause-walks
returns-then-len-self-clause-walks g c = λ books done d told st.
    let w = c.args.self.now in
    let o = with_need d c.args.line c.args.name (open_of w.top) in
    let many : w.root.most.files ≤ length (o ∷ opens_below w) = let e = below_count w in omega (arith, e, c.if-len-self.true, c.len.ensures) in (
      too_many_files (setting_of w.root books) o (opens_below w) w.opened _ done d c.args.line c.args.name (open_of w.top).pending refl c.requires.standing many st,
      begins_so (setting_of w.root books) (o ∷ opens_below w) w.opened _ done st,
    )

pub returns-then-len-self-2-clause-walks : goal.returns-then-len-self-2-clause-walks
returns-then-len-self-2-clause-walks g c = λ books done d told st.
    let w = c.args.self.now in
    let o = with_need d c.args.line c.args.name (open_of w.top) in
    let few : length (o ∷ opens_below w) < w.root.most.files = let e = below_count w in omega (arith, e, c.if-len-self.false, c.len.ensures) in (
      too_many_modules (setting_of w.root books) o (opens_below w) w.opened _ done d c.args.line c.args.name (open_of w.top).pending refl c.requires.standing few
          (at_limit w.root.most.modules (length w.opened) (omega (arith, c.if-len-self-2.true, c.len-2.ensures))) st,
      begins_so (setting_of w.root books) (o ∷ opens_below w) w.opened _ done st,
    )

pub returns-in_default-clause-walks : goal.returns-in_default-clause-walks
returns-in_default-clause-walks g c = λ books done d told st.
    let w = c.args.self.now in
    let o = with_need d c.args.line c.args.name (open_of w.top) in
    let few : length (o ∷ opens_below w) < w.root.most.files = let e = below_count w in omega (arith, e, c.if-len-self.false, c.len.ensures) in (
      memory_at_need (setting_of w.root books) o (opens_below w) w.opened _ done d c.args.line c.args.name (open_of w.top).pending refl c.requires.standing few
          (below_limit w.root.most.modules (length w.opened) (omega (arith, c.if-len-self-2.false, c.len-2.ensures))) st,
      begins_so (setting_of w.root books) (o ∷ opens_below w) w.opened _ done st,
    )

pub returns-in_default-reserve-clause-walks : goal.returns-in_default-reserve-clause-walks
returns-in_default-reserve-clause-walks g c = λ books done d told st.
    let w = c.args.self.now in
    let o = with_need d c.args.line c.args.name (open_of w.top) in
    let few : length (o ∷ opens_below w) < w.root.most.files = let e = below_count w in omega (arith, e, c.if-len-self.false, c.len.ensures) in (
      memory_at_need (setting_of w.root books) o (opens_below w) w.opened _ done d c.args.line c.args.name (open_of w.top).pending refl c.requires.standing few
          (below_limit w.root.most.modules (length w.opened) (omega (arith, c.if-len-self-2.false, c.len-2.ensures))) st,
      begins_so (setting_of w.root books) (o ∷ opens_below w) w.opened _ done st,
    )

pub returns-in_default-add-clause-walks : goal.returns-in_default-add-clause-walks
returns-in_default-add-clause-walks g c = λ books done d told st.
    let w = c.args.self.now in
    let o = with_need d c.args.line c.args.name (open_of w.top) in
    let few : length (o ∷ opens_below w) < w.root.most.files = let e = below_count w in omega (arith, e, c.if-len-self.false, c.len.ensures) in (
      memory_at_need (setting_of w.root books) o (opens_below w) w.opened _ done d c.args.line c.args.name (open_of w.top).pending refl c.requires.standing few
          (below_limit w.root.most.modules (length w.opened) (omega (arith, c.if-len-self-2.false, c.len-2.ensures))) st,
      begins_so (setting_of w.root books) (o ∷ opens_below w) w.opened _ done st,
    )

pub returns-in_default-open_book-clause-walks : goal.returns-in_default-open_book-clause-walks
returns-in_default-open_book-clause-walks g c = λ books done d told st.
    let w = c.args.self.now in
    let o = with_need d c.args.line c.args.name (open_of w.top) in
    let few : length (o ∷ opens_below w) < w.root.most.files = let e = below_count w in omega (arith, e, c.if-len-self.false, c.len.ensures) in (
      opening_failed (setting_of w.root books) o (opens_below w) w.opened (shelf_of g.H.Shelf c.args.shelf.now) (shelf_of g.H.Shelf c.open_book.new.self) done d c.args.line c.args.name (open_of w.top).pending refl c.requires.standing few
          (below_limit w.root.most.modules (length w.opened) (omega (arith, c.if-len-self-2.false, c.len-2.ensures)))
          c.in_default-open_book.ensures.kept c.in_default-open_book.ensures.kept_aside st,
      begins_so (setting_of w.root books) (o ∷ opens_below w) w.opened _ done st,
    )

pub returns-in_default-open_book-clause-causes : goal.returns-in_default-open_book-clause-causes
returns-in_default-open_book-clause-causes g c =
    let w = c.args.self.now in
    let name_is : c.deref.result.now ≡ book_named (string_bytes w.root.file) (Some c.args.name) =
    c.deref.ensures ∙ c.in-Ok.ensures ∙ ap (λ f. book_named f (Some c.as_slice.result.now)) c.as_bytes.ensures.value ∙ ap (λ m. book_named (string_bytes w.root.file) (Some m)) c.as_slice.ensures in
    subst (λ n. Rose (g.H.Shelf.missed c.args.shelf.now n) (g.H.Shelf.missed c.open_book.new.self n)) name_is c.in_default-open_book.ensures.cause.failed

pub returns-clause-ready : goal.returns-clause-ready
returns-clause-ready g c =
    let r = c.requires.ready in
    let aside : g.H.Shelf.aside c.open_book.new.self ≡ g.H.Shelf.left c.args.shelf.now ∷ g.H.Shelf.aside c.args.shelf.now =
    c.in-Ok-open_book.ensures.aside ∙ ap (λ b. put_aside b (g.H.Shelf.left c.args.shelf.now) (g.H.Shelf.aside c.args.shelf.now)) r.room.is_open in
    let more = ap length aside in
    record {
      room = record {
        files_fit = r.room.files_fit;
        few = omega (arith, c.if-len-self.false, c.len.ensures, c.push_reserved.ensures.len, c.in-Ok-reserve.ensures.len);
        is_open = c.in-Ok-open_book.ensures.is_open;
        all_aside = omega (arith, more, c.push_reserved.ensures.len, c.in-Ok-reserve.ensures.len, r.room.all_aside);
        room = omega (arith, more, c.push_reserved.ensures.len, c.in-Ok-reserve.ensures.len, r.room.room);
      };
      top = subst HasBegun (sym (ap (λ (f : Frame). f.reader) c.replace-below.ensures.after)) c.new.ensures.begun;
      below = begun_more c.push_reserved.new.self.items c.reserve.new.self.items c.replace-below.result c.push_reserved.ensures.items
          (subst (λ (f : Frame). HasBegun f.reader) (sym c.replace-below.ensures.value) r.top)
          (subst (λ (l : List Frame). AreBegun (reverse l)) (sym c.in-Ok-reserve.ensures.items) r.below);
    }

pub returns-clause-leaves : goal.returns-clause-leaves
returns-clause-leaves g c =
    let room = c.requires.ready.room in
    let aside : g.H.Shelf.aside c.open_book.new.self ≡ g.H.Shelf.left c.args.shelf.now ∷ g.H.Shelf.aside c.args.shelf.now =
    c.in-Ok-open_book.ensures.aside ∙ ap (λ b. put_aside b (g.H.Shelf.left c.args.shelf.now) (g.H.Shelf.aside c.args.shelf.now)) room.is_open in
    let more = ap length aside in
    omega (arith, more, c.push_reserved.ensures.len, c.in-Ok-reserve.ensures.len, room.all_aside)

pub returns-clause-moves : goal.returns-clause-moves
returns-clause-moves g c =
    let w = c.args.self.now in
    let n : Open = record { book = Some c.args.name; reader = c.new.result; pending = [] } in (
      c.args.name,
      c.requires.standing,
      ap books_in
          (ap (λ o. o ∷ map open_of (reverse c.push_reserved.new.self.items)) (ap open_of c.replace-below.ensures.after)
          ∙ ap (λ l. n ∷ l) (below_more c.push_reserved.new.self.items c.reserve.new.self.items c.replace-below.result c.push_reserved.ensures.items
          ∙ ap (λ f. open_of f ∷ map open_of (reverse c.reserve.new.self.items)) c.replace-below.ensures.value
          ∙ ap (λ l. open_of w.top ∷ map open_of (reverse l)) c.in-Ok-reserve.ensures.items)),
      c.in-Ok-add.ensures.ok ∙ ap (λ m. w.opened ++ m ∷ []) c.as_slice-2.ensures,
    )

pub returns-clause-walks : goal.returns-clause-walks
returns-clause-walks g c = λ books done d told st.
    let w = c.args.self.now in
    let s = setting_of w.root books in
    let o = with_need d c.args.line c.args.name (open_of w.top) in
    let few : length (o ∷ opens_below w) < w.root.most.files = let e = below_count w in omega (arith, e, c.if-len-self.false, c.len.ensures) in
    let n : Open = record { book = Some c.args.name; reader = c.new.result; pending = [] } in
    let name_is : c.deref.result.now ≡ book_named (string_bytes w.root.file) (Some c.args.name) =
    c.deref.ensures ∙ c.in-Ok.ensures ∙ ap (λ f. book_named f (Some c.as_slice.result.now)) c.as_bytes.ensures.value ∙ ap (λ m. book_named (string_bytes w.root.file) (Some m)) c.as_slice.ensures in
    let both = newly_opened s n (open_of w.top ∷ opens_below w) (w.opened ++ c.args.name ∷ []) (shelf_of g.H.Shelf c.open_book.new.self) done refl
    (opened_new s o (open_of w.top) n (opens_below w) w.opened (shelf_of g.H.Shelf c.args.shelf.now) (shelf_of g.H.Shelf c.open_book.new.self) done d c.args.line c.args.name
    c.requires.standing few
    (below_limit w.root.most.modules (length w.opened) (omega (arith, c.if-len-self-2.false, c.len-2.ensures)))
    refl refl refl refl refl c.new.ensures.behind
    (subst (λ b. Opens b (s.named (Some c.args.name)) (g.H.Shelf.left c.open_book.new.self)) told
    (subst (λ x. Opens (g.H.Shelf.books c.args.shelf.now) x (g.H.Shelf.left c.open_book.new.self)) name_is c.in-Ok-open_book.ensures.opened))
    (c.in-Ok-open_book.ensures.aside ∙ ap (λ b. put_aside b (g.H.Shelf.left c.args.shelf.now) (g.H.Shelf.aside c.args.shelf.now)) c.requires.ready.room.is_open)
    st) in (
      among_at s done (n ∷ open_of w.top ∷ opens_below w) _ (w.opened ++ c.args.name ∷ []) _ (shelf_of g.H.Shelf c.open_book.new.self)
          (ap (λ o. o ∷ map open_of (reverse c.push_reserved.new.self.items)) (ap open_of c.replace-below.ensures.after)
          ∙ ap (λ l. n ∷ l) (below_more c.push_reserved.new.self.items c.reserve.new.self.items c.replace-below.result c.push_reserved.ensures.items
          ∙ ap (λ f. open_of f ∷ map open_of (reverse c.reserve.new.self.items)) c.replace-below.ensures.value
          ∙ ap (λ l. open_of w.top ∷ map open_of (reverse l)) c.in-Ok-reserve.ensures.items))
          (c.in-Ok-add.ensures.ok ∙ ap (λ m. w.opened ++ m ∷ []) c.as_slice-2.ensures)
          both.0,
      subst (λ k. MemoryDue s (length done) (record { book = k; line = 1 })) (sym (ap (λ (f : Frame). f.«module») c.replace-below.ensures.after)) both.1,
    )

pub returns-clause-room : goal.returns-clause-room
returns-clause-room g c =
    let w = c.args.self.now in
    let known : length c.add.new.self ≡ length w.opened + 1 = ap length c.in-Ok-add.ensures.ok ∙ length-append w.opened (c.as_slice-2.result.now ∷ []) in
    let below : sum_by room_of_book c.push_reserved.new.self.items ≡ sum_by room_of_book w.below.items + room_of_book w.top =
    room_pushed c.push_reserved.new.self.items c.reserve.new.self.items c.replace-below.result c.push_reserved.ensures.items
    ∙ ap (λ (l : List Frame). sum_by room_of_book l + room_of_book c.replace-below.result) c.in-Ok-reserve.ensures.items
    ∙ ap (λ f. sum_by room_of_book w.below.items + room_of_book f) c.replace-below.ensures.value in
    let top = ap room_of_book c.replace-below.ensures.after in
    let new = c.new.ensures.room in
    let few = c.if-len-self-2.false in
    let count = c.len-2.ensures in
    room_opened w.root.most.modules (length w.opened) (length c.add.new.self) _ (room_of_book w.top) (sum_by room_of_book w.below.items) _ known
    (omega (arith, few, count)) (omega (arith, top, new)) below
