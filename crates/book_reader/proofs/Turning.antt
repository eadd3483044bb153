-- What one turn does to where the reading stands.
use Rattle.std.proofs.Common.{◌≡◌, ℕ, suc, ◌-◌, ◌<◌, ◌≤◌, Bool, true, false, List, [], ◌∷◌, ◌++◌, length, refl, sym, ap, subst, ◌∙◌, append-nil, arith, nat_le, Some, None}
use Rattle.std.specs.Prelude.{◌||◌}
use Rattle.dk_io.specs.Bytes.{Opens, book_of}
use Rattle.dk_model.specs.declared.code.Code.TheVariants.{E14}
use Rattle.dk_lexer.specs.Tokens as tokens
use Rattle.dk_parser.specs.FileReading.{Reading, read}
use Rattle.dk_parser.specs.FileReading as tail
use Rattle.dk_parser.specs.Written.{WrittenCommand}
use Rattle.theory_walk.specs.declared.needs.Standing.{Standing}
use Rattle.theory_walk.specs.declared.needs.Standing.TheVariants.{Current, Below, WasRead, New}
use Rattle.theory_walk.specs.BookReadings.{book_reading, book_tail, due_line, read_whole}
use Rattle.theory_walk.specs.Libraries.{BookReading, BookStep, BookTail, Key, Library, need, opened, put, steps_in, steps_of, whole}
use Rattle.theory_walk.specs.Walks.{Placed, Spot, Walk, by_standing, needs_in, passes, refused_at, standing_of, stopped, walk_file, walk_new, walk_steps, with_commands}
use Rattle.file_reader.specs.Progress.{IsBehind, reading}
use Rattle.book_reader.specs.Shelved.{Setting, whole_library}
use Rattle.book_reader.specs.Shelves.{ShelfState}
use Rattle.book_reader.specs.Stacks.{Rest, books_of, walk_stack}
use Rattle.book_reader.specs.Walkers.{AreDistinct, AreKnown, AreOpen, IsAmong, LeadsTo, Open, books_in, has, has_key, lefts_of, rest_behind}
use Rattle.book_reader.proofs.Keys.{IsNew, any_more, apart, is_new, known_last, not_open, second_false}
use Rattle.book_reader.proofs.Leading.{lead_found, lead_pending, rests_books, stepped}
use Rattle.book_reader.proofs.Stacks.{stack_open, stack_pass, stack_put, then_passes}

-- ---- needs

abbrev pub is_passed : Standing → Bool → Type 0
is_passed Current false = Unit {0}
is_passed WasRead d = Unit {0}
is_passed s d = ⊥

pub by_passed : (s : Standing) (d : Bool) (spot : Spot) (known : List (List ℕ)) (new : Walk) → is_passed s d → by_standing s d spot known new ≡ passes known
by_passed Current true spot known new is = absurd is
by_passed Current false spot known new is = refl
by_passed Below d spot known new is = absurd is
by_passed WasRead d spot known new is = refl
by_passed New d spot known new is = absurd is

abbrev pub is_looped : Standing → Bool → Type 0
is_looped Current true = Unit {0}
is_looped Below d = Unit {0}
is_looped s d = ⊥

pub by_looped : (s : Standing) (d : Bool) (spot : Spot) (known : List (List ℕ)) (new : Walk) → is_looped s d → by_standing s d spot known new ≡ stopped (refused_at spot E14)
by_looped Current true spot known new is = refl
by_looped Current false spot known new is = absurd is
by_looped Below d spot known new is = refl
by_looped WasRead d spot known new is = absurd is
by_looped New d spot known new is = absurd is

known_same : (known : List (List ℕ)) (o p : Open) (os : List Open) → p.book ≡ o.book → AreKnown known (o ∷ os) → AreKnown known (p ∷ os)
known_same known o p [] same are = tt
known_same known o p (q ∷ os) same are = ((are.0.0, same ∙ are.0.1, are.0.2), are.1)

module _ (s : Setting) where
  -- ---- an item was read
  pub found : (o p : Open) (os : List Open) (known : List (List ℕ)) (before after : ShelfState) (done : List Placed) (c : WrittenCommand)
      → p.book ≡ o.book → o.pending ≡ [] → p.pending ≡ steps_of c
      → ((bytes : List ℕ) (d : List WrittenCommand) → IsBehind s.limits bytes d before.left o.reader → IsBehind s.limits bytes (d ++ c ∷ []) after.left p.reader)
      → after.aside ≡ before.aside
      → IsAmong s done (o ∷ os) known before → IsAmong s done (p ∷ os) known after
  found o p os known before after done c same none new goes aside st = by_dones st.dones st.on_shelf st.leads where
    by_dones : (dones : List (List WrittenCommand)) → AreOpen s (o ∷ os) dones (lefts_of before) → LeadsTo s (o ∷ os) known dones done → IsAmong s done (p ∷ os) known after
    by_dones [] open_so leads = absurd open_so
    by_dones (d ∷ ds) open_so leads = record {
      dones = (d ++ c ∷ []) ∷ ds;
      on_shelf = (
        record {
          bytes = open_so.0.bytes;
          has_book = ap (λ b. book_of s.books (s.named b)) same ∙ open_so.0.has_book;
          behind = goes open_so.0.bytes d open_so.0.behind;
        },
        subst (AreOpen s os ds) (sym aside) open_so.1,
      );
      distinct = subst (λ b. AreDistinct (b ∷ books_in os)) (sym same) st.distinct;
      are_known = known_same known o p os same st.are_known;
      leads = lead_found s o p os known d c ds done same none new leads;
    }

  -- ---- a step that is pending is gone through
  pub gone_through : (o p : Open) (os : List Open) (known : List (List ℕ)) (shelf : ShelfState) (done cs : List Placed) (x : BookStep)
      → p.book ≡ o.book → p.reader ≡ o.reader → o.pending ≡ x ∷ p.pending
      → ((lib : Library) (room : ℕ) (ss : List BookStep) (tail : BookTail) (rs : List Rest) → books_of rs ≡ books_in os
      → walk_stack s.most s.own lib room (record { book = o.book; steps = x ∷ ss; tail = tail } ∷ rs) known ≡ with_commands cs (walk_stack s.most s.own lib room (record { book = o.book; steps = ss; tail = tail } ∷ rs) known))
      → IsAmong s done (o ∷ os) known shelf → IsAmong s (done ++ cs) (p ∷ os) known shelf
  gone_through o p os known shelf done cs x same same_reader pending takes st = by_dones st.dones st.on_shelf st.leads where
    by_dones : (dones : List (List WrittenCommand)) → AreOpen s (o ∷ os) dones (lefts_of shelf) → LeadsTo s (o ∷ os) known dones done → IsAmong s (done ++ cs) (p ∷ os) known shelf
    by_dones [] open_so leads = absurd open_so
    by_dones (d ∷ ds) open_so leads = record {
      dones = d ∷ ds;
      on_shelf = (
        record {
          bytes = open_so.0.bytes;
          has_book = ap (λ b. book_of s.books (s.named b)) same ∙ open_so.0.has_book;
          behind = subst (IsBehind s.limits open_so.0.bytes d shelf.left) (sym same_reader) open_so.0.behind;
        },
        open_so.1,
      );
      distinct = subst (λ b. AreDistinct (b ∷ books_in os)) (sym same) st.distinct;
      are_known = known_same known o p os same st.are_known;
      leads = lead_pending s o p os known d ds done (done ++ cs) cs x refl same pending takes leads;
    }

  -- what a need comes to, by how its module stands
  pub needs_are : (lib : Library) (room : ℕ) (book : Key) (line : ℕ) (m : List ℕ) (d : Bool) (os : List Open) (known : List (List ℕ)) (rs : List Rest) (how : Standing)
      → books_of rs ≡ books_in os → standing_of s.own book (books_in os) known m ≡ how
      → needs_in s.most s.own lib room (books_of rs) book d line m known ≡ by_standing how d (record { book = book; line = line }) known (walk_new s.most s.own lib room book (books_of rs) line m known)
  needs_are lib room book line m d os known rs how below is =
      ap (λ x. by_standing x d (record { book = book; line = line }) known (walk_new s.most s.own lib room book (books_of rs) line m known)) (ap (λ bs. standing_of s.own book bs known m) below ∙ is)

  -- a need that changes nothing
  pub passed : (o p : Open) (os : List Open) (known : List (List ℕ)) (shelf : ShelfState) (done : List Placed) (d : Bool) (line : ℕ) (m : List ℕ) (how : Standing)
      → standing_of s.own o.book (books_in os) known m ≡ how → is_passed how d
      → p.book ≡ o.book → p.reader ≡ o.reader → o.pending ≡ need d line m ∷ p.pending
      → IsAmong s done (o ∷ os) known shelf → IsAmong s done (p ∷ os) known shelf
  passed o p os known shelf done d line m how is passes_so same same_reader pending st =
      subst (λ l. IsAmong s l (p ∷ os) known shelf) (append-nil done)
      (gone_through o p os known shelf done [] (need d line m) same same_reader pending
      (λ lib room ss tail rs below. stack_pass s.most s.own lib room o.book line m d ss tail rs known
      (needs_are lib room o.book line m d os known rs how below is ∙ by_passed how d (record { book = o.book; line = line }) known (walk_new s.most s.own lib room o.book (books_of rs) line m known) passes_so))
      st)

  -- a command was taken
  pub taken : (o p : Open) (os : List Open) (known : List (List ℕ)) (shelf : ShelfState) (done : List Placed) (c : WrittenCommand)
      → p.book ≡ o.book → p.reader ≡ o.reader → o.pending ≡ put c ∷ p.pending
      → IsAmong s done (o ∷ os) known shelf → IsAmong s (done ++ record { book = p.book; command = c } ∷ []) (p ∷ os) known shelf
  taken o p os known shelf done c same same_reader pending st =
      subst (λ b. IsAmong s (done ++ record { book = b; command = c } ∷ []) (p ∷ os) known shelf) (sym same)
      (gone_through o p os known shelf done (record { book = o.book; command = c } ∷ []) (put c) same same_reader pending
      (λ lib room ss tail rs below. stack_put s.most s.own lib room o.book c ss tail rs known) st)

  -- ---- a module is opened

  more_known : (os : List Open) (known : List (List ℕ)) (m : List ℕ) → AreKnown known os → AreKnown (known ++ m ∷ []) os
  more_known [] known m are = tt
  more_known (o ∷ []) known m are = tt
  more_known (o ∷ p ∷ os) known m are = ((are.0.0, are.0.1, any_more known m are.0.0 are.0.2), more_known (p ∷ os) known m are.1)

  lead_open : (o p n : Open) (os : List Open) (known : List (List ℕ)) (d : List WrittenCommand) (ds : List (List WrittenCommand)) (done : List Placed) (directive : Bool) (line : ℕ) (m : List ℕ)
      → standing_of s.own o.book (books_in os) known m ≡ New → has known m ≡ false → length (o ∷ os) < s.most.files → nat_le s.most.modules (length known) ≡ false
      → p.book ≡ o.book → o.pending ≡ need directive line m ∷ p.pending → n.book ≡ Some m → n.pending ≡ []
      → LeadsTo s (o ∷ os) known (d ∷ ds) done
      → LeadsTo s (n ∷ p ∷ os) (known ++ m ∷ []) ([] ∷ d ∷ ds) done
  lead_open o p n os known d ds done directive line m new unknown room few same pending is_m idle leads lib [] agrees = absurd agrees.rests_are
  lead_open o p n os known d ds done directive line m new unknown room few same pending is_m idle leads lib (rn ∷ []) agrees = absurd agrees.rests_are.1
  lead_open o p n os known d ds done directive line m new unknown room few same pending is_m idle leads lib (rn ∷ rp ∷ rs) agrees =
      let isn = agrees.rests_are.0 in
      let isp = agrees.rests_are.1.0 in
      let below = rests_books lib os ds rs agrees.rests_are.1.1 in
      let next_room = s.most.files - length (n ∷ p ∷ os) in
      let room_is : s.most.files - length (o ∷ os) ≡ suc next_room = omega (arith, room) in
      let walk : List Rest → ℕ → List (List ℕ) → Walk = λ q k known. with_commands done (walk_stack s.most s.own lib k q known) in
      leads lib (rest_behind o isp.later isp.reading.tail ∷ rs) (record {
        closed = λ k is_known not_so. agrees.closed k (any_more known m k is_known)
            (ap (λ b. has_key (b ∷ books_in (p ∷ os)) (Some k)) is_m
            ∙ ap (λ b. b || has_key (books_in (p ∷ os)) (Some k)) (apart known m k unknown is_known)
            ∙ ap (λ b. has_key (b ∷ books_in os) (Some k)) same ∙ not_so);
        rests_are = (
          record {
            reading = isp.reading;
            book_is = ap lib (sym same) ∙ isp.book_is;
            later = isp.later;
            begins = isp.begins;
            rest_is = refl;
          },
          agrees.rests_are.1.1,
        );
      })
      ∙ ap (λ k. walk (rest_behind o isp.later isp.reading.tail ∷ rs) k known) room_is
      ∙ ap (λ q. walk (q ∷ rs) (suc next_room) known) (stepped s o (need directive line m ∷ p.pending) isp.later isp.reading.tail pending)
      ∙ ap (with_commands done) (stack_open s.most s.own lib next_room o.book line m directive (p.pending ++ steps_in isp.later) isp.reading.tail rs known isn.reading
      (ap (λ bs. standing_of s.own o.book bs known m) below ∙ new) few (ap lib (sym is_m) ∙ isn.book_is))
      ∙ ap (λ q. walk (q ∷ record { book = o.book; steps = p.pending ++ steps_in isp.later; tail = isp.reading.tail } ∷ rs) next_room (known ++ m ∷ []))
      (ap (λ b. let x : Rest = record { book = b; steps = steps_in isn.reading.items; tail = isn.reading.tail } in x) (sym is_m)
      ∙ ap (λ l. let x : Rest = record { book = n.book; steps = steps_in l; tail = isn.reading.tail } in x) isn.begins
      ∙ ap (λ l. let x : Rest = record { book = n.book; steps = l ++ steps_in isn.later; tail = isn.reading.tail } in x) (sym idle)
      ∙ sym isn.rest_is)
      ∙ ap (λ q. walk (rn ∷ q ∷ rs) next_room (known ++ m ∷ []))
      (ap (λ b. let x : Rest = record { book = b; steps = p.pending ++ steps_in isp.later; tail = isp.reading.tail } in x) (sym same) ∙ sym isp.rest_is)

  -- a module is opened
  -- a book was opened, and nothing was read of it
  pub record OpensNew (n : Open) (os : List Open) (known : List (List ℕ)) (shelf : ShelfState) (done : List Placed) : Type 0 where
    pub dones : List (List WrittenCommand)
    pub on_shelf : AreOpen s (n ∷ os) ([] ∷ dones) (lefts_of shelf)
    pub distinct : AreDistinct (books_in (n ∷ os))
    pub are_known : AreKnown known (n ∷ os)
    pub leads : LeadsTo s (n ∷ os) known ([] ∷ dones) done

  pub opened_new : (o p n : Open) (os : List Open) (known : List (List ℕ)) (before after : ShelfState) (done : List Placed) (directive : Bool) (line : ℕ) (m : List ℕ)
      → standing_of s.own o.book (books_in os) known m ≡ New → length (o ∷ os) < s.most.files → nat_le s.most.modules (length known) ≡ false
      → p.book ≡ o.book → p.reader ≡ o.reader → o.pending ≡ need directive line m ∷ p.pending
      → n.book ≡ Some m → n.pending ≡ [] → ((bytes : List ℕ) → IsBehind s.limits bytes [] (Some bytes) n.reader)
      → Opens (Some s.books) (s.named (Some m)) after.left → after.aside ≡ before.left ∷ before.aside
      → IsAmong s done (o ∷ os) known before
      → OpensNew n (p ∷ os) (known ++ m ∷ []) after done
  opened_new o p n os known before after done directive line m new room few same same_reader pending is_m idle fresh opens aside st = by_dones st.dones st.on_shelf st.leads where
    is : IsNew s.own o.book (books_in os) known m
    is = is_new s.own o.book (books_in os) known m new

    by_dones : (dones : List (List WrittenCommand)) → AreOpen s (o ∷ os) dones (lefts_of before) → LeadsTo s (o ∷ os) known dones done → OpensNew n (p ∷ os) (known ++ m ∷ []) after done
    by_dones [] open_so leads = absurd open_so
    by_dones (d ∷ ds) open_so leads = record {
      dones = d ∷ ds;
      on_shelf = (
        record {
          bytes = opens.0;
          has_book = ap (λ b. book_of s.books (s.named b)) is_m ∙ opens.1;
          behind = subst (λ l. IsBehind s.limits opens.0 [] l n.reader) (sym opens.2) (fresh opens.0);
        },
        subst (AreOpen s (p ∷ os) (d ∷ ds)) (sym aside) (
          record {
            bytes = open_so.0.bytes;
            has_book = ap (λ b. book_of s.books (s.named b)) same ∙ open_so.0.has_book;
            behind = subst (IsBehind s.limits open_so.0.bytes d before.left) (sym same_reader) open_so.0.behind;
          },
          open_so.1,
        ),
      );
      distinct = (
        ap (has_key (books_in (p ∷ os))) is_m ∙ ap (λ b. has_key (b ∷ books_in os) (Some m)) same ∙ not_open s.own o.book (books_in os) known m is,
        subst (λ b. AreDistinct (b ∷ books_in os)) (sym same) st.distinct,
      );
      are_known = ((m, is_m, known_last known m), more_known (p ∷ os) known m (known_same known o p os same st.are_known));
      leads = lead_open o p n os known d ds done directive line m new is.unknown room few same pending is_m idle leads;
    }

  -- ---- the end of a book that another needs

  -- what a book is read as that was read to its end
  pub whole_reading : (bytes : List ℕ) (d : List WrittenCommand) → read s.limits bytes tokens.whole ≡ reading d tail.whole
      → book_reading s.limits bytes tokens.whole ≡ (let r : BookReading = record { items = d; tail = whole } in r)
  whole_reading bytes d is =
      ap (λ (r : Reading). let x : BookReading = record { items = r.commands; tail = book_tail (due_line s.limits bytes) r.tail } in x) is

  pub given_up : (o q : Open) (os : List Open) (known : List (List ℕ)) (before after : ShelfState) (done : List Placed)
      → ((bytes : List ℕ) (d : List WrittenCommand) → IsBehind s.limits bytes d before.left o.reader → read s.limits bytes tokens.whole ≡ reading d tail.whole)
      → o.pending ≡ [] → before.aside ≡ after.left ∷ after.aside → length (o ∷ q ∷ os) ≤ s.most.files
      → IsAmong s done (o ∷ q ∷ os) known before → IsAmong s done (q ∷ os) known after
  given_up o q os known before after done ended none aside few st = by_dones st.dones st.on_shelf st.leads where
    m : List ℕ
    m = st.are_known.0.0

    by_dones : (dones : List (List WrittenCommand)) → AreOpen s (o ∷ q ∷ os) dones (lefts_of before) → LeadsTo s (o ∷ q ∷ os) known dones done → IsAmong s done (q ∷ os) known after
    by_dones [] open_so leads = absurd open_so
    by_dones (d ∷ ds) open_so leads = record {
      dones = ds;
      on_shelf = subst (AreOpen s (q ∷ os) ds) aside open_so.1;
      distinct = st.distinct.1;
      are_known = st.are_known.1;
      leads = λ lib rests agrees.
          let room = s.most.files - length (o ∷ q ∷ os) in
          let room_is : suc room ≡ s.most.files - length (q ∷ os) = omega (arith, few) in
          let is_whole = whole_reading open_so.0.bytes d (ended open_so.0.bytes d open_so.0.behind) in
          let x : BookReading = record { items = d; tail = whole } in
          leads lib (rest_behind o [] whole ∷ rests) (record {
            closed = λ k is_known not_so. agrees.closed k is_known (second_false _ (has_key (books_in (q ∷ os)) (Some k)) not_so);
            rests_are = (
              record {
                reading = x;
                book_is = ap lib st.are_known.0.1
                    ∙ agrees.closed m st.are_known.0.2 (subst (λ k. has_key (books_in (q ∷ os)) k ≡ false) st.are_known.0.1 st.distinct.0)
                    ∙ ap (whole_library s) (sym st.are_known.0.1)
                    ∙ ap (read_whole s.limits) open_so.0.has_book
                    ∙ ap opened is_whole;
                later = [];
                begins = sym (append-nil d);
                rest_is = refl;
              },
              agrees.rests_are,
            );
          })
          ∙ ap (λ r. with_commands done (walk_stack s.most s.own lib room (r ∷ rests) known)) (stepped s o [] [] whole none)
          ∙ ap (λ k. with_commands done (walk_stack s.most s.own lib k rests known)) room_is;
    }

  -- ---- the first turn
  pub begins_walk : (o : Open) (shelf : ShelfState) → o.book ≡ None → o.pending ≡ [] → ((bytes : List ℕ) → IsBehind s.limits bytes [] (Some bytes) o.reader)
      → Opens (Some s.books) (s.named None) shelf.left → IsAmong s [] (o ∷ []) [] shelf
  begins_walk o shelf is idle fresh opens = record {
    dones = [] ∷ [];
    on_shelf = (
      record {
        bytes = opens.0;
        has_book = ap (λ b. book_of s.books (s.named b)) is ∙ opens.1;
        behind = subst (λ l. IsBehind s.limits opens.0 [] l o.reader) (sym opens.2) (fresh opens.0);
      },
      tt,
    );
    distinct = (refl, tt);
    are_known = tt;
    leads = lead_begin;
  } where
    lead_begin : LeadsTo s (o ∷ []) [] ([] ∷ []) []
    lead_begin lib [] agrees = absurd agrees.rests_are
    lead_begin lib (r ∷ q ∷ rs) agrees = absurd agrees.rests_are.1
    lead_begin lib (r ∷ []) agrees =
        let a = agrees.rests_are.0 in
        ap (walk_file s.most s.own lib) (ap lib (sym is) ∙ a.book_is)
        ∙ sym (then_passes (walk_steps (needs_in s.most s.own lib (s.most.files - 1) [] None) None (steps_in a.reading.items) a.reading.tail []))
        ∙ ap (λ q. walk_stack s.most s.own lib (s.most.files - 1) (q ∷ []) [])
        (ap (λ b. let x : Rest = record { book = b; steps = steps_in a.reading.items; tail = a.reading.tail } in x) (sym is)
        ∙ ap (λ l. let x : Rest = record { book = o.book; steps = steps_in l; tail = a.reading.tail } in x) a.begins
        ∙ ap (λ l. let x : Rest = record { book = o.book; steps = l ++ steps_in a.later; tail = a.reading.tail } in x) (sym idle)
        ∙ sym a.rest_is)

pub among_at : (s : Setting) (done : List Placed) (os ps : List Open) (known more : List (List ℕ)) (shelf : ShelfState) → ps ≡ os → more ≡ known
    → IsAmong s done os known shelf → IsAmong s done ps more shelf
among_at s done os ps known more shelf one two st =
    subst (λ ps. IsAmong s done ps more shelf) (sym one) (subst (λ more. IsAmong s done os more shelf) (sym two) st)
