-- What an end says of the whole books and of the bytes given.
use Rattle.std.proofs.Common.{◌≡◌, inl, inr, ℕ, suc, ◌-◌, ◌<◌, ◌≤◌, Bool, true, false, List, [], ◌∷◌, ◌++◌, length, take, refl, sym, ap, subst, ◌∙◌, append-nil, arith, nat_le, Option, Some}
use Rattle.std.specs.Prelude.{if◌then◌else◌, ◌⊎◌}
use Rattle.dk_model.specs.declared.code.Code.{Code}
use Rattle.dk_model.specs.declared.code.Code.TheVariants.{E14, E15, E16}
use Rattle.dk_lexer.specs.Tokens as tokens
use Rattle.dk_parser.specs.FileReading.{Reading, read}
use Rattle.dk_parser.specs.FileReading as tail
use Rattle.dk_parser.specs.Written.{WrittenCommand}
use Rattle.theory_walk.specs.declared.needs.Standing.{Standing}
use Rattle.theory_walk.specs.declared.needs.Standing.TheVariants.{New}
use Rattle.theory_walk.specs.BookReadings.{book_reading, book_tail, due_line, read_whole}
use Rattle.theory_walk.specs.Libraries.{BookReading, BookStep, BookTail, Key, Library, fault, need, opened, steps_in, unopened, unread, whole}
use Rattle.theory_walk.specs.Lines.{IsNextLine}
use Rattle.theory_walk.specs.Walks.{End, Placed, Reached, Spot, Walk, ends, goes_on, needs_in, not_opened, refused_at, standing_of, stopped, unread_at, walk_new, walk_opened, with_commands}
use Rattle.file_reader.specs.Progress.{IsBehind, IsUnread, ending_at, reading}
use Rattle.book_reader.specs.Ends.{BeginsWalk, walk_with}
use Rattle.book_reader.specs.Shelved.{AreLeft, Given, IsCut, MemoryDue, Setting, cut_behind, given_library, same_key, walk_in, whole_library, without}
use Rattle.book_reader.specs.Shelves.{ShelfState}
use Rattle.book_reader.specs.Stacks.{Rest, books_of, walk_stack}
use Rattle.book_reader.specs.Walkers.{Agrees, AreDistinct, AreOpen, AreRests, IsAmong, LeadsTo, Open, books_in, has, has_key, lefts_of, rest_behind, stack_in}
use Rattle.book_reader.proofs.Given.{begins_given, begins_whole, first_line_is}
use Rattle.book_reader.proofs.Keys.{apart, apart_keys, first_false, has_first, has_later, is_new, not_open, own_key, second_false}
use Rattle.book_reader.proofs.Leading.{rests_books, stepped}
use Rattle.book_reader.proofs.Stacks.{stack_stop}
use Rattle.book_reader.proofs.Turning.{OpensNew, by_looped, is_looped, needs_are, whole_reading}

pub plain_commands : (done : List Placed) (r : Reached) → with_commands done (record { commands = []; reached = r }) ≡ walk_with done r
plain_commands done r = ap (λ l. let w : Walk = record { commands = l; reached = r } in w) (append-nil done)

-- ---- the same rests in another library

pub same_rests : (lib other : Library) (os : List Open) (ds : List (List WrittenCommand)) (rs : List Rest) → ((k : Key) → has_key (books_in os) k ≡ true → other k ≡ lib k) → AreRests lib os ds rs → AreRests other os ds rs
same_rests lib other [] [] [] same are = tt
same_rests lib other (o ∷ os) (d ∷ ds) (r ∷ rs) same are = (
  record {
    reading = are.0.reading;
    book_is = same o.book (has_first o.book (books_in os)) ∙ are.0.book_is;
    later = are.0.later;
    begins = are.0.begins;
    rest_is = are.0.rest_is;
  },
  same_rests lib other os ds rs (λ k is. same k (has_later o.book k (books_in os) is)) are.1,
)
same_rests lib other os ds rs same are = absurd are

module _ (s : Setting) where
  -- ---- the whole books

  pub rests_whole : (os : List Open) (ds : List (List WrittenCommand)) (lefts : List (Option (List ℕ))) → AreOpen s os ds lefts → (rests : List Rest) × AreRests (whole_library s) os ds rests
  rests_whole [] [] lefts are = ([], tt)
  rests_whole [] (d ∷ ds) lefts are = absurd are
  rests_whole (o ∷ os) [] lefts are = absurd are
  rests_whole (o ∷ os) (d ∷ ds) [] are = absurd are
  rests_whole (o ∷ os) (d ∷ ds) (l ∷ lefts) are =
      let later = rests_whole os ds lefts are.1 in
      let b = begins_whole s.limits are.0.bytes d l o.reader are.0.behind in (
        rest_behind o b.0 (book_reading s.limits are.0.bytes tokens.whole).tail ∷ later.0,
        (
          record {
            reading = book_reading s.limits are.0.bytes tokens.whole;
            book_is = ap (read_whole s.limits) are.0.has_book;
            later = b.0;
            begins = b.1;
            rest_is = refl;
          },
          later.1,
        ),
      )

  pub agrees_whole : (os : List Open) (known : List (List ℕ)) (ds : List (List WrittenCommand)) (lefts : List (Option (List ℕ))) → AreOpen s os ds lefts → (rests : List Rest) × Agrees (whole_library s) (whole_library s) os known ds rests
  agrees_whole os known ds lefts are = let r = rests_whole os ds lefts are in (r.0, record { closed = λ m is_known not_so. refl; rests_are = r.1 })

  pub begins_so : (os : List Open) (known : List (List ℕ)) (shelf : ShelfState) (done : List Placed) → IsAmong s done os known shelf → BeginsWalk s done
  begins_so os known shelf done st =
      let a = agrees_whole os known st.dones (lefts_of shelf) st.on_shelf in
      let rest = stack_in s (whole_library s) os a.0 known in
      (rest.commands, ap (λ (w : Walk). w.commands) (st.leads (whole_library s) a.0 a.1))

  -- ---- the book being read comes to an end in its whole bytes

  -- in the whole books nothing is left of it but this tail
  pub whole_walk : (o : Open) (os : List Open) (known : List (List ℕ)) (shelf : ShelfState) (done : List Placed) (t : BookTail)
      → o.pending ≡ []
      → ((bytes : List ℕ) (d : List WrittenCommand) → IsBehind s.limits bytes d shelf.left o.reader → book_reading s.limits bytes tokens.whole ≡ (let r : BookReading = record { items = d; tail = t } in r))
      → IsAmong s done (o ∷ os) known shelf
      → (rs : List Rest) × (ds : List (List WrittenCommand)) × AreRests (whole_library s) os ds rs
      × (walk_in s (whole_library s) ≡ with_commands done (walk_stack s.most s.own (whole_library s) (s.most.files - length (o ∷ os)) (record { book = o.book; steps = []; tail = t } ∷ rs) known))
  whole_walk o os known shelf done t none comes st = by_dones st.dones st.on_shelf st.leads where
    by_dones : (dones : List (List WrittenCommand)) → AreOpen s (o ∷ os) dones (lefts_of shelf) → LeadsTo s (o ∷ os) known dones done
        → (rs : List Rest) × (ds : List (List WrittenCommand)) × AreRests (whole_library s) os ds rs
        × (walk_in s (whole_library s) ≡ with_commands done (walk_stack s.most s.own (whole_library s) (s.most.files - length (o ∷ os)) (record { book = o.book; steps = []; tail = t } ∷ rs) known))
    by_dones [] open_so leads = absurd open_so
    by_dones (d ∷ ds) open_so leads =
        let r = rests_whole os ds shelf.aside open_so.1 in
        let x : BookReading = record { items = d; tail = t } in (
          r.0,
          ds,
          r.1,
          leads (whole_library s) (rest_behind o [] t ∷ r.0) (record {
            closed = λ m is_known not_so. refl;
            rests_are = (
              record {
                reading = x;
                book_is = ap (read_whole s.limits) open_so.0.has_book ∙ ap opened (comes open_so.0.bytes d open_so.0.behind);
                later = [];
                begins = sym (append-nil d);
                rest_is = refl;
              },
              r.1,
            );
          })
              ∙ ap (λ r0. with_commands done (walk_stack s.most s.own (whole_library s) (s.most.files - length (o ∷ os)) (r0 ∷ r.0) known)) (stepped s o [] [] t none),
        )

  no_rests : (lib : Library) (ds : List (List WrittenCommand)) (rs : List Rest) → AreRests lib [] ds rs → rs ≡ []
  no_rests lib [] [] are = refl
  no_rests lib ds rs are = absurd are

  -- the end of the file
  pub file_ended : (o : Open) (known : List (List ℕ)) (shelf : ShelfState) (done : List Placed) → o.pending ≡ []
      → ((bytes : List ℕ) (d : List WrittenCommand) → IsBehind s.limits bytes d shelf.left o.reader → read s.limits bytes tokens.whole ≡ reading d tail.whole)
      → IsAmong s done (o ∷ []) known shelf → walk_in s (whole_library s) ≡ walk_with done (goes_on known)
  file_ended o known shelf done none ended st =
      let w = whole_walk o [] known shelf done whole none (λ bytes d b. whole_reading s bytes d (ended bytes d b)) st in
      w.3
      ∙ ap (λ rs. with_commands done (walk_stack s.most s.own (whole_library s) (s.most.files - 1) (record { book = o.book; steps = []; tail = whole } ∷ rs) known)) (no_rests (whole_library s) w.1 w.0 w.2)
      ∙ plain_commands done (goes_on known)

  fault_reading : (bytes : List ℕ) (d : List WrittenCommand) (line : ℕ) (code : Code) → read s.limits bytes tokens.whole ≡ reading d (tail.fault line code)
      → book_reading s.limits bytes tokens.whole ≡ (let r : BookReading = record { items = d; tail = fault line code } in r)
  fault_reading bytes d line code is = ap (λ (r : Reading). let x : BookReading = record { items = r.commands; tail = book_tail (due_line s.limits bytes) r.tail } in x) is

  -- a fault of the bytes
  pub faulted : (o : Open) (os : List Open) (known : List (List ℕ)) (shelf : ShelfState) (done : List Placed) (line : ℕ) (code : Code) → o.pending ≡ []
      → ((bytes : List ℕ) (d : List WrittenCommand) → IsBehind s.limits bytes d shelf.left o.reader → read s.limits bytes tokens.whole ≡ reading d (tail.fault line code))
      → IsAmong s done (o ∷ os) known shelf
      → walk_in s (whole_library s) ≡ walk_with done (ends (refused_at (record { book = o.book; line = line }) code))
  faulted o os known shelf done line code none ended st =
      let w = whole_walk o os known shelf done (fault line code) none (λ bytes d b. fault_reading bytes d line code (ended bytes d b)) st in
      w.3 ∙ plain_commands done (ends (refused_at (record { book = o.book; line = line }) code))

  -- ---- a need that ends all

  pub need_ends : (lib : Library) (o : Open) (os : List Open) (known : List (List ℕ)) (dones : List (List WrittenCommand)) (done : List Placed) (d : Bool) (line : ℕ) (m : List ℕ) (ss : List BookStep) (e : End) → o.pending ≡ need d line m ∷ ss
      → LeadsTo s (o ∷ os) known dones done
      → (rests : List Rest) → Agrees (whole_library s) lib (o ∷ os) known dones rests
      → ((rs : List Rest) → books_of rs ≡ books_in os → needs_in s.most s.own lib (s.most.files - length (o ∷ os)) (books_of rs) o.book d line m known ≡ stopped e)
      → walk_in s lib ≡ walk_with done (ends e)
  need_ends lib o os known [] done d line m ss e pending leads rests agrees stops = absurd (no_dones rests agrees.rests_are) where
    no_dones : (rests : List Rest) → AreRests lib (o ∷ os) [] rests → ⊥
    no_dones [] are = are
    no_dones (r ∷ rs) are = are
  need_ends lib o os known (x ∷ xs) done d line m ss e pending leads [] agrees stops = absurd agrees.rests_are
  need_ends lib o os known (x ∷ xs) done d line m ss e pending leads (r ∷ rs) agrees stops =
      let is = agrees.rests_are.0 in
      let below = rests_books lib os xs rs agrees.rests_are.1 in
      leads lib (r ∷ rs) agrees
      ∙ ap (λ q. with_commands done (walk_stack s.most s.own lib (s.most.files - length (o ∷ os)) (q ∷ rs) known)) (is.rest_is ∙ stepped s o (need d line m ∷ ss) is.later is.reading.tail pending)
      ∙ ap (with_commands done) (stack_stop s.most s.own lib (s.most.files - length (o ∷ os)) o.book line m d (ss ++ steps_in is.later) is.reading.tail rs known e (stops rs below))
      ∙ plain_commands done (ends e)

  -- it is refused
  need_refused : (o : Open) (os : List Open) (known : List (List ℕ)) (shelf : ShelfState) (done : List Placed) (d : Bool) (line : ℕ) (m : List ℕ) (ss : List BookStep) (code : Code) → o.pending ≡ need d line m ∷ ss
      → ((rs : List Rest) → books_of rs ≡ books_in os → needs_in s.most s.own (whole_library s) (s.most.files - length (o ∷ os)) (books_of rs) o.book d line m known ≡ stopped (refused_at (record { book = o.book; line = line }) code))
      → IsAmong s done (o ∷ os) known shelf
      → walk_in s (whole_library s) ≡ walk_with done (ends (refused_at (record { book = o.book; line = line }) code))
  need_refused o os known shelf done d line m ss code pending stops st =
      let a = agrees_whole (o ∷ os) known st.dones (lefts_of shelf) st.on_shelf in
      need_ends (whole_library s) o os known st.dones done d line m ss (refused_at (record { book = o.book; line = line }) code) pending st.leads a.0 a.1 stops

  pub need_looped : (o : Open) (os : List Open) (known : List (List ℕ)) (shelf : ShelfState) (done : List Placed) (d : Bool) (line : ℕ) (m : List ℕ) (ss : List BookStep) (how : Standing) → o.pending ≡ need d line m ∷ ss
      → standing_of s.own o.book (books_in os) known m ≡ how → is_looped how d
      → IsAmong s done (o ∷ os) known shelf
      → walk_in s (whole_library s) ≡ walk_with done (ends (refused_at (record { book = o.book; line = line }) E14))
  need_looped o os known shelf done d line m ss how pending is loops =
      need_refused o os known shelf done d line m ss E14 pending
      (λ rs below. needs_are s (whole_library s) (s.most.files - length (o ∷ os)) o.book line m d os known rs how below is
      ∙ by_looped how d (record { book = o.book; line = line }) known (walk_new s.most s.own (whole_library s) (s.most.files - length (o ∷ os)) o.book (books_of rs) line m known) loops)

  pub too_many_files : (o : Open) (os : List Open) (known : List (List ℕ)) (shelf : ShelfState) (done : List Placed) (d : Bool) (line : ℕ) (m : List ℕ) (ss : List BookStep) → o.pending ≡ need d line m ∷ ss
      → standing_of s.own o.book (books_in os) known m ≡ New → s.most.files ≤ length (o ∷ os)
      → IsAmong s done (o ∷ os) known shelf
      → walk_in s (whole_library s) ≡ walk_with done (ends (refused_at (record { book = o.book; line = line }) E15))
  too_many_files o os known shelf done d line m ss pending is many =
      let none : s.most.files - length (o ∷ os) ≡ 0 = omega (arith, many) in
      need_refused o os known shelf done d line m ss E15 pending
      (λ rs below. needs_are s (whole_library s) (s.most.files - length (o ∷ os)) o.book line m d os known rs New below is
      ∙ ap (λ k. walk_new s.most s.own (whole_library s) k o.book (books_of rs) line m known) none)

  room_left : (os : List Open) → length os < s.most.files → s.most.files - length os ≡ suc (s.most.files - length os - 1)
  room_left os few = omega (arith, few)

  pub too_many_modules : (o : Open) (os : List Open) (known : List (List ℕ)) (shelf : ShelfState) (done : List Placed) (d : Bool) (line : ℕ) (m : List ℕ) (ss : List BookStep) → o.pending ≡ need d line m ∷ ss
      → standing_of s.own o.book (books_in os) known m ≡ New → length (o ∷ os) < s.most.files → nat_le s.most.modules (length known) ≡ true
      → IsAmong s done (o ∷ os) known shelf
      → walk_in s (whole_library s) ≡ walk_with done (ends (refused_at (record { book = o.book; line = line }) E16))
  too_many_modules o os known shelf done d line m ss pending is few many =
      let spot : Spot = record { book = o.book; line = line } in
      let left = s.most.files - length (o ∷ os) - 1 in
      need_refused o os known shelf done d line m ss E16 pending
      (λ rs below. needs_are s (whole_library s) (s.most.files - length (o ∷ os)) o.book line m d os known rs New below is
      ∙ ap (λ k. walk_new s.most s.own (whole_library s) k o.book (books_of rs) line m known) (room_left (o ∷ os) few)
      ∙ ap (λ b. if b then stopped (refused_at spot E16) else (walk_opened (needs_in s.most s.own (whole_library s) left (o.book ∷ books_of rs)) spot m (whole_library s (Some m)) known)) many)

  -- the module's book isn't in the library
  pub absent_ends : (lib : Library) (o : Open) (os : List Open) (known : List (List ℕ)) (dones : List (List WrittenCommand)) (done : List Placed) (d : Bool) (line : ℕ) (m : List ℕ) (ss : List BookStep) → o.pending ≡ need d line m ∷ ss
      → standing_of s.own o.book (books_in os) known m ≡ New → length (o ∷ os) < s.most.files → nat_le s.most.modules (length known) ≡ false
      → LeadsTo s (o ∷ os) known dones done → (rests : List Rest) → Agrees (whole_library s) lib (o ∷ os) known dones rests → lib (Some m) ≡ unopened
      → walk_in s lib ≡ walk_with done (ends (not_opened (record { book = o.book; line = line }) m))
  absent_ends lib o os known dones done d line m ss pending is few room leads rests agrees absent =
      let spot : Spot = record { book = o.book; line = line } in
      let left = s.most.files - length (o ∷ os) - 1 in
      need_ends lib o os known dones done d line m ss (not_opened spot m) pending leads rests agrees
      (λ rs below. needs_are s lib (s.most.files - length (o ∷ os)) o.book line m d os known rs New below is
      ∙ ap (λ k. walk_new s.most s.own lib k o.book (books_of rs) line m known) (room_left (o ∷ os) few)
      ∙ ap (λ b. if b then stopped (refused_at spot E16) else (walk_opened (needs_in s.most s.own lib left (o.book ∷ books_of rs)) spot m (lib (Some m)) known)) room
      ∙ ap (λ a. walk_opened (needs_in s.most s.own lib left (o.book ∷ books_of rs)) spot m a known) absent)

  without_other : (lib : Library) (k other : Key) → same_key k other ≡ false → without k lib other ≡ lib other
  without_other lib k other is = ap (λ b. if b then unopened else lib other) is

  without_self : (lib : Library) (k : Key) → without k lib k ≡ unopened
  without_self lib k = ap (λ b. if b then unopened else lib k) (own_key k)

  -- a library that agrees still does without a book that is new
  agrees_without : (lib : Library) (os : List Open) (known : List (List ℕ)) (dones : List (List WrittenCommand)) (rests : List Rest) (m : List ℕ) → has known m ≡ false → has_key (books_in os) (Some m) ≡ false
      → Agrees (whole_library s) lib os known dones rests → Agrees (whole_library s) (without (Some m) lib) os known dones rests
  agrees_without lib os known dones rests m unknown closed agrees = record {
    closed = λ k is_known not_so. without_other lib (Some m) (Some k) (apart known m k unknown is_known) ∙ agrees.closed k is_known not_so;
    rests_are = same_rests lib (without (Some m) lib) os dones rests (λ k is. without_other lib (Some m) k (apart_keys (books_in os) (Some m) k closed is)) agrees.rests_are;
  }

  -- ---- the bytes given

  abbrev pub givens_of : (os : List Open) (ds : List (List WrittenCommand)) (lefts : List (Option (List ℕ))) → AreOpen s os ds lefts → List Given
  givens_of [] [] lefts are = []
  givens_of [] (d ∷ ds) lefts are = []
  givens_of (o ∷ os) [] lefts are = []
  givens_of (o ∷ os) (d ∷ ds) [] are = []
  givens_of (o ∷ os) (d ∷ ds) (l ∷ lefts) are = record { book = o.book; bytes = are.0.behind.given; ending = ending_at o.reader } ∷ givens_of os ds lefts are.1

  pub are_left : (os : List Open) (ds : List (List WrittenCommand)) (lefts : List (Option (List ℕ))) (are : AreOpen s os ds lefts) → AreLeft s (givens_of os ds lefts are) lefts
  are_left [] [] lefts are = tt
  are_left [] (d ∷ ds) lefts are = absurd are
  are_left (o ∷ os) [] lefts are = absurd are
  are_left (o ∷ os) (d ∷ ds) [] are = absurd are
  are_left (o ∷ os) (d ∷ ds) (l ∷ lefts) are =
      let b = are.0.behind in
      ((b.rest, b.left_is, are.0.has_book ∙ ap Some b.bytes_are, b.last), are_left os ds lefts are.1)

  -- a library with one open book more, as far as it was given
  pub rests_cons : (o : Open) (os : List Open) (d : List WrittenCommand) (ds : List (List WrittenCommand)) (g : Given) (gs : List Given) (later : List WrittenCommand) → g.book ≡ o.book → has_key (books_in os) o.book ≡ false
      → (book_reading s.limits g.bytes g.ending).items ≡ d ++ later
      → (rests : List Rest) → AreRests (given_library s gs) os ds rests
      → AreRests (given_library s (g ∷ gs)) (o ∷ os) (d ∷ ds) (rest_behind o later (book_reading s.limits g.bytes g.ending).tail ∷ rests)
  rests_cons o os d ds g gs later same distinct begins rests are = (
    record {
      reading = book_reading s.limits g.bytes g.ending;
      book_is = ap (λ b. if b then opened (book_reading s.limits g.bytes g.ending) else given_library s gs o.book) (ap (λ k. same_key k o.book) same ∙ own_key o.book);
      later = later;
      begins = begins;
      rest_is = refl;
    },
    same_rests (given_library s gs) (given_library s (g ∷ gs)) os ds rests
        (λ k is. ap (λ b. if b then opened (book_reading s.limits g.bytes g.ending) else given_library s gs k)
        (ap (λ x. same_key x k) same ∙ apart_keys (books_in os) o.book k distinct is)) are,
  )

  pub rests_given : (os : List Open) (ds : List (List WrittenCommand)) (lefts : List (Option (List ℕ))) (are : AreOpen s os ds lefts) → AreDistinct (books_in os) → (rests : List Rest) × AreRests (given_library s (givens_of os ds lefts are)) os ds rests
  rests_given [] [] lefts are distinct = ([], tt)
  rests_given [] (d ∷ ds) lefts are distinct = absurd are
  rests_given (o ∷ os) [] lefts are distinct = absurd are
  rests_given (o ∷ os) (d ∷ ds) [] are distinct = absurd are
  rests_given (o ∷ os) (d ∷ ds) (l ∷ lefts) are distinct =
      let later = rests_given os ds lefts are.1 distinct.1 in
      let b = begins_given s.limits are.0.bytes d l o.reader are.0.behind in
      let g : Given = record { book = o.book; bytes = are.0.behind.given; ending = ending_at o.reader } in
      (rest_behind o b.0 (book_reading s.limits g.bytes g.ending).tail ∷ later.0, rests_cons o os d ds g (givens_of os ds lefts are.1) b.0 refl distinct.0 b.1 later.0 later.1)

  -- a book that isn't open is read to its end
  pub not_open_whole : (os : List Open) (ds : List (List WrittenCommand)) (lefts : List (Option (List ℕ))) (are : AreOpen s os ds lefts) (k : Key) → has_key (books_in os) k ≡ false → given_library s (givens_of os ds lefts are) k ≡ whole_library s k
  not_open_whole [] [] lefts are k not_so = refl
  not_open_whole [] (d ∷ ds) lefts are k not_so = absurd are
  not_open_whole (o ∷ os) [] lefts are k not_so = absurd are
  not_open_whole (o ∷ os) (d ∷ ds) [] are k not_so = absurd are
  not_open_whole (o ∷ os) (d ∷ ds) (l ∷ lefts) are k not_so =
      ap (λ b. if b then opened (book_reading s.limits are.0.behind.given (ending_at o.reader)) else given_library s (givens_of os ds lefts are.1) k) (first_false (same_key o.book k) (has_key (books_in os) k) not_so)
      ∙ not_open_whole os ds lefts are.1 k (second_false (same_key o.book k) (has_key (books_in os) k) not_so)

  -- ---- an opening failed

  pub opening_failed : (o : Open) (os : List Open) (known : List (List ℕ)) (before after : ShelfState) (done : List Placed) (d : Bool) (line : ℕ) (m : List ℕ) (ss : List BookStep) → o.pending ≡ need d line m ∷ ss
      → standing_of s.own o.book (books_in os) known m ≡ New → length (o ∷ os) < s.most.files → nat_le s.most.modules (length known) ≡ false
      → after.left ≡ before.left → after.aside ≡ before.aside
      → IsAmong s done (o ∷ os) known before
      → (given : List Given) × AreLeft s given (after.left ∷ after.aside)
      × (walk_in s (without (Some m) (given_library s given)) ≡ walk_with done (ends (not_opened (record { book = o.book; line = line }) m)))
      × (walk_in s (without (Some m) (whole_library s)) ≡ walk_with done (ends (not_opened (record { book = o.book; line = line }) m)))
  opening_failed o os known before after done d line m ss pending is few room left aside st =
      let new = is_new s.own o.book (books_in os) known m is in
      let closed = not_open s.own o.book (books_in os) known m new in
      let given = givens_of (o ∷ os) st.dones (lefts_of before) st.on_shelf in
      let r = rests_given (o ∷ os) st.dones (lefts_of before) st.on_shelf st.distinct in
      let w = agrees_whole (o ∷ os) known st.dones (lefts_of before) st.on_shelf in
      let g : Agrees (whole_library s) (given_library s given) (o ∷ os) known st.dones r.0 = record {
        closed = λ k is_known not_so. not_open_whole (o ∷ os) st.dones (lefts_of before) st.on_shelf (Some k) not_so;
        rests_are = r.1;
      } in (
        given,
        subst (AreLeft s given) (ap (λ l. l ∷ before.aside) (sym left) ∙ ap (λ a. after.left ∷ a) (sym aside)) (are_left (o ∷ os) st.dones (lefts_of before) st.on_shelf),
        absent_ends (without (Some m) (given_library s given)) o os known st.dones done d line m ss pending is few room st.leads r.0
            (agrees_without (given_library s given) (o ∷ os) known st.dones r.0 m new.unknown closed g) (without_self (given_library s given) (Some m)),
        absent_ends (without (Some m) (whole_library s)) o os known st.dones done d line m ss pending is few room st.leads w.0
            (agrees_without (whole_library s) (o ∷ os) known st.dones w.0 m new.unknown closed w.1) (without_self (whole_library s) (Some m)),
      )

  -- ---- a read failed

  pub read_failed : (o : Open) (os : List Open) (known : List (List ℕ)) (before after : ShelfState) (done : List Placed)
      → o.pending ≡ []
      → ((bytes : List ℕ) (d : List WrittenCommand) → IsBehind s.limits bytes d before.left o.reader → IsUnread s.limits bytes d after.left)
      → after.aside ≡ before.aside
      → IsAmong s done (o ∷ os) known before
      → (given : List Given) × AreLeft s given (after.left ∷ after.aside)
      × ((line : ℕ) × (walk_in s (given_library s given) ≡ walk_with done (ends (unread_at (record { book = o.book; line = line })))))
  read_failed o os known before after done none fails aside st = by_dones st.dones st.on_shelf st.leads where
    by_dones : (dones : List (List WrittenCommand)) → AreOpen s (o ∷ os) dones (lefts_of before) → LeadsTo s (o ∷ os) known dones done
        → (given : List Given) × AreLeft s given (after.left ∷ after.aside)
        × ((line : ℕ) × (walk_in s (given_library s given) ≡ walk_with done (ends (unread_at (record { book = o.book; line = line })))))
    by_dones [] open_so leads = absurd open_so
    by_dones (d ∷ ds) open_so leads =
        let u = fails open_so.0.bytes d open_so.0.behind in
        let g : Given = record { book = o.book; bytes = u.0; ending = tokens.broken } in
        let gs = givens_of os ds before.aside open_so.1 in
        let r = rests_given os ds before.aside open_so.1 st.distinct.1 in
        let line = due_line s.limits u.0 in
        let is_unread : book_reading s.limits u.0 tokens.broken ≡ (let x : BookReading = record { items = d; tail = unread line } in x) =
        ap (λ (y : Reading). let x : BookReading = record { items = y.commands; tail = book_tail line y.tail } in x) u.4 in
        let lib = given_library s (g ∷ gs) in (
          g ∷ gs,
          ((u.1, u.3, open_so.0.has_book ∙ ap Some u.2, λ e. absurd (let b : tokens.broken ≡ tokens.whole = e in cc)), subst (AreLeft s gs) (sym aside) (are_left os ds before.aside open_so.1)),
          (
            line,
            leads lib (rest_behind o [] (book_reading s.limits u.0 tokens.broken).tail ∷ r.0) (record {
              closed = λ k is_known not_so.
                  ap (λ b. if b then opened (book_reading s.limits u.0 tokens.broken) else given_library s gs (Some k)) (first_false (same_key o.book (Some k)) (has_key (books_in os) (Some k)) not_so)
                  ∙ not_open_whole os ds before.aside open_so.1 (Some k) (second_false (same_key o.book (Some k)) (has_key (books_in os) (Some k)) not_so);
              rests_are = rests_cons o os d ds g gs [] refl st.distinct.0 (ap (λ (x : BookReading). x.items) is_unread ∙ sym (append-nil d)) r.0 r.1;
            })
                ∙ ap (λ q. with_commands done (walk_stack s.most s.own lib (s.most.files - length (o ∷ os)) (q ∷ r.0) known))
                (stepped s o [] [] (book_reading s.limits u.0 tokens.broken).tail none
                ∙ ap (λ (x : BookReading). let q : Rest = record { book = o.book; steps = []; tail = x.tail } in q) is_unread)
                ∙ plain_commands done (ends (unread_at (record { book = o.book; line = line }))),
          ),
        )

  -- ---- memory ended

  -- the whole books, but this one is cut
  abbrev pub cut_library : Key → BookReading → Library
  cut_library book r k = if same_key book k then opened r else whole_library s k

  cut_by : (book : Key) (r : BookReading) (k : Key) (b : Bool) → same_key book k ≡ b → IsCut s book (opened r)
      → ((if b then opened r else whole_library s k) ≡ whole_library s k) ⊎ (((if b then opened r else whole_library s k) ≡ unopened) ⊎ IsCut s k (if b then opened r else whole_library s k))
  cut_by book r k true is cut = inr (inr (subst (λ x. IsCut s x (opened r)) (Rattle.book_reader.proofs.Keys.key_is book k is) cut))
  cut_by book r k false is cut = inl refl

  front_taken : (d later : List WrittenCommand) → take (length d) (d ++ later) ≡ d
  front_taken [] later = refl
  front_taken (x ∷ d) later = ap (λ l. x ∷ l) (front_taken d later)

  -- memory ended while the next item of the book being read was due, behind these items of the open books
  pub memory_behind : (o : Open) (os : List Open) (known : List (List ℕ)) (shelf : ShelfState) (done : List Placed) (line : ℕ) (d : List WrittenCommand) (ds : List (List WrittenCommand))
      → o.pending ≡ [] → AreDistinct (books_in (o ∷ os))
      → (open_so : AreOpen s (o ∷ os) (d ∷ ds) (lefts_of shelf)) → IsNextLine s.limits open_so.0.bytes tokens.whole (length d) line
      → LeadsTo s (o ∷ os) known (d ∷ ds) done
      → MemoryDue s (length done) (record { book = o.book; line = line })
  memory_behind o os known shelf done line d ds none distinct open_so next leads =
      let spot : Spot = record { book = o.book; line = line } in
      let bytes = open_so.0.bytes in
      let b = begins_whole s.limits bytes d shelf.left o.reader open_so.0.behind in
      let x = cut_behind s bytes (length d) line in
      let items_are : x.items ≡ d = ap (take (length d)) b.1 ∙ front_taken d b.0 in
      let lib = cut_library o.book x in
      let r = rests_whole os ds shelf.aside open_so.1 in
      let walk : walk_in s lib ≡ walk_with done (ends (unread_at spot)) =
      leads lib (rest_behind o [] (unread line) ∷ r.0) (record {
        closed = λ k is_known not_so. ap (λ b. if b then opened x else whole_library s (Some k)) (first_false (same_key o.book (Some k)) (has_key (books_in os) (Some k)) not_so);
        rests_are = (
          record {
            reading = x;
            book_is = ap (λ b. if b then opened x else whole_library s o.book) (own_key o.book);
            later = [];
            begins = items_are ∙ sym (append-nil d);
            rest_is = refl;
          },
          same_rests (whole_library s) lib os ds r.0 (λ k is. ap (λ b. if b then opened x else whole_library s k) (apart_keys (books_in os) o.book k distinct.0 is)) r.1,
        );
      })
      ∙ ap (λ q. with_commands done (walk_stack s.most s.own lib (s.most.files - length (o ∷ os)) (q ∷ r.0) known)) (stepped s o [] [] (unread line) none)
      ∙ plain_commands done (ends (unread_at spot)) in (
        lib,
        (λ k. cut_by o.book x k (same_key o.book k) refl (record { bytes = bytes; has_book = open_so.0.has_book; count = length d; line = line; next = next; cut_is = refl })),
        inr (ap (λ (w : Walk). length w.commands) walk, (unread_at spot, ap (λ (w : Walk). w.reached) walk, refl)),
      )

  pub memory_ended : (o : Open) (os : List Open) (known : List (List ℕ)) (shelf : ShelfState) (done : List Placed) (line : ℕ)
      → o.pending ≡ []
      → ((bytes : List ℕ) (d : List WrittenCommand) → IsBehind s.limits bytes d shelf.left o.reader → IsNextLine s.limits bytes tokens.whole (length d) line)
      → IsAmong s done (o ∷ os) known shelf
      → MemoryDue s (length done) (record { book = o.book; line = line })
  memory_ended o os known shelf done line none next st = by_dones st.dones st.on_shelf st.leads where
    by_dones : (dones : List (List WrittenCommand)) → AreOpen s (o ∷ os) dones (lefts_of shelf) → LeadsTo s (o ∷ os) known dones done → MemoryDue s (length done) (record { book = o.book; line = line })
    by_dones [] open_so leads = absurd open_so
    by_dones (d ∷ ds) open_so leads = memory_behind o os known shelf done line d ds none st.distinct open_so (next open_so.0.bytes d open_so.0.behind) leads

  -- the book of a module was opened: what stands then, and its first line is due
  pub newly_opened : (n : Open) (os : List Open) (known : List (List ℕ)) (shelf : ShelfState) (done : List Placed) → n.pending ≡ [] → OpensNew s n os known shelf done
      → IsAmong s done (n ∷ os) known shelf × MemoryDue s (length done) (record { book = n.book; line = 1 })
  newly_opened n os known shelf done none new = (
    record { dones = [] ∷ new.dones; on_shelf = new.on_shelf; distinct = new.distinct; are_known = new.are_known; leads = new.leads },
    memory_behind n os known shelf done 1 [] new.dones none new.distinct new.on_shelf (first_line_is s.limits new.on_shelf.0.bytes) new.leads,
  )

  without_by : (k other : Key) (b : Bool) → ((if b then unopened else whole_library s other) ≡ whole_library s other) ⊎ (((if b then unopened else whole_library s other) ≡ unopened) ⊎ IsCut s other (if b then unopened else whole_library s other))
  without_by k other true = inr (inl refl)
  without_by k other false = inl refl

  -- memory ended where a module was to be opened
  pub memory_at_need : (o : Open) (os : List Open) (known : List (List ℕ)) (shelf : ShelfState) (done : List Placed) (d : Bool) (line : ℕ) (m : List ℕ) (ss : List BookStep) → o.pending ≡ need d line m ∷ ss
      → standing_of s.own o.book (books_in os) known m ≡ New → length (o ∷ os) < s.most.files → nat_le s.most.modules (length known) ≡ false
      → IsAmong s done (o ∷ os) known shelf
      → MemoryDue s (length done) (record { book = o.book; line = line })
  memory_at_need o os known shelf done d line m ss pending is few room st =
      let spot : Spot = record { book = o.book; line = line } in
      let new = is_new s.own o.book (books_in os) known m is in
      let closed = not_open s.own o.book (books_in os) known m new in
      let w = agrees_whole (o ∷ os) known st.dones (lefts_of shelf) st.on_shelf in
      let lib = without (Some m) (whole_library s) in
      let walk = absent_ends lib o os known st.dones done d line m ss pending is few room st.leads w.0
      (agrees_without (whole_library s) (o ∷ os) known st.dones w.0 m new.unknown closed w.1) (without_self (whole_library s) (Some m)) in (
        lib,
        (λ k. without_by (Some m) k (same_key (Some m) k)),
        inr (ap (λ (w : Walk). length w.commands) walk, (not_opened spot m, ap (λ (w : Walk). w.reached) walk, refl)),
      )
