-- What the check of a file in memory comes to is a row of `prune`.
use Rattle.std.proofs.Common.{◌≡◌, ◌≢◌, ◌⊎◌, ◌+◌, ◌≤◌, inl, inr, ℕ, Bool, false, List, [], ◌∷◌, ◌++◌, length, refl, sym, ap, subst, ◌∙◌, arith, cond, not}
use Rattle.std.specs.Prelude.{◌==◌, IfSome, Option, Some, None, drop, take, if◌then◌else◌, option_map, slice_get}
use Rattle.std.specs.Str.{bytes_eq}
use Rattle.std.specs.Cmp.Lexicographic.{bytes_decides}
use Rattle.std.proofs.lemmas.Bool.Decides.{nat_tests}
use Rattle.dk_io.specs.Bytes.{Books, Opens, book_of}
use Rattle.dk_io.specs.Causes.{Rose}
use Rattle.dk_model.specs.declared.limits.Limits.{Limits}
use Rattle.dk_model.specs.declared.code.Verdict.{Verdict}
use Rattle.dk_model.specs.declared.code.Verdict.TheVariants as verdict
use Rattle.command_line.specs.Requests.{PruneRequest, to_prune}
use Rattle.board_core.specs.declared.event.Event.{Event}
use Rattle.board_core.specs.declared.event.Place.{Place}
use Rattle.verdict_book.specs.Report.{FileReport, PlainShown, last_line, nowhere, status_of, stop_status}
use Rattle.verdict_book.specs.declared.outcome.Outcome.{Outcome}
use Rattle.verdict_book.specs.declared.outcome.Outcome.TheVariants.{Accepted, Stopped, Unread}
use Rattle.verdict_book.specs.declared.title.Title.{Title}
use Rattle.theory_walk.specs.BookNames.{book_named, own_module}
use Rattle.theory_walk.specs.BookReadings.{book_reading, read_whole}
use Rattle.theory_walk.specs.Libraries.{Key, Library, Opened, opened}
use Rattle.theory_walk.specs.Walks.{Spot, walk_file}
use Rattle.file_report.specs.TheoryReports.{report_of_walk}
use Rattle.book_reader.specs.declared.walker.Root.{Root}
use Rattle.book_reader.specs.Shelved.{AreCut, AreLeft, Given, IsLeft, MemoryDue, Setting, given_library, same_key, whole_library}
use Rattle.book_reader.specs.Shelves.{HasHeld, ShelfState}
use Rattle.book_reader.specs.Walkers.{setting_of}
use Rattle.file_check.specs.Checks.{ChecksShelf}
use Rattle.file_check.specs.Counts.{EndsGiven, EndsInMemory, EndsOn, IsCutByMemory}
use Rattle.file_check.specs.Counts as counts
use Rattle.file_check.specs.Failures.{of_read}
use Rattle.prune_file.specs.Files.{IsAccepted}
use Rattle.prune_file.specs.Laws.{ReportedIsAccepted}
use Rattle.prune_file.specs.Told.{told_verdict}
use Rattle.dk_check_run.specs.Books.{no_modules, report_in, setting_for}
use Rattle.dk_check_run.specs.Check as check
use Rattle.dk_check_run.specs.Held.{EndsGiving, GivesBook, PutsPruned, Took, held_books, held_left, left_in, rest_of}
use Rattle.dk_check_run.specs.Prune as prune
use Rattle.dk_check_run.specs.Prune.{IsOfBytes, IsOfFile, alone_setting, checked, last_of}
use Rattle.dk_check_run.specs.Roots.{IsRootOf}
use Rattle.dk_check_run.specs.Rows.{books, given, unread, unopened, memory}
use Rattle.dk_check_run.specs.Run.{IsDecided, LeavesBooks, SinkState, Writes, memory_at_once}
use Rattle.dk_check_run.specs.Run as line
use Rattle.dk_check_run.specs.Table.{RunsCommand}
use Rattle.dk_check_run.specs.declared.held.Giving.{Giving}
use Rattle.dk_check_run.specs.declared.held.Giving.TheVariants as giving
use Rattle.dk_check_run.proofs.Settings.{fold_is, root_setting}

-- ---- books

pub no_more : (xs : List ℕ) → xs ++ [] ≡ xs
no_more [] = refl
no_more (x ∷ xs) = ap (λ (ys : List ℕ). x ∷ ys) (no_more xs)

same_rest : (xs ys zs : List ℕ) → xs ++ ys ≡ xs ++ zs → ys ≡ zs
same_rest [] ys zs e = e
same_rest (x ∷ xs) ys zs e = same_rest xs ys zs (tails x (xs ++ ys) (xs ++ zs) e)
  where
    tails : (x : ℕ) (ys zs : List ℕ) → x ∷ ys ≡ x ∷ zs → ys ≡ zs
    tails x ys zs e = cc

-- the file is the first of the books in memory
pub book_held : (file bytes rest : List ℕ) → book_of (held_books file bytes rest) file ≡ Some (bytes ++ rest)
book_held file bytes rest = ap (λ (b : Bool). option_map (λ (book : List ℕ × List ℕ). book.1) (slice_get (held_books file bytes rest) (cond (not b) (1 + cond (not (bytes_eq [] file)) 1 0) 0))) ((bytes_decides file file).1 refl)

-- where no other book is opened, a report is told by the file's own
pub same_report : (limits : Limits) (file : List ℕ) (budget : ℕ) (a b : Books) (lib other : Library) → lib None ≡ other None
    → counts.report_in (setting_for limits no_modules file a) budget lib ≡ counts.report_in (setting_for limits no_modules file b) budget other
same_report limits file budget a b lib other same = ap (λ o. report_of_walk limits budget (own_module file) (walk_file no_modules (own_module file) lib o)) same

-- a shelf of which this was given, and how that ended
pub record IsGiven (file : List ℕ) (old new : ShelfState) (bytes : List ℕ) (how : Giving) : Type 0 where
  pub book : (held : Books) → old.books ≡ Some held → book_of held file ≡ Some (bytes ++ rest_of how new.left)
  pub left : (held : Books) → old.books ≡ Some held → new.left ≡ Some (rest_of how new.left)
  pub ends : EndsGiving how old new

module _ (file : List ℕ) (old middle new : ShelfState) (bytes : List ℕ) where
  rest_is : (how : Giving) (rest : List ℕ) → new.left ≡ Some rest → EndsGiving how middle new → rest_of how new.left ≡ rest
  rest_is giving.Whole rest is ends = sym (sym (ap left_in is) ∙ ends.0)
  rest_is giving.Failed rest is ends = ap left_in is
  rest_is giving.TooLong rest is ends = ap left_in is

  took_all : (held : Books) (how : Giving) (all : List ℕ) → book_of held file ≡ Some all → middle.left ≡ Some all → GivesBook middle new bytes how
      → (book_of held file ≡ Some (bytes ++ rest_of how new.left)) × (new.left ≡ Some (rest_of how new.left))
  took_all held how all has is g = by middle.left is g.took
    where
      some_is : (a b : List ℕ) → Some a ≡ Some b → a ≡ b
      some_is a b e = cc

      by : (left : Option (List ℕ)) → left ≡ Some all → Took left new.left bytes → (book_of held file ≡ Some (bytes ++ rest_of how new.left)) × (new.left ≡ Some (rest_of how new.left))
      by None e took = absurd cc
      by (Some before) e (rest, parts, left) =
          let r = rest_is how rest left g.ends in
          (has ∙ ap Some (some_is all before (sym e) ∙ parts ∙ ap (λ xs. bytes ++ xs) (sym r)), left ∙ ap Some (sym r))

  -- the opening of the file, and the reads
  pub is_given : (how : Giving) → Opens old.books file middle.left → GivesBook middle new bytes how → EndsGiving how old new → IsGiven file old new bytes how
  is_given how opens g ends = record { book = λ held is. (at held is).0; left = λ held is. (at held is).1; ends = ends }
    where
      at : (held : Books) → old.books ≡ Some held → (book_of held file ≡ Some (bytes ++ rest_of how new.left)) × (new.left ≡ Some (rest_of how new.left))
      at held is = let o : Opens (Some held) file middle.left = subst (λ b. Opens b file middle.left) is opens in took_all held how o.0 o.1 o.2 g

-- counts that stood at the opening
pub ends_since : (how : Giving) (old middle new : ShelfState) → middle.faults ≡ old.faults → ((name : List ℕ) → middle.missed name ≡ old.missed name) → EndsGiving how middle new → EndsGiving how old new
ends_since giving.Whole old middle new faults missed ends = (ends.0, ends.1 ∙ faults, λ name. ends.2 name ∙ missed name)
ends_since giving.Failed old middle new faults missed ends = subst (λ n. Rose n new.faults) faults ends
ends_since giving.TooLong old middle new faults missed ends = (ends.0 ∙ faults, λ name. ends.1 name ∙ missed name)

-- ---- rows

module _ (limits : Limits) (q : PruneRequest) (old new : ShelfState) (before after : SinkState) (result : ℕ) where
  -- a row of `prune` was written
  abbrev pub Row : Type 0
  Row = RunsCommand limits (to_prune q) old new before after result

  pub missed_row : LeavesBooks old new → Rose (old.missed q.file) (new.missed q.file) → Writes before after (line.unopened q.file) 3 result → Row
  missed_row leaves rose w = record { cause = unopened q.file; status = 3; text = line.unopened q.file; row = prune.of_a_failed_opening leaves; shows = (refl, rose); writes = w }

  pub no_memory_row : Writes before after memory_at_once 4 result → Row
  no_memory_row w = record { cause = memory; status = 4; text = memory_at_once; row = prune.of_no_memory; shows = refl; writes = w }

  -- what is so of the bytes that the shelf tells
  of_bytes : (told : Option Books) (P : List ℕ → Type 0) (bytes : List ℕ) → ((held : Books) → told ≡ Some held → book_of held q.file ≡ Some bytes) → P bytes → IsOfBytes q told P
  of_bytes None P bytes has p = tt
  of_bytes (Some held) P bytes has p = (bytes, has held refl, p)

  of_file : (told : Option Books) (P : Setting → Type 0) → ((held : Books) → told ≡ Some held → P (alone_setting limits q held)) → IsOfFile limits q told P
  of_file None P f = tt
  of_file (Some held) P f = f held refl

  module _ (bytes : List ℕ) (how : Giving) (g : IsGiven q.file old new bytes how) where
    abbrev rest : List ℕ
    rest = rest_of how new.left

    abbrev S : Setting
    S = alone_setting limits q (held_books q.file bytes rest)

    -- the file's book is the same on the shelf and in memory
    same_book : (held : Books) → old.books ≡ Some held → whole_library S None ≡ whole_library (alone_setting limits q held) None
    same_book held is = ap (read_whole limits) (book_held q.file bytes rest ∙ sym (g.book held is))

    whole_held : how ≡ giving.Whole → HasHeld old new
    whole_held e = by how e g.ends
      where
        by : (h : Giving) → h ≡ giving.Whole → EndsGiving h old new → HasHeld old new
        by giving.Whole e ends = record { faults = ends.1; missed = ends.2 }
        by giving.Failed e ends = absurd cc
        by giving.TooLong e ends = absurd cc

    whole_book : how ≡ giving.Whole → (held : Books) → old.books ≡ Some held → book_of held q.file ≡ Some bytes
    whole_book e held is = g.book held is ∙ ap (λ h. Some (bytes ++ rest_of h new.left)) e ∙ ap Some (no_more bytes)

    -- ---- accepted

    module _ (lines : List PlainShown) where
      abbrev reported : Outcome → FileReport
      reported o = record { lines = lines; outcome = o }

      pub is_accepted : ReportedIsAccepted → how ≡ giving.Whole → (n : ℕ) → counts.report_in S q.budget (whole_library S) ≡ reported (Accepted n) → IsAccepted limits (own_module q.file) q.budget bytes
      is_accepted law e n is = law limits (own_module q.file) q.budget bytes (whole_library S) n
          (ap (read_whole limits) (book_held q.file bytes rest ∙ ap (λ h. Some (bytes ++ rest_of h new.left)) e ∙ ap Some (no_more bytes)))
          (ap (λ (r : FileReport). r.outcome) (fold_is S q.budget (whole_library S) ∙ is))

      pub pruned_row : how ≡ giving.Whole → IsAccepted limits (own_module q.file) q.budget bytes → PutsPruned limits q bytes before after result → Row
      pruned_row e file (inl (text, p, w)) = record {
        cause = books;
        status = 0;
        text = text;
        row = prune.of_a_known_name text (of_bytes old.books _ bytes (whole_book e) p);
        shows = (inl refl, whole_held e);
        writes = w;
      }
      pruned_row e file (inr (inl (u, w))) = record {
        cause = books;
        status = 1;
        text = prune.unknown q.name;
        row = prune.of_an_unknown_name (of_bytes old.books _ bytes (whole_book e) (file, u));
        shows = (inr (inl refl), whole_held e);
        writes = w;
      }
      pruned_row e file (inr (inr w)) = no_memory_row w

      -- ---- the report of the whole book

      abbrev IsOwn : Outcome → Type 0
      IsOwn o = counts.report_in S q.budget (whole_library S) ≡ reported o

      own : (o : Outcome) → IsOwn o → IsOfFile limits q old.books (λ s. check.IsReport (checked q) (reported o) s (whole_library s))
      own o is = of_file old.books _ (λ held told_is.
          fold_is (alone_setting limits q held) q.budget (whole_library (alone_setting limits q held))
          ∙ same_report limits q.file q.budget held (held_books q.file bytes rest) (whole_library (alone_setting limits q held)) (whole_library S) (sym (same_book held told_is))
          ∙ is)

      -- a command stopped the theory
      module _ (number : ℕ) (place : Place) (v : Verdict) (fault : v ≢ verdict.Accepted) where
        stopped_row : (status_of (Stopped number place v) ≡ 1) ⊎ (status_of (Stopped number place v) ≡ 6) → IsOwn (Stopped number place v) → Writes before after (last_of q (Stopped number place v)) (stop_status v) result → Row
        stopped_row is o w = by how g.ends
          where
            of_books : HasHeld old new → Row
            of_books held = record { cause = books; status = stop_status v; text = last_of q (Stopped number place v); row = prune.of_the_file (reported (Stopped number place v)) number place v refl fault (own (Stopped number place v) o); shows = (inr is, held); writes = w }

            by : (h : Giving) → EndsGiving h old new → Row
            by giving.Whole ends = of_books (record { faults = ends.1; missed = ends.2 })
            by giving.TooLong ends = of_books (record { faults = ends.0; missed = ends.1 })
            by giving.Failed ends = record { cause = given; status = stop_status v; text = last_of q (Stopped number place v); row = prune.of_the_given (reported (Stopped number place v)) number place v refl fault ends (own (Stopped number place v) o); shows = (is, inl ends); writes = w }

      -- ---- memory

      abbrev outer : Books → Setting
      outer held = alone_setting limits q held

      -- a library in which the file's own book is another
      abbrev with_own : Books → Opened → Library
      with_own held o None = o
      with_own held o (Some m) = whole_library (outer held) (Some m)

      cut_same : (held : Books) → old.books ≡ Some held → (lib : Library) → AreCut S lib → AreCut (outer held) (with_own held (lib None))
      cut_same held told_is lib are None = elim (are None) [
        | inl e ↦ inl (e ∙ same_book held told_is)
        | inr (inl e) ↦ inr (inl e)
        | inr (inr c) ↦ inr (inr (record { bytes = c.bytes; has_book = g.book held told_is ∙ sym (book_held q.file bytes rest) ∙ c.has_book; count = c.count; line = c.line; next = c.next; cut_is = c.cut_is }))
      ]
      cut_same held told_is lib are (Some m) = inl refl

      memory_same : (held : Books) → old.books ≡ Some held → (count : ℕ) (spot : Spot) → MemoryDue S count spot → MemoryDue (outer held) count spot
      memory_same held told_is count spot due = (with_own held (due.0 None), cut_same held told_is due.0 due.1, due.2)

      cut_row : (number : ℕ) (place : Place) → EndsInMemory S q.budget (MemoryDue S) (whole_library S) lines number place → Writes before after (last_of q (Stopped number place verdict.Memory)) 4 result → Row
      cut_row number place (inl none) w =
          no_memory_row (subst (λ n. Writes before after (last_of q (Stopped n nowhere verdict.Memory)) 4 result) none.1 (subst (λ p. Writes before after (last_of q (Stopped number p verdict.Memory)) 4 result) none.2 w))
      cut_row number place (inr cut) w = record {
        cause = memory;
        status = 4;
        text = last_of q (Stopped number place verdict.Memory);
        row = prune.of_memory lines number place (of_file old.books _ (λ held told_is.
            let same : counts.report_in S q.budget (whole_library S) ≡ report_in (outer held) q.budget (whole_library (outer held)) =
            same_report limits q.file q.budget (held_books q.file bytes rest) held (whole_library S) (whole_library (outer held)) (same_book held told_is) ∙ sym (fold_is (outer held) q.budget (whole_library (outer held))) in record {
              within = subst (λ (r : FileReport). length lines ≤ length r.lines) same cut.within;
              lines_are = subst (λ (r : FileReport). lines ≡ take (length lines) r.lines) same cut.lines_are;
              number_is = cut.number_is;
              spot = cut.spot;
              place_is = cut.place_is;
              due = memory_same held told_is (length lines) cut.spot cut.memory;
            }));
        shows = refl;
        writes = w;
      }

      -- ---- a failed read

      abbrev IsUnreadSo : ℕ → Place → List Given → Setting → Type 0
      IsUnreadSo number place gs s = counts.report_in s q.budget (given_library s gs) ≡ reported (Unread number place)

      unread_given : (number : ℕ) (place : Place) (held : Books) → old.books ≡ Some held → (gs : List Given) → AreLeft S gs (Some rest ∷ []) → IsUnreadSo number place gs S
          → check.IsOfGiven new of_read (outer held) (check.IsReport (checked q) (reported (Unread number place)) (outer held))
      unread_given number place held told_is [] left is = (
        [],
        tt,
        fold_is (outer held) q.budget (whole_library (outer held))
            ∙ same_report limits q.file q.budget held (held_books q.file bytes rest) (whole_library (outer held)) (whole_library S) (sym (same_book held told_is)) ∙ is,
      )
      unread_given number place held told_is (x ∷ y ∷ gs) left is = absurd left.1
      unread_given number place held told_is (x ∷ []) left is = by x.book refl
        where
          by : (b : Key) → x.book ≡ b → check.IsOfGiven new of_read (outer held) (check.IsReport (checked q) (reported (Unread number place)) (outer held))
          by (Some m) e = (
            [],
            tt,
            fold_is (outer held) q.budget (whole_library (outer held))
                ∙ same_report limits q.file q.budget held (held_books q.file bytes rest) (whole_library (outer held)) (given_library S (x ∷ []))
                (sym (same_book held told_is) ∙ sym (ap (λ k. if same_key k None then opened (book_reading limits x.bytes x.ending) else whole_library S None) e))
                ∙ is,
          )
          by None e =
              let l : IsLeft S x (Some rest) = left.0 in (
                x ∷ [],
                (
                  (
                    l.0,
                    g.left held told_is ∙ l.1,
                    ap (λ k. book_of held (book_named q.file k)) e ∙ g.book held told_is ∙ sym (book_held q.file bytes rest) ∙ sym (ap (λ k. book_of (held_books q.file bytes rest) (book_named q.file k)) e) ∙ l.2,
                    l.3,
                  ),
                  tt,
                ),
                fold_is (outer held) q.budget (given_library (outer held) (x ∷ []))
                    ∙ same_report limits q.file q.budget held (held_books q.file bytes rest) (given_library (outer held) (x ∷ [])) (given_library S (x ∷ [])) (here_at held ∙ sym (here_at (held_books q.file bytes rest)))
                    ∙ is,
              )
            where
              here_at : (bs : Books) → given_library (outer bs) (x ∷ []) None ≡ opened (book_reading limits x.bytes x.ending)
              here_at bs = ap (λ k. if same_key k None then opened (book_reading limits x.bytes x.ending) else whole_library (outer bs) None) e

      module _ (low high : ShelfState) (pinned : high.books ≡ low.books) (low_books : low.books ≡ Some (held_books q.file bytes rest)) (low_faults : low.faults ≡ 0) where
        -- the shelf in memory has failed, and so what is left of it was not given
        failed_left : (file given_bytes behind : List ℕ) (at faults : ℕ) → high.books ≡ Some (held_books file given_bytes behind) → high.left ≡ Some (held_left faults at given_bytes behind) → high.faults ≡ faults → Rose low.faults high.faults → high.left ≡ Some rest
        failed_left file given_bytes behind at faults book left count rose =
            left
            ∙ ap (λ b. Some (if b then drop at given_bytes ++ behind else behind)) (some_faults faults (subst (λ n. Rose n faults) low_faults (subst (Rose low.faults) count rose)))
            ∙ ap Some (same_behind file given_bytes behind q.file bytes rest (sym book ∙ pinned ∙ low_books))
          where
            some_faults : (n : ℕ) → Rose 0 n → (n == 0) ≡ false
            some_faults n rose = grind (arith, nat_tests)

            first : Option Books → List ℕ
            first (Some (x ∷ xs)) = x.1
            first other = []

            second : Option Books → List ℕ
            second (Some (x ∷ y ∷ ys)) = y.1
            second other = []

            same_behind : (f b r g c s : List ℕ) → ◌≡◌ {A = Option Books} (Some (held_books f b r)) (Some (held_books g c s)) → r ≡ s
            same_behind f b r g c s e = same_rest c r s (ap (λ xs. xs ++ r) (sym (ap second e)) ∙ ap first e)

        pub unread_row : how ≡ giving.Failed → (number : ℕ) (place : Place) → EndsOn S q.budget low high lines (Unread number place) → high.aside ≡ []
            → (file given_bytes behind : List ℕ) (at faults : ℕ) → high.books ≡ Some (held_books file given_bytes behind) → high.left ≡ Some (held_left faults at given_bytes behind) → high.faults ≡ faults
            → Writes before after (last_of q (Unread number place)) 3 result → Row
        unread_row e number place ends aside file given_bytes behind at faults book left count w = record {
          cause = unread;
          status = 3;
          text = last_of q (Unread number place);
          row = prune.of_a_failed_read (reported (Unread number place)) number place refl (of_file old.books _ (λ held told_is.
              unread_given number place held told_is ends.given
              (subst (λ l. AreLeft S ends.given (l ∷ [])) (failed_left file given_bytes behind at faults book left count ends.counted) (subst (λ a. AreLeft S ends.given (high.left ∷ a)) aside ends.left))
              ends.reports));
          shows = (refl, failed how e g.ends);
          writes = w;
        }
          where
            failed : (h : Giving) → h ≡ giving.Failed → EndsGiving h old new → Rose old.faults new.faults
            failed giving.Failed e ends = ends
            failed giving.Whole e ends = absurd cc
            failed giving.TooLong e ends = absurd cc

        pub stop_row : (number : ℕ) (place : Place) (v : Verdict) → v ≢ verdict.Accepted → EndsOn S q.budget low high lines (Stopped number place v) → Writes before after (last_of q (Stopped number place v)) (stop_status v) result → Row
        stop_row number place verdict.Accepted fault ends w = absurd (fault refl)
        stop_row number place (verdict.Refused code) fault ends w = stopped_row number place (verdict.Refused code) fault (inl refl) ends.0 w
        stop_row number place verdict.Ended fault ends w = stopped_row number place verdict.Ended fault (inr refl) ends.0 w
        stop_row number place verdict.Memory fault ends w = cut_row number place ends.0 w

        pub accepted_own : (n : ℕ) → EndsOn S q.budget low high lines (Accepted n) → IsOwn (Accepted n)
        accepted_own n ends = ends.0

-- the status doesn't tell which code it is
pub told_status : (v : Verdict) → stop_status (told_verdict v) ≡ stop_status v
told_status verdict.Accepted = refl
told_status (verdict.Refused code) = refl
told_status verdict.Ended = refl
told_status verdict.Memory = refl

-- what is read where the file lies in memory
pub held_setting : (limits : Limits) (q : PruneRequest) (root : Root) (bytes rest : List ℕ) → IsRootOf limits no_modules q.file root → setting_of root (held_books q.file bytes rest) ≡ alone_setting limits q (held_books q.file bytes rest)
held_setting limits q root bytes rest is = root_setting limits no_modules q.file root (held_books q.file bytes rest) is

-- what is so of what an option has
pub some_of : {A : Type 0} (P : A → Type 0) (o : Option A) (x : A) → o ≡ Some x → IfSome o P → P x
some_of P None x e h = absurd cc
some_of {A = A} P (Some y) x e h = subst P (let same : y ≡ x = cc in same) h

-- how the check of a file in memory ends
pub ends_at : (limits : Limits) (q : PruneRequest) (root : Root) (bytes rest : List ℕ) → IsRootOf limits no_modules q.file root → (low high : ShelfState) (titles : List Title) (events : List Event) (checks : ChecksShelf root q.budget low high titles events)
    → low.books ≡ Some (held_books q.file bytes rest) → (o other : Outcome) → o ≡ checks.report.outcome → o ≡ other → EndsOn (alone_setting limits q (held_books q.file bytes rest)) q.budget low high checks.report.lines other
ends_at limits q root bytes rest is low high titles events checks told_is o other e f =
    subst (λ x. EndsOn (alone_setting limits q (held_books q.file bytes rest)) q.budget low high checks.report.lines x) (sym e ∙ f)
    (subst (λ s. EndsOn s q.budget low high checks.report.lines checks.report.outcome) (held_setting limits q root bytes rest is) (checks.ends (held_books q.file bytes rest) told_is))

-- the last line, of the outcome as it is told
pub told_last : (q : PruneRequest) (before after : SinkState) (number : ℕ) (place : Place) (v w : Verdict) (result : ℕ) → w ≡ told_verdict v
    → Writes before after (last_line (Stopped number place w) q.budget []) (stop_status w) result → Writes before after (last_of q (Stopped number place v)) (stop_status v) result
told_last q before after number place v w result e wrote =
    subst (λ n. Writes before after (last_of q (Stopped number place v)) n result) (ap stop_status e ∙ told_status v)
    (subst (λ x. Writes before after (last_line (Stopped number place x) q.budget []) (stop_status w) result) e wrote)
