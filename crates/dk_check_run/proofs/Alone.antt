-- A file that is read alone: all its commands, and its end, stand in its own book, and no other book is opened.
use Rattle.std.proofs.Common.{◌≡◌, ◌≢◌, inl, inr, ℕ, ◌+◌, Bool, true, false, List, [], ◌∷◌, ◌++◌, refl, sym, ap, subst, ◌∙◌}
use Rattle.std.specs.Prelude.{Option, Some, None}
use Rattle.dk_model.specs.declared.code.Code.TheVariants.{E15}
use Rattle.dk_model.specs.declared.code.Verdict.{Verdict}
use Rattle.dk_model.specs.declared.code.Verdict.TheVariants as verdict
use Rattle.verdict_book.specs.Report.{FileReport, PlainShown}
use Rattle.verdict_book.specs.declared.outcome.Outcome.TheVariants.{Unopened}
use Rattle.theory_walk.specs.declared.needs.Standing.{Standing}
use Rattle.theory_walk.specs.declared.needs.Standing.TheVariants.{Current, Below, WasRead, New}
use Rattle.theory_walk.specs.Libraries.{BookReading, BookStep, BookTail, Library, Opened, fault, need, opened, put, steps_in, unopened, unread, whole}
use Rattle.theory_walk.specs.Walks.{End, Placed, Reached, Spot, Walk, by_standing, ends, goes_on, needs_in, no_file, not_opened, refused_at, spot_of_end, standing_of, stopped, then_walk, unread_at, walk_file, walk_steps}
use Rattle.file_report.specs.Reports.{Checking}
use Rattle.file_report.specs.TheoryReports.{by_verdict, report_from}
use Rattle.book_reader.specs.Shelved.{IsDueAt}
use Rattle.dk_check_run.specs.Books.{no_modules}

-- the end stands in the file's own book
abbrev IsEndHere : End → Type 0
IsEndHere (refused_at spot code) = spot.book ≡ None
IsEndHere (unread_at spot) = spot.book ≡ None
IsEndHere (not_opened spot m) = ⊥
IsEndHere no_file = ⊥

abbrev IsHere : Reached → Type 0
IsHere (goes_on known) = Unit {0}
IsHere (ends e) = IsEndHere e

abbrev AreHere : List Placed → Type 0
AreHere [] = Unit {0}
AreHere (c ∷ cs) = (c.book ≡ None) × AreHere cs

-- a walk that stays in the file's own book
abbrev Stays : Walk → Type 0
Stays w = AreHere w.commands × IsHere w.reached

stays_behind : (how : Standing) (directive : Bool) (line : ℕ) (known : List (List ℕ)) (next : List (List ℕ) → Walk) → ((more : List (List ℕ)) → Stays (next more))
    → Stays (then_walk (by_standing how directive (record { book = None; line = line }) known (stopped (refused_at (record { book = None; line = line }) E15))) next)
stays_behind Current true line known next stays = (tt, refl)
stays_behind Current false line known next stays = stays known
stays_behind Below directive line known next stays = (tt, refl)
stays_behind WasRead directive line known next stays = stays known
stays_behind New directive line known next stays = (tt, refl)

module _ (own : Option (List ℕ)) (lib : Library) where
  steps_stay : (ss : List BookStep) (tail : BookTail) (known : List (List ℕ)) → Stays (walk_steps (needs_in no_modules own lib 0 [] None) None ss tail known)
  steps_stay [] whole known = (tt, tt)
  steps_stay [] (fault line code) known = (tt, refl)
  steps_stay [] (unread line) known = (tt, refl)
  steps_stay (put c ∷ ss) tail known = let rest = steps_stay ss tail known in ((refl, rest.0), rest.1)
  steps_stay (need directive line m ∷ ss) tail known =
      stays_behind (standing_of own None [] known m) directive line known (walk_steps (needs_in no_modules own lib 0 [] None) None ss tail) (steps_stay ss tail)

  file_stays : (r : BookReading) → Stays (walk_file no_modules own lib (opened r))
  file_stays r = steps_stay (steps_in r.items) r.tail []

-- ---- no other book is needed

module _ {T : Type 0} (k : Checking T) where
  stops_here : (v : Verdict) (count : ℕ) (c : Placed) (shown : PlainShown) (rest : FileReport) (m : List ℕ) → rest.outcome ≢ Unopened m → (by_verdict v count c shown rest).outcome ≢ Unopened m
  stops_here verdict.Accepted count c shown rest m not = not
  stops_here (verdict.Refused code) count c shown rest m not = λ e. cc
  stops_here verdict.Ended count c shown rest m not = λ e. cc
  stops_here verdict.Memory count c shown rest m not = λ e. cc

  pub none_missing : (t : T) (count : ℕ) (cs : List Placed) (r : Reached) (m : List ℕ) → IsHere r → (report_from k t count cs r).outcome ≢ Unopened m
  none_missing t count [] (goes_on known) m here = λ e. cc
  none_missing t count [] (ends (refused_at spot code)) m here = λ e. cc
  none_missing t count [] (ends (unread_at spot)) m here = λ e. cc
  none_missing t count [] (ends (not_opened spot n)) m here = absurd here
  none_missing t count [] (ends no_file) m here = absurd here
  none_missing t count (c ∷ cs) r m here = stops_here (k.verdict_on t count c) count c (k.shown_on t c) (report_from k (k.after t c) (count + 1) cs r) m (none_missing (k.after t c) (count + 1) cs r m here)

-- ---- what is due stands in the file

no_middle : (before after : List Placed) (c : Placed) → [] ≡ before ++ c ∷ after → ⊥
no_middle [] after c e = cc
no_middle (b ∷ before) after c e = cc

here_at : (before after : List Placed) (c : Placed) → AreHere (before ++ c ∷ after) → c.book ≡ None
here_at [] after c are = are.0
here_at (b ∷ before) after c are = here_at before after c are.1

some_spot : (a b : Spot) → Some a ≡ Some b → a ≡ b
some_spot a b e = cc

no_spot : (spot : Spot) → None ≡ Some spot → ⊥
no_spot spot e = cc

same_end : (a b : End) → ends a ≡ ends b → a ≡ b
same_end a b e = cc

end_here : (e : End) (spot : Spot) → IsEndHere e → spot_of_end e ≡ Some spot → spot.book ≡ None
end_here (refused_at at code) spot here is = ap (λ (s : Spot). s.book) (sym (some_spot at spot is)) ∙ here
end_here (unread_at at) spot here is = ap (λ (s : Spot). s.book) (sym (some_spot at spot is)) ∙ here
end_here (not_opened at m) spot here is = absurd here
end_here no_file spot here is = absurd here

due_at_end : (r : Reached) (e : End) (spot : Spot) → IsHere r → r ≡ ends e → spot_of_end e ≡ Some spot → spot.book ≡ None
due_at_end r e spot here is at = end_here e spot (subst IsHere is here) at

due_in : (w : Walk) (count : ℕ) (spot : Spot) → Stays w → IsDueAt w count spot → spot.book ≡ None
due_in w count spot stays (inl (c, before, after, split, counted, is)) = ap (λ (s : Spot). s.book) (sym is) ∙ here_at before after c (subst AreHere split stays.0)
due_in w count spot stays (inr (counted, (e, is, at))) = due_at_end w.reached e spot stays.1 is at

-- what is due in a file that is read alone stands in its own book
pub due_here : (own : Option (List ℕ)) (lib : Library) (o : Opened) (count : ℕ) (spot : Spot) → IsDueAt (walk_file no_modules own lib o) count spot → spot.book ≡ None
due_here own lib unopened count spot (inl (c, before, after, split, counted, is)) = absurd (no_middle before after c split)
due_here own lib unopened count spot (inr (counted, (e, is, at))) = absurd (no_spot spot (ap spot_of_end (same_end no_file e is) ∙ at))
due_here own lib (opened r) count spot due = due_in (walk_file no_modules own lib (opened r)) count spot (file_stays own lib r) due

-- and no other book is needed
pub alone : (own : Option (List ℕ)) (lib : Library) (r : BookReading) → IsHere (walk_file no_modules own lib (opened r)).reached
alone own lib r = let stays = file_stays own lib r in stays.1
