-- How the fold of a session begins and ends, and that its book has the report.
use Rattle.std.proofs.Common.{ℕ, zero, suc, ◌≡◌, ◌≢◌, ◌<◌, ◌≤◌, ◌+◌, ◌-◌, ◌||◌, Bool, true, false, Option, Some, None, List, [], ◌∷◌, ◌++◌, All, length, map, replicate, drop, slice_get, slice_index_or, refl, ap, sym, subst, ◌∙◌, arith, true≢false}
use Rattle.std.specs.Borrow.{Bor}
use Rattle.std.specs.List.{list_any}
use Rattle.std.specs.Option.{option_copied}
use Rattle.std.proofs.lemmas.List.Folds.{list_any-append}
use Rattle.dk_model.specs.declared.code.Verdict.{Verdict}
use Rattle.dk_model.specs.declared.code.Verdict.TheVariants as verdict
use Rattle.dk_model.specs.declared.limits.Limits.{Limits}
use Rattle.board_core.specs.Events.{end_of, is_accepted, is_fault, is_seal, is_settled, puts}
use Rattle.board_core.specs.Machine.{Allowed, IsFinished, MayEnd, marks_of}
use Rattle.board_core.specs.Places.{in_file}
use Rattle.board_core.specs.Shown.{Shown, added, put_on}
use Rattle.board_core.specs.declared.event.End.{End}
use Rattle.board_core.specs.declared.event.End.TheVariants as end
use Rattle.board_core.specs.declared.event.Event.{Event}
use Rattle.board_core.specs.declared.event.Event.TheVariants.{Answer, Claim, Put, Seal}
use Rattle.scope_terms.specs.Reading.{Reading, current}
use Rattle.theory_walk.specs.Walks.{goes_on}
use Rattle.verdict_book.specs.Books.{IsReportOf, end_outcome, fault_outcome}
use Rattle.verdict_book.specs.Report.{FileReport}
use Rattle.verdict_book.specs.Titles.{lines_in}
use Rattle.verdict_book.specs.declared.outcome.Outcome.{Outcome}
use Rattle.verdict_book.specs.declared.outcome.Outcome.TheVariants as outcome
use Rattle.verdict_book.specs.declared.title.Title.{Title}
use Rattle.file_report.specs.Theories.{checking}
use Rattle.file_report.specs.TheoryReports.{report_from, with_lines}
use Rattle.prune_theory.specs.Folds.{accepts_none, nothing_declared}
use Rattle.edit_session.specs.Folding.{IsBegun, IsCounted, IsCountedTo, IsFolded, IsQuiet, IsStopped, forms_in, report_behind, theory_in}
use Rattle.edit_session.specs.Forms.{numbered, placed_in, report_from_forms}
use Rattle.edit_session.specs.Held.{IsSlot, plain_slot}
use Rattle.edit_session.specs.Reporting.{IsEnded, IsOwnEnd, IsReported}
use Rattle.edit_session.specs.declared.fold.Fold.{Fold}
use Rattle.edit_session.specs.declared.slot.Slot.{Slot}
use Rattle.edit_session.proofs.Counting.{checks_none, kept_none, somes_length}
use Rattle.edit_session.proofs.Rests.{pushed_map}
use Rattle.edit_session.proofs.Stepping.{map_length, no_more}

-- ---- the book

none_more : {A : Type 0} (p : A → Bool) (xs : List A) (x : A) → list_any p xs ≡ false → p x ≡ false → list_any p (xs ++ x ∷ []) ≡ false
none_more p xs x e f = list_any-append p xs (x ∷ []) ∙ (λ i. e i || (f i || false))

some_more : {A : Type 0} (p : A → Bool) (xs : List A) (x : A) → p x ≡ true → list_any p (xs ++ x ∷ []) ≡ true
some_more p xs x f = list_any-append p xs (x ∷ []) ∙ by (list_any p xs) (p x) f
  where
    by : (a b : Bool) → b ≡ true → (a || (b || false)) ≡ true
    by true b e = refl
    by false true e = refl
    by false false e = absurd cc

trues_more : (n : ℕ) → replicate n true ++ true ∷ [] ≡ replicate (n + 1) true
trues_more n = by n ∙ ap (λ k. replicate k true) (let q : suc n ≡ n + 1 = omega arith in q)
  where
    by : (n : ℕ) → replicate n true ++ true ∷ [] ≡ replicate (suc n) true
    by zero = refl
    by (suc n) = ap (λ (l : List Bool). true ∷ l) (by n)

pub put_quiet : (b new : Shown (Unit {0})) (job : Unit {0}) (n count : ℕ) → new ≡ put_on b job true n → IsQuiet b count → IsQuiet new (count + 1)
put_quiet b new job n count e q = subst (λ z. IsQuiet z (count + 1)) (sym e) (record {
  marks = pushed_map (λ (j : Unit {0} × Bool). j.1) b.jobs (job, true) ∙ ap (λ (l : List Bool). l ++ true ∷ []) q.marks ∙ trues_more count;
  unsealed = none_more is_seal b.events (Put n) q.unsealed refl;
  faultless = none_more is_fault b.events (Put n) q.faultless refl;
})

pub no_end : (es : List Event) → end_of es ≡ None → list_any is_seal es ≡ false
no_end [] e = refl
no_end (Seal x ∷ es) e = absurd cc
no_end (Put n ∷ es) e = no_end es e
no_end (Claim w n ∷ es) e = no_end es e
no_end (Answer w n v ∷ es) e = no_end es e

pub unsealed_by : (es : List Event) (o : Option (Bor End)) → option_copied o ≡ end_of es → o ≡ None → list_any is_seal es ≡ false
unsealed_by es o e n = no_end es (sym e ∙ ap option_copied n)

not_accepted : (v : Verdict) → v ≢ verdict.Accepted → is_accepted v ≡ false
not_accepted verdict.Accepted n = absurd (n refl)
not_accepted (verdict.Refused code) n = refl
not_accepted verdict.Ended n = refl
not_accepted verdict.Memory n = refl

may_end : (es : List Event) (e : End) → IsOwnEnd e → MayEnd es e
may_end es end.Whole o = tt
may_end es (end.Fault place v) o = not_accepted v o
may_end es (end.Unread place) o = absurd o
may_end es (end.Unopened name) o = absurd o
may_end es end.Stopped o = absurd o

pub may_seal : (marks : List Bool) (es : List Event) (e : End) → end_of es ≡ None → IsOwnEnd e → Allowed marks es (Seal e)
may_seal marks es e n o = (no_end es n, may_end es e o)

end_there : (es : List Event) (e : End) → list_any is_seal es ≡ false → end_of (es ++ Seal e ∷ []) ≡ Some e
end_there [] e n = refl
end_there (Seal x ∷ es) e n = absurd cc
end_there (Put k ∷ es) e n = end_there es e n
end_there (Claim w k ∷ es) e n = end_there es e n
end_there (Answer w k v ∷ es) e n = end_there es e n

pub seal_ended : (b new : Shown (Unit {0})) (e : End) (count : ℕ) → new ≡ added b (Seal e) → puts new.events ≡ length new.jobs → IsQuiet b count → IsEnded new count e
seal_ended b new e count is p q = record {
  marks = ap (λ (z : Shown (Unit {0})). marks_of z.jobs) is ∙ q.marks;
  sealed = ap (λ (z : Shown (Unit {0})). list_any is_seal z.events) is ∙ some_more is_seal b.events (Seal e) refl;
  faultless = ap (λ (z : Shown (Unit {0})). list_any is_fault z.events) is ∙ none_more is_fault b.events (Seal e) q.faultless refl;
  end_is = ap (λ (z : Shown (Unit {0})). end_of z.events) is ∙ end_there b.events e q.unsealed;
  puts_are = p;
}

-- ---- a finished book

trues_length : (n : ℕ) → length (replicate n true) ≡ n
trues_length zero = refl
trues_length (suc n) = ap suc (trues_length n)

trues_at : (n i : ℕ) → i < n → slice_index_or (replicate n true) i false ≡ true
trues_at zero i l = absurd (omega (arith, l))
trues_at (suc n) zero l = refl
trues_at (suc n) (suc i) l = trues_at n i (omega (arith, l))

module _ (b : Shown (Unit {0})) (count : ℕ) (e : End) (h : IsEnded b count e) where
  pub jobs_count : length b.jobs ≡ count
  jobs_count = sym (map_length (λ (j : Unit {0} × Bool). j.1) b.jobs) ∙ ap (λ (l : List Bool). length l) h.marks ∙ trues_length count

  pub is_finished : IsFinished (marks_of b.jobs) b.events
  is_finished = record {
    sealed = h.sealed;
    answered = λ n pos within unsettled. absurd (true≢false (sym (settled n pos within) ∙ unsettled));
  }
    where
      settled : (n : ℕ) → 0 < n → n ≤ puts b.events → is_settled (marks_of b.jobs) n ≡ true
      settled n pos within = ap (λ (l : List Bool). slice_index_or l (n - 1) false) h.marks
          ∙ trues_at count (n - 1) (let p : puts b.events ≡ length b.jobs = h.puts_are in let q : length b.jobs ≡ count = jobs_count in omega (arith, pos, within, p, q))

-- ---- its report

stopped_outcome : (count line : ℕ) (v : Verdict) → v ≢ verdict.Memory → fault_outcome count (in_file line) v ≡ outcome.Stopped (count + 1) (in_file line) v
stopped_outcome count line verdict.Accepted n = refl
stopped_outcome count line (verdict.Refused code) n = refl
stopped_outcome count line verdict.Ended n = refl
stopped_outcome count line verdict.Memory n = absurd (n refl)

with_end : (titles : List Title) (events : List Event) (e : End) (o : Outcome) (r : FileReport) → list_any is_fault events ≡ false → end_of events ≡ Some e → end_outcome (length titles) (Some e) ≡ o
    → r ≡ (let q : FileReport = record { lines = lines_in titles; outcome = o } in q) → IsReportOf titles events r
with_end titles events e o r n is out e' = (None, n, e' ∙ ap (λ z. let q : FileReport = record { lines = lines_in titles; outcome = z } in q) (sym out ∙ ap (end_outcome (length titles)) (sym is)))

module _ (limits : Limits) (budget : ℕ) (start : List Slot) where
  pub stopped_reported : (at : ℕ) (v : Verdict) (slots : List Slot) (f f' : Fold) → IsStopped limits budget start at v slots f → f'.lines.titles ≡ f.lines.titles → f'.checked ≡ f.checked
      → IsEnded f'.lines.book at (end.Fault (in_file (at + 1)) v) → IsReported limits budget start slots f'
  stopped_reported at v slots f f' h t c e = record {
    counted = record { lists = h.counted.lists; reached = h.counted.reached; checks_are = c ∙ h.counted.checks_are; kept = h.counted.kept };
    slots_kept = h.slots_kept;
    finished = is_finished f'.lines.book at (end.Fault (in_file (at + 1)) v) e;
    all = ap (λ (ts : List Title). length ts) t ∙ h.titles ∙ sym (jobs_count f'.lines.book at (end.Fault (in_file (at + 1)) v) e);
    report = with_end f'.lines.titles f'.lines.book.events (end.Fault (in_file (at + 1)) v) (outcome.Stopped (at + 1) (in_file (at + 1)) v) (report_from_forms limits budget (forms_in start)) e.faultless e.end_is
        (ap (λ n. fault_outcome n (in_file (at + 1)) v) (ap (λ (ts : List Title). length ts) t ∙ h.titles) ∙ stopped_outcome at (at + 1) v h.told)
        (h.lines ∙ ap (λ ts. let q : FileReport = record { lines = lines_in ts; outcome = outcome.Stopped (at + 1) (in_file (at + 1)) v } in q) (sym t));
  }

  drop_all : {A : Type 0} (n : ℕ) (xs : List A) → length xs ≤ n → drop n xs ≡ []
  drop_all zero [] l = refl
  drop_all zero (x ∷ xs) l = absurd (omega (arith, l))
  drop_all (suc n) [] l = refl
  drop_all (suc n) (x ∷ xs) l = drop_all n xs (omega (arith, l))

  not_none : (ls : List (List (List ℕ))) (k : ℕ) → ¬ (slice_get (map Some ls) k ≡ Some None)
  not_none [] k e = cc
  not_none (l ∷ ls) zero e = cc
  not_none (l ∷ ls) (suc k) e = not_none ls k e

  some_get : (ls : List (List (List ℕ))) (k : ℕ) (list : List (List ℕ)) → slice_get (map Some ls) k ≡ Some (Some list) → slice_get ls k ≡ Some list
  some_get [] k list e = absurd cc
  some_get (l ∷ ls) zero list e = let q : l ≡ list = cc in ap Some q
  some_get (l ∷ ls) (suc k) list e = some_get ls k list e

  counted_all : (at : ℕ) (slots : List Slot) (checked : ℕ) → at ≡ length start → IsCountedTo limits budget start at slots checked → IsCounted limits budget start slots checked
  counted_all at slots checked e h = record {
    lists = map Some h.lists;
    reached = record {
      count = somes_length h.lists ∙ h.count ∙ e ∙ sym (map_length _ start);
      reached = λ k list g. h.reached k list (some_get h.lists k list g);
      others = λ k list g r. not_none h.lists k g;
    };
    checks_are = h.checks_are;
    kept = h.kept;
  }

  pub whole_reported : (at : ℕ) (slots : List Slot) (f f' : Fold) → at ≡ length start → IsFolded limits budget start at slots f → f'.lines.titles ≡ f.lines.titles → f'.checked ≡ f.checked
      → IsEnded f'.lines.book at end.Whole → IsReported limits budget start slots f'
  whole_reported at slots f f' n h t c e = record {
    counted = counted_all at slots f'.checked n (record { lists = h.counted.lists; count = h.counted.count; reached = h.counted.reached; checks_are = c ∙ h.counted.checks_are; kept = h.counted.kept });
    slots_kept = h.slots_kept;
    finished = is_finished f'.lines.book at end.Whole e;
    all = ap (λ (ts : List Title). length ts) t ∙ h.titles ∙ sym (jobs_count f'.lines.book at end.Whole e);
    report = with_end f'.lines.titles f'.lines.book.events end.Whole (outcome.Accepted at) (report_from_forms limits budget (forms_in start)) e.faultless e.end_is
        (ap outcome.Accepted (ap (λ (ts : List Title). length ts) t ∙ h.titles))
        (h.lines ∙ ap (λ fs. with_lines (lines_in f.lines.titles) (report_from (checking limits budget None) (theory_in h.behind.theory) at (placed_in (numbered (at + 1) fs)) (goes_on []))) (drop_all at (forms_in start) (let q : length (forms_in start) ≡ length start = map_length _ start in omega (arith, q, n)))
        ∙ (λ i. let q : FileReport = record { lines = (no_more (lines_in f.lines.titles) ∙ ap lines_in (sym t)) i; outcome = outcome.Accepted at } in q));
  }

  -- ---- the begin

  pub begun : (f : Fold) → IsBegun limits budget f → All (IsSlot limits budget) start → IsFolded limits budget start 0 start f
  begun f b right = record {
    most = b.most;
    behind = record {
      commands = [];
      left = [];
      theory = nothing_declared;
      accepted = accepts_none;
      names = ap (λ (r : Reading). r.symbols) b.names;
      current_is = ap current b.names;
      signature = b.version;
      resting = b.resting;
      count = refl;
    };
    lines = ap (λ (ts : List Title). with_lines (lines_in ts) (report_behind limits budget (forms_in start) 0 nothing_declared)) (sym b.titles);
    titles = ap (λ (ts : List Title). length ts) b.titles;
    quiet = b.quiet;
    counted = record {
      lists = [];
      count = refl;
      reached = λ k list e. absurd (let q : None ≡ Some list = e in cc);
      checks_are = b.checked ∙ sym (checks_none (map plain_slot start));
      kept = sym (kept_none (map plain_slot start));
    };
    slots_kept = record { texts = refl; forms = refl; right = right };
  }
