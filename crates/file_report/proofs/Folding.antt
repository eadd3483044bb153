-- The fold of books is the report of their commands, taken one after the other.
use Rattle.std.proofs.Common.{◌≡◌, ℕ, zero, suc, ◌+◌, ◌-◌, Bool, true, false, nat_le, List, [], ◌∷◌, ◌++◌, length, refl, sym, ap, ◌∙◌, append_assoc, append-nil, Option, Some, None}
use Rattle.std.specs.Prelude.{if◌then◌else◌}
use Rattle.dk_model.specs.declared.code.Code.TheVariants.{E16}
use Rattle.dk_model.specs.declared.code.Verdict.{Verdict}
use Rattle.dk_model.specs.declared.code.Verdict.TheVariants as verdict
use Rattle.verdict_book.specs.Report.{FileReport, PlainShown}
use Rattle.verdict_book.specs.declared.outcome.Outcome.{Outcome}
use Rattle.theory_walk.specs.declared.needs.ModuleLimits.{ModuleLimits}
use Rattle.theory_walk.specs.declared.needs.Standing.{Standing}
use Rattle.theory_walk.specs.declared.needs.Standing.TheVariants.{Current, Below, WasRead, New}
use Rattle.theory_walk.specs.Libraries.{BookStep, BookTail, Key, Library, Opened, fault, need, opened, put, steps_in, unopened, unread, whole}
use Rattle.theory_walk.specs.Walks.{Need, Placed, Reached, Spot, Walk, by_standing, ends, follow, goes_on, needs_in, refused_at, standing_of, stopped, walk_file, walk_new, walk_of, walk_opened, walk_steps, walk_tail}
use Rattle.file_report.specs.Folds.{NeedFold, Progress, State, ended_by, fold_by, fold_file, fold_need, fold_new, fold_of, fold_opened, fold_steps, fold_tail, on, over, put_by, reported, then_fold, with_accepted, with_module}
use Rattle.file_report.specs.Reports.{Checking}
use Rattle.file_report.specs.TheoryReports.{by_verdict, report_from}

-- what follows, the same at each state
then_same : {T : Type 0} (p : Progress T) (f g : State T → Progress T) → ((s : State T) → f s ≡ g s) → then_fold p f ≡ then_fold p g
then_same (on s) f g same = same s
then_same (over r) f g same = refl

-- the same state but for the modules opened so far
abbrev with_known : {T : Type 0} → State T → List (List ℕ) → State T
with_known s k = record { theory = s.theory; lines = s.lines; count = s.count; known = k }

-- a report with these lines in front
abbrev with_front : List PlainShown → FileReport → FileReport
with_front lines r = record { lines = lines ++ r.lines; outcome = r.outcome }

no_more : (lines : List PlainShown) (o : Outcome) → with_front lines (record { lines = []; outcome = o }) ≡ (let r : FileReport = record { lines = lines; outcome = o } in r)
no_more lines o = ap (λ ls. let r : FileReport = record { lines = ls; outcome = o } in r) (append-nil lines)

module _ {T : Type 0} (checks : Checking T) where
  -- a list of commands, taken one after the other from a state
  abbrev pub run_end : Reached → State T → Progress T
  run_end (goes_on known) s = on (with_known s known)
  run_end (ends e) s = ended_by s e

  abbrev pub run : List Placed → Reached → State T → Progress T
  run [] r s = run_end r s
  run (c ∷ cs) r s = put_by checks (checks.verdict_on s.theory s.count c) c s (run cs r)

  abbrev pub run_walk : Walk → State T → Progress T
  run_walk w s = run w.commands w.reached s

  verdict_same : (v : Verdict) (c : Placed) (s : State T) (f g : State T → Progress T) → ((s : State T) → f s ≡ g s) → put_by checks v c s f ≡ put_by checks v c s g
  verdict_same verdict.Accepted c s f g same = same (with_accepted checks s c)
  verdict_same (verdict.Refused code) c s f g same = refl
  verdict_same verdict.Ended c s f g same = refl
  verdict_same verdict.Memory c s f g same = refl

  verdict_then : (v : Verdict) (c : Placed) (s : State T) (f g : State T → Progress T) → put_by checks v c s (λ t. then_fold (f t) g) ≡ then_fold (put_by checks v c s f) g
  verdict_then verdict.Accepted c s f g = refl
  verdict_then (verdict.Refused code) c s f g = refl
  verdict_then verdict.Ended c s f g = refl
  verdict_then verdict.Memory c s f g = refl

  -- the modules opened so far are those at the end alone
  known_by : (v : Verdict) (c : Placed) (k : List (List ℕ)) (s : State T) (f : State T → Progress T) → ((t : State T) → f t ≡ f (with_known t k))
      → put_by checks v c s f ≡ put_by checks v c (with_known s k) f
  known_by verdict.Accepted c k s f same = same (with_accepted checks s c)
  known_by (verdict.Refused code) c k s f same = refl
  known_by verdict.Ended c k s f same = refl
  known_by verdict.Memory c k s f same = refl

  run_known : (cs : List Placed) (r : Reached) (k : List (List ℕ)) (s : State T) → run cs r s ≡ run cs r (with_known s k)
  run_known [] (goes_on known) k s = refl
  run_known [] (ends e) k s = refl
  run_known (c ∷ cs) r k s = known_by (checks.verdict_on s.theory s.count c) c k s (run cs r) (run_known cs r k)

  -- a walk and what follows it
  pub run_follow : (cs : List Placed) (r : Reached) (next : List (List ℕ) → Walk) (s : State T) → run_walk (follow cs r next) s ≡ then_fold (run cs r s) (λ t. run_walk (next t.known) t)
  run_follow [] (goes_on known) next s = run_known (next known).commands (next known).reached known s
  run_follow [] (ends e) next s = refl
  run_follow (c ∷ cs) (goes_on known) next s =
      verdict_same (checks.verdict_on s.theory s.count c) c s _ _ (run_follow cs (goes_on known) next)
      ∙ verdict_then (checks.verdict_on s.theory s.count c) c s (run cs (goes_on known)) (λ t. run_walk (next t.known) t)
  run_follow (c ∷ cs) (ends e) next s =
      verdict_same (checks.verdict_on s.theory s.count c) c s _ _ (run_follow cs (ends e) next)
      ∙ verdict_then (checks.verdict_on s.theory s.count c) c s (run cs (ends e)) (λ t. run_walk (next t.known) t)

  -- ---- the fold and the walk

  abbrev IsRun : NeedFold T → Need → Type 0
  IsRun folds needs = (d : Bool) (line : ℕ) (m : List ℕ) (s : State T) → folds d line m s ≡ run_walk (needs d line m s.known) s

  tail_is : (book : Key) (tail : BookTail) (s : State T) → fold_tail book tail s ≡ run_walk (walk_tail book tail s.known) s
  tail_is book whole s = refl
  tail_is book (fault line code) s = refl
  tail_is book (unread line) s = refl

  put_is : (v : Verdict) (c : Placed) (s : State T) (f g : State T → Progress T) → f (with_accepted checks s c) ≡ g (with_accepted checks s c) → put_by checks v c s f ≡ put_by checks v c s g
  put_is verdict.Accepted c s f g same = same
  put_is (verdict.Refused code) c s f g same = refl
  put_is verdict.Ended c s f g same = refl
  put_is verdict.Memory c s f g same = refl

  steps_are : (folds : NeedFold T) (needs : Need) → IsRun folds needs → (book : Key) (ss : List BookStep) (tail : BookTail) (s : State T)
      → fold_steps checks folds book ss tail s ≡ run_walk (walk_steps needs book ss tail s.known) s
  steps_are folds needs are book [] tail s = tail_is book tail s
  steps_are folds needs are book (put x ∷ ss) tail s =
      let c : Placed = record { book = book; command = x } in
      let w = walk_steps needs book ss tail s.known in
      put_is (checks.verdict_on s.theory s.count c) c s (fold_steps checks folds book ss tail) (run w.commands w.reached) (steps_are folds needs are book ss tail (with_accepted checks s c))
  steps_are folds needs are book (need d line m ∷ ss) tail s =
      ap (λ p. then_fold p (fold_steps checks folds book ss tail)) (are d line m s)
      ∙ then_same (run_walk (needs d line m s.known) s) _ _ (steps_are folds needs are book ss tail)
      ∙ sym (run_follow (needs d line m s.known).commands (needs d line m s.known).reached (λ more. walk_steps needs book ss tail more) s)

  by_is : (how : Standing) (d : Bool) (spot : Spot) (s : State T) (p : Progress T) (w : Walk) → p ≡ run_walk w s → fold_by how d spot s p ≡ run_walk (by_standing how d spot s.known w) s
  by_is Current true spot s p w is = refl
  by_is Current false spot s p w is = refl
  by_is Below d spot s p w is = refl
  by_is WasRead d spot s p w is = refl
  by_is New d spot s p w is = is

  opened_is : (folds : Key → NeedFold T) (needs : Key → Need) → ((b : Key) → IsRun (folds b) (needs b)) → (spot : Spot) (m : List ℕ) (o : Opened) (s : State T)
      → fold_opened checks folds spot m o s ≡ run_walk (walk_opened needs spot m o s.known) s
  opened_is folds needs are spot m unopened s = refl
  opened_is folds needs are spot m (opened r) s =
      let w = walk_steps (needs (Some m)) (Some m) (steps_in r.items) r.tail (s.known ++ m ∷ []) in
      steps_are (folds (Some m)) (needs (Some m)) (are (Some m)) (Some m) (steps_in r.items) r.tail (with_module s m)
      ∙ sym (run_known w.commands w.reached (s.known ++ m ∷ []) s)

  if_is : (b : Bool) (s : State T) (p q : Progress T) (v w : Walk) → p ≡ run_walk v s → q ≡ run_walk w s → (if b then p else q) ≡ run_walk (if b then v else w) s
  if_is true s p q v w one two = one
  if_is false s p q v w one two = two

  module _ (limits : ModuleLimits) (own : Option (List ℕ)) (lib : Library) where
    new_is : (room : ℕ) (book : Key) (below : List Key) (line : ℕ) (m : List ℕ) (s : State T)
        → fold_new checks limits own lib room book below line m s ≡ run_walk (walk_new limits own lib room book below line m s.known) s
    new_is zero book below line m s = refl
    new_is (suc room) book below line m s =
        let spot : Spot = record { book = book; line = line } in
        let folds : Key → NeedFold T = λ b d l n t. fold_by (standing_of own b (book ∷ below) t.known n) d (record { book = b; line = l }) t (fold_new checks limits own lib room b (book ∷ below) l n t) in
        let needs : Key → Need = λ b d l n more. by_standing (standing_of own b (book ∷ below) more n) d (record { book = b; line = l }) more (walk_new limits own lib room b (book ∷ below) l n more) in
        if_is (nat_le limits.modules (length s.known)) s
        (ended_by s (refused_at spot E16))
        (fold_opened checks folds spot m (lib (Some m)) s)
        (stopped (refused_at spot E16))
        (walk_opened needs spot m (lib (Some m)) s.known)
        refl
        (opened_is folds needs
        (λ b d l n t. by_is (standing_of own b (book ∷ below) t.known n) d (record { book = b; line = l }) t (fold_new checks limits own lib room b (book ∷ below) l n t) (walk_new limits own lib room b (book ∷ below) l n t.known) (new_is room b (book ∷ below) l n t))
        spot m (lib (Some m)) s)

    need_is : (room : ℕ) (below : List Key) (book : Key) → IsRun (fold_need checks limits own lib room below book) (needs_in limits own lib room below book)
    need_is room below book d line m s =
        by_is (standing_of own book below s.known m) d (record { book = book; line = line }) s (fold_new checks limits own lib room book below line m s) (walk_new limits own lib room book below line m s.known) (new_is room book below line m s)

    file_is : (o : Opened) (s : State T) → s.known ≡ [] → fold_file checks limits own lib o s ≡ run_walk (walk_file limits own lib o) s
    file_is unopened s none = refl
    file_is (opened r) s none =
        steps_are (fold_need checks limits own lib (limits.files - 1) [] None) (needs_in limits own lib (limits.files - 1) [] None) (need_is (limits.files - 1) [] None) None (steps_in r.items) r.tail s
        ∙ ap (λ k. run_walk (walk_steps (needs_in limits own lib (limits.files - 1) [] None) None (steps_in r.items) r.tail k) s) none

  -- ---- the report

  report_verdict : (v : Verdict) (c : Placed) (cs : List Placed) (r : Reached) (s : State T)
      → reported (run cs r (with_accepted checks s c)) ≡ with_front (with_accepted checks s c).lines (report_from checks (checks.after s.theory c) (s.count + 1) cs r)
      → reported (put_by checks v c s (run cs r)) ≡ with_front s.lines (by_verdict v s.count c (checks.shown_on s.theory c) (report_from checks (checks.after s.theory c) (s.count + 1) cs r))
  report_verdict verdict.Accepted c cs r s later =
      let rest = report_from checks (checks.after s.theory c) (s.count + 1) cs r in
      later ∙ ap (λ ls. let x : FileReport = record { lines = ls; outcome = rest.outcome } in x) (append_assoc s.lines _ rest.lines)
  report_verdict (verdict.Refused code) c cs r s later = sym (no_more s.lines _)
  report_verdict verdict.Ended c cs r s later = sym (no_more s.lines _)
  report_verdict verdict.Memory c cs r s later = sym (no_more s.lines _)

  report_run : (cs : List Placed) (r : Reached) (s : State T) → reported (run cs r s) ≡ with_front s.lines (report_from checks s.theory s.count cs r)
  report_run [] (goes_on known) s = sym (no_more s.lines _)
  report_run [] (ends e) s = sym (no_more s.lines _)
  report_run (c ∷ cs) r s = report_verdict (checks.verdict_on s.theory s.count c) c cs r s (report_run cs r (with_accepted checks s c))

  -- the fold is the report of the commands in the order of first need
  pub fold_is_report : (limits : ModuleLimits) (own : Option (List ℕ)) (lib : Library) (none : T)
      → fold_of checks limits own lib none ≡ report_from checks none 0 (walk_of limits own lib).commands (walk_of limits own lib).reached
  fold_is_report limits own lib none =
      let s : State T = record { theory = none; lines = []; count = 0; known = [] } in
      let w = walk_of limits own lib in
      ap reported (file_is limits own lib (lib None) s refl) ∙ report_run w.commands w.reached s
