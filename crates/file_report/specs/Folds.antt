-- Trusted: the fold of a file and of the modules that it needs, step by step as the rules have it: each command is checked where it stands,
-- on what those before it left, up to the first that isn't accepted (docs/modules.md).
use Rattle.std.specs.Prelude.{ℕ, zero, suc, ◌+◌, ◌-◌, Bool, true, false, nat_le, List, [], ◌∷◌, ◌++◌, length, if◌then◌else◌, Option, Some, None}
use Rattle.dk_model.specs.declared.code.Code.TheVariants.{E14, E15, E16}
use Rattle.dk_model.specs.declared.code.Verdict.{Verdict}
use Rattle.dk_model.specs.declared.code.Verdict.TheVariants as verdict
use Rattle.verdict_book.specs.Report.{FileReport, PlainShown}
use Rattle.verdict_book.specs.declared.outcome.Outcome.{Outcome}
use Rattle.theory_walk.specs.declared.needs.ModuleLimits.{ModuleLimits}
use Rattle.theory_walk.specs.declared.needs.Standing.{Standing}
use Rattle.theory_walk.specs.declared.needs.Standing.TheVariants.{Current, Below, WasRead, New}
use Rattle.theory_walk.specs.Libraries.{BookStep, BookTail, Key, Library, Opened, fault, need, opened, put, steps_in, unopened, unread, whole}
use Rattle.theory_walk.specs.Walks.{End, Placed, Spot, goes_on, no_file, not_opened, refused_at, spot_of, standing_of, unread_at}
use Rattle.file_report.specs.Reports.{Checking, end_outcome, reached_outcome, stopped_at}

-- what the accepted commands left: the theory, what is shown of them, how many they are, and the modules opened so far
pub record State (T : Type 0) : Type 0 where
  pub theory : T
  pub lines : List PlainShown
  pub count : ℕ
  pub known : List (List ℕ)

-- the fold goes on, or is over
pub data Progress (T : Type 0) : Type 0 where
  on : State T → Progress T
  over : FileReport → Progress T

abbrev pub then_fold : {T : Type 0} → Progress T → (State T → Progress T) → Progress T
then_fold (on s) next = next s
then_fold (over r) next = over r

abbrev pub over_at : {T : Type 0} → State T → Outcome → Progress T
over_at s o = over (record { lines = s.lines; outcome = o })

abbrev pub ended_by : {T : Type 0} → State T → End → Progress T
ended_by s e = over_at s (end_outcome s.count e)

abbrev pub with_module : {T : Type 0} → State T → List ℕ → State T
with_module s m = record { theory = s.theory; lines = s.lines; count = s.count; known = s.known ++ m ∷ [] }

abbrev pub fold_tail : {T : Type 0} → Key → BookTail → State T → Progress T
fold_tail book whole s = on s
fold_tail book (fault line code) s = ended_by s (refused_at (record { book = book; line = line }) code)
fold_tail book (unread line) s = ended_by s (unread_at (record { book = book; line = line }))

-- whether a directive has the need, its line, and the module
abbrev pub NeedFold : Type 0 → Type 0
NeedFold T = Bool → ℕ → List ℕ → State T → Progress T

-- a need that is refused is the outcome, at the number due; one that changes nothing is passed over
abbrev pub fold_by : {T : Type 0} → Standing → Bool → Spot → State T → Progress T → Progress T
fold_by Current true spot s new = ended_by s (refused_at spot E14)
fold_by Current false spot s new = on s
fold_by Below directive spot s new = ended_by s (refused_at spot E14)
fold_by WasRead directive spot s new = on s
fold_by New directive spot s new = new

-- where the file comes to its end, all was accepted
abbrev pub reported : {T : Type 0} → Progress T → FileReport
reported (on s) = record { lines = s.lines; outcome = reached_outcome s.count (goes_on s.known) }
reported (over r) = r

module _ {T : Type 0} (checks : Checking T) where
  abbrev pub with_accepted : State T → Placed → State T
  with_accepted s c = record { theory = checks.after s.theory c; lines = s.lines ++ checks.shown_on s.theory c ∷ []; count = s.count + 1; known = s.known }

  -- an accepted command is added and the book goes on; any other verdict is the outcome
  abbrev pub put_by : Verdict → Placed → State T → (State T → Progress T) → Progress T
  put_by verdict.Accepted c s next = next (with_accepted s c)
  put_by v c s next = over_at s (stopped_at (s.count + 1) (spot_of c) v)

  -- the steps of a book, one after the other
  abbrev pub fold_steps : NeedFold T → Key → List BookStep → BookTail → State T → Progress T
  fold_steps needs book [] tail s = fold_tail book tail s
  fold_steps needs book (put c ∷ ss) tail s =
      put_by (checks.verdict_on s.theory s.count (record { book = book; command = c })) (record { book = book; command = c }) s (fold_steps needs book ss tail)
  fold_steps needs book (need d line m ∷ ss) tail s = then_fold (needs d line m s) (fold_steps needs book ss tail)

  -- any other opens the module's book and folds it to its end
  abbrev pub fold_opened : (Key → NeedFold T) → Spot → List ℕ → Opened → State T → Progress T
  fold_opened needs spot m unopened s = ended_by s (not_opened spot m)
  fold_opened needs spot m (opened r) s = fold_steps (needs (Some m)) (Some m) (steps_in r.items) r.tail (with_module s m)

  module _ (limits : ModuleLimits) (own : Option (List ℕ)) (lib : Library) where
    abbrev pub fold_new : ℕ → Key → List Key → ℕ → List ℕ → State T → Progress T
    fold_new zero book below line m s = ended_by s (refused_at (record { book = book; line = line }) E15)
    fold_new (suc room) book below line m s =
        if nat_le limits.modules (length s.known) then ended_by s (refused_at (record { book = book; line = line }) E16)
        else (fold_opened
        (λ b d l n t. fold_by (standing_of own b (book ∷ below) t.known n) d (record { book = b; line = l }) t (fold_new room b (book ∷ below) l n t))
        (record { book = book; line = line }) m (lib (Some m)) s)

    abbrev pub fold_need : ℕ → List Key → Key → NeedFold T
    fold_need room below book d line m s =
        fold_by (standing_of own book below s.known m) d (record { book = book; line = line }) s (fold_new room book below line m s)

    abbrev pub fold_file : Opened → State T → Progress T
    fold_file unopened s = ended_by s no_file
    fold_file (opened r) s = fold_steps (fold_need (limits.files - 1) [] None) None (steps_in r.items) r.tail s

    -- the report of the file, from a theory of none
    abbrev pub fold_of : T → FileReport
    fold_of none = reported (fold_file (lib None) (record { theory = none; lines = []; count = 0; known = [] }))
