-- For callers: the jobs in which a theory of several files is checked (docs/modules.md, docs/board.md).
use Rattle.std.specs.Prelude.{◌≡◌, ◌||◌, ℕ, Bool, List, [], ◌∷◌, map, Option}
use Rattle.dk_model.specs.Answering.{is_answered, is_untyped}
use Rattle.dk_model.specs.Scoping.{PlainCommand}
use Rattle.dk_model.specs.Signatures.{PlainSignature}
use Rattle.dk_model.specs.Verdicts.{verdict_of}
use Rattle.dk_model.specs.declared.code.Verdict.{Verdict}
use Rattle.dk_model.specs.declared.code.Verdict.TheVariants.{Accepted}
use Rattle.dk_model.specs.declared.limits.Limits.{Limits}
use Rattle.scope_terms.specs.Scopes.{scoped}
use Rattle.theory_walk.specs.Walks.{Placed, spot_of}
use Rattle.verdict_book.specs.Titles.{shown_of}
use Rattle.verdict_book.specs.declared.title.Title.{Title}
use Rattle.file_report.specs.Outcomes.{Theory}
use Rattle.file_report.specs.Reports.{place_of}
use Rattle.file_report.specs.Theories.{scoped_at, shown_on, theory_with}

-- a scoped command with the signature before it, the budget for its check, and what a report shows of it
pub record TheoryJob : Type 0 where
  pub signature : PlainSignature
  pub command : PlainCommand
  pub budget : ℕ
  pub title : Title

-- the titles of these jobs
abbrev pub job_titles : {J : Type 0} → (J → TheoryJob) → List (J × Bool) → List Title
job_titles job_of jobs = map (λ j. (job_of j.0).title) jobs

-- the verdict on its own command over its own signature
abbrev pub due_on : TheoryJob → Verdict
due_on j = verdict_of j.signature j.command j.budget

-- the reader checks a definition without a type itself, and answers a query that only asks
abbrev pub is_early_on : TheoryJob → Bool
is_early_on j = is_untyped j.command || is_answered j.command

-- within these limits, with this budget, where this is the file's own module
module _ (limits : Limits) (budget : ℕ) (own : Option (List ℕ)) where
  -- the theory behind these commands, as if each of them were accepted
  abbrev pub theory_behind : Theory → List Placed → Theory
  theory_behind T [] = T
  theory_behind T (c ∷ cs) = theory_behind (theory_with limits budget own T c) cs

  -- the job is this command, over this theory
  pub record IsJobAt (T : Theory) (c : Placed) (j : TheoryJob) : Type 0 where
    pub signature : j.signature ≡ T.signature
    pub command : scoped_at limits budget own T c ≡ scoped j.command
    pub budget_is : j.budget ≡ budget
    pub place : j.title.place ≡ place_of (spot_of c)
    pub shown : due_on j ≡ Accepted → shown_of j.title ≡ shown_on limits budget own T c

  -- the jobs are the first of these commands behind this theory, each over those before it as if they were accepted
  abbrev pub AreJobsBehind : Theory → List Placed → List TheoryJob → Type 0
  AreJobsBehind T cs [] = Unit {0}
  AreJobsBehind T [] (j ∷ js) = ⊥
  AreJobsBehind T (c ∷ cs) (j ∷ js) = IsJobAt T c j × AreJobsBehind (theory_with limits budget own T c) cs js
