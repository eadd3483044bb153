-- For proofs: the desk where commands become jobs, and what a step of it comes to.
use Rattle.std.specs.Prelude.{◌≡◌, ◌≢◌, ◌⊎◌, ◌<◌, ◌≤◌, ℕ, Bool, true, List, [], ◌∷◌, ◌++◌, length, map, nat_le, if◌then◌else◌, Option, Result, Ok, Err}
use Rattle.std.specs.List.{list_any}
use Rattle.dk_model.specs.declared.code.Code.TheVariants.{E08}
use Rattle.dk_model.specs.declared.code.Verdict.{Verdict}
use Rattle.dk_model.specs.declared.code.Verdict.TheVariants as verdict
use Rattle.dk_model.specs.declared.limits.Limits.{Limits}
use Rattle.dk_parser.specs.Written.{WrittenForm}
use Rattle.board_core.specs.declared.event.Event.{Event}
use Rattle.board_core.specs.declared.event.Place.{Place}
use Rattle.board_core.specs.Events.{is_fault}
use Rattle.task_board.specs.Histories.{events_in}
use Rattle.verdict_book.specs.declared.title.Title.{Title}
use Rattle.theory_walk.specs.Walks.{Placed}
use Rattle.file_report.specs.Outcomes.{no_theory}
use Rattle.file_report.specs.Jobs.{AreJobsBehind, TheoryJob, job_titles, theory_behind}
use Rattle.file_check.specs.declared.desk.Desk.{Desk}
use Rattle.file_check.specs.declared.halt.NotPut.{NotPut}
use Rattle.file_check.specs.declared.halt.NotPut.TheVariants as not_put
use Rattle.file_check.specs.declared.job.Job.{Job}
use Rattle.file_check.specs.declared.theory.Prepared.{Prepared}
use Rattle.file_check.specs.Jobs.{KeepsModules, Prepares, job_of, theory_of, verdict_in}

abbrev pub plain_jobs : List (Job × Bool) → List TheoryJob
plain_jobs jobs = map (λ j. job_of j.0) jobs

-- the jobs that the desk has put, each settled or not
abbrev pub known_at : Desk → List (Job × Bool)
known_at desk = desk.pass.seat.me.0.known

-- the part of the board's history that it has seen
abbrev pub seen_at : Desk → List Event
seen_at desk = events_in desk.pass.seat.me.0.seen

-- each job has a number and its title
pub record IsSound (limits : Limits) (titles : List Title) (jobs : List (Job × Bool)) : Type 0 where
  pub limit : limits.commands < 4294967294
  pub few : length jobs ≤ limits.commands
  pub as_many : length titles ≡ length jobs
  pub titled : titles ≡ job_titles job_of jobs

-- the next command may come
pub record IsReady (desk : Desk) : Type 0 where
  pub sound : IsSound desk.limits desk.titles (known_at desk)
  pub counted : (theory_of desk.theory).names.count ≡ length desk.titles

-- ---- steps

abbrev pub same_bounds : Desk → Desk → Type 0
same_bounds old new = (new.limits ≡ old.limits) × (new.budget ≡ old.budget)

-- one job more, with its title
pub record Joins (old new : Desk) (p : Prepared) : Type 0 where
  pub jobs : known_at new ≡ known_at old ++ (p.job, p.settled) ∷ []
  pub titles : new.titles ≡ old.titles ++ p.title ∷ []

pub record Stays (old new : Desk) : Type 0 where
  pub jobs : known_at new ≡ known_at old
  pub titles : new.titles ≡ old.titles

-- a job was put; or some job is at fault; or memory ended before it was put
abbrev pub Puts : Desk → Prepared → Desk → Result Unit NotPut → Type 0
Puts old p new (Ok u) = Joins old new p
Puts old p new (Err not_put.Stopped) = Stays old new × (list_any is_fault (seen_at new) ≡ true)
Puts old p new (Err (not_put.Verdict v)) = Stays old new × (v ≡ verdict.Memory)

-- the job of the command, which stands at this place, was put
pub record Takes (old new : Desk) (form : WrittenForm) (place : Place) : Type 0 where
  pub prepared : Prepared
  pub prepares : Prepares old.budget old.theory form place prepared new.theory
  pub joins : Joins old new prepared
  pub modules : KeepsModules old.theory new.theory

-- the verdict that the next command is due
abbrev pub verdict_next : Desk → WrittenForm → Verdict
verdict_next desk form = if nat_le desk.limits.commands (length desk.titles) then verdict.Refused E08 else verdict_in desk.budget desk.theory form

-- the verdict on the command, which isn't Accepted
pub record IsVerdictOn (desk : Desk) (form : WrittenForm) (v : Verdict) : Type 0 where
  pub other : v ≢ verdict.Accepted
  pub due_is : (v ≡ verdict.Memory) ⊎ (verdict_next desk form ≡ v)

-- a command became a job; or some job is at fault; or the command has another verdict and is no job
abbrev pub Enters : Desk → WrittenForm → Place → Desk → Result Unit NotPut → Type 0
Enters old form place new (Ok u) = Takes old new form place
Enters old form place new (Err not_put.Stopped) = Stays old new × (list_any is_fault (seen_at new) ≡ true)
Enters old form place new (Err (not_put.Verdict v)) = Stays old new × IsVerdictOn old form v

-- ---- the desk behind the commands of a theory

-- no command was handed over yet
pub record IsFresh (desk : Desk) : Type 0 where
  pub limit : desk.limits.commands < 4294967294
  pub theory : theory_of desk.theory ≡ no_theory
  pub titles : desk.titles ≡ []
  pub jobs : known_at desk ≡ []

-- within these limits, with this budget and this module of the file: these commands are the jobs, each over those before it
pub record StandsBehind (limits : Limits) (budget : ℕ) (own : Option (List ℕ)) (desk : Desk) (done : List Placed) : Type 0 where
  pub limits_are : desk.limits ≡ limits
  pub budget_is : desk.budget ≡ budget
  pub theory : theory_of desk.theory ≡ theory_behind limits budget own no_theory done
  pub counted : length (known_at desk) ≡ length done
  pub jobs : AreJobsBehind limits budget own no_theory done (plain_jobs (known_at desk))
