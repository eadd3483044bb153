-- The desk behind the commands of a theory.
use Rattle.std.proofs.Common.{◌≡◌, ◌≢◌, ℕ, suc, ◌+◌, Bool, false, List, [], ◌∷◌, ◌++◌, length, refl, sym, ap, subst, ◌∙◌, length-append}
use Rattle.std.specs.Prelude.{nat_le, if◌then◌else◌}
use Rattle.std.proofs.lemmas.List.{map-append}
use Rattle.dk_model.specs.declared.code.Code.TheVariants.{E08}
use Rattle.dk_model.specs.declared.code.Verdict.{Verdict}
use Rattle.dk_model.specs.declared.code.Verdict.TheVariants as verdict
use Rattle.dk_model.specs.declared.limits.Limits.{Limits}
use Rattle.dk_parser.specs.Written.{WrittenForm, written_declare}
use Rattle.scope_terms.specs.Scopes.{Module, Symbols, names_after, scope_of}
use Rattle.signature_log.specs.Versions.{entries_of}
use Rattle.board_core.specs.declared.event.Place.{Place}
use Rattle.board_core.specs.Events.{is_accepted}
use Rattle.term_print.specs.Words.{word_of}
use Rattle.theory_walk.specs.Walks.{Placed, module_in, spot_of}
use Rattle.verdict_book.specs.Titles.{shown_of}
use Rattle.verdict_book.specs.declared.title.Title.{Title}
use Rattle.file_report.specs.Outcomes.{Theory, no_theory, scoped_entry, scoped_verdict}
use Rattle.file_report.specs.Reports.{name_of, place_of}
use Rattle.file_report.specs.Shown.{scoped_shown}
use Rattle.file_report.specs.Jobs.{AreJobsBehind, IsJobAt, theory_behind}
use Rattle.file_report.specs.Theories.{shown_on, theory_with, verdict_on}
use Rattle.file_report.proofs.Putting.{jobs_more, theory_more}
use Rattle.file_check.specs.declared.desk.Desk.{Desk}
use Rattle.file_check.specs.declared.job.Job.{Job}
use Rattle.file_check.specs.Jobs.{job_of, module_at, theory_of}
use Rattle.file_check.specs.Desks.{IsFresh, IsReady, IsSound, StandsBehind, Takes, known_at, plain_jobs, same_bounds, verdict_next}

joined : (jobs : List (Job × Bool)) (j : Job) (s : Bool) → plain_jobs (jobs ++ (j, s) ∷ []) ≡ plain_jobs jobs ++ job_of j ∷ []
joined jobs j s = map-append (λ (x : Job × Bool). job_of x.0) jobs ((j, s) ∷ [])

count_jobs : (jobs : List (Job × Bool)) → length (plain_jobs jobs) ≡ length jobs
count_jobs [] = refl
count_jobs (j ∷ jobs) = ap suc (count_jobs jobs)

pub not_accepted : (v : Verdict) → v ≢ verdict.Accepted → is_accepted v ≡ false
not_accepted verdict.Accepted other = absurd (other refl)
not_accepted (verdict.Refused code) other = refl
not_accepted verdict.Ended other = refl
not_accepted verdict.Memory other = refl

module _ (limits : Limits) (budget : ℕ) (own : Module) (old new : Desk) (done : List Placed) (c : Placed) (behind : StandsBehind limits budget own old done) (module_is : module_at old.theory ≡ module_in own c.book) where
  abbrev over : Theory
  over = theory_behind limits budget own no_theory done

  abbrev TakesIt : Type 0
  TakesIt = Takes old new c.command.form (place_of (spot_of c))

  -- the job that was put is the command's
  job_is : (t : TakesIt) → IsJobAt limits budget own over c (job_of t.prepared.job)
  job_is t = subst (λ (T : Theory). IsJobAt limits budget own T c (job_of t.prepared.job)) behind.theory (record {
    signature = t.prepares.signature;
    command = ap (λ m. scope_of (theory_of old.theory).names m c.command.form) (sym module_is) ∙ t.prepares.command;
    budget_is = t.prepares.budget_is ∙ behind.budget_is;
    place = ap (λ (x : Title). x.place) (sym t.prepares.title) ∙ t.prepares.place_is;
    shown = λ accepted.
        ap shown_of (sym t.prepares.title) ∙ t.prepares.shown_is
        ∙ ap (λ m. scoped_shown (word_of (theory_of old.theory).names m) (name_of c) (entries_of old.theory.version) old.budget (scope_of (theory_of old.theory).names m c.command.form)) module_is
        ∙ ap (λ b. shown_on limits b own (theory_of old.theory) c) behind.budget_is;
  })

  theory_is : (t : TakesIt) → theory_of new.theory ≡ theory_with limits budget own over c
  theory_is t =
      t.prepares.theory
      ∙ ap (λ m. let T : Theory = record {
        names = names_after (theory_of old.theory).names m c.command.form;
        signature = entries_of old.theory.version ++ scoped_entry (entries_of old.theory.version) old.budget (scope_of (theory_of old.theory).names m c.command.form);
      } in T) module_is
      ∙ ap (λ b. theory_with limits b own (theory_of old.theory) c) behind.budget_is
      ∙ ap (λ (T : Theory). theory_with limits budget own T c) behind.theory

  pub goes_on : same_bounds old new → TakesIt → StandsBehind limits budget own new (done ++ c ∷ [])
  goes_on same t = record {
    limits_are = same.0 ∙ behind.limits_are;
    budget_is = same.1 ∙ behind.budget_is;
    theory = theory_is t ∙ sym (theory_more limits budget own no_theory done c);
    counted = ap length t.joins.jobs ∙ length-append (known_at old) ((t.prepared.job, t.prepared.settled) ∷ []) ∙ ap (λ n. n + 1) behind.counted ∙ sym (length-append done (c ∷ []));
    jobs = subst (AreJobsBehind limits budget own no_theory (done ++ c ∷ [])) (sym (ap plain_jobs t.joins.jobs ∙ joined (known_at old) t.prepared.job t.prepared.settled))
        (jobs_more limits budget own no_theory done (plain_jobs (known_at old)) c (job_of t.prepared.job) behind.jobs (count_jobs (known_at old) ∙ behind.counted) (job_is t));
  }

  -- the verdict that the command is due
  pub verdict_is : (v : Verdict) → length old.titles ≡ length (known_at old) → verdict_next old c.command.form ≡ v → verdict_on limits budget own over (length done) c ≡ v
  verdict_is v as_many is =
      ap (λ n. verdict_on limits budget own over n c) (sym (as_many ∙ behind.counted))
      ∙ ap (λ (T : Theory). verdict_on limits budget own T (length old.titles) c) (sym behind.theory)
      ∙ ap (λ b. verdict_on limits b own (theory_of old.theory) (length old.titles) c) (sym behind.budget_is)
      ∙ ap (λ (l : Limits). verdict_on l old.budget own (theory_of old.theory) (length old.titles) c) (sym behind.limits_are)
      ∙ ap (λ m. if nat_le old.limits.commands (length old.titles) then verdict.Refused E08 else scoped_verdict (entries_of old.theory.version) old.budget (scope_of (theory_of old.theory).names m c.command.form)) (sym module_is)
      ∙ is

-- a desk to which nothing was handed over
pub starts_behind : (own : Module) (desk : Desk) → IsFresh desk → StandsBehind desk.limits desk.budget own desk []
starts_behind own desk fresh = record {
  limits_are = refl;
  budget_is = refl;
  theory = fresh.theory;
  counted = ap length fresh.jobs;
  jobs = subst (λ js. AreJobsBehind desk.limits desk.budget own no_theory [] (plain_jobs js)) (sym fresh.jobs) tt;
}

-- a desk that kept its jobs
pub stays_behind : (limits : Limits) (budget : ℕ) (own : Module) (old new : Desk) (done : List Placed) → StandsBehind limits budget own old done → new.limits ≡ old.limits → new.budget ≡ old.budget
    → known_at new ≡ known_at old → theory_of new.theory ≡ theory_of old.theory → StandsBehind limits budget own new done
stays_behind limits budget own old new done behind limits_same budget_same jobs theory = record {
  limits_are = limits_same ∙ behind.limits_are;
  budget_is = budget_same ∙ behind.budget_is;
  theory = theory ∙ behind.theory;
  counted = ap length jobs ∙ behind.counted;
  jobs = subst (λ js. AreJobsBehind limits budget own no_theory done (plain_jobs js)) (sym jobs) behind.jobs;
}

counted_after : (names : Symbols) (m : Module) (form : WrittenForm) → (names_after names m form).count ≡ names.count + 1
counted_after names m (written_declare sort x params typ body) = refl
counted_after names m form = refl

pub ready_more : (old new : Desk) (form : WrittenForm) (place : Place) → IsReady old → IsSound new.limits new.titles (known_at new) → Takes old new form place → IsReady new
ready_more old new form place ready sound t = record {
  sound = sound;
  counted = ap (λ (T : Theory). T.names.count) t.prepares.theory
      ∙ counted_after (theory_of old.theory).names (module_at old.theory) form
      ∙ ap (λ n. n + 1) ready.counted
      ∙ sym (ap length t.joins.titles ∙ length-append old.titles (t.prepared.title ∷ []));
}
