use Rattle.std.proofs.Common.{◌≡◌, ◌∙◌, ℕ, true, ap, sym}
use Rattle.dk_model.specs.Verdicts.{verdict_of}
use Rattle.scope_terms.specs.Scopes.{scoped}
use Rattle.shared_term.specs.declared.command.StoredCommand.{StoredCommand}
use Rattle.shared_term.specs.Commands.{stored_command}
use Rattle.signature_log.specs.Versions.{entries_of}
use Rattle.signature_log.specs.declared.version.Version.{Version}
use Rattle.verdict_book.specs.Titles.{shown_in}
use Rattle.verdict_book.specs.declared.shown.Shown.{Shown}
use Rattle.board_core.specs.declared.event.Place.{Place}
use Rattle.file_check.specs.Findings.{is_early}
use Rattle.file_check.proofs.theory.Theory.prepare.Goals as goal

pub returns-in-Ok-as_job-clause-ok : goal.returns-in-Ok-as_job-clause-ok
returns-in-Ok-as_job-clause-ok c =
    let before = c.in-Ok.gone in
    let known = c.in-Ok.ensures.ok in
    let job = c.in-Ok-as_job.prepared.job in
    let made = c.in-Ok-as_job.ensures in
    record {
      signature = ap entries_of made.version ∙ known.before;
      command = known.command ∙ ap (λ (s : StoredCommand). scoped (stored_command s)) (sym made.command);
      budget_is = made.budget_is;
      place_is = made.place_is;
      shown_is =
          ap (λ (p : Place). shown_in p.«module» c.in-Ok-as_job.prepared.title.shown) made.place_is
          ∙ ap (λ (s : Shown). shown_in c.args.command.place.«module» s) made.shown
          ∙ known.shown c.args.command.place.«module»;
      title = made.title;
      early = made.settled ∙ known.early ∙ ap (λ (s : StoredCommand). is_early (stored_command s)) (sym made.command);
      settled = λ is.
          let both = known.settled (sym made.settled ∙ is) in (
            ap (λ (s : StoredCommand). is_early (stored_command s)) made.command ∙ both.0,
            ap (λ (v : Version). verdict_of (entries_of v) (stored_command job.command) job.budget) made.version
                ∙ ap (λ (s : StoredCommand). verdict_of (entries_of before.before) (stored_command s) job.budget) made.command
                ∙ ap (λ (units : ℕ). verdict_of (entries_of before.before) (stored_command before.stored) units) made.budget_is
                ∙ both.1,
          );
      theory = known.theory;
    }

pub returns-in-Ok-as_job-clause-modules : goal.returns-in-Ok-as_job-clause-modules
returns-in-Ok-as_job-clause-modules c = c.in-Ok.ensures.ok.modules
