-- All clauses of `run`, from the one.
use Rattle.std.proofs.Common.{◌≡◌, ℕ, inl, sym, subst, ◌∙◌}
use Rattle.std.specs.Prelude.{Option}
use Rattle.dk_model.specs.declared.limits.Limits.{Limits}
use Rattle.command_line.specs.Requests.{Request, to_certify, to_make, to_prune, to_recheck, to_replay}
use Rattle.book_reader.specs.Shelves.{ShelfState}
use Rattle.accepted_theory.specs.Laws.{ReportedAreRead}
use Rattle.certify_theory.specs.Laws.{CertifiedIsRechecked}
use Rattle.prune_file.specs.Laws.{AcceptedIsReported, PrunedStandsAlone}
use Rattle.recheck_theory.specs.Laws.{RecheckedHaveDerivations}
use Rattle.dk_check_run.specs.Books.{asked_setting, made_setting}
use Rattle.dk_check_run.specs.Run.{SinkState}
use Rattle.dk_check_run.specs.Clauses.{Promises}
use Rattle.dk_check_run.specs.Table.{Runs, rows_of}
use Rattle.dk_check_run.proofs.Derived.{books_derived}
use Rattle.dk_check_run.proofs.General as general
use Rattle.dk_check_run.proofs.Commands as law

pub promises : PrunedStandsAlone → AcceptedIsReported → RecheckedHaveDerivations → ReportedAreRead → CertifiedIsRechecked → (limits : Limits) (request : Option Request) (old new : ShelfState) (before after : SinkState) (result : ℕ) → Runs limits request old new before after result
    → Promises limits request old new before after result
promises stands_alone reported derive read certified limits request old new before after result a = record {
  checks = law.headline limits request old new before after result a;
  derived = λ q books asks zero.
      let report = law.decided limits request old new before after result a q books asks (inl zero) in
      books_derived (asked_setting limits q books) q.budget (sym report.status ∙ zero);
  decided = law.decided limits request old new before after result a;
  shelf_held = general.shelf_held (rows_of limits) request old new before after result a;
  makes = law.makes limits request old new before after result a;
  make_due = λ q asks. law.asked limits request old new before after result a (to_make q) asks;
  make_derived = λ q asked zero.
      let report = law.made limits request old new before after result a q asked zero in
      books_derived (made_setting limits q) q.budget (sym report.status ∙ zero);
  certifies = law.certifies limits request old new before after result a;
  certify_decided = law.certify_decided limits request old new before after result a;
  certified_rechecked = law.certified_rechecked limits request old new before after result read certified a;
  certify_due = λ q asks. law.asked limits request old new before after result a (to_certify q) asks;
  rechecks = law.rechecks limits request old new before after result a;
  recheck_derived = law.recheck_derived limits request old new before after result derive a;
  recheck_decided = law.recheck_decided limits request old new before after result a;
  recheck_due = λ q asks. law.asked limits request old new before after result a (to_recheck q) asks;
  prunes = law.prunes limits request old new before after result stands_alone reported a;
  prune_decided = law.prune_decided limits request old new before after result stands_alone reported a;
  prune_due = λ q asks. law.asked limits request old new before after result a (to_prune q) asks;
  replays = law.replays limits request old new before after result a;
  replay_whole = law.replay_whole limits request old new before after result a;
  replay_due = λ q asks. law.asked limits request old new before after result a (to_replay q) asks;
  usage = general.usage (rows_of limits) request old new before after result a;
  usage_only = general.usage_only (rows_of limits) request old new before after result a;
  untouched = law.untouched limits request old new before after result a;
  shelf_failed = law.shelf_failed limits request old new before after result a;
  sink_failed = general.sink_failed (rows_of limits) request old new before after result a;
  sink_held = general.sink_held (rows_of limits) request old new before after result a;
  statuses = general.statuses (rows_of limits) request old new before after result a;
}

-- the same by an equation of the limits
pub runs_at : {a b : Limits} {request : Option Request} {old new : ShelfState} {before after : SinkState} {result : ℕ} → a ≡ b → Runs a request old new before after result → Runs b request old new before after result
runs_at {request = request} {old = old} {new = new} {before = before} {after = after} {result = result} same r = subst (λ (l : Limits). Runs l request old new before after result) same r
