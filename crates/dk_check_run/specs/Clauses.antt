-- Trusted: what a reader looks for, each promise by its name; all follow from the one clause.
use Rattle.std.specs.Prelude.{◌≡◌, ◌≢◌, ◌⊎◌, ◌<◌, ℕ, List, Option, None, Some}
use Rattle.dk_io.specs.Bytes.{Books}
use Rattle.dk_io.specs.Causes.{Rose}
use Rattle.dk_model.specs.declared.limits.Limits.{Limits}
use Rattle.command_line.specs.Requests.{CertifyRequest, CheckRequest, MakeRequest, PruneRequest, RecheckRequest, ReplayRequest, Request, to_certify, to_check, to_make, to_prune, to_recheck, to_replay}
use Rattle.command_line.specs.Usage.{usage_text}
use Rattle.theory_walk.specs.BookNames.{book_named}
use Rattle.theory_walk.specs.Libraries.{Key}
use Rattle.book_reader.specs.Shelves.{HasHeld, ShelfState}
use Rattle.dk_check_run.specs.Certify.{AsksToCertify, CertifiesFile, HasCertifyFault, IsOpeningDue, IsRecheckedWhole}
use Rattle.dk_check_run.specs.Prune.{AsksToPrune, HasFileFault, PrunesFile}
use Rattle.dk_check_run.specs.Recheck.{AsksToRecheck, HasRecheckFault, IsModuleDue, IsRecheckDerived, RechecksFile}
use Rattle.dk_check_run.specs.Replay.{AsksToReplay, HasScriptFault, ReplaysScript}
use Rattle.dk_check_run.specs.Derivations.{IsMadeDerived, IsTheoryDerived}
use Rattle.dk_check_run.specs.Run.{AsksFor, HasShelfFault, IsBookDue, IsDecided, OpensNothing, ReportsFile, ReportsTheory, SinkState, Writes, memory_at_once}
use Rattle.dk_check_run.specs.Table.{RunsCommand}

pub record Promises (limits : Limits) (request : Option Request) (old new : ShelfState) (before after : SinkState) (result : ℕ) : Type 0 where
  pub checks : (q : CheckRequest) (books : Books) → AsksFor request old.books q books
      → ((book : Key) → IsBookDue limits q books book → ¬ (Rose (old.missed (book_named q.file book)) (new.missed (book_named q.file book))))
      → ¬ (Rose old.faults new.faults) → ¬ (Rose before.faults after.faults) → result ≢ 4 → ReportsFile limits q books before.taken after.taken result
  pub derived : (q : CheckRequest) (books : Books) → AsksFor request old.books q books → result ≡ 0 → IsTheoryDerived limits q books
  pub decided : (q : CheckRequest) (books : Books) → AsksFor request old.books q books → IsDecided result → ReportsFile limits q books before.taken after.taken result
  pub shelf_held : result ≡ 0 → HasHeld old new
  pub makes : (q : MakeRequest) → request ≡ Some (to_make q) → ¬ (Rose before.faults after.faults) → result ≢ 4 → ReportsTheory limits q before.taken after.taken result
  pub make_due : (q : MakeRequest) → request ≡ Some (to_make q) → RunsCommand limits (to_make q) old new before after result
  pub make_derived : (q : MakeRequest) → request ≡ Some (to_make q) → result ≡ 0 → IsMadeDerived limits q
  pub certifies : (q : CertifyRequest) (books : Books) → AsksToCertify request old.books q books
      → ((book : Key) → IsOpeningDue limits q books book → ¬ (Rose (old.missed (book_named q.file book)) (new.missed (book_named q.file book))))
      → ¬ (Rose old.faults new.faults) → ¬ (Rose before.faults after.faults) → result ≢ 4 → CertifiesFile limits q books before.taken after.taken result
  pub certify_decided : (q : CertifyRequest) (books : Books) → AsksToCertify request old.books q books → IsDecided result → CertifiesFile limits q books before.taken after.taken result
  pub certified_rechecked : (q : CertifyRequest) (books : Books) → AsksToCertify request old.books q books → result ≡ 0 → IsRecheckedWhole limits q books before.taken after.taken
  pub certify_due : (q : CertifyRequest) → request ≡ Some (to_certify q) → RunsCommand limits (to_certify q) old new before after result
  pub rechecks : (q : RecheckRequest) (books : Books) → AsksToRecheck request old.books q books → ¬ (Rose (old.missed q.file) (new.missed q.file))
      → ((m : List ℕ) → IsModuleDue limits q books m → ¬ (Rose (old.missed (book_named q.file (Some m))) (new.missed (book_named q.file (Some m)))))
      → ¬ (Rose (old.missed q.certificate) (new.missed q.certificate)) → ¬ (Rose old.faults new.faults)
      → ¬ (Rose before.faults after.faults) → result ≢ 4 → RechecksFile limits q books before.taken after.taken result
  pub recheck_derived : (q : RecheckRequest) (books : Books) → AsksToRecheck request old.books q books → result ≡ 0 → IsRecheckDerived limits q books
  pub recheck_decided : (q : RecheckRequest) (books : Books) → AsksToRecheck request old.books q books → IsDecided result → RechecksFile limits q books before.taken after.taken result
  pub recheck_due : (q : RecheckRequest) → request ≡ Some (to_recheck q) → RunsCommand limits (to_recheck q) old new before after result
  pub prunes : (q : PruneRequest) (books : Books) → AsksToPrune request old.books q books → ¬ (Rose (old.missed q.file) (new.missed q.file)) → ¬ (Rose old.faults new.faults)
      → ¬ (Rose before.faults after.faults) → result ≢ 4 → PrunesFile limits q books before.taken after.taken result
  pub prune_decided : (q : PruneRequest) (books : Books) → AsksToPrune request old.books q books → IsDecided result → PrunesFile limits q books before.taken after.taken result
  pub prune_due : (q : PruneRequest) → request ≡ Some (to_prune q) → RunsCommand limits (to_prune q) old new before after result
  pub replays : (q : ReplayRequest) (books : Books) → AsksToReplay request old.books q books → ¬ (Rose (old.missed q.script) (new.missed q.script)) → ¬ (Rose old.faults new.faults)
      → ¬ (Rose before.faults after.faults) → result ≢ 4 → ReplaysScript limits q books before.taken after.taken result
  pub replay_whole : (q : ReplayRequest) (books : Books) → AsksToReplay request old.books q books → result ≡ 0 → ReplaysScript limits q books before.taken after.taken result
  pub replay_due : (q : ReplayRequest) → request ≡ Some (to_replay q) → RunsCommand limits (to_replay q) old new before after result
  pub usage : request ≡ None → Writes before after usage_text 2 result ⊎ Writes before after memory_at_once 4 result
  pub usage_only : result ≡ 2 → request ≡ None
  pub untouched : OpensNothing request → new ≡ old
  pub shelf_failed : result ≡ 3 → ((q : CheckRequest) × (request ≡ Some (to_check q)) × HasShelfFault q old new before.taken after.taken)
      ⊎ (((q : CertifyRequest) × (request ≡ Some (to_certify q)) × HasCertifyFault q old new before.taken after.taken)
      ⊎ (((q : RecheckRequest) × (request ≡ Some (to_recheck q)) × HasRecheckFault q old new before.taken after.taken)
      ⊎ (((q : PruneRequest) × (request ≡ Some (to_prune q)) × HasFileFault q old new before.taken after.taken)
      ⊎ ((q : ReplayRequest) × (request ≡ Some (to_replay q)) × HasScriptFault limits q old new before.taken after.taken))))
  pub sink_failed : result ≡ 5 → Rose before.faults after.faults
  pub sink_held : result ≢ 5 → after.faults ≡ before.faults
  pub statuses : result < 7
