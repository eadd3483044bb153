-- The clauses of `run` about each command, from the one clause.
use Rattle.std.proofs.Common.{◌≡◌, ◌≢◌, ◌⊎◌, inl, inr, ℕ, List, refl, sym, ap, subst, ◌∙◌, arith}
use Rattle.std.specs.Prelude.{Option, Some}
use Rattle.dk_io.specs.Bytes.{Books, added}
use Rattle.dk_io.specs.Causes.{Rose}
use Rattle.dk_model.specs.declared.limits.Limits.{Limits}
use Rattle.command_line.specs.Requests.{CertifyRequest, CheckRequest, MakeRequest, PruneRequest, RecheckRequest, ReplayRequest, Request, to_certify, to_check, to_make, to_prune, to_recheck, to_replay}
use Rattle.verdict_book.specs.Report.{FileReport, status_of}
use Rattle.verdict_book.specs.declared.outcome.Outcome.{Outcome}
use Rattle.verdict_book.specs.declared.outcome.Outcome.TheVariants.{Unopened, Unread}
use Rattle.theory_walk.specs.BookNames.{book_named}
use Rattle.theory_walk.specs.Libraries.{Key}
use Rattle.book_reader.specs.Shelves.{ShelfState}
use Rattle.dk_check_run.specs.Books.{report_made}
use Rattle.dk_check_run.specs.Run.{AsksFor, HasShelfFault, IsBookDue, IsDecided, OpensNothing, ReportsFile, ReportsTheory, SinkState, memory_at_once, of_a_module, of_a_read, of_the_file, summary, text_of, text_with}
use Rattle.dk_check_run.specs.Certify as certify
use Rattle.dk_check_run.specs.Certify.{AsksToCertify, CertifiesFile, HasCertifyFault, IsOpeningDue, IsRecheckedWhole}
use Rattle.dk_check_run.specs.Check as check
use Rattle.dk_check_run.specs.Make as make
use Rattle.dk_check_run.specs.Prune as prune
use Rattle.dk_check_run.specs.Prune.{AsksToPrune, HasFileFault, PrunesFile, by_opening, by_read}
use Rattle.dk_check_run.specs.Recheck as recheck
use Rattle.dk_check_run.specs.Recheck.{AsksToRecheck, HasRecheckFault, IsModuleDue, IsRecheckDerived, RechecksFile}
use Rattle.dk_check_run.specs.Replay as replay
use Rattle.dk_check_run.specs.Replay.{AsksToReplay, HasScriptFault, ReplaysScript, by_opening as script_unopened, by_read as script_unread}
use Rattle.dk_check_run.specs.Rows.{Cause, Shows, memory, of_no_command, of_no_words, of_command}
use Rattle.dk_check_run.specs.Table.{Runs, RunsCommand, rows_of}
use Rattle.accepted_theory.specs.Laws.{ReportedAreRead}
use Rattle.certify_theory.specs.Laws.{CertifiedIsRechecked}
use Rattle.prune_file.specs.Laws.{AcceptedIsReported, PrunedStandsAlone}
use Rattle.dk_check_run.proofs.CertifyStatuses.{certify_failed, certify_missed, certify_own, rechecks_whole}
use Rattle.dk_check_run.proofs.CheckStatuses.{check_own, failed_due}
use Rattle.dk_check_run.proofs.General.{is_status, none_some, some_same, stands}
use Rattle.dk_check_run.proofs.PruneStatuses.{decided_not3, prune_failed, prune_own, stopped_not3}
use Rattle.recheck_theory.specs.Laws.{RecheckedHaveDerivations}
use Rattle.dk_check_run.proofs.RecheckStatuses.{recheck_failed, recheck_missed, recheck_own, rechecks_derived}
use Rattle.dk_check_run.proofs.ReplayStatuses.{replay_failed, replay_own}

-- ---- `check`

-- a row of `check` with status 3
module _ (limits : Limits) (q : CheckRequest) (old new : ShelfState) (before after : SinkState) where
  -- the outcome of a report, in its text
  texts : (r : FileReport) (o : Outcome) → r.outcome ≡ o → after.taken ≡ added before.taken (text_of q r) → after.taken ≡ added before.taken (text_with q r.lines o)
  texts r o is taken = taken ∙ ap (λ x. added before.taken (text_with q r.lines x)) is

  check_failed : (cause : Cause) (status : ℕ) (text : List ℕ) → check.IsDue limits q (text_with q) old new cause status text → Shows cause status old new → status ≡ 3 → after.taken ≡ added before.taken text
      → HasShelfFault q old new before.taken after.taken
  check_failed cause status text (check.of_the_books r of) shows three taken = decided_not3 shows.0 three
  check_failed cause status text (check.of_the_given r number place v failure outcome_is counted of) shows three taken = stopped_not3 shows.0 three
  check_failed cause status text (check.of_a_failed_read r number place unread_is of) shows three taken = of_a_read r.lines number place shows.1 (texts r (Unread number place) unread_is taken)
  check_failed cause status text (check.of_a_failed_opening leaves) shows three taken = of_the_file leaves shows.1 taken
  check_failed cause status text (check.of_a_missing_module r name missing_is of) shows three taken = of_a_module name r.lines shows.1 (texts r (Unopened name) missing_is taken)
  check_failed cause status text (check.of_memory lines number place of) shows three taken = absurd (omega (arith, three))
  check_failed cause status text check.of_no_memory shows three taken = absurd (omega (arith, three))

-- ---- `make`

make_own : (limits : Limits) (q : MakeRequest) (cause : Cause) (status : ℕ) (text : List ℕ) → make.IsDue limits q cause status text → status ≢ 4
    → (status ≡ status_of (report_made limits q).outcome) × (text ≡ summary q (report_made limits q).outcome)
make_own limits q cause status text make.of_the_theory not4 = (refl, refl)
make_own limits q cause status text (make.of_memory accepted line within due) not4 = absurd (not4 refl)
make_own limits q cause status text make.of_no_memory not4 = absurd (not4 refl)

make_not3 : (limits : Limits) (q : MakeRequest) (old new : ShelfState) (cause : Cause) (status : ℕ) (text : List ℕ) → make.IsDue limits q cause status text → Shows cause status old new → status ≢ 3
make_not3 limits q old new cause status text make.of_the_theory shows three = decided_not3 shows.0 three
make_not3 limits q old new cause status text (make.of_memory accepted line within due) shows three = absurd (omega (arith, three))
make_not3 limits q old new cause status text make.of_no_memory shows three = absurd (omega (arith, three))

-- ---- the clauses

at_once : (limits : Limits) (c : Request) (s : ShelfState) → rows_of limits c s s memory 4 memory_at_once
at_once limits (to_check q) s = check.of_no_memory
at_once limits (to_make q) s = (refl, make.of_no_memory)
at_once limits (to_certify q) s = certify.of_the_check memory 4 memory_at_once (λ e. absurd (omega (arith, e))) check.of_no_memory
at_once limits (to_recheck q) s = recheck.of_no_memory
at_once limits (to_prune q) s = prune.of_no_memory
at_once limits (to_replay q) s = replay.of_no_memory

module _ (limits : Limits) (request : Option Request) (old new : ShelfState) (before after : SinkState) (result : ℕ) where
  abbrev pub Answered : Type 0
  Answered = Runs limits request old new before after result

  -- where this command is asked for, a row of its own was written
  pub asked : Answered → (c : Request) → request ≡ Some c → RunsCommand limits c old new before after result
  asked (of_no_command none same w) c is = absurd (none_some c (sym none ∙ is))
  asked (of_no_words same w) c is = record {
    cause = memory;
    status = 4;
    text = memory_at_once;
    row = subst (λ s. rows_of limits c old s memory 4 memory_at_once) (sym same) (at_once limits c old);
    shows = refl;
    writes = w;
  }
  asked (of_command d e r) c is = subst (λ (x : Request). RunsCommand limits x old new before after result) (some_same d c (sym e ∙ is)) r

  own : Answered → (q : CheckRequest) (books : Books) → AsksFor request old.books q books → result ≢ 3 → result ≢ 4 → result ≢ 5 → ReportsFile limits q books before.taken after.taken result
  own a q books asks not3 not4 not5 =
      let r = asked a (to_check q) asks.asked in
      let s = is_status r.writes not5 in
      let o = check_own limits q (text_with q) books old new asks.told_are r.cause r.status r.text r.row r.shows (λ e. not3 (s ∙ e)) (λ e. not4 (s ∙ e)) in
      record { status = s ∙ o.0; text = r.writes.whole not5 ∙ ap (added before.taken) o.1 }

  pub decided : Answered → (q : CheckRequest) (books : Books) → AsksFor request old.books q books → IsDecided result → ReportsFile limits q books before.taken after.taken result
  decided a q books asks (inl e) = own a q books asks (λ f. absurd (omega (arith, e, f))) (λ f. absurd (omega (arith, e, f))) (λ f. absurd (omega (arith, e, f)))
  decided a q books asks (inr (inl e)) = own a q books asks (λ f. absurd (omega (arith, e, f))) (λ f. absurd (omega (arith, e, f))) (λ f. absurd (omega (arith, e, f)))
  decided a q books asks (inr (inr e)) = own a q books asks (λ f. absurd (omega (arith, e, f))) (λ f. absurd (omega (arith, e, f))) (λ f. absurd (omega (arith, e, f)))

  fault : (q : CheckRequest) → RunsCommand limits (to_check q) old new before after result → result ≡ 3 → HasShelfFault q old new before.taken after.taken
  fault q r three =
      let e = stands r.writes three (λ f. absurd (omega (arith, f))) in
      check_failed limits q old new before after r.cause r.status r.text r.row r.shows e (r.writes.whole (λ five. absurd (omega (arith, three, five))))

  prune_fault : (q : PruneRequest) → RunsCommand limits (to_prune q) old new before after result → result ≡ 3 → HasFileFault q old new before.taken after.taken
  prune_fault q r three =
      let e = stands r.writes three (λ f. absurd (omega (arith, f))) in
      prune_failed limits q old new before after r.cause r.status r.text r.row r.shows e (r.writes.whole (λ five. absurd (omega (arith, three, five))))

  replay_fault : (q : ReplayRequest) → RunsCommand limits (to_replay q) old new before after result → result ≡ 3 → HasScriptFault limits q old new before.taken after.taken
  replay_fault q r three =
      let e = stands r.writes three (λ f. absurd (omega (arith, f))) in
      replay_failed limits q old new before after r.cause r.status r.text r.row r.shows e (r.writes.whole (λ five. absurd (omega (arith, three, five))))

  certify_fault : (q : CertifyRequest) → RunsCommand limits (to_certify q) old new before after result → result ≡ 3 → HasCertifyFault q old new before.taken after.taken
  certify_fault q r three =
      let e = stands r.writes three (λ f. absurd (omega (arith, f))) in
      certify_failed limits q old new before after r.cause r.status r.text r.row r.shows e (r.writes.whole (λ five. absurd (omega (arith, three, five))))

  recheck_fault : (q : RecheckRequest) → RunsCommand limits (to_recheck q) old new before after result → result ≡ 3 → HasRecheckFault q old new before.taken after.taken
  recheck_fault q r three =
      let e = stands r.writes three (λ f. absurd (omega (arith, f))) in
      recheck_failed limits q old new before after r.cause r.status r.text r.row r.shows e (r.writes.whole (λ five. absurd (omega (arith, three, five))))

  pub shelf_failed : Answered → result ≡ 3 → ((q : CheckRequest) × (request ≡ Some (to_check q)) × HasShelfFault q old new before.taken after.taken)
      ⊎ (((q : CertifyRequest) × (request ≡ Some (to_certify q)) × HasCertifyFault q old new before.taken after.taken)
      ⊎ (((q : RecheckRequest) × (request ≡ Some (to_recheck q)) × HasRecheckFault q old new before.taken after.taken)
      ⊎ (((q : PruneRequest) × (request ≡ Some (to_prune q)) × HasFileFault q old new before.taken after.taken)
      ⊎ ((q : ReplayRequest) × (request ≡ Some (to_replay q)) × HasScriptFault limits q old new before.taken after.taken))))
  shelf_failed (of_no_command none same w) three = let e = stands w three (λ f. absurd (omega (arith, f))) in absurd (omega (arith, e))
  shelf_failed (of_no_words same w) three = let e = stands w three (λ f. absurd (omega (arith, f))) in absurd (omega (arith, e))
  shelf_failed (of_command (to_check q) is r) three = inl (q, is, fault q r three)
  shelf_failed (of_command (to_certify q) is r) three = inr (inl (q, is, certify_fault q r three))
  shelf_failed (of_command (to_recheck q) is r) three = inr (inr (inl (q, is, recheck_fault q r three)))
  shelf_failed (of_command (to_prune q) is r) three = inr (inr (inr (inl (q, is, prune_fault q r three))))
  shelf_failed (of_command (to_replay q) is r) three = inr (inr (inr (inr (q, is, replay_fault q r three))))
  shelf_failed (of_command (to_make q) is r) three =
      absurd (make_not3 limits q old new r.cause r.status r.text r.row.1 r.shows (stands r.writes three (λ f. absurd (omega (arith, f)))))

  pub headline : Answered → (q : CheckRequest) (books : Books) → AsksFor request old.books q books
      → ((book : Key) → IsBookDue limits q books book → ¬ (Rose (old.missed (book_named q.file book)) (new.missed (book_named q.file book))))
      → ¬ (Rose old.faults new.faults) → ¬ (Rose before.faults after.faults) → result ≢ 4 → ReportsFile limits q books before.taken after.taken result
  headline a q books asks not_missed not_failed not_cut not4 =
      let r = asked a (to_check q) asks.asked in
      own a q books asks
      (λ three. elim (failed_due limits q (text_with q) books old new asks.told_are r.cause r.status r.text r.row r.shows (stands r.writes three (λ f. absurd (omega (arith, f))))) [
        | inl rose ↦ not_failed rose
        | inr m ↦ not_missed m.0 m.1 m.2
      ])
      not4 (λ five. not_cut (r.writes.failed five))

  makes_at : Answered → (q : MakeRequest) → request ≡ Some (to_make q) → result ≢ 5 → result ≢ 4 → ReportsTheory limits q before.taken after.taken result
  makes_at a q is not5 not4 =
      let r = asked a (to_make q) is in
      let s = is_status r.writes not5 in
      let o = make_own limits q r.cause r.status r.text r.row.1 (λ e. not4 (s ∙ e)) in
      record { status = s ∙ o.0; text = r.writes.whole not5 ∙ ap (added before.taken) o.1 }

  pub makes : Answered → (q : MakeRequest) → request ≡ Some (to_make q) → ¬ (Rose before.faults after.faults) → result ≢ 4 → ReportsTheory limits q before.taken after.taken result
  makes a q is held not4 = let r = asked a (to_make q) is in makes_at a q is (λ five. held (r.writes.failed five)) not4

  -- at 0 the sink held
  pub made : Answered → (q : MakeRequest) → request ≡ Some (to_make q) → result ≡ 0 → ReportsTheory limits q before.taken after.taken result
  made a q is zero = makes_at a q is (λ f. absurd (omega (arith, zero, f))) (λ f. absurd (omega (arith, zero, f)))

  pub untouched : Answered → OpensNothing request → new ≡ old
  untouched (of_no_command none same w) nothing = same
  untouched (of_no_words same w) nothing = same
  untouched (of_command (to_check q) is r) nothing = let none : OpensNothing (Some (to_check q)) = subst OpensNothing is nothing in absurd none
  untouched (of_command (to_make q) is r) nothing = r.row.0
  untouched (of_command (to_certify q) is r) nothing = let none : OpensNothing (Some (to_certify q)) = subst OpensNothing is nothing in absurd none
  untouched (of_command (to_recheck q) is r) nothing = let none : OpensNothing (Some (to_recheck q)) = subst OpensNothing is nothing in absurd none
  untouched (of_command (to_prune q) is r) nothing = let none : OpensNothing (Some (to_prune q)) = subst OpensNothing is nothing in absurd none
  untouched (of_command (to_replay q) is r) nothing = let none : OpensNothing (Some (to_replay q)) = subst OpensNothing is nothing in absurd none

  -- ---- `certify`

  certified_at : Answered → (q : CertifyRequest) (books : Books) → AsksToCertify request old.books q books → result ≢ 3 → result ≢ 4 → result ≢ 5 → CertifiesFile limits q books before.taken after.taken result
  certified_at a q books asks not3 not4 not5 =
      let r = asked a (to_certify q) asks.asked in
      let s = is_status r.writes not5 in
      subst (CertifiesFile limits q books before.taken after.taken) (sym s)
      (certify_own limits q old new before after books asks.told_are r.cause r.status r.text r.row r.shows (λ e. not3 (s ∙ e)) (λ e. not4 (s ∙ e)) (r.writes.whole not5))

  pub certify_decided : Answered → (q : CertifyRequest) (books : Books) → AsksToCertify request old.books q books → IsDecided result → CertifiesFile limits q books before.taken after.taken result
  certify_decided a q books asks (inl e) = certified_at a q books asks (λ f. absurd (omega (arith, e, f))) (λ f. absurd (omega (arith, e, f))) (λ f. absurd (omega (arith, e, f)))
  certify_decided a q books asks (inr (inl e)) = certified_at a q books asks (λ f. absurd (omega (arith, e, f))) (λ f. absurd (omega (arith, e, f))) (λ f. absurd (omega (arith, e, f)))
  certify_decided a q books asks (inr (inr e)) = certified_at a q books asks (λ f. absurd (omega (arith, e, f))) (λ f. absurd (omega (arith, e, f))) (λ f. absurd (omega (arith, e, f)))

  pub certified_rechecked : ReportedAreRead → CertifiedIsRechecked → Answered → (q : CertifyRequest) (books : Books) → AsksToCertify request old.books q books → result ≡ 0 → IsRecheckedWhole limits q books before.taken after.taken
  certified_rechecked read law a q books asks zero = rechecks_whole read law limits q books before.taken after.taken result (certify_decided a q books asks (inl zero)) zero

  pub certifies : Answered → (q : CertifyRequest) (books : Books) → AsksToCertify request old.books q books
      → ((book : Key) → IsOpeningDue limits q books book → ¬ (Rose (old.missed (book_named q.file book)) (new.missed (book_named q.file book))))
      → ¬ (Rose old.faults new.faults) → ¬ (Rose before.faults after.faults) → result ≢ 4 → CertifiesFile limits q books before.taken after.taken result
  certifies a q books asks not_missed not_failed not_cut not4 =
      let r = asked a (to_certify q) asks.asked in
      certified_at a q books asks
      (λ three. elim (certify_missed limits q old new before after books asks.told_are r.cause r.status r.text r.row r.shows (stands r.writes three (λ f. absurd (omega (arith, f))))) [
        | inl rose ↦ not_failed rose
        | inr m ↦ not_missed m.0 m.1 m.2
      ])
      not4 (λ five. not_cut (r.writes.failed five))

  -- ---- `recheck`

  rechecked_at : Answered → (q : RecheckRequest) (books : Books) → AsksToRecheck request old.books q books → result ≢ 3 → result ≢ 4 → result ≢ 5 → RechecksFile limits q books before.taken after.taken result
  rechecked_at a q books asks not3 not4 not5 =
      let r = asked a (to_recheck q) asks.asked in
      let s = is_status r.writes not5 in
      subst (RechecksFile limits q books before.taken after.taken) (sym s)
      (recheck_own limits q old new before after books asks.told_are r.cause r.status r.text r.row r.shows (λ e. not3 (s ∙ e)) (λ e. not4 (s ∙ e)) (r.writes.whole not5))

  pub recheck_decided : Answered → (q : RecheckRequest) (books : Books) → AsksToRecheck request old.books q books → IsDecided result → RechecksFile limits q books before.taken after.taken result
  recheck_decided a q books asks (inl e) = rechecked_at a q books asks (λ f. absurd (omega (arith, e, f))) (λ f. absurd (omega (arith, e, f))) (λ f. absurd (omega (arith, e, f)))
  recheck_decided a q books asks (inr (inl e)) = rechecked_at a q books asks (λ f. absurd (omega (arith, e, f))) (λ f. absurd (omega (arith, e, f))) (λ f. absurd (omega (arith, e, f)))
  recheck_decided a q books asks (inr (inr e)) = rechecked_at a q books asks (λ f. absurd (omega (arith, e, f))) (λ f. absurd (omega (arith, e, f))) (λ f. absurd (omega (arith, e, f)))

  pub recheck_derived : RecheckedHaveDerivations → Answered → (q : RecheckRequest) (books : Books) → AsksToRecheck request old.books q books → result ≡ 0 → IsRecheckDerived limits q books
  recheck_derived law a q books asks zero = rechecks_derived law limits q books before.taken after.taken result (recheck_decided a q books asks (inl zero)) zero

  pub rechecks : Answered → (q : RecheckRequest) (books : Books) → AsksToRecheck request old.books q books → ¬ (Rose (old.missed q.file) (new.missed q.file))
      → ((m : List ℕ) → IsModuleDue limits q books m → ¬ (Rose (old.missed (book_named q.file (Some m))) (new.missed (book_named q.file (Some m)))))
      → ¬ (Rose (old.missed q.certificate) (new.missed q.certificate)) → ¬ (Rose old.faults new.faults)
      → ¬ (Rose before.faults after.faults) → result ≢ 4 → RechecksFile limits q books before.taken after.taken result
  rechecks a q books asks not_file not_module not_certificate not_failed not_cut not4 =
      let r = asked a (to_recheck q) asks.asked in
      rechecked_at a q books asks
      (λ three. elim (recheck_missed limits q old new before after books asks.told_are r.cause r.status r.text r.row r.shows (stands r.writes three (λ f. absurd (omega (arith, f))))) [
        | inl rose ↦ not_failed rose
        | inr (inl rose) ↦ not_file rose
        | inr (inr (inl m)) ↦ not_module m.0 m.1 m.2
        | inr (inr (inr rose)) ↦ not_certificate rose
      ])
      not4 (λ five. not_cut (r.writes.failed five))

  -- ---- `replay`

  replayed_at : Answered → (q : ReplayRequest) (books : Books) → AsksToReplay request old.books q books → result ≢ 3 → result ≢ 4 → result ≢ 5 → ReplaysScript limits q books before.taken after.taken result
  replayed_at a q books asks not3 not4 not5 =
      let r = asked a (to_replay q) asks.asked in
      let s = is_status r.writes not5 in
      subst (ReplaysScript limits q books before.taken after.taken) (sym s)
      (replay_own limits q old new before after books asks.told_are r.cause r.status r.text r.row r.shows (λ e. not3 (s ∙ e)) (λ e. not4 (s ∙ e)) (r.writes.whole not5))

  pub replay_whole : Answered → (q : ReplayRequest) (books : Books) → AsksToReplay request old.books q books → result ≡ 0 → ReplaysScript limits q books before.taken after.taken result
  replay_whole a q books asks e = replayed_at a q books asks (λ f. absurd (omega (arith, e, f))) (λ f. absurd (omega (arith, e, f))) (λ f. absurd (omega (arith, e, f)))

  pub replays : Answered → (q : ReplayRequest) (books : Books) → AsksToReplay request old.books q books → ¬ (Rose (old.missed q.script) (new.missed q.script)) → ¬ (Rose old.faults new.faults)
      → ¬ (Rose before.faults after.faults) → result ≢ 4 → ReplaysScript limits q books before.taken after.taken result
  replays a q books asks not_missed not_failed not_cut not4 =
      replayed_at a q books asks (λ three. by (replay_fault q (asked a (to_replay q) asks.asked) three)) not4
      (λ five. let r = asked a (to_replay q) asks.asked in not_cut (r.writes.failed five))
    where
      by : HasScriptFault limits q old new before.taken after.taken → ⊥
      by (script_unopened leaves rose text) = not_missed rose
      by (script_unread given written rose writes text) = not_failed rose

  -- ---- `prune`

  module _ (stands_alone : PrunedStandsAlone) (reported : AcceptedIsReported) where
    pruned_at : Answered → (q : PruneRequest) (books : Books) → AsksToPrune request old.books q books → result ≢ 3 → result ≢ 4 → result ≢ 5 → PrunesFile limits q books before.taken after.taken result
    pruned_at a q books asks not3 not4 not5 =
        let r = asked a (to_prune q) asks.asked in
        let s = is_status r.writes not5 in
        subst (PrunesFile limits q books before.taken after.taken) (sym s)
        (prune_own limits q old new before after stands_alone reported books asks.told_are r.cause r.status r.text r.row r.shows (λ e. not3 (s ∙ e)) (λ e. not4 (s ∙ e)) (r.writes.whole not5))

    pub prune_decided : Answered → (q : PruneRequest) (books : Books) → AsksToPrune request old.books q books → IsDecided result → PrunesFile limits q books before.taken after.taken result
    prune_decided a q books asks (inl e) = pruned_at a q books asks (λ f. absurd (omega (arith, e, f))) (λ f. absurd (omega (arith, e, f))) (λ f. absurd (omega (arith, e, f)))
    prune_decided a q books asks (inr (inl e)) = pruned_at a q books asks (λ f. absurd (omega (arith, e, f))) (λ f. absurd (omega (arith, e, f))) (λ f. absurd (omega (arith, e, f)))
    prune_decided a q books asks (inr (inr e)) = pruned_at a q books asks (λ f. absurd (omega (arith, e, f))) (λ f. absurd (omega (arith, e, f))) (λ f. absurd (omega (arith, e, f)))

    pub prunes : Answered → (q : PruneRequest) (books : Books) → AsksToPrune request old.books q books → ¬ (Rose (old.missed q.file) (new.missed q.file)) → ¬ (Rose old.faults new.faults)
        → ¬ (Rose before.faults after.faults) → result ≢ 4 → PrunesFile limits q books before.taken after.taken result
    prunes a q books asks not_missed not_failed not_cut not4 =
        pruned_at a q books asks (λ three. by (prune_fault q (asked a (to_prune q) asks.asked) three)) not4
        (λ five. let r = asked a (to_prune q) asks.asked in not_cut (r.writes.failed five))
      where
        by : HasFileFault q old new before.taken after.taken → ⊥
        by (by_opening leaves rose text) = not_missed rose
        by (by_read number place rose text) = not_failed rose
