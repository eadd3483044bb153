-- A file is accepted where its commands are, one after the other.
use Rattle.std.proofs.Common.{List, [], ◌∷◌, ◌++◌, length, map, ℕ, ◌≡◌, ◌<◌, ◌≤◌, ◌+◌, Bool, true, false, nat_le, refl, ap, sym, ◌∙◌, arith, if◌then◌else◌}
use Rattle.std.specs.Prelude.{None}
use Rattle.std.proofs.lemmas.Bool.Decides.{nat_tests}
use Rattle.dk_model.specs.PlainCommands.{PlainCommand}
use Rattle.dk_model.specs.Typing.{Judged, answer, refused as refused_check, ended}
use Rattle.dk_model.specs.Verdicts.{verdict, command_checked}
use Rattle.dk_model.specs.declared.limits.Limits.{Limits}
use Rattle.dk_model.specs.declared.code.Code.TheVariants.{E08}
use Rattle.dk_model.specs.declared.code.Verdict.{Verdict}
use Rattle.dk_model.specs.declared.code.Verdict.TheVariants as verdict
use Rattle.dk_parser.specs.Written.{WrittenCommand}
use Rattle.scope_terms.specs.Scopes.{Module, Scoping, scoped, refused, scope_of, names_after}
use Rattle.text_law.specs.Texts.{forms_of}
use Rattle.theory_walk.specs.Walks.{Placed, Reached, goes_on, ends, refused_at, unread_at, not_opened, no_file}
use Rattle.verdict_book.specs.Report.{FileReport}
use Rattle.verdict_book.specs.declared.outcome.Outcome.TheVariants.{Accepted}
use Rattle.file_report.specs.Outcomes.{Theory, scoped_verdict, scoped_entry}
use Rattle.file_report.specs.Theories.{checking, theory_with}
use Rattle.file_report.specs.TheoryReports.{by_verdict, report_from}
use Rattle.prune_theory.specs.Folds.{AreAccepted, Declared, accepts_none, accepts_more, declared_with}
use Rattle.prune_file.specs.Files.{stated_in}

abbrev pub theory_in : Declared → Theory
theory_in D = record { names = D.names; signature = D.signature }

abbrev declared_in : Theory → Declared
declared_in T = record { names = T.names; signature = T.signature }

-- commands of the file's own book
abbrev pub placed_in : List WrittenCommand → List Placed
placed_in ws = map (λ w. record { book = None; command = w }) ws

module _ (limits : Limits) (budget : ℕ) (own : Module) where
  -- ---- from the commands to the report

  within : (count : ℕ) → count < limits.commands → nat_le limits.commands count ≡ false
  within count l = grind (arith, nat_tests)

  abbrev after : Declared → WrittenCommand → Theory
  after D w = theory_with limits budget own (theory_in D) (record { book = None; command = w })

  abbrev reported : Theory → ℕ → List Placed → Reached → FileReport
  reported T count cs r = report_from (checking limits budget own) T count cs r

  -- the theory with a command that is scoped so
  with_scoped : (D : Declared) (w : WrittenCommand) (c : PlainCommand) → scope_of D.names own w.form ≡ scoped c
      → after D w ≡ theory_in (declared_with budget D (record { place = own; form = w.form }) c)
  with_scoped D w c e = ap (λ (s : Scoping PlainCommand). let t : Theory = record { names = names_after D.names own w.form; signature = D.signature ++ scoped_entry D.signature budget s } in t) e

  given : (D : Declared) (count : ℕ) (w : WrittenCommand) (c : PlainCommand) (n : ℕ) → count < limits.commands → scope_of D.names own w.form ≡ scoped c → command_checked D.signature c budget ≡ answer tt n
      → (if nat_le limits.commands count then verdict.Refused E08 else scoped_verdict D.signature budget (scope_of D.names own w.form)) ≡ verdict.Accepted
  given D count w c n l e a = ap (λ b. if b then verdict.Refused E08 else scoped_verdict D.signature budget (scope_of D.names own w.form)) (within count l) ∙ ap (scoped_verdict D.signature budget) e ∙ ap verdict a

  -- the outcome, whatever is shown
  next_outcome : (v : Verdict) (count : ℕ) (c : Placed) (shown : _) (rest : FileReport) → v ≡ verdict.Accepted → (by_verdict v count c shown rest).outcome ≡ rest.outcome
  next_outcome v count c shown rest e = ap (λ (x : Verdict). (by_verdict x count c shown rest).outcome) e

  pub accepted_reported : (count : ℕ) {D U : Declared} {cs : List PlainCommand} {ns : List ℕ} (ws : List WrittenCommand) (known : List (List ℕ)) → AreAccepted budget D (stated_in own (forms_of ws)) cs ns U → count + length ws ≤ limits.commands
      → (reported (theory_in D) count (placed_in ws) (goes_on known)).outcome ≡ Accepted (count + length ws)
  accepted_reported count [] known accepts_none l = ap Accepted (let q : count ≡ count + 0 = omega arith in q)
  accepted_reported count (w ∷ ws) known (accepts_more {T} {c = c} {n = n} e a rest) l =
      next_outcome _ count (record { book = None; command = w }) _ (reported (after T w) (count + 1) (placed_in ws) (goes_on known)) (given T count w c n (omega arith) e a)
      ∙ ap (λ t. (reported t (count + 1) (placed_in ws) (goes_on known)).outcome) (with_scoped T w c e)
      ∙ accepted_reported (count + 1) ws known rest (omega arith)
      ∙ ap Accepted (let q : count + 1 + length ws ≡ count + length (w ∷ ws) = omega arith in q)

  -- ---- from the report to the commands

  -- where a report comes to be accepted, it came to the end of the file
  pub comes_to_end : (T : Theory) (count : ℕ) (cs : List Placed) (r : Reached) (n : ℕ) → (reported T count cs r).outcome ≡ Accepted n → (known : List (List ℕ)) × (r ≡ goes_on known)
  comes_to_end T count [] (goes_on known) n e = (known, refl)
  comes_to_end T count [] (ends (refused_at spot code)) n e = absurd cc
  comes_to_end T count [] (ends (unread_at spot)) n e = absurd cc
  comes_to_end T count [] (ends (not_opened spot m)) n e = absurd cc
  comes_to_end T count [] (ends no_file) n e = absurd cc
  comes_to_end T count (c ∷ cs) r n e = by ((checking limits budget own).verdict_on T count c) e (λ f. comes_to_end ((checking limits budget own).after T c) (count + 1) cs r n f)
    where
      by : (v : Verdict) → (by_verdict v count c ((checking limits budget own).shown_on T c) (reported ((checking limits budget own).after T c) (count + 1) cs r)).outcome ≡ Accepted n
          → ((reported ((checking limits budget own).after T c) (count + 1) cs r).outcome ≡ Accepted n → (known : List (List ℕ)) × (r ≡ goes_on known)) → (known : List (List ℕ)) × (r ≡ goes_on known)
      by verdict.Accepted e again = again e
      by (verdict.Refused code) e again = absurd cc
      by verdict.Ended e again = absurd cc
      by verdict.Memory e again = absurd cc

  pub record Run (D : Declared) (count : ℕ) (ws : List WrittenCommand) : Type 0 where
    pub commands : List PlainCommand
    pub left : List ℕ
    pub end : Declared
    pub accepted : AreAccepted budget D (stated_in own (forms_of ws)) commands left end
    pub within_limit : count + length ws ≤ limits.commands

  -- one more command is accepted
  goes_further : (D : Declared) (count : ℕ) (w : WrittenCommand) (ws : List WrittenCommand) (r : Reached) (n : ℕ) (b : Bool) (s : Scoping PlainCommand) → nat_le limits.commands count ≡ b → scope_of D.names own w.form ≡ s
      → ((E : Declared) → count + 1 ≤ limits.commands → (reported (theory_in E) (count + 1) (placed_in ws) r).outcome ≡ Accepted n → Run E (count + 1) ws) → (shown : _)
      → (by_verdict (if b then verdict.Refused E08 else scoped_verdict D.signature budget s) count (record { book = None; command = w }) shown (reported (after D w) (count + 1) (placed_in ws) r)).outcome ≡ Accepted n
      → Run D count (w ∷ ws)
  goes_further D count w ws r n true s le e again shown o = absurd cc
  goes_further D count w ws r n false (refused code) le e again shown o = absurd cc
  goes_further D count w ws r n false (scoped c) le e again shown o = by (command_checked D.signature c budget) refl o
    where
      by : (j : Judged (Unit {0})) → command_checked D.signature c budget ≡ j
          → (by_verdict (verdict j) count (record { book = None; command = w }) shown (reported (after D w) (count + 1) (placed_in ws) r)).outcome ≡ Accepted n → Run D count (w ∷ ws)
      by (answer u m) a o =
          let more = again (declared_with budget D (record { place = own; form = w.form }) c) (grind (arith, nat_tests)) (sym (ap (λ t. (reported t (count + 1) (placed_in ws) r).outcome) (with_scoped D w c e)) ∙ o) in record {
            commands = c ∷ more.commands;
            left = m ∷ more.left;
            end = more.end;
            accepted = accepts_more e a more.accepted;
            within_limit = let q : count + 1 + length ws ≤ limits.commands = more.within_limit in omega arith;
          }
      by (refused_check code m) a o = absurd cc
      by ended a o = absurd cc

  pub report_accepts : (D : Declared) (count : ℕ) (ws : List WrittenCommand) (r : Reached) (n : ℕ) → count ≤ limits.commands → (reported (theory_in D) count (placed_in ws) r).outcome ≡ Accepted n → Run D count ws
  report_accepts D count [] r n l o = record { commands = []; left = []; end = D; accepted = accepts_none; within_limit = omega arith }
  report_accepts D count (w ∷ ws) r n l o = goes_further D count w ws r n (nat_le limits.commands count) (scope_of D.names own w.form) refl refl (λ E k p. report_accepts E (count + 1) ws r n k p) _ o
