-- The commands of a theory that is reported as accepted, one after the other.
use Rattle.std.proofs.Common.{◌≡◌, ℕ, ◌+◌, Bool, true, false, List, [], ◌∷◌, ◌++◌, length, refl, sym, ap, subst, ◌∙◌, arith, append_assoc, append-nil}
use Rattle.std.specs.Prelude.{nat_le, if◌then◌else◌}
use Rattle.dk_model.specs.PlainCommands.{PlainCommand}
use Rattle.dk_model.specs.PlainEntries.{PlainSignature}
use Rattle.dk_model.specs.declared.code.Code.TheVariants.{E08}
use Rattle.dk_model.specs.declared.code.Verdict.{Verdict}
use Rattle.dk_model.specs.declared.code.Verdict.TheVariants as verdict
use Rattle.dk_model.specs.declared.limits.Limits.{Limits}
use Rattle.checked_steps.specs.Laws.{AreAccepted, none_accepted, one_accepted}
use Rattle.scope_terms.specs.Scopes.{Module, Scoping, Symbols, names_after, no_symbols, refused, scope_of, scoped}
use Rattle.verdict_book.specs.Report.{FileReport, PlainShown}
use Rattle.verdict_book.specs.declared.outcome.Outcome.TheVariants.{Accepted}
use Rattle.theory_walk.specs.Walks.{Placed, Reached, ends, goes_on, module_in, no_file, not_opened, refused_at, unread_at}
use Rattle.file_report.specs.Outcomes.{Theory, no_theory, scoped_entry, scoped_verdict}
use Rattle.file_report.specs.Reports.{reached_outcome}
use Rattle.file_report.specs.TheoryReports.{by_verdict, report_from}
use Rattle.file_report.specs.Theories.{checking}
use Rattle.file_report.proofs.Folding.{fold_is_report}
use Rattle.book_reader.specs.Shelved.{walk_in}
use Rattle.theory_reading.specs.Shaped.{ScopedTheory, theory_behind, with_scoped}
use Rattle.accepted_theory.specs.Laws.{AreAllAccepted, ReportedAreAccepted}

-- ---- what an accepted end tells

same_count : (n m : ℕ) → Accepted n ≡ Accepted m → n ≡ m
same_count n m e = cc

-- the theory came to its end
reached_count : (count total : ℕ) (r : Reached) → reached_outcome count r ≡ Accepted total → count ≡ total
reached_count count total (goes_on known) e = same_count count total e
reached_count count total (ends (refused_at spot code)) e = absurd cc
reached_count count total (ends (unread_at spot)) e = absurd cc
reached_count count total (ends (not_opened spot m)) e = absurd cc
reached_count count total (ends no_file) e = absurd cc

-- the first command was accepted, and so were the others
accepted_first : (v : Verdict) (count total : ℕ) (c : Placed) (shown : PlainShown) (rest : FileReport) → (by_verdict v count c shown rest).outcome ≡ Accepted total
    → (v ≡ verdict.Accepted) × (rest.outcome ≡ Accepted total)
accepted_first verdict.Accepted count total c shown rest e = (refl, e)
accepted_first (verdict.Refused code) count total c shown rest e = absurd cc
accepted_first verdict.Ended count total c shown rest e = absurd cc
accepted_first verdict.Memory count total c shown rest e = absurd cc

-- it is below the limit of commands
below_limit : (b : Bool) (v : Verdict) → (if b then verdict.Refused E08 else v) ≡ verdict.Accepted → v ≡ verdict.Accepted
below_limit true v e = absurd cc
below_limit false v e = e

-- ---- the commands that a theory has more

-- all the commands are these, and further ones that are accepted over the signature, so that they are so many
record Goes (budget total : ℕ) (S : PlainSignature) (cs : List PlainCommand) (count : ℕ) (all : List PlainCommand) : Type 0 where
  further : List PlainCommand
  all_are : all ≡ cs ++ further
  accepted : AreAccepted budget S further
  total_is : count + length further ≡ total

goes_none : (budget total : ℕ) (S : PlainSignature) (cs : List PlainCommand) (count : ℕ) → count ≡ total → Goes budget total S cs count cs
goes_none budget total S cs count is = record { further = []; all_are = sym (append-nil cs); accepted = none_accepted; total_is = omega (arith, is) }

goes_one : (budget total : ℕ) (S : PlainSignature) (cs : List PlainCommand) (count : ℕ) (all : List PlainCommand) (sc : Scoping PlainCommand) → scoped_verdict S budget sc ≡ verdict.Accepted
    → Goes budget total (S ++ scoped_entry S budget sc) (with_scoped cs sc) (count + 1) all → Goes budget total S cs count all
goes_one budget total S cs count all (refused code) e g = absurd cc
goes_one budget total S cs count all (scoped c) e g = record {
  further = c ∷ g.further;
  all_are = g.all_are ∙ append_assoc cs (c ∷ []) g.further;
  accepted = one_accepted e g.accepted;
  total_is = let h : (count + 1) + length g.further ≡ total = g.total_is in omega (arith, h);
}

module _ (limits : Limits) (budget : ℕ) (own : Module) (total : ℕ) where
  abbrev theory : Symbols → PlainSignature → Theory
  theory A S = record { names = A; signature = S }

  abbrev read : Symbols → List PlainCommand → ScopedTheory
  read A cs = record { names = A; commands = cs }

  goes : (cs : List Placed) (r : Reached) (A : Symbols) (S : PlainSignature) (done : List PlainCommand) (count : ℕ) → (report_from (checking limits budget own) (theory A S) count cs r).outcome ≡ Accepted total
      → Goes budget total S done count (theory_behind limits own (read A done) cs).commands
  goes [] r A S done count e = goes_none budget total S done count (reached_count count total r e)
  goes (c ∷ cs) r A S done count e =
      let sc = scope_of A (module_in own c.book) c.command.form in
      let names = names_after A (module_in own c.book) c.command.form in
      let first =
      accepted_first ((checking limits budget own).verdict_on (theory A S) count c) count total c ((checking limits budget own).shown_on (theory A S) c)
      (report_from (checking limits budget own) ((checking limits budget own).after (theory A S) c) (count + 1) cs r) e in
      goes_one budget total S done count (theory_behind limits own (read names (with_scoped done sc)) cs).commands sc
      (below_limit (nat_le limits.commands count) (scoped_verdict S budget sc) first.0)
      (goes cs r names (S ++ scoped_entry S budget sc) (with_scoped done sc) (count + 1) first.1)

all_accepted : (budget total : ℕ) (all : List PlainCommand) → Goes budget total [] [] 0 all → AreAllAccepted budget total all
all_accepted budget total all g = record {
  accepted = subst (λ cs. AreAccepted budget [] cs) (sym g.all_are) g.accepted;
  count_is = ap length g.all_are ∙ (let h : 0 + length g.further ≡ total = g.total_is in omega (arith, h));
}

pub reported_are_accepted : ReportedAreAccepted
reported_are_accepted s budget lib count is =
    let w = walk_in s lib in
    all_accepted budget count (theory_behind s.limits s.own (record { names = no_symbols; commands = [] }) w.commands).commands
    (goes s.limits budget s.own count w.commands w.reached no_symbols [] [] 0
    (ap (λ (r : FileReport). r.outcome) (sym (fold_is_report (checking s.limits budget s.own) s.most s.own lib no_theory)) ∙ is))
