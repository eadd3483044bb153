-- Where a theory is accepted, each command has a derivation over the commands before it: a law of the fold alone, with no word on `run`.
use Rattle.std.proofs.Common.{◌≡◌, ℕ, ◌+◌, Bool, true, false, List, [], ◌∷◌, ◌++◌, refl, sym, ap, subst, ◌∙◌, arith}
use Rattle.std.proofs.lemmas.List.{append-nil}
use Rattle.std.specs.Prelude.{if◌then◌else◌, nat_le}
use Rattle.dk_model.specs.Scoping.{PlainCommand}
use Rattle.dk_model.specs.Signatures.{PlainSignature}
use Rattle.dk_model.specs.Typing.{by_units}
use Rattle.dk_model.specs.Verdicts.{entry_of, inferred_type}
use Rattle.dk_model.specs.WellFormed.{IsSignature}
use Rattle.dk_model.specs.declared.code.Code.TheVariants.{E08}
use Rattle.dk_model.specs.declared.code.Verdict.{Verdict}
use Rattle.dk_model.specs.declared.code.Verdict.TheVariants as verdict
use Rattle.scope_terms.specs.Scopes.{Scoping, refused, scoped}
use Rattle.typing_model.proofs.Commands.{accepted_derives}
use Rattle.typing_model.proofs.Formed.{command_entry, formed_more, formed_numbered, formed_plain, none_formed}
use Rattle.typing_model.proofs.Rules.{units_reduce}
use Rattle.typing_model.specs.Derivations.{HasDerivation}
use Rattle.verdict_book.specs.Report.{FileReport, PlainShown, status_of}
use Rattle.theory_walk.specs.Walks.{Placed, Reached}
use Rattle.file_report.specs.Outcomes.{Theory, no_theory, scoped_entry, scoped_verdict}
use Rattle.file_report.specs.TheoryReports.{by_verdict, report_from}
use Rattle.file_report.specs.Theories.{checking, scoped_at, shown_on, theory_with, verdict_on}
use Rattle.book_reader.specs.Shelved.{Setting, walk_in, whole_library}
use Rattle.dk_check_run.specs.Books.{report_in}
use Rattle.dk_check_run.specs.Derivations.{AllDerived, AreBooksDerived, IsDerived, entered}
use Rattle.dk_check_run.proofs.Settings.{fold_is}

scoped_derives : (S : PlainSignature) (budget : ℕ) (T : Theory) (s : Scoping PlainCommand) → T.signature ≡ S → IsSignature S → scoped_verdict S budget s ≡ verdict.Accepted → IsDerived T s
scoped_derives S budget T (refused code) same formed e = cc
scoped_derives S budget T (scoped command) same formed e =
    subst (λ (U : PlainSignature). HasDerivation U command) (sym same)
    (accepted_derives S (by_units S) (units_reduce S (formed_numbered S formed)) (formed_plain S formed) command budget e)

formed_after : (S : PlainSignature) (budget : ℕ) (s : Scoping PlainCommand) → IsSignature S → IsSignature (S ++ scoped_entry S budget s)
formed_after S budget (refused code) formed = subst IsSignature (sym (append-nil S)) formed
formed_after S budget (scoped c) formed = formed_more S (entry_of S c (inferred_type S c budget)) formed (command_entry S formed c budget)

-- below the limit of commands
accepted_after : (b : Bool) (v : Verdict) → (if b then verdict.Refused E08 else v) ≡ verdict.Accepted → v ≡ verdict.Accepted
accepted_after true v e = cc
accepted_after false v e = e

accepted_first : (v : Verdict) (n : ℕ) (c : Placed) (shown : PlainShown) (rest : FileReport) → status_of (by_verdict v n c shown rest).outcome ≡ 0 → (v ≡ verdict.Accepted) × (status_of rest.outcome ≡ 0)
accepted_first verdict.Accepted n c shown rest e = (refl, e)
accepted_first (verdict.Refused code) n c shown rest e = absurd (omega (arith, e))
accepted_first verdict.Ended n c shown rest e = absurd (omega (arith, e))
accepted_first verdict.Memory n c shown rest e = absurd (omega (arith, e))

module _ (s : Setting) (budget : ℕ) where
  all_derived : (T : Theory) (n : ℕ) (cs : List Placed) (r : Reached) → IsSignature T.signature → status_of (report_from (checking s.limits budget s.own) T n cs r).outcome ≡ 0
      → AllDerived s.own T (entered s budget T cs)
  all_derived T n [] r formed e = tt
  all_derived T n (c ∷ cs) r formed e =
      let next = theory_with s.limits budget s.own T c in
      let rest = report_from (checking s.limits budget s.own) next (n + 1) cs r in
      let command = scoped_at s.limits budget s.own T c in
      let first = accepted_first (verdict_on s.limits budget s.own T n c) n c (shown_on s.limits budget s.own T c) rest e in (
        scoped_derives T.signature budget T command refl formed (accepted_after (nat_le s.limits.commands n) (scoped_verdict T.signature budget command) first.0),
        all_derived next (n + 1) cs r (formed_after T.signature budget command formed) first.1,
      )

  -- and of the books of a shelf
  pub books_derived : status_of (report_in s budget (whole_library s)).outcome ≡ 0 → AreBooksDerived s budget
  books_derived zero =
      let w = walk_in s (whole_library s) in
      all_derived no_theory 0 w.commands w.reached none_formed (ap (λ (r : FileReport). status_of r.outcome) (sym (fold_is s budget (whole_library s))) ∙ zero)
