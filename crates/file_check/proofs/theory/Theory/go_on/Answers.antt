use Rattle.std.proofs.Common.{◌≡◌, ◌∙◌, ◌++◌, ◌∷◌, [], true, ap, refl, sym}
use Rattle.std.specs.Option.{option_map}
use Rattle.dk_model.specs.Scoping.{PlainCommand}
use Rattle.dk_model.specs.Signatures.{PlainEntry, PlainSignature}
use Rattle.dk_model.specs.Verdicts.{entry_of, verdict_of}
use Rattle.dk_parser.specs.RawViews.{written_form}
use Rattle.scope_terms.specs.Names.{reading}
use Rattle.scope_terms.specs.Reading.{Reading}
use Rattle.scope_terms.specs.Scopes.{Scoping, Symbols, scoped}
use Rattle.scope_terms.specs.declared.names.Names.{Names}
use Rattle.shared_term.specs.Commands.{stored_command}
use Rattle.shared_term.specs.Finding.{plain_found}
use Rattle.signature_log.specs.Versions.{entries_of}
use Rattle.verdict_book.specs.Titles.{shown_in, shown_of}
use Rattle.verdict_book.specs.declared.title.Title.{Title}
use Rattle.file_report.specs.Outcomes.{Theory, scoped_entry}
use Rattle.file_check.specs.Findings.{is_early}
use Rattle.file_check.specs.Jobs.{theory_in, theory_of}
use Rattle.file_check.specs.Shown.{shown_with, words_in}
use Rattle.file_check.proofs.Showing.{shown_next}
use Rattle.file_check.proofs.theory.Theory.go_on.Goals as goal

abbrev theory : Symbols → PlainSignature → Theory
theory names signature = record { names = names; signature = signature }

same_theory : (a b : Theory) → a.names ≡ b.names → a.signature ≡ b.signature → a ≡ b
same_theory a b names signature =
    ap (λ (n : Symbols). theory n a.signature) names ∙ ap (theory b.names) signature

pub returns-clause-ok : goal.returns-clause-ok
returns-clause-ok c =
    let old = c.args.self.now in
    let budget = c.args.budget in
    let form = written_form c.args.raw.now.form in
    let command = stored_command c.in-Ok.stored in
    let S = entries_of old.version in
    let advanced = c.in-Ok-advance.ensures in
    let added = c.in-Ok.ensures.added in
    record {
      before = ap entries_of advanced.before;
      command = c.in-Ok.ensures.ok;
      shown = λ home.
          ap (λ (n : Names). shown_in home (shown_with (words_in (reading n)) form (option_map plain_found c.in-Ok-find.findings.found))) advanced.kept
          ∙ ap (λ (r : Reading). shown_in home (shown_with (words_in r) form (option_map plain_found c.in-Ok-find.findings.found))) added
          ∙ shown_next (reading old.names) home S budget form command c.in-Ok-find.findings c.in-Ok.ensures.ok c.in-Ok-find.ensures.ok;
      early = c.is_early-settled.ensures;
      settled = λ is.
          let early : is_early command ≡ true = sym c.is_early-settled.ensures ∙ is in (
            early,
            ap (λ v. verdict_of (entries_of v) command budget) advanced.before ∙ c.in-Ok-find.ensures.accepted early,
          );
      theory = same_theory (theory_of c.advance.new.self) (theory_in budget old form) (ap (λ (n : Names). (reading n).symbols) advanced.kept ∙ ap (λ (r : Reading). r.symbols) added)
          (advanced.after ∙ ap (λ (e : PlainEntry). S ++ e ∷ []) (c.in-Ok-entry_after.ensures.ok ∙ ap (entry_of S command) c.in-Ok-find.ensures.ok.typ) ∙ ap (λ (s : Scoping PlainCommand). S ++ scoped_entry S budget s) (sym c.in-Ok.ensures.ok));
      modules = record {
        entered = ap (λ (n : Names). (reading n).entered) advanced.kept ∙ ap (λ (r : Reading). r.entered) added;
        standing = ap (λ (n : Names). (reading n).standing) advanced.kept ∙ ap (λ (r : Reading). r.standing) added;
      };
    }
