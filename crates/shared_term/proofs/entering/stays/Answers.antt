-- What the summary shows of each change.
use Rattle.std.proofs.Common.{◌∙◌, sym, arith}
use Rattle.std.proofs.lemmas.Bool.{not-true}
use Rattle.std.proofs.lemmas.Bool.Decides.{nat_tests}
use Rattle.shared_term.proofs.Unchanged.{unchanged_shift, unchanged_shift_none, unchanged_substitute, unchanged_all, unchanged_erase, unchanged_fill, unchanged_rename, unchanged_raise}
use Rattle.shared_term.proofs.entering.stays.Goals as goal

pub returns-in-Shift-eq0 : goal.returns-in-Shift-eq0
returns-in-Shift-eq0 c = λ h. unchanged_shift_none c.args.nodes.now c.args.given.now c.args.goal c.summary-summary.result c.summary-summary.ensures c.in-Shift-eq0.field-0 c.in-Shift-eq0.is (sym c.in-Shift-eq0.field-0-is ∙ c.in-Shift-eq0.field-0-test)

pub returns-in-Shift : goal.returns-in-Shift
returns-in-Shift c = λ h. unchanged_shift c.args.nodes.now c.args.given.now c.args.goal c.summary-summary.result c.summary-summary.ensures _ c.in-Shift.is (grind (arith, nat_tests))

pub returns-in-Substitute : goal.returns-in-Substitute
returns-in-Substitute c = λ h. unchanged_substitute c.args.nodes.now c.args.given.now c.args.goal c.summary-summary.result c.summary-summary.ensures _ c.in-Substitute.is (grind (arith, nat_tests))

pub returns-in-SubstituteAll : goal.returns-in-SubstituteAll
returns-in-SubstituteAll c = λ h. unchanged_all c.args.nodes.now c.args.given.now c.args.goal c.summary-summary.result c.summary-summary.ensures c.in-SubstituteAll.is (grind (arith, nat_tests))

pub returns-in-Erase : goal.returns-in-Erase
returns-in-Erase c = λ h. unchanged_erase c.args.nodes.now c.args.given.now c.args.goal c.summary-summary.result c.summary-summary.ensures c.in-Erase.is (not-true _ h)

pub returns-in-Fill : goal.returns-in-Fill
returns-in-Fill c = λ h. unchanged_fill c.args.nodes.now c.args.given.now c.args.goal c.summary-summary.result c.summary-summary.ensures c.in-Fill.is (not-true _ h)

pub returns-in-Rename : goal.returns-in-Rename
returns-in-Rename c = λ h. unchanged_rename c.args.nodes.now c.args.given.now c.args.goal c.summary-summary.result c.summary-summary.ensures c.in-Rename.is (grind (arith, nat_tests))

pub returns-in-Raise : goal.returns-in-Raise
returns-in-Raise c = λ h. unchanged_raise c.args.nodes.now c.args.given.now c.args.goal c.summary-summary.result c.summary-summary.ensures c.in-Raise.is (grind (arith, nat_tests))
