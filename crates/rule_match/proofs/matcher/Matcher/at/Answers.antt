use Rattle.std.proofs.Common.{◌<◌, ◌≡◌, length, arith}
use Rattle.std.proofs.lemmas.List.{length-map}
use Rattle.rule_match.specs.declared.value.Column.{Column}
use Rattle.rule_match.specs.Selecting.{terms_in}
use Rattle.rule_match.proofs.Growing.{column_within}
use Rattle.rule_match.proofs.Seeing.{seen_in_column}
use Rattle.rule_match.proofs.matcher.Matcher.at.Goals as goal

pub returns-clause-within : goal.returns-clause-within
returns-clause-within c = λ n h. column_within n c.args.column c.args.self.now.columns.items c.column_of.result h.columns (rw c.as_slice.ensures.value at c.column_of.ensures)

pub returns-clause-is : goal.returns-clause-is
returns-clause-is c = seen_in_column c.args.self.now.columns.items c.args.column c.column_of.result (rw c.as_slice.ensures.value at c.column_of.ensures)
