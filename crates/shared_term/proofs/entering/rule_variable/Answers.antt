-- A rule variable goes by its capture.
use Rattle.std.proofs.Common.{◌∙◌, sym}
use Rattle.shared_term.proofs.Captures.{filled_none, filled_some}
use Rattle.shared_term.proofs.entering.rule_variable.Goals as goal

pub returns-in-None : goal.returns-in-None
returns-in-None c = (c.requires.asked.0, filled_none c.args.nodes.now c.args.given.now c.args.goal c.args.k c.in-Fill.is c.requires.is (sym c.capture_at.ensures ∙ c.in-None.is))

pub returns-in-Some : goal.returns-in-Some
returns-in-Some c = filled_some c.args.nodes.now c.args.given.now c.args.goal c.args.k c.in-Some.capture c.in-Fill.is c.requires.asked c.requires.is (sym c.capture_at.ensures ∙ c.in-Some.is)
