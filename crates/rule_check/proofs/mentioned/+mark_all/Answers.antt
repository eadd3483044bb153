use Rattle.std.proofs.Common.{ap, ◌∙◌}
use Rattle.signature_log.specs.Reducers.{built}
use Rattle.rule_check.proofs.Marks.{variable_marked, mark_keeps}
use Rattle.rule_check.proofs.mentioned.+mark_all.Goals as goal

pub returns-in_ok-mark-in-Rvar-clause-all : goal.returns-in_ok-mark-in-Rvar-clause-all
returns-in_ok-mark-in-Rvar-clause-all g t c = λ j m i.
    variable_marked c.args.marks.now.items c.mark.new.marks.items c.in-Rvar.number j (g.R.Reducer.denotes c.args.r.now c.args.term) (c.in_ok-number.ensures.node.0 ∙ ap (built g.R.Reducer.denotes c.open.new.self) c.in-Rvar.is) c.in_ok-mark-in-Rvar.ensures m

pub returns-in_ok-mark-in-Rvar-clause-kept : goal.returns-in_ok-mark-in-Rvar-clause-kept
returns-in_ok-mark-in-Rvar-clause-kept g t c = λ j m. mark_keeps c.args.marks.now.items c.mark.new.marks.items c.in-Rvar.number j c.in_ok-mark-in-Rvar.ensures m
