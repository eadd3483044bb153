use Rattle.std.proofs.Common.{◌∙◌, sym as flip}
use Rattle.rule_match.proofs.Growing.{captures_within}
use Rattle.rule_match.proofs.Winding.{extends_more}
use Rattle.rule_match.proofs.Trying.{step_escapes, step_records, recorded_within, caught_within}
use Rattle.rule_match.proofs.row.cell_step.Goals as goal

pub returns-then-branch-clause-steps : goal.returns-then-branch-clause-steps
returns-then-branch-clause-steps c = λ N C n.
    step_escapes N C c.args.cell.now c.step_of.result c.in-Captures.variable c.in-Captures.listed c.args.column c.args.captures.now.items n c.step_of.ensures c.in-Captures.is
    c.args.pool.now c.mentions_others.new.pool c.mentions_others.ensures.keeps c.requires.column c.requires.captures (flip c.in_ok-mentions_others-in-Captures.ensures.mentions ∙ c.if-branch.true)

pub returns-then-branch-clause-captures : goal.returns-then-branch-clause-captures
returns-then-branch-clause-captures c = captures_within c.args.pool.now c.mentions_others.new.pool c.args.captures.now.items c.mentions_others.ensures.keeps c.requires.captures

pub returns-in_ok-part-in-Captures-clause-steps : goal.returns-in_ok-part-in-Captures-clause-steps
returns-in_ok-part-in-Captures-clause-steps c = λ N C n.
    step_records N C c.args.cell.now c.step_of.result c.in-Captures.variable c.in-Captures.listed c.args.column c.args.captures.now.items n c.step_of.ensures c.in-Captures.is
    c.args.pool.now c.mentions_others.new.pool c.captured.new.pool c.mentions_others.ensures.keeps c.captured.ensures.keeps c.requires.column c.requires.captures
    (flip c.in_ok-mentions_others-in-Captures.ensures.mentions ∙ c.if-branch.false) c.in_ok-part-in-Captures.part c.in_ok-part-in-Captures.ensures.captures
    c.put_capture.new.captures.items c.put_capture.result c.put_capture.ensures

pub returns-in_ok-part-in-Captures-clause-captures : goal.returns-in_ok-part-in-Captures-clause-captures
returns-in_ok-part-in-Captures-clause-captures c =
    let far = extends_more c.args.pool.now c.mentions_others.new.pool c.captured.new.pool c.mentions_others.ensures.keeps c.captured.ensures.keeps in
    recorded_within _ c.in-Captures.variable c.in_ok-part-in-Captures.part c.args.captures.now.items c.put_capture.new.captures.items c.put_capture.result
    (captures_within c.args.pool.now c.captured.new.pool c.args.captures.now.items far c.requires.captures) c.in_ok-part-in-Captures.ensures.captures.there c.put_capture.ensures

pub returns-in_ok-part-in-Captures-clause-caught : goal.returns-in_ok-part-in-Captures-clause-caught
returns-in_ok-part-in-Captures-clause-caught c =
    let far = extends_more c.args.pool.now c.mentions_others.new.pool c.captured.new.pool c.mentions_others.ensures.keeps c.captured.ensures.keeps in
    caught_within _ c.in-Captures.variable c.in_ok-part-in-Captures.part c.args.captures.now.items c.put_capture.new.captures.items c.put_capture.result
    (captures_within c.args.pool.now c.captured.new.pool c.args.captures.now.items far c.requires.captures) c.in_ok-part-in-Captures.ensures.captures.there c.put_capture.ensures
