-- What is remembered is right.
use Rattle.shared_term.proofs.Remembering.{found_done}
use Rattle.shared_term.proofs.entering.entered.Goals as goal

pub returns-in-Some-clause-enters : goal.returns-in-Some-clause-enters
returns-in-Some-clause-enters c =
    found_done c.args.nodes.now c.args.given.now c.args.memos.now.lasting c.args.memos.now.passing c.args.goal c.in-Some.found c.requires.lasting c.requires.passing c.in-Some.ensures
