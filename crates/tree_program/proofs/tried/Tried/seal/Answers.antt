use Rattle.std.proofs.Common.{sym, subst}
use Rattle.board_core.specs.Machine.{IsFinished, marks_of}
use Rattle.tree_program.proofs.Settled.{finished_by}
use Rattle.tree_program.proofs.tried.Tried.seal.Goals as goal

pub returns-clause-finished : goal.returns-clause-finished
returns-clause-finished c =
    subst (λ b. IsFinished (marks_of b.jobs) b.events) (sym c.seal.ensures)
    (finished_by c.args.self.now.book c.args.end c.history.ensures.all_put c.requires.is_open.settled)
