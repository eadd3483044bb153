use Rattle.file_check.proofs.Desking.{own_sealed}
use Rattle.file_check.proofs.desk.Desk.seal.Goals as goal

pub returns-clause-end : goal.returns-clause-end
returns-clause-end g c = own_sealed c.args.self.pass.seat.me.0.mine c.seal-sealed.result.seat.me.0.mine c.args.end c.seal-sealed.ensures.added.1 c.args.self.pass.unsealed

pub returns-clause-titles : goal.returns-clause-titles
returns-clause-titles g c = c.requires.sound.titled
