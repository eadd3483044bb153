-- A form that is remembered.
use Rattle.signature_log.specs.Versions.{entries_of}
use Rattle.conversion.proofs.Resting.{found_is}
use Rattle.conversion.proofs.state.PoolReducer.known.Goals as goal

pub returns : goal.returns
returns c = found_is (entries_of c.args.version.now) c.args.self.now.pool c.args.self.now.values c.args.term.0 c.find.result c.requires.serves.values (rw c.number.ensures at c.find.ensures)
