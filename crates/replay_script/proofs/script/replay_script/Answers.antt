use Rattle.std.proofs.Common.{[], refl}
use Rattle.replay_script.specs.Replays.{of_none}
use Rattle.replay_script.specs.Standing.{output_of}
use Rattle.replay_script.proofs.Reading.{none_first}
use Rattle.replay_script.proofs.Sending.{sends_none}
use Rattle.replay_script.proofs.script.replay_script.Goals as goal

pub returns-in_default-clause-ends : goal.returns-in_default-clause-ends
returns-in_default-clause-ends g c = ([], [], ([], of_none), sends_none (output_of g.K.Sink c.args.sink.now), refl, none_first c.args.limits (g.H.Shelf.left c.args.shelf.now))
