use Rattle.std.proofs.Common.{refl}
use Rattle.std.proofs.lemmas.Bool.{ne_eqb}
use Rattle.replay_script.proofs.Taking.{byte_goes, byte_stops}
use Rattle.replay_script.proofs.piece.Replay.take_other.Goals as goal

pub returns-in-Ok-clause-takes : goal.returns-in-Ok-clause-takes
returns-in-Ok-clause-takes c = λ limits budget given text output a short.
    byte_goes limits budget given text c.args.self.now a c.args.byte _ output output (ne_eqb c.args.byte 10 c.requires.other) refl c.in-Ok.ensures.items refl refl refl

pub returns-in-Err-clause-takes : goal.returns-in-Err-clause-takes
returns-in-Err-clause-takes c = λ limits budget given text output a short.
    byte_stops limits budget given text c.args.self.now a c.args.byte c.args.self.now.number output output short refl refl
