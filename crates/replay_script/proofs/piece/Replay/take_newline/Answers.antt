use Rattle.std.proofs.Common.{◌≡◌, ◌+◌, ap, arith, length, refl}
use Rattle.replay_script.proofs.Lengths.{few_taken}
use Rattle.replay_script.proofs.Taking.{newline_goes, newline_stops}
use Rattle.replay_script.proofs.piece.Replay.take_newline.Goals as goal

pub returns-in-Ok-clause-within : goal.returns-in-Ok-clause-within
returns-in-Ok-clause-within g c =
    let more = few_taken c.in-Ok.ensures.takes.1 in
    let few = c.requires.within.few in
    let short = c.requires.within.short in
    let number = c.in-Ok.ensures.number in
    let count = c.in-Ok.ensures.count in
    let empty : length c.clear.new.self.items ≡ 0 = ap length c.clear.ensures.items in
    record { few = omega (arith, more, few, number); short = omega (arith, short, number, count, empty) }

pub returns-in-Ok-clause-takes : goal.returns-in-Ok-clause-takes
returns-in-Ok-clause-takes g c = λ limits budget given text a short.
    newline_goes limits budget given text c.args.self.now a c.end_line.new.self.session _ _ _ c.in-Ok.ensures.limits c.in-Ok.ensures.budget c.in-Ok.ensures.takes refl c.clear.ensures.items
    (ap (λ n. n + 1) c.in-Ok.ensures.number) (ap (λ n. n + 1) c.in-Ok.ensures.count)

pub returns-in-Err-clause-takes : goal.returns-in-Err-clause-takes
returns-in-Err-clause-takes g c = λ limits budget given text a short.
    newline_stops limits budget given text c.args.self.now a c.end_line.new.self.session c.end_line.new.self.number _ _ c.in-Err.stop short c.in-Err.ensures.number c.in-Err.ensures.takes
