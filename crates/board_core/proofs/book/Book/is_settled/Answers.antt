use Rattle.std.proofs.Common.{arith, ◌<◌, ◌-◌, length, ap}
use Rattle.board_core.proofs.Reading.{count_jobs, posted_mark}
use Rattle.board_core.proofs.book.Book.is_settled.Goals as goal

pub returns : goal.returns
returns g c = let count = count_jobs c.self.inside.jobs.items in let all = ap (λ b. length b.jobs) c.self.view_is in let asked = c.requires in
    let within : c.args.number - 1 < length c.self.inside.jobs.items = omega (arith, count, all, asked) in
    rw (← c.self.view_is) (posted_mark c.self.inside.jobs.items _ _ within c.index.ensures)
