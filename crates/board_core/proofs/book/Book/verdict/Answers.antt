use Rattle.std.proofs.Common.{arith, ◌<◌, ◌-◌, length, ap, sym, ◌∙◌, None}
use Rattle.board_core.specs.Kept.{jobs_in}
use Rattle.board_core.specs.Steps.{events_in}
use Rattle.board_core.proofs.Holding.{count_marks}
use Rattle.board_core.proofs.Reading.{count_jobs, posted_mark, settled_verdict, unsettled_verdict, read_at}
use Rattle.board_core.proofs.book.Book.verdict.Goals as goal

pub returns-then-index : goal.returns-then-index
returns-then-index g c = let count = count_jobs c.self.inside.jobs.items in let all = ap (λ b. length b.jobs) c.self.view_is in let asked = c.requires in
    let within : c.args.number - 1 < length c.self.inside.jobs.items = omega (arith, count, all, asked) in
    rw (← c.self.view_is) (settled_verdict _ (events_in c.self.inside.end c.self.inside.history.items) c.args.number (sym (posted_mark c.self.inside.jobs.items _ _ within c.index.ensures) ∙ c.if-index.true))

pub returns : goal.returns
returns g c = let count = count_jobs c.self.inside.jobs.items in let all = ap (λ b. length b.jobs) c.self.view_is in let asked = c.requires in
    let within : c.args.number - 1 < length c.self.inside.jobs.items = omega (arith, count, all, asked) in
    let marks = count_marks (jobs_in c.self.inside.jobs.items) in let as_many = c.self.invariant.keeps.as_many in
    let within' : c.args.number - 1 < length c.self.inside.verdicts.items = omega (arith, within, marks, count, as_many) in
    rw (← c.self.view_is) (unsettled_verdict _ (events_in c.self.inside.end c.self.inside.history.items) c.args.number _ (sym (posted_mark c.self.inside.jobs.items _ _ within c.index.ensures) ∙ c.if-index.false)
    (read_at c.self.inside.verdicts.items (c.args.number - 1) c.index-2.result.now None within' c.index-2.ensures ∙ c.self.invariant.keeps.verdicts_kept c.args.number asked.0))
