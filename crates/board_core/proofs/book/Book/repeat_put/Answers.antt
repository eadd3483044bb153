use Rattle.std.proofs.Common.{arith, ◌<◌, ◌-◌, length, ap, sym, ◌∙◌, Some}
use Rattle.std.specs.Prelude.{slice_get}
use Rattle.std.specs.Arc.{arc_value}
use Rattle.board_core.specs.Shown.{Shown, blanks}
use Rattle.board_core.proofs.Reading.{blank_at, count_blanks, count_jobs}
use Rattle.board_core.proofs.Replaying.{put_place, put_next}
use Rattle.board_core.proofs.book.Book.repeat_put.Goals.{in-Ok, in-Err-NoMemory}
use Rattle.board_core.proofs.book.Book.repeat_put.Goals as goal

pub overflow_sub-number : goal.overflow_sub-number
overflow_sub-number g c = let t = put_place (blanks (arc_value c.args.blank.now) c.args.self.now.jobs) c.args.book.now c.requires.part c.args.number c.requires.lawful c.requires.within in let is = t.0 in omega (arith, is)

pub index-place-requires : goal.index-place-requires
index-place-requires g c = let t = put_place (blanks (arc_value c.args.blank.now) c.args.self.now.jobs) c.args.book.now c.requires.part c.args.number c.requires.lawful c.requires.within in let is = t.0 in let lt = t.1 in
    let count = count_jobs c.self.inside.jobs.items in let all = ap (λ b. length b.jobs) c.self.view_is in let blank = count_blanks (arc_value c.args.blank.now) c.args.self.now.jobs in omega (arith, is, lt, count, all, blank)

pub put-requires-clause-unsealed : goal.put-requires-clause-unsealed
put-requires-clause-unsealed g c = (put_place (blanks (arc_value c.args.blank.now) c.args.self.now.jobs) c.args.book.now c.requires.part c.args.number c.requires.lawful c.requires.within).3

pub unreachable-requires : goal.unreachable-requires
unreachable-requires g c = let good = (put_place (blanks (arc_value c.args.blank.now) c.args.self.now.jobs) c.args.book.now c.requires.part c.args.number c.requires.lawful c.requires.within).4 in
    let r = rw c.in-Err-Stopped.field-0-is at c.in-Err-Stopped.ensures.refused in let bad = r.1 in cc

pub returns : goal.returns
returns g c = let jobs = blanks (arc_value c.args.blank.now) c.args.self.now.jobs in let b = c.args.book.now in let part = c.requires.part in
    let t = put_place jobs b part c.args.number c.requires.lawful c.requires.within in let is = t.0 in let lt = t.1 in
    let items = c.self.inside.jobs.items in let count = count_jobs items in let all = ap (λ b. length b.jobs) c.self.view_is in let blank = count_blanks (arc_value c.args.blank.now) c.args.self.now.jobs in
    let within : c.args.number - 1 < length items = omega (arith, is, lt, count, all, blank) in
    let here = ap (λ (b : Shown _). slice_get (blanks (arc_value c.args.blank.now) b.jobs) (c.args.number - 1)) (sym c.self.view_is) ∙ blank_at (arc_value c.args.blank.now) items (c.args.number - 1) c.index-place.result.now within c.index-place.ensures in
    let shared = here ∙ ap (λ j. Some (j, c.index-place.result.now.settled)) (sym c.in_ok-clone.ensures.cases) in
    elim c.match-put.branch [
      | in-Ok w ↦ rw w.result-is (w.in-Ok.ensures.ok ∙ put_next jobs b part c.args.number w.in-Ok.field-0 _ is lt shared w.in-Ok.ensures.number t.2)
      | in-Err-NoMemory w ↦ rw w.result-is tt
    ]
