use Rattle.std.proofs.Common.{arith, ◌-◌, ◌≤◌, ◌∙◌, length, sym, ap, subst, Some, None}
use Rattle.board_core.specs.Machine.{marks_of}
use Rattle.verdict_book.specs.Titles.{lines_in}
use Rattle.verdict_book.specs.Places.{AreHeld, titled, titles_in}
use Rattle.verdict_book.specs.Report.{FileReport}
use Rattle.verdict_book.proofs.Answered.{first_put}
use Rattle.verdict_book.proofs.Exists.{report_by}
use Rattle.verdict_book.proofs.Naming.{few_take, known_take, titled_take, total_take}
use Rattle.verdict_book.proofs.book.before_fault.Goals as goal

pub overflow_sub-number : goal.overflow_sub-number
overflow_sub-number g c = (first_put (marks_of c.args.book.now.jobs) c.args.book.now.events c.history.ensures.lawful c.in-Some.number c.in-Some.field-0-1 c.in-Some.ensures.first).0

pub split_at-requires : goal.split_at-requires
split_at-requires g c =
    let put = first_put (marks_of c.args.book.now.jobs) c.args.book.now.events c.history.ensures.lawful c.in-Some.number c.in-Some.field-0-1 c.in-Some.ensures.first in
    omega (arith, put.0, put.1, c.history.ensures.all_put, c.requires.all)

pub returns-in-Some : goal.returns-in-Some
returns-in-Some g c =
    let t = c.args.titles.now in let k = c.in-Some.number - 1 in let front = c.split_at.ensures.front in
    let less = total_take t.spots.now k in let within = c.requires.held.within in
    record {
      lines = λ report is.
          ap (λ ps. lines_in (titled t.modules.now t.texts.now ps)) front
          ∙ ap lines_in (titled_take t.modules.now t.texts.now t.spots.now k)
          ∙ ap (λ (r : FileReport). r.lines) (sym (report_by (titles_in t) c.args.book.now.events report (Some (c.in-Some.number, c.in-Some.field-0-1)) is c.in-Some.ensures.first));
      held = subst (AreHeld t.modules.now t.texts.now) (sym front) record { within = omega (arith, less, within); known = known_take t.modules.now t.spots.now k c.requires.held.known };
      few = subst (λ ss. length ss ≤ length t.spots.now) (sym front) (few_take t.spots.now k);
    }

pub returns-in-None-clause-lines : goal.returns-in-None-clause-lines
returns-in-None-clause-lines g c = λ report is. ap (λ (r : FileReport). r.lines) (sym (report_by (titles_in c.args.titles.now) c.args.book.now.events report None is c.in-None.ensures.none))
