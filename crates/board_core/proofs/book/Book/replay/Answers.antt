use Rattle.std.proofs.Common.{arith, ◌≡◌, length, sym, ◌∙◌, subst, ap, Some}
use Rattle.std.specs.Prelude.{slice_get}
use Rattle.board_core.specs.Machine.{IsLawful, marks_of}
use Rattle.std.specs.Arc.{arc_value}
use Rattle.board_core.specs.Shown.{Shown, blanks}
use Rattle.board_core.proofs.Reading.{count_blanks, marks_blanks}
use Rattle.board_core.proofs.Replaying.{part_own, next_lawful, next_within, part_step, part_end}
use Rattle.board_core.proofs.book.Book.replay.Goals as goal

pub event-requires : goal.event-requires
event-requires g c = let told = ap length c.history-history.ensures.value in let count = c.len-at-end.ensures in let within = c.loop-at-test.true in omega (arith, told, count, within)

pub repeat-requires-clause-lawful : goal.repeat-requires-clause-lawful
repeat-requires-clause-lawful g c = let told = c.history-history.ensures in let jobs = blanks (arc_value c.args.blank.now) c.args.self.now.jobs in let es = c.args.self.now.events in let event = c.in_ok-event.field-0 in
    let here : slice_get es c.loop-at.at ≡ Some event = ap (λ l. slice_get l c.loop-at.at) (sym told.value) ∙ c.in_ok-event.ensures in
    next_lawful jobs c.loop-at.book es c.loop-at.at event c.loop-at.invariant here (marks_of jobs) (subst (λ m. IsLawful m es) (sym (marks_blanks (arc_value c.args.blank.now) c.args.self.now.jobs)) told.lawful)

pub repeat-requires-clause-within : goal.repeat-requires-clause-within
repeat-requires-clause-within g c = let told = c.history-history.ensures in let jobs = blanks (arc_value c.args.blank.now) c.args.self.now.jobs in let es = c.args.self.now.events in let event = c.in_ok-event.field-0 in
    let here : slice_get es c.loop-at.at ≡ Some event = ap (λ l. slice_get l c.loop-at.at) (sym told.value) ∙ c.in_ok-event.ensures in
    next_within jobs c.loop-at.book es c.loop-at.at event c.loop-at.invariant here (told.all_put ∙ sym (count_blanks (arc_value c.args.blank.now) c.args.self.now.jobs))

pub repeat-requires-clause-part : goal.repeat-requires-clause-part
repeat-requires-clause-part g c = part_own (blanks (arc_value c.args.blank.now) c.args.self.now.jobs) c.loop-at.book _ c.loop-at.invariant

pub loop-at-preserved : goal.loop-at-preserved
loop-at-preserved g c = let told = c.history-history.ensures in let jobs = blanks (arc_value c.args.blank.now) c.args.self.now.jobs in let es = c.args.self.now.events in let event = c.in_ok-event.field-0 in
    let here : slice_get es c.loop-at.at ≡ Some event = ap (λ l. slice_get l c.loop-at.at) (sym told.value) ∙ c.in_ok-event.ensures in
    part_step jobs c.loop-at.book es c.loop-at.at event c.loop-at.invariant here c.repeat.new.book c.in_ok-repeat.ensures

pub returns : goal.returns
returns g c = let told = c.history-history.ensures in let at = c.loop-at.auto.at-end in let past = c.loop-at-test.false in
    let last : c.loop-at.at ≡ length c.args.self.now.events = (let every = ap length told.value in let count = c.len-at-end.ensures in omega (arith, at, past, every, count)) in
    let all : Shown _ = record { jobs = blanks (arc_value c.args.blank.now) c.args.self.now.jobs; events = c.args.self.now.events } in
    let same = part_end all c.loop-at.book c.loop-at.at c.loop-at.invariant last (told.all_put ∙ sym (count_blanks (arc_value c.args.blank.now) c.args.self.now.jobs)) in
    record { jobs = ap (λ (b : Shown _). b.jobs) same; events = ap (λ (b : Shown _). b.events) same }
