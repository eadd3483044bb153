use Rattle.std.proofs.Common.{refl, ap, ◌∙◌}
use Rattle.board_core.specs.declared.event.Event.TheVariants.{Claim}
use Rattle.std.specs.Arc.{arc_value}
use Rattle.board_core.specs.Shown.{added, blanks}
use Rattle.board_core.proofs.Replaying.{allowed_next, part_next, least_same}
use Rattle.board_core.proofs.book.Book.repeat_claim.Goals as goal

pub claim-requires : goal.claim-requires
claim-requires g c = (allowed_next (blanks (arc_value c.args.blank.now) c.args.self.now.jobs) c.args.book.now c.requires.part (Claim c.args.worker c.args.number) c.requires.lawful).0

pub unreachable-requires : goal.unreachable-requires
unreachable-requires g c = let ok = allowed_next (blanks (arc_value c.args.blank.now) c.args.self.now.jobs) c.args.book.now c.requires.part (Claim c.args.worker c.args.number) c.requires.lawful in
    let none = c.in-Empty.ensures.reply in none.1 c.args.number ok.1

pub unreachable-requires-in-Over : goal.unreachable-requires-in-Over
unreachable-requires-in-Over g c = let ok = allowed_next (blanks (arc_value c.args.blank.now) c.args.self.now.jobs) c.args.book.now c.requires.part (Claim c.args.worker c.args.number) c.requires.lawful in
    let none = c.in-Over.ensures.reply in none.1 c.args.number ok.1

pub returns : goal.returns
returns g c = let jobs = blanks (arc_value c.args.blank.now) c.args.self.now.jobs in let b = c.args.book.now in let part = c.requires.part in
    let ok = allowed_next jobs b part (Claim c.args.worker c.args.number) c.requires.lawful in
    let got = c.in-Task.ensures.reply in let same = least_same jobs b part c.args.worker c.args.number c.in-Task.field-0.number ok got.0 in
    got.2 ∙ (ap (λ n. added b (Claim c.args.worker n)) same ∙ part_next jobs b part (Claim c.args.worker c.args.number) refl)
