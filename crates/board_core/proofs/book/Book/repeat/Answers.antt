use Rattle.std.proofs.Common.{◌++◌, ◌∷◌, [], subst}
use Rattle.board_core.specs.declared.event.Event.TheVariants.{Answer, Seal}
use Rattle.board_core.specs.Machine.{IsLawful, marks_of}
use Rattle.std.specs.Arc.{arc_value}
use Rattle.board_core.specs.Shown.{blanks}
use Rattle.board_core.proofs.Replaying.{allowed_next}
use Rattle.board_core.proofs.book.Book.repeat.Goals as goal

pub answer-requires : goal.answer-requires
answer-requires g c = let jobs = blanks (arc_value c.args.blank.now) c.args.self.now.jobs in let b = c.args.book.now in
    allowed_next jobs b c.requires.part (Answer c.in-Answer.worker c.in-Answer.number c.in-Answer.verdict) (subst (λ e. IsLawful (marks_of jobs) (b.events ++ e ∷ [])) c.in-Answer.is c.requires.lawful)

pub seal-requires : goal.seal-requires
seal-requires g c = let jobs = blanks (arc_value c.args.blank.now) c.args.self.now.jobs in let b = c.args.book.now in
    allowed_next jobs b c.requires.part (Seal c.in-Seal.end) (subst (λ e. IsLawful (marks_of jobs) (b.events ++ e ∷ [])) c.in-Seal.is c.requires.lawful)
