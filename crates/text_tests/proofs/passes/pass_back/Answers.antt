use Rattle.std.proofs.Common.{◌≡◌, subst, sym}
use Rattle.std.specs.List.{Any}
use Rattle.std.proofs.lemmas.List.Quantifiers.{Any-push}
use Rattle.task_board.specs.Passes.{IsIdle, IsOver}
use Rattle.task_board.proofs.Alls.{all_put}
use Rattle.text_tests.proofs.passes.pass_back.Goals as goal

pub returns-clause-own : goal.returns-clause-own
returns-clause-own g c = all_put (λ p. p.seat.table_id ≡ c.args.board.now) _ _ _ c.in-Ok.ensures.ok c.requires.own c.requires.pass.0

pub returns-clause-idle : goal.returns-clause-idle
returns-clause-idle g c = all_put (λ p. IsIdle p.seat.me.0) _ _ _ c.in-Ok.ensures.ok c.requires.idle c.requires.pass.1

pub returns-clause-over : goal.returns-clause-over
returns-clause-over g c = λ over. subst (Any (λ p. IsOver p.seat.me.0)) (sym c.in-Ok.ensures.ok) (Any-push (λ p. IsOver p.seat.me.0) _ _ over)
