-- The raised term is another exactly where there is such a variable.
use Rattle.std.proofs.Common.{◌∙◌, sym, subst, List, ◌<◌, length}
use Rattle.shared_term.specs.Pools.{Node, term}
use Rattle.shared_term.proofs.Others.{mentions_by}
use Rattle.shared_term.proofs.pool.Pool.mentions_others.Goals as goal

pub returns-clause-mentions : goal.returns-clause-mentions
returns-clause-mentions c =
    let ns = c.self.inside.nodes in
    let P = λ (ms : List Node). c.args.id.0 < length ms in
    let t = term ns c.args.id in
    let is = c.in_ok-raised.ensures.is in
    let same = c.walked.ensures.keeps.keeps c.args.id.0 (subst P (sym c.self.view_is) c.requires) in
    rw (← c.self.view_is) (mentions_by c.same.result 0 c.args.bound c.args.arguments.now t (λ e. sym is ∙ c.same.ensures.terms.0 e ∙ same) (λ e. c.same.ensures.terms.1 (is ∙ e ∙ sym same)))
