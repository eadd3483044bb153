use Rattle.shared_term.specs.Made.{stack}
use Rattle.scope_terms.proofs.Placing.{behind, headed, under_placed}
use Rattle.scope_terms.proofs.declaration.+under_params.Goals as goal

pub returns-in_ok-join-in-len1-up-clause-ok : goal.returns-in_ok-join-in-len1-up-clause-ok
returns-in_ok-join-in-len1-up-clause-ok t c =
    let bound = c.args.bound.now in
    under_placed c.args.scope.now bound c.in_ok-under-in-len1-up.under c.args.pair c.param-item.result (behind c.args.params.now) c.args.params.now c.args.raw.now
    (stack c.args.making.now) (stack c.placed_at-in-len1-up.new.making) (stack c.under_params.new.making) (stack c.join.new.self) c.requires.none
    (headed c.args.params.now c.param-item.result c.in-len1-up.len_at_least c.param-item.is)
    c.in_ok-under-in-len1-up.ensures.is
    c.in_ok-placed_at-in-len1-up.ensures.ok c.in_ok-under_params-in-len1-up.ensures.ok c.in_ok-join-in-len1-up.ensures
