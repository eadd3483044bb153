use Rattle.std.proofs.Common.{◌≡◌, ◌∙◌, None, replicate, ap, arith}
use Rattle.tree_rules.proofs.Founding.{nothing_is}
use Rattle.tree_rules.proofs.found.Found.nothing.Goals as goal

pub returns : goal.returns
returns c =
    let e : c.loop.counter ≡ c.args.vars = omega arith in
    nothing_is c.args.vars c.loop.types c.new.result (record { terms = c.new-2.result }) (c.loop.invariant ∙ ap (λ n. replicate n None) e) c.new.ensures.items c.new-2.ensures
