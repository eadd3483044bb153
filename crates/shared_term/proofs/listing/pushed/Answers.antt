-- The list has one node more, at its end.
use Rattle.std.proofs.Common.{◌≡◌, ◌∙◌, ◌++◌, ◌∷◌, [], length, get_or, ap, arith}
use Rattle.dk_model.specs.Trees.{star}
use Rattle.shared_term.specs.Pools.{terms}
use Rattle.shared_term.proofs.Growth.{extends-push, last_term}
use Rattle.shared_term.proofs.Places.{spelt-push}
use Rattle.shared_term.proofs.listing.pushed.Goals as goal

pub returns-clause-is : goal.returns-clause-is
returns-clause-is c =
    let at-end : c.len-place.result ≡ length c.args.nodes.now.items = omega arith in
    rw c.in_ok-push.ensures.items
    (ap (λ k. get_or (terms (c.args.nodes.now.items ++ c.args.node ∷ [])) k star) at-end ∙ last_term c.args.nodes.now.items c.args.node)

pub returns-clause-keeps : goal.returns-clause-keeps
returns-clause-keeps c = rw c.in_ok-push.ensures.items (extends-push c.args.nodes.now.items c.args.node)

pub returns-clause-spelt : goal.returns-clause-spelt
returns-clause-spelt c = rw c.in_ok-push.ensures.items (spelt-push c.args.nodes.now.items c.args.node c.requires.spelt c.requires.within)
