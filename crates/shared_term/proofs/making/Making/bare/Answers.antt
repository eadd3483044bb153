use Rattle.std.proofs.Common.{ap, ◌∙◌}
use Rattle.shared_term.specs.Made.{stack}
use Rattle.shared_term.proofs.Made.{bare_put}
use Rattle.shared_term.proofs.making.Making.bare.Goals as goal

pub returns : goal.returns
returns c = λ x rest given.
    bare_put c.self.inside.nodes.items c.self.inside.places.items c.pop.new.self.items c.in-Some.body _ x rest c.put.result c.in-Some.ensures.items
    (ap stack c.self.view_is ∙ given) c.put.ensures.top
