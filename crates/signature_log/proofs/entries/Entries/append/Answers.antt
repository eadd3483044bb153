use Rattle.std.proofs.Common.{arith, subst, sym, length, ◌<◌, ◌+◌}
use Rattle.signature_log.specs.Groups.{IsGrouped}
use Rattle.signature_log.proofs.Groups.{added_grouped, closed_grouped, room, below}
use Rattle.signature_log.proofs.entries.Entries.append.Goals as goal

pub invariant_of-result : goal.invariant_of-result
invariant_of-result g c =
    added_grouped c.self.inside.groups c.in_ok-groups.groups c.self.inside.recent c.in_ok-recent.recent c.args.entry c.self.inside.count c.self.invariant c.in_ok-groups.ensures c.in_ok-recent.ensures.values
    (omega (arith, c.if-count-ne0.true)) (below c.self.inside.groups c.self.inside.recent c.self.inside.count c.self.invariant (subst (λ es. length es < 1048576) (sym c.self.view_is) c.requires))

pub append-requires-2-clause-room : goal.append-requires-2-clause-room
append-requires-2-clause-room g c =
    room c.self.inside.groups c.self.inside.recent c.self.inside.count c.self.invariant
    (below c.self.inside.groups c.self.inside.recent c.self.inside.count c.self.invariant (subst (λ es. length es < 1048576) (sym c.self.view_is) c.requires))

pub invariant_of-result-2 : goal.invariant_of-result-2
invariant_of-result-2 g c =
    subst (λ es. IsGrouped c.in_ok-groups-2.groups es (c.self.inside.count + 1)) (sym c.empty-recent.ensures)
    (closed_grouped c.self.inside.groups c.in_ok-groups-2.groups c.self.inside.recent c.in_ok-group.group c.args.entry c.self.inside.count c.self.invariant c.in_ok-groups-2.ensures.sound c.in_ok-group.ensures.places c.in_ok-groups-2.ensures.places
    (omega (arith, c.if-count-ne0.false)) (below c.self.inside.groups c.self.inside.recent c.self.inside.count c.self.invariant (subst (λ es. length es < 1048576) (sym c.self.view_is) c.requires)))
