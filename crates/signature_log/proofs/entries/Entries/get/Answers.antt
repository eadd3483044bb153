use Rattle.std.proofs.Common.{◌∙◌, sym, ap, arith, ◌/◌, ◌*◌, ◌-◌, length}
use Rattle.std.specs.Option.{option_copied}
use Rattle.signature_log.specs.Blocks.{places_3}
use Rattle.signature_log.proofs.Groups.{all, group_at, past, recent_at, whole_at}
use Rattle.signature_log.proofs.entries.Entries.get.Goals as goal

pub get-requires-in-Some : goal.get-requires-in-Some
get-requires-in-Some c =
    let full = whole_at (places_3 c.self.inside.groups) (c.args.at / 32) c.in-Some.group.now c.self.invariant.whole (sym c.get.ensures ∙ ap option_copied c.in-Some.is) in
    omega (arith, full)

pub returns-in-Some : goal.returns-in-Some
returns-in-Some c =
    rw (← c.self.view_is)
    (c.get-in-Some.ensures
    ∙ sym (group_at (places_3 c.self.inside.groups) c.self.inside.recent c.args.at c.in-Some.group.now c.self.invariant.whole (sym c.get.ensures ∙ ap option_copied c.in-Some.is)))

pub returns-in-None : goal.returns-in-None
returns-in-None c =
    let none = sym c.get.ensures ∙ ap option_copied c.in-None.is in
    let far = past (places_3 c.self.inside.groups) c.args.at none in
    let due = all c.self.inside.groups c.self.inside.recent c.self.invariant.whole in
    let place = c.args.at - 32 * length (places_3 c.self.inside.groups) in
    rw (← c.self.view_is)
    (c.get_back.ensures place (omega (arith, far, due, c.self.invariant.counted, c.if-at-self.false))
    ∙ sym (recent_at (places_3 c.self.inside.groups) c.self.inside.recent c.args.at place c.self.invariant.whole none (omega arith)))
