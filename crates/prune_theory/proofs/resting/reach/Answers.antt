use Rattle.std.proofs.Common.{ap, refl, length, Some, ◌∙◌}
use Rattle.std.proofs.lemmas.Option.{slice_get_read}
use Rattle.prune_theory.proofs.Reached.{reaches_new_is, reaches_seen}
use Rattle.prune_theory.proofs.resting.reach.Goals as goal

pub returns-in_ok-push : goal.returns-in_ok-push
returns-in_ok-push c = reaches_new_is c.args.marks.now.items c.args.waiting.now.items c.args.place c.mark.new.marks.items c.push.new.self.items
    (slice_get_read c.args.marks.now.items (length c.args.marks.now.items) c.args.place c.index.result.now refl c.requires c.index.ensures ∙ ap Some c.if-not-index.true) c.mark.ensures c.in_ok-push.ensures.items

pub returns-else-not-index : goal.returns-else-not-index
returns-else-not-index c = reaches_seen c.args.marks.now.items c.args.waiting.now.items c.args.place
    (slice_get_read c.args.marks.now.items (length c.args.marks.now.items) c.args.place c.index.result.now refl c.requires c.index.ensures ∙ ap Some c.if-not-index.false)
