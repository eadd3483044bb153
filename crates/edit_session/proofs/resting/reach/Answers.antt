use Rattle.std.proofs.Common.{◌∙◌, Some, ap, arith, length, refl}
use Rattle.std.proofs.lemmas.Option.{slice_get_read}
use Rattle.std.specs.Prelude.{slice_set}
use Rattle.edit_session.proofs.Searching.{reached_new_is, reached_seen}
use Rattle.edit_session.proofs.resting.reach.Goals as goal

pub returns-in_ok-push : goal.returns-in_ok-push
returns-in_ok-push c = reached_new_is c.args.mark c.args.marks.now.items c.args.reached.now.items (slice_set c.args.marks.now.items c.args.place c.args.mark) c.push.new.self.items c.args.place
    (omega (arith, c.if-at-len.false, c.len.ensures)) refl c.in_ok-push.ensures.items

pub returns-else-index-mark : goal.returns-else-index-mark
returns-else-index-mark c = reached_seen c.args.mark c.args.marks.now.items c.args.reached.now.items c.args.place
    (slice_get_read c.args.marks.now.items (length c.args.marks.now.items) c.args.place c.index.result.now refl (omega (arith, c.if-at-len.false, c.len.ensures)) c.index.ensures ∙ ap Some c.if-index-mark.false)
