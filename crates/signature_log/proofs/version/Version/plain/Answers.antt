use Rattle.std.proofs.Common.{◌∙◌, ap, sym}
use Rattle.std.specs.Option.{option_copied}
use Rattle.signature_log.proofs.StoredRules.{boxed_more}
use Rattle.signature_log.proofs.version.Version.plain.Goals as goal

pub loop-at-preserved : goal.loop-at-preserved
loop-at-preserved c =
    boxed_more c.args.self.now c.loop-at.at c.in-Some.entry.now c.loop-at.entries c.push.new.self c.in_ok-box_entry-in-Some.field-0
    (sym c.get.ensures ∙ ap option_copied c.in-Some.is) c.in_ok-box_entry-in-Some.ensures c.loop-at.invariant c.in_ok-push-in-Some.ensures.ok
