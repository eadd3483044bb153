use Rattle.std.proofs.Common.{◌∙◌, ap}
use Rattle.signature_log.proofs.Filled.{first}
use Rattle.signature_log.proofs.branch.BranchBlocks.one.Goals as goal

pub returns-clause-sound : goal.returns-clause-sound
returns-clause-sound g c =
    first g.B.Blocks.places g.B.Blocks.sound g.B.Blocks.most _ c.in_ok-block.block c.args.place (ap (λ v. v.items) c.in_ok-new.ensures.ok ∙ c.in_ok-blocks.ensures.places) c.in_ok-block.ensures.places g.met.B.Blocks.has_room c.in_ok-block.ensures.sound
