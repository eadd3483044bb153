use Rattle.std.proofs.Common.{◌∙◌, sym, ◌/◌}
use Rattle.signature_log.proofs.Filled.{get_some, get_none, sound_in}
use Rattle.signature_log.proofs.packed.get.Goals as goal

pub get-requires : goal.get-requires
get-requires g c = sound_in g.B.Blocks.places g.B.Blocks.sound g.B.Blocks.most c.args.blocks.now (c.args.at / c.most-most.result) c.index-blocks-block.result c.if-block-blocks.true c.index-blocks-block.is c.requires.filled

pub returns-then-block-blocks : goal.returns-then-block-blocks
returns-then-block-blocks g c =
    c.get.ensures ∙ sym (get_some g.B.Blocks.places g.B.Blocks.sound g.B.Blocks.most c.args.blocks.now c.args.at c.most-most.result c.index-blocks-block.result c.most-most.ensures.is c.most-most.ensures.some c.requires.filled c.if-block-blocks.true c.index-blocks-block.is)

pub returns-else-block-blocks : goal.returns-else-block-blocks
returns-else-block-blocks g c = sym (get_none g.B.Blocks.places g.B.Blocks.sound g.B.Blocks.most c.args.blocks.now c.args.at c.most-most.result c.most-most.ensures.is c.most-most.ensures.some c.requires.filled c.if-block-blocks.false)
