use Rattle.std.proofs.Common.{ℕ, ◌≡◌, ◌<◌, ◌≤◌, ◌+◌, ◌*◌, ◌-◌, length, arith}
use Rattle.std.proofs.lemmas.Result.{IfOk-weaker}
use Rattle.signature_log.proofs.Filled.{grown, added, at_most, room, sound_in}
use Rattle.signature_log.proofs.packed.append.Goals as goal

pub len-requires : goal.len-requires
len-requires g c = sound_in g.B.Blocks.places g.B.Blocks.sound g.B.Blocks.most c.args.blocks.now (length c.args.blocks.now - 1) c.index-blocks-count.result (omega (arith, c.if-count-eq0.false)) c.index-blocks-count.is c.requires.sound.filled

pub append-requires-clause-sound : goal.append-requires-clause-sound
append-requires-clause-sound g c = sound_in g.B.Blocks.places g.B.Blocks.sound g.B.Blocks.most c.args.blocks.now (length c.args.blocks.now - 1) c.index-blocks-count.result (omega (arith, c.if-count-eq0.false)) c.index-blocks-count.is c.requires.sound.filled

pub returns-in_ok-block-2-clause-sound : goal.returns-in_ok-block-2-clause-sound
returns-in_ok-block-2-clause-sound g c =
    IfOk-weaker c.with-then-len-most.result _ _
    (λ v h. grown g.B.Blocks.places g.B.Blocks.sound g.B.Blocks.most c.args.blocks.now v.items (length c.args.blocks.now - 1) c.index-blocks-count.result c.in_ok-block-2.block c.args.place
    c.requires.sound (omega (arith, c.if-count-eq0.false)) c.index-blocks-count.is h c.in_ok-block-2.ensures.places
    (omega (arith, c.len.ensures.count, c.most.ensures.is, c.if-len-most.true)) c.in_ok-block-2.ensures.sound c.requires.fits)
    c.with-then-len-most.ensures.places

-- the last block is full
full : (places len most due : ℕ) → len ≡ places → due ≡ most → due ≤ len → places ≤ most → places ≡ most
full places len most due e f h k = omega (arith, e, f, h, k)

pub returns-in_ok-block-3-clause-sound : goal.returns-in_ok-block-3-clause-sound
returns-in_ok-block-3-clause-sound g c =
    let place = c.if-count-eq0.false in
    let most = at_most g.B.Blocks.places g.B.Blocks.sound g.B.Blocks.most c.args.blocks.now (length c.args.blocks.now - 1) c.index-blocks-count.result (omega (arith, place)) c.index-blocks-count.is c.requires.sound.filled in
    IfOk-weaker c.with-else-len-most.result _ _
    (λ v h. added g.B.Blocks.places g.B.Blocks.sound g.B.Blocks.most c.args.blocks.now v.items (length c.args.blocks.now - 1) c.index-blocks-count.result c.in_ok-block-3.block c.args.place
    c.requires.sound (omega (arith, place)) c.index-blocks-count.is h c.in_ok-block-3.ensures.places
    (full _ _ _ _ c.len.ensures.count c.most.ensures.is c.if-len-most.false most) c.most.ensures.some c.in_ok-block-3.ensures.sound c.requires.room c.requires.fits)
    c.with-else-len-most.ensures.places

-- the steps of one block of each level below, and of the places here
cost : (start one all levels count : ℕ) → one ≤ start + levels → all ≤ one + (count + 1) → count < 32 → all ≤ start + 32 * (levels + 1)
cost start one all levels count a b h = omega (arith, a, b, h)

pub returns-in_ok-block-3-clause-cost : goal.returns-in_ok-block-3-clause-cost
returns-in_ok-block-3-clause-cost g c =
    let place = c.if-count-eq0.false in
    let most = at_most g.B.Blocks.places g.B.Blocks.sound g.B.Blocks.most c.args.blocks.now (length c.args.blocks.now - 1) c.index-blocks-count.result (omega (arith, place)) c.index-blocks-count.is c.requires.sound.filled in
    let few = room g.B.Blocks.places g.B.Blocks.sound g.B.Blocks.most c.args.blocks.now (length c.args.blocks.now - 1) c.index-blocks-count.result (omega (arith, place)) c.index-blocks-count.is
    (full _ _ _ _ c.len.ensures.count c.most.ensures.is c.if-len-most.false most) c.requires.sound.filled c.requires.room in
    cost c.args.steps.now c.one-else-len-most.new.steps c.with-else-len-most.new.steps g.B.Blocks.levels (length c.args.blocks.now) c.in_ok-block-3.ensures.cost c.with-else-len-most.ensures.cost few
