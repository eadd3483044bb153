use Rattle.std.proofs.Common.{ℕ, ◌≡◌, ◌+◌, ◌*◌, ◌-◌, length, arith, sym, refl, ◌≤◌}
use Rattle.std.proofs.Math.Nat.{mul-le-mul_right}
use Rattle.signature_log.proofs.Filled.{count, sound_in}
use Rattle.signature_log.proofs.packed.count.Goals as goal

pub overflow_mul-result : goal.overflow_mul-result
overflow_mul-result g c =
    let n : ℕ = length c.args.blocks.now - 1 in
    let all = count g.B.Blocks.places g.B.Blocks.sound g.B.Blocks.most c.args.blocks.now n c.index-blocks-count.result (omega (arith, c.if-count-eq0.false)) c.index-blocks-count.is c.requires.filled in
    rw c.most.ensures.is (omega (arith, all, c.requires.fits))

pub len-requires : goal.len-requires
len-requires g c = sound_in g.B.Blocks.places g.B.Blocks.sound g.B.Blocks.most c.args.blocks.now (length c.args.blocks.now - 1) c.index-blocks-count.result (omega (arith, c.if-count-eq0.false)) c.index-blocks-count.is c.requires.filled

pub overflow_add-result : goal.overflow_add-result
overflow_add-result g c =
    let n : ℕ = length c.args.blocks.now - 1 in
    let all = count g.B.Blocks.places g.B.Blocks.sound g.B.Blocks.most c.args.blocks.now n c.index-blocks-count.result (omega (arith, c.if-count-eq0.false)) c.index-blocks-count.is c.requires.filled in
    rw (c.most.ensures.is, c.len.ensures.count) (omega (arith, all, c.requires.fits))

pub returns-clause-count : goal.returns-clause-count
returns-clause-count g c =
    let n : ℕ = length c.args.blocks.now - 1 in
    let all = count g.B.Blocks.places g.B.Blocks.sound g.B.Blocks.most c.args.blocks.now n c.index-blocks-count.result (omega (arith, c.if-count-eq0.false)) c.index-blocks-count.is c.requires.filled in
    rw (c.most.ensures.is, c.len.ensures.count) (sym all)

-- so many blocks, the last one too at most full
total : (count most result last : ℕ) → count ≤ 32 → (count ≡ 0 → ⊥) → result ≡ (count - 1) * most + last → last ≤ most → result ≤ 32 * most
total count most result last few some is full =
    let n : ℕ = count - 1 in
    let less : n + 1 ≤ 32 = omega (arith, few, some) in
    let all : (n + 1) * most ≤ 32 * most = mul-le-mul_right most less in
    omega (arith, all, is, full)

pub returns-clause-within : goal.returns-clause-within
returns-clause-within g c =
    rw c.most.ensures.is (total (length c.args.blocks.now) g.B.Blocks.most _ c.len.result c.requires.few c.if-count-eq0.false refl c.len.ensures.within)
