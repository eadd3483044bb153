use Rattle.std.proofs.Common.{arith, ap, ◌∙◌}
use Rattle.dk_lexer.specs.declared.place.Place.{Place}
use Rattle.dk_lexer.proofs.Bounds.{behind_offset}
use Rattle.one_lexer.proofs.Places.{place_next}
use Rattle.one_lexer.proofs.next.advance.Goals as goal

pub loop-byte-preserved : goal.loop-byte-preserved
loop-byte-preserved c =
    let next = ap (λ (p : Place). p.offset) c.behind-place.ensures ∙ behind_offset _ _ in
    record {
      offset = omega (arith, c.loop-byte.invariant.offset);
      same = place_next c.args.here c.loop-byte.place c.behind-place.result c.args.passed.now c.loop-byte.byte-index c.loop-byte-test.true c.loop-byte.invariant.same c.behind-place.ensures;
    }
