use Rattle.std.proofs.Common.{◌∙◌, ap, sym}
use Rattle.std.specs.Prelude.{Ok}
use Rattle.dk_model.specs.Scoping.{plain_left, plain_scoped_rule}
use Rattle.pattern_compile.specs.Patterns.{plain_patterns}
use Rattle.pattern_compile.proofs.Heads.{symbol_in, no_symbol}
use Rattle.pattern_compile.proofs.Shaping.{no_head, no_pattern, uncovered, shaped, rule_is}
use Rattle.pattern_compile.proofs.rule.shape.Goals as goal

pub returns-in_default : goal.returns-in_default
returns-in_default c =
    no_head (plain_scoped_rule c.args.rule.now) (ap symbol_in (sym c.head.ensures.value) ∙ no_symbol c.head.result.now c.in_default.not-Sym)

pub returns-in-None : goal.returns-in-None
returns-in-None c =
    let e = rw c.in-None.is at c.in_ok-pats.ensures in
    no_pattern (plain_scoped_rule c.args.rule.now) c.in-Sym.symbol (sym c.head.ensures.value ∙ ap plain_left c.in-Sym.is) e

pub returns-then-not-is_covered : goal.returns-then-not-is_covered
returns-then-not-is_covered c =
    let e = rw c.in-Some.is at c.in_ok-pats.ensures in
    let m = rw c.as_slice.ensures at c.in_ok-marks.ensures in
    let b = rw (c.as_slice-2.ensures.value, c.as_slice-3.ensures) at c.if-not-is_covered.ensures in
    uncovered (plain_scoped_rule c.args.rule.now) c.in-Sym.symbol (sym c.head.ensures.value ∙ ap plain_left c.in-Sym.is) (plain_patterns c.in-Some.pats) e
    c.in_ok-marks.marks.items m (sym b)

pub returns : goal.returns
returns c =
    let r = plain_scoped_rule c.args.rule.now in
    let e = rw c.in-Some.is at c.in_ok-pats.ensures in
    let m = rw c.as_slice.ensures at c.in_ok-marks.ensures in
    let b = rw (c.as_slice-2.ensures.value, c.as_slice-3.ensures) at c.if-not-is_covered.ensures in
    let n = rw c.as_slice-4.ensures at c.in_ok-copied.ensures in
    shaped r c.in-Sym.symbol (sym c.head.ensures.value ∙ ap plain_left c.in-Sym.is) (plain_patterns c.in-Some.pats) e c.in_ok-marks.marks.items m (sym b)
    ∙ ap Ok (rule_is r c.in-Sym.symbol c.in-Some.pats c.pats.inside.items.items _ _ c.pats.view_is n c.in_ok-copied-2.ensures)
