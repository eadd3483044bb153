use Rattle.std.proofs.Common.{rules, ◌≡◌, ◌<◌, ◌∷◌, true, length, arith}
use Rattle.dk_lexer.specs.Classes.{class_of}
use Rattle.one_lexer.specs.Blanks.{is_blank_class}
use Rattle.one_lexer.proofs.Blanks.{passed_all, passed_more, passed_so}
use Rattle.one_lexer.proofs.blank.over_blanks.Goals as goal

pub returns-then-not-is_blank-clause-goes_over : goal.returns-then-not-is_blank-clause-goes_over
returns-then-not-is_blank-clause-goes_over c = passed_so c.args.last c.args.here c.loop-byte.place c.args.bytes.now c.loop-byte.rest.now c.loop-byte.invariant

pub loop-byte-preserved : goal.loop-byte-preserved
loop-byte-preserved c =
    let at : c.loop-byte.rest.now ≡ c.in-Some.byte.now ∷ c.in-Some.more.now = search rules in
    let stands : is_blank_class (class_of c.in-Some.byte.now) ≡ true = search rules in
    let lt : c.loop-byte.place.offset < c.args.last = omega (arith, c.if-from-last.false, c.from.ensures) in
    passed_more c.args.last c.in-Some.byte.now c.args.here c.loop-byte.place c.behind-place.result c.args.bytes.now c.loop-byte.rest.now c.in-Some.more.now at stands lt c.behind-place.ensures c.loop-byte.invariant

pub returns-clause-goes_over : goal.returns-clause-goes_over
returns-clause-goes_over c =
    let none : length c.loop-byte.rest.now ≡ 0 = search rules in
    passed_all c.args.last c.args.here c.loop-byte.place c.args.bytes.now c.loop-byte.rest.now none c.loop-byte.invariant
