use Rattle.std.proofs.Common.{rules, ◌≡◌, ◌∷◌, ◌==◌, false, sym, arith, ◌∙◌}
use Rattle.one_lexer.proofs.PlainRuns.{ends_with_dot, run_alone}
use Rattle.one_lexer.proofs.quick.run.Goals as goal

pub token-requires-clause-is : goal.token-requires-clause-is
token-requires-clause-is c =
    let at : c.split_at.result.1.now ≡ c.in_ok-next.next.now ∷ c.in_ok-next.more.now = search rules in
    let other : (c.in_ok-next.next.now == 46) ≡ false = search rules in
    run_alone c.args.start.limits.name_bytes c.name_length-count.result c.args.bytes.now c.split_at.result.0.now c.split_at.result.1.now c.in_ok-next.more.now c.in_ok-next.next.now c.run_kind.result
    c.requires.begins c.name_length-count.ensures.front c.name_length-count.ensures.back c.split_at.ensures.front c.split_at.ensures.back c.name_length-count.ensures.within (omega (arith, c.if-count-start.false)) at other c.run_kind.ensures

pub dotted-requires-clause-run : goal.dotted-requires-clause-run
dotted-requires-clause-run c = c.split_at.ensures.front ∙ sym c.name_length-count.ensures.front

pub dotted-requires-clause-dot : goal.dotted-requires-clause-dot
dotted-requires-clause-dot c plain =
    let at : c.split_at.result.1.now ≡ c.in_ok-next.next.now ∷ c.in_ok-next.more.now = search rules in
    let dot : c.in_ok-next.next.now ≡ 46 = search rules in
    ends_with_dot c.args.start.limits.name_bytes c.name_length-count.result c.args.bytes.now c.split_at.result.0.now c.split_at.result.1.now c.in_ok-next.more.now c.in_ok-next.next.now
    c.requires.begins c.name_length-count.ensures.front c.name_length-count.ensures.back c.split_at.ensures.front c.split_at.ensures.back c.name_length-count.ensures.within (omega (arith, c.if-count-start.false)) at dot plain
