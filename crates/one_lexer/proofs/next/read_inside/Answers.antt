use Rattle.std.proofs.Common.{◌≡◌, ◌≤◌, ◌+◌, ◌∙◌, ℕ, [], ap, arith, subst, sym, length}
use Rattle.dk_lexer.specs.declared.place.Place.{Place}
use Rattle.one_lexer.specs.Places.{place_behind}
use Rattle.one_lexer.specs.Reading.{ReadsComment}
use Rattle.one_lexer.proofs.InComments.{comment_ends, comment_goes, comment_past, end_fails}
use Rattle.one_lexer.proofs.Places.{whole_taken}
use Rattle.one_lexer.proofs.next.read_inside.Goals as goal

pub returns-then-offset_at-last-clause-comes : goal.returns-then-offset_at-last-clause-comes
returns-then-offset_at-last-clause-comes c over before ts r =
    let size = r.total in
    rw c.bound_of-last.ensures.code (end_fails over c.args.limits before ts c.args.at.here c.args.at.command c.args.comment.next c.args.comment.depth c.args.comment.last c.args.bytes.now c.in-Closed.left r c.in-Closed.ensures.goes_on
    (omega (arith, c.bound_of-last.ensures.last, size, c.if-offset_at-last.true, c.offset_at.ensures)))

pub returns-else-offset_at-last-clause-comes : goal.returns-else-offset_at-last-clause-comes
returns-else-offset_at-last-clause-comes c over before ts r =
    let size = r.total in
    rw c.place_at.ensures (comment_ends over c.args.limits before ts c.args.at.here c.args.at.command c.args.comment.next c.args.comment.depth c.args.comment.last c.args.bytes.now c.in-Closed.left r c.in-Closed.ensures.goes_on
    (omega (arith, c.in-Closed.ensures.within)) (omega (arith, c.bound_of-last.ensures.last, size, c.if-offset_at-last.false, c.offset_at.ensures)))

pub returns-then-offset_at-last-2-clause-comes : goal.returns-then-offset_at-last-2-clause-comes
returns-then-offset_at-last-2-clause-comes c over before ts r =
    rw c.bound_of-last.ensures.code (comment_past over c.args.limits before ts c.args.at.here c.args.at.command c.args.comment.next c.args.comment.depth c.args.comment.last c.args.bytes.now c.in-Open.depth c.in-Open.class r c.in-Open.ensures.goes_on
    (omega (arith, c.bound_of-last.ensures.last, c.if-offset_at-last-2.true, c.offset_at-in-Open.ensures)))

pub returns-else-offset_at-last-2-clause-comes : goal.returns-else-offset_at-last-2-clause-comes
returns-else-offset_at-last-2-clause-comes c over before ts r =
    let size = r.total in
    let was = r.deep in
    let within : c.args.comment.next.offset + length c.args.bytes.now ≤ 4294967294 = omega (arith, c.bound_of-last.ensures.within, c.if-offset_at-last-2.false, c.offset_at-in-Open.ensures) in
    let depth : c.min.result ≡ c.in-Open.depth = omega (arith, c.min.ensures, was, within, c.in-Open.ensures.within) in
    let next : c.place_at-in-Open.result ≡ place_behind c.args.comment.next c.args.bytes.now = c.place_at-in-Open.ensures ∙ ap (place_behind c.args.comment.next) (whole_taken c.args.bytes.now) in
    let goes = comment_goes over c.args.limits before ts c.args.at.here c.args.at.command c.args.comment.next c.args.comment.depth c.args.comment.last c.args.bytes.now c.in-Open.depth c.in-Open.class r c.in-Open.ensures.goes_on
    c.in-Open.ensures.within (omega (arith, c.bound_of-last.ensures.last, c.if-offset_at-last-2.false, c.offset_at-in-Open.ensures)) in
    subst (λ (p : Place). ReadsComment over c.args.limits before ts c.args.at.here c.args.at.command p c.min.result c.in-Open.class []) (sym next)
    (subst (λ (d : ℕ). ReadsComment over c.args.limits before ts c.args.at.here c.args.at.command (place_behind c.args.comment.next c.args.bytes.now) d c.in-Open.class []) (sym depth) goes)
