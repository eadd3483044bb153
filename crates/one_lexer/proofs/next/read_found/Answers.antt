use Rattle.std.proofs.Common.{rules, ◌≡◌, ◌<◌, ◌+◌, false, length, ap, arith, sym, ◌∙◌, refl}
use Rattle.dk_lexer.specs.Spelling.{run_and_dot, token, wrong}
use Rattle.dk_lexer.specs.Tokens.{Bound, begin_of}
use Rattle.one_lexer.specs.Bounds.{front_bound}
use Rattle.one_lexer.specs.Views.{found_spelling, late_by, settled_by, spelled_front}
use Rattle.one_lexer.proofs.Founds.{bound_at, known_over, known_settled, meet, met_some, met_within, waits_next, waits_past}
use Rattle.one_lexer.proofs.Nexts.{past_next, run_bytes, run_next, run_size, token_next, wrong_next}
use Rattle.one_lexer.proofs.Reading.{IsKnown}
use Rattle.one_lexer.proofs.next.read_found.Goals as goal
use Rattle.one_lexer.proofs.next.read_found.Goals.{then-total-last, else-total-last, else-not-front-via-then-not-front+else-not-over, else-not-front-via-else-not-front}

pub returns-then-not-over-clause-comes : goal.returns-then-not-over-clause-comes
returns-then-not-over-clause-comes c before ts r =
    let size = r.total in
    let begin = begin_of c.args.at.command c.args.at.here.offset in
    let all : c.offset_at-total.result ≡ length before = omega (arith, c.offset_at-total.ensures, size) in
    let bd = bound_at c.args.limits c.command_begin-begin.result begin c.offset_at-total.result (length before) c.args.front.late c.command_begin-begin.ensures all in
    let last : c.front_bound-last.result.0 ≡ (front_bound c.args.limits begin (length before) c.args.front.late).last = c.front_bound-last.ensures.last ∙ ap (λ (b : Bound). b.last) bd in
    let code : c.front_bound-last.result.1 ≡ (front_bound c.args.limits begin (length before) c.args.front.late).code = c.front_bound-last.ensures.code ∙ ap (λ (b : Bound). b.code) bd in
    let met = met_within (length c.args.bytes.now) c.args.front.found c.requires.token.0 in
    let over : c.args.over ≡ false = search rules in
    let settled : c.args.front.settled ≡ false = search rules in
    elim c.if-total-last.branch [
      | then-total-last w ↦ rw (w.result-is, code) (waits_past c.args.over c.args.front.settled c.args.limits before ts c.args.at.here c.args.at.command c.args.bytes.now c.args.front.late c.args.front.found
          begin (c.args.at.here.offset + length c.args.bytes.now) over settled r met c.requires.is c.requires.late refl (sym size) (omega (arith, last, all, w.if-total-last.true)))
      | else-total-last w ↦ rw w.result-is (waits_next c.args.over c.args.front.settled c.args.limits before ts c.args.at.here c.args.at.command c.args.bytes.now c.args.front.late c.args.front.found
          begin (c.args.at.here.offset + length c.args.bytes.now) over settled r met c.requires.is c.requires.late refl (sym size) (omega (arith, last, all, w.if-total-last.false)))
    ]

pub returns-then-offset_at-last-clause-comes : goal.returns-then-offset_at-last-clause-comes
returns-then-offset_at-last-clause-comes c before ts r =
    let size = r.total in
    let begin = begin_of c.args.at.command c.args.at.here.offset in
    let all : c.offset_at-total.result ≡ length before = omega (arith, c.offset_at-total.ensures, size) in
    let bd = bound_at c.args.limits c.command_begin-begin.result begin c.offset_at-total.result (length before) c.args.front.late c.command_begin-begin.ensures all in
    let last : c.front_bound-last.result.0 ≡ (front_bound c.args.limits begin (length before) c.args.front.late).last = c.front_bound-last.ensures.last ∙ ap (λ (b : Bound). b.last) bd in
    let code : c.front_bound-last.result.1 ≡ (front_bound c.args.limits begin (length before) c.args.front.late).code = c.front_bound-last.ensures.code ∙ ap (λ (b : Bound). b.code) bd in
    let met = met_within (length c.args.bytes.now) c.args.front.found c.requires.token.0 in
    let known : IsKnown c.args.front.settled c.args.over = elim c.else-not-front.branch [
      | else-not-front-via-then-not-front+else-not-over w ↦ known_over c.args.front.settled c.args.over (search rules)
      | else-not-front-via-else-not-front w ↦ known_settled c.args.front.settled c.args.over (search rules)
    ] in
    let s = token c.in-Token.kind c.in-Token.text.now c.in-Token.left in
    let m = meet c.args.over c.args.front.settled c.args.limits before ts c.args.at.here c.args.at.command c.args.bytes.now c.args.front.late c.args.front.found s
    begin (c.args.at.here.offset + length c.args.bytes.now) r c.requires.is met known c.requires.late refl (sym size) (ap found_spelling c.in-Token.is) in
    rw code (past_next c.args.over c.args.limits before ts c.args.at.here c.args.at.command c.args.bytes.now c.args.front.late s c.in-Token.left m
    (met_some c.args.limits.name_bytes c.args.bytes.now c.args.front.settled c.args.front.late c.args.front.found met c.requires.is) refl
    (omega (arith, last, size, c.offset_at.ensures, c.if-offset_at-last.true)))

pub returns-else-offset_at-last-clause-comes : goal.returns-else-offset_at-last-clause-comes
returns-else-offset_at-last-clause-comes c before ts r =
    let size = r.total in
    let begin = begin_of c.args.at.command c.args.at.here.offset in
    let all : c.offset_at-total.result ≡ length before = omega (arith, c.offset_at-total.ensures, size) in
    let bd = bound_at c.args.limits c.command_begin-begin.result begin c.offset_at-total.result (length before) c.args.front.late c.command_begin-begin.ensures all in
    let last : c.front_bound-last.result.0 ≡ (front_bound c.args.limits begin (length before) c.args.front.late).last = c.front_bound-last.ensures.last ∙ ap (λ (b : Bound). b.last) bd in
    let met = met_within (length c.args.bytes.now) c.args.front.found c.requires.token.0 in
    let known : IsKnown c.args.front.settled c.args.over = elim c.else-not-front.branch [
      | else-not-front-via-then-not-front+else-not-over w ↦ known_over c.args.front.settled c.args.over (search rules)
      | else-not-front-via-else-not-front w ↦ known_settled c.args.front.settled c.args.over (search rules)
    ] in
    let s = token c.in-Token.kind c.in-Token.text.now c.in-Token.left in
    let m = meet c.args.over c.args.front.settled c.args.limits before ts c.args.at.here c.args.at.command c.args.bytes.now c.args.front.late c.args.front.found s
    begin (c.args.at.here.offset + length c.args.bytes.now) r c.requires.is met known c.requires.late refl (sym size) (ap found_spelling c.in-Token.is) in
    let fewer : c.in-Token.left < length c.args.bytes.now = search rules in
    rw (c.command_after.ensures, c.command_begin-begin.ensures, c.place_at.ensures)
    (token_next c.args.over c.args.limits before ts c.args.at.here c.args.at.command c.args.bytes.now c.args.front.late c.in-Token.kind c.in-Token.text.now c.in-Token.left m fewer
    (omega (arith, last, size, c.offset_at.ensures, c.if-offset_at-last.false)))

pub returns-then-offset_at-last-2-clause-comes : goal.returns-then-offset_at-last-2-clause-comes
returns-then-offset_at-last-2-clause-comes c before ts r =
    let size = r.total in
    let begin = begin_of c.args.at.command c.args.at.here.offset in
    let all : c.offset_at-total.result ≡ length before = omega (arith, c.offset_at-total.ensures, size) in
    let bd = bound_at c.args.limits c.command_begin-begin.result begin c.offset_at-total.result (length before) c.args.front.late c.command_begin-begin.ensures all in
    let last : c.front_bound-last.result.0 ≡ (front_bound c.args.limits begin (length before) c.args.front.late).last = c.front_bound-last.ensures.last ∙ ap (λ (b : Bound). b.last) bd in
    let code : c.front_bound-last.result.1 ≡ (front_bound c.args.limits begin (length before) c.args.front.late).code = c.front_bound-last.ensures.code ∙ ap (λ (b : Bound). b.code) bd in
    let met = met_within (length c.args.bytes.now) c.args.front.found c.requires.token.0 in
    let known : IsKnown c.args.front.settled c.args.over = elim c.else-not-front.branch [
      | else-not-front-via-then-not-front+else-not-over w ↦ known_over c.args.front.settled c.args.over (search rules)
      | else-not-front-via-else-not-front w ↦ known_settled c.args.front.settled c.args.over (search rules)
    ] in
    let s = run_and_dot c.in-RunAndDot.text.now c.in-RunAndDot.left in
    let m = meet c.args.over c.args.front.settled c.args.limits before ts c.args.at.here c.args.at.command c.args.bytes.now c.args.front.late c.args.front.found s
    begin (c.args.at.here.offset + length c.args.bytes.now) r c.requires.is met known c.requires.late refl (sym size) (ap found_spelling c.in-RunAndDot.is) in
    rw code (past_next c.args.over c.args.limits before ts c.args.at.here c.args.at.command c.args.bytes.now c.args.front.late s c.in-RunAndDot.left m
    (met_some c.args.limits.name_bytes c.args.bytes.now c.args.front.settled c.args.front.late c.args.front.found met c.requires.is) refl
    (omega (arith, last, size, c.offset_at-in-RunAndDot.ensures, c.if-offset_at-last-2.true)))

pub returns-else-offset_at-last-2-clause-comes : goal.returns-else-offset_at-last-2-clause-comes
returns-else-offset_at-last-2-clause-comes c before ts r =
    let size = r.total in
    let begin = begin_of c.args.at.command c.args.at.here.offset in
    let all : c.offset_at-total.result ≡ length before = omega (arith, c.offset_at-total.ensures, size) in
    let bd = bound_at c.args.limits c.command_begin-begin.result begin c.offset_at-total.result (length before) c.args.front.late c.command_begin-begin.ensures all in
    let last : c.front_bound-last.result.0 ≡ (front_bound c.args.limits begin (length before) c.args.front.late).last = c.front_bound-last.ensures.last ∙ ap (λ (b : Bound). b.last) bd in
    let met = met_within (length c.args.bytes.now) c.args.front.found c.requires.token.0 in
    let known : IsKnown c.args.front.settled c.args.over = elim c.else-not-front.branch [
      | else-not-front-via-then-not-front+else-not-over w ↦ known_over c.args.front.settled c.args.over (search rules)
      | else-not-front-via-else-not-front w ↦ known_settled c.args.front.settled c.args.over (search rules)
    ] in
    let s = run_and_dot c.in-RunAndDot.text.now c.in-RunAndDot.left in
    let m = meet c.args.over c.args.front.settled c.args.limits before ts c.args.at.here c.args.at.command c.args.bytes.now c.args.front.late c.args.front.found s
    begin (c.args.at.here.offset + length c.args.bytes.now) r c.requires.is met known c.requires.late refl (sym size) (ap found_spelling c.in-RunAndDot.is) in
    rw (c.kind_of.ensures, c.command_begin-begin.ensures, c.place_at-in-RunAndDot.ensures)
    (run_next c.args.over c.args.limits before ts c.args.at.here c.args.at.command c.args.bytes.now c.args.front.late c.in-RunAndDot.text.now c.in-RunAndDot.left m
    (met_some c.args.limits.name_bytes c.args.bytes.now c.args.front.settled c.args.front.late c.args.front.found met c.requires.is)
    (omega (arith, last, size, c.offset_at-in-RunAndDot.ensures, c.if-offset_at-last-2.false)))

pub returns-else-offset_at-last-2-clause-fewer : goal.returns-else-offset_at-last-2-clause-fewer
returns-else-offset_at-last-2-clause-fewer c =
    let met = met_within (length c.args.bytes.now) c.args.front.found c.requires.token.0 in
    let is : late_by c.args.front.late (settled_by c.args.front.settled (run_and_dot c.in-RunAndDot.text.now c.in-RunAndDot.left)) ≡ spelled_front c.args.limits.name_bytes c.args.bytes.now =
    ap (λ (x : _). late_by c.args.front.late (settled_by c.args.front.settled x)) (sym (ap found_spelling c.in-RunAndDot.is)) ∙ c.requires.is in
    let some = met_some c.args.limits.name_bytes c.args.bytes.now c.args.front.settled c.args.front.late c.args.front.found met c.requires.is in
    let size = run_size c.args.bytes.now c.in-RunAndDot.text.now c.in-RunAndDot.left
    (run_bytes c.args.limits.name_bytes c.args.bytes.now c.args.front.settled c.args.front.late c.in-RunAndDot.text.now c.in-RunAndDot.left some is) in
    omega (arith, size)

pub returns-then-offset_at-last-3-clause-comes : goal.returns-then-offset_at-last-3-clause-comes
returns-then-offset_at-last-3-clause-comes c before ts r =
    let size = r.total in
    let begin = begin_of c.args.at.command c.args.at.here.offset in
    let all : c.offset_at-total.result ≡ length before = omega (arith, c.offset_at-total.ensures, size) in
    let bd = bound_at c.args.limits c.command_begin-begin.result begin c.offset_at-total.result (length before) c.args.front.late c.command_begin-begin.ensures all in
    let last : c.front_bound-last.result.0 ≡ (front_bound c.args.limits begin (length before) c.args.front.late).last = c.front_bound-last.ensures.last ∙ ap (λ (b : Bound). b.last) bd in
    let code : c.front_bound-last.result.1 ≡ (front_bound c.args.limits begin (length before) c.args.front.late).code = c.front_bound-last.ensures.code ∙ ap (λ (b : Bound). b.code) bd in
    let met = met_within (length c.args.bytes.now) c.args.front.found c.requires.token.0 in
    let known : IsKnown c.args.front.settled c.args.over = elim c.else-not-front.branch [
      | else-not-front-via-then-not-front+else-not-over w ↦ known_over c.args.front.settled c.args.over (search rules)
      | else-not-front-via-else-not-front w ↦ known_settled c.args.front.settled c.args.over (search rules)
    ] in
    let s = wrong c.in-Wrong.wrong c.in-Wrong.left in
    let m = meet c.args.over c.args.front.settled c.args.limits before ts c.args.at.here c.args.at.command c.args.bytes.now c.args.front.late c.args.front.found s
    begin (c.args.at.here.offset + length c.args.bytes.now) r c.requires.is met known c.requires.late refl (sym size) (ap found_spelling c.in-Wrong.is) in
    rw code (past_next c.args.over c.args.limits before ts c.args.at.here c.args.at.command c.args.bytes.now c.args.front.late s c.in-Wrong.left m
    (met_some c.args.limits.name_bytes c.args.bytes.now c.args.front.settled c.args.front.late c.args.front.found met c.requires.is) refl
    (omega (arith, last, size, c.offset_at-in-Wrong.ensures, c.if-offset_at-last-3.true)))

pub returns-else-offset_at-last-3-clause-comes : goal.returns-else-offset_at-last-3-clause-comes
returns-else-offset_at-last-3-clause-comes c before ts r =
    let size = r.total in
    let begin = begin_of c.args.at.command c.args.at.here.offset in
    let all : c.offset_at-total.result ≡ length before = omega (arith, c.offset_at-total.ensures, size) in
    let bd = bound_at c.args.limits c.command_begin-begin.result begin c.offset_at-total.result (length before) c.args.front.late c.command_begin-begin.ensures all in
    let last : c.front_bound-last.result.0 ≡ (front_bound c.args.limits begin (length before) c.args.front.late).last = c.front_bound-last.ensures.last ∙ ap (λ (b : Bound). b.last) bd in
    let met = met_within (length c.args.bytes.now) c.args.front.found c.requires.token.0 in
    let known : IsKnown c.args.front.settled c.args.over = elim c.else-not-front.branch [
      | else-not-front-via-then-not-front+else-not-over w ↦ known_over c.args.front.settled c.args.over (search rules)
      | else-not-front-via-else-not-front w ↦ known_settled c.args.front.settled c.args.over (search rules)
    ] in
    let m = meet c.args.over c.args.front.settled c.args.limits before ts c.args.at.here c.args.at.command c.args.bytes.now c.args.front.late c.args.front.found (wrong c.in-Wrong.wrong c.in-Wrong.left)
    begin (c.args.at.here.offset + length c.args.bytes.now) r c.requires.is met known c.requires.late refl (sym size) (ap found_spelling c.in-Wrong.is) in
    wrong_next c.args.over c.args.limits before ts c.args.at.here c.args.at.command c.args.bytes.now c.args.front.late c.in-Wrong.wrong c.in-Wrong.left m
    (met_some c.args.limits.name_bytes c.args.bytes.now c.args.front.settled c.args.front.late c.args.front.found met c.requires.is)
    (omega (arith, last, size, c.offset_at-in-Wrong.ensures, c.if-offset_at-last-3.false))
