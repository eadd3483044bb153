use Rattle.std.proofs.Common.{◌≡◌, ◌-◌, length, arith, rules, true}
use Rattle.one_lexer.proofs.Lexers.{known, reads_between, reads_word}
use Rattle.one_lexer.proofs.lexer.Lexer.begun.Goals as goal

pub overflow_sub-result : goal.overflow_sub-result
overflow_sub-result c =
    let yes : c.goes_on.result ≡ true = search rules in
    let some = c.goes_on.ensures.some yes in
    omega (arith, some)

pub returns-in-Some : goal.returns-in-Some
returns-in-Some c over before ts k = (reads_between over before c.args.bytes.now ts c.args.self.now k c.in-Between.is, c.in-Some.ensures)

pub returns-in-None : goal.returns-in-None
returns-in-None c over before ts k = reads_between over before c.args.bytes.now ts c.args.self.now k c.in-Between.is

pub returns-then-goes_on : goal.returns-then-goes_on
returns-then-goes_on c over before ts k =
    let yes : c.goes_on.result ≡ true = search rules in
    let some = c.goes_on.ensures.some yes in
    let w = reads_word over before c.args.bytes.now ts c.args.self.now c.in-Word.known k c.in-Word.is in
    (w.0, c.goes_on.ensures.longer yes w.1 (length c.args.bytes.now - 1) (omega (arith, some)))

pub returns-else-goes_on : goal.returns-else-goes_on
returns-else-goes_on c over before ts k = (reads_word over before c.args.bytes.now ts c.args.self.now c.in-Word.known k c.in-Word.is).0

pub returns-in-Comment : goal.returns-in-Comment
returns-in-Comment c over before ts k = known over before c.args.bytes.now ts c.args.self.now k
