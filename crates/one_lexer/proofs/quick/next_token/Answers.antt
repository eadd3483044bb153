use Rattle.std.proofs.Common.{rules, ◌≡◌, false}
use Rattle.dk_lexer.specs.Classes.{begins_name, class_of}
use Rattle.one_lexer.proofs.SignLines.{sign_spelt}
use Rattle.one_lexer.proofs.quick.next_token.Goals as goal

pub token-requires-clause-is : goal.token-requires-clause-is
token-requires-clause-is c =
    let none : begins_name (class_of c.in_ok-first.first.now) ≡ false = search rules in
    sign_spelt c.args.start.limits.name_bytes c.args.bytes.now c.in_ok-first.first.now c.in_ok-own.own c.in_ok-own.left (search rules) none (search rules)
