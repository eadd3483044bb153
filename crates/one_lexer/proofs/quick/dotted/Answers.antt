use Rattle.std.proofs.Common.{rules, ◌≡◌, false, true}
use Rattle.std.specs.Prelude.{Some, slice_get}
use Rattle.dk_lexer.specs.Classes.{class_of}
use Rattle.dk_lexer.specs.Spelling.{is_wildcard}
use Rattle.one_lexer.specs.Blanks.{is_blank_class}
use Rattle.one_lexer.proofs.PlainRuns.{run_dot}
use Rattle.one_lexer.proofs.quick.dotted.Goals as goal

pub run_before_dot-requires-clause-is : goal.run_before_dot-requires-clause-is
run_before_dot-requires-clause-is c =
    let plain : is_wildcard c.args.run.now ≡ false = search rules in
    let first : Some c.in_ok-first.first.now ≡ slice_get c.args.rest.now 0 = search rules in
    let blank : is_blank_class (class_of c.in_ok-first.first.now) ≡ true = search rules in
    run_dot c.args.start.limits.name_bytes c.args.bytes.now c.args.run.now c.args.rest.now c.in_ok-first.first.now (c.requires.dot plain) c.requires.run first blank
