use Rattle.signature_log.specs.Versions.{entries_of}
use Rattle.rule_check.proofs.Solving.{bare_parts, product_parts}
use Rattle.rule_check.proofs.equation.head_parts.Goals as goal

pub returns-in-Abs-None-default-other-clause-divides : goal.returns-in-Abs-None-default-other-clause-divides
returns-in-Abs-None-default-other-clause-divides g c =
    let one = c.in-Abs-None-default in
    let other = c.in-Abs-None-default-other in
    bare_parts g.R.Reducer.owns g.R.Reducer.denotes c.args.r.now (entries_of c.args.version.now) c.args.one c.args.other one.field-0 other.field-0 one.b other.c c.args.arguments.items c.push.new.equations.items
    one.is one.field-0-is other.is other.field-0-is c.requires.one c.requires.other c.requires.arguments c.in_ok-push-in-Abs-None-default-other.ensures

pub returns-in-Prod-other-clause-divides : goal.returns-in-Prod-other-clause-divides
returns-in-Prod-other-clause-divides g c = product_parts g.R.Reducer.owns g.R.Reducer.denotes c.args.r.now (entries_of c.args.version.now) c.args.one c.args.other c.in-Prod.a c.in-Prod.b c.in-Prod-other.c c.in-Prod-other.d
    c.args.arguments.items c.push-in-Prod-other.new.equations.items c.push-in-Prod-other-2.new.equations.items c.in-Prod.is c.in-Prod-other.is c.requires.one c.requires.other c.requires.arguments
    c.in_ok-push-in-Prod-other.ensures c.in_ok-push-in-Prod-other-2.ensures
