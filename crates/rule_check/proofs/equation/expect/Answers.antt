use Rattle.signature_log.specs.Versions.{entries_of}
use Rattle.rule_check.proofs.Founds.{bindings_kept, terms_kept}
use Rattle.rule_check.proofs.Solving.{bindings_is, solved_same}
use Rattle.rule_check.proofs.equation.expect.Goals as goal

pub solve-requires-clause-own : goal.solve-requires-clause-own
solve-requires-clause-own g c = record { one = c.in_ok-other.ensures.keeps.own c.args.typ c.requires.typ; other = c.in_ok-other.ensures.makes.1 }

pub solve-requires-clause-bindings : goal.solve-requires-clause-bindings
solve-requires-clause-bindings g c = bindings_kept c.args.r.now c.copy.new.self c.in_ok-other.ensures.keeps c.args.side.now.found.bindings c.requires.bindings

pub returns-clause-gives : goal.returns-clause-gives
returns-clause-gives g c =
    let k = c.in_ok-other.ensures.keeps in
    bindings_is g.R.Reducer.owns g.R.Reducer.denotes c.solve.new.r c.solve.new.bindings c.solve.result c.solve.new.left
    (solved_same (entries_of c.args.version.now) c.args.side.now.walk.left (terms_kept c.args.r.now c.copy.new.self k c.args.side.now.found.bindings c.requires.bindings) (k.same c.args.typ c.requires.typ) c.in_ok-other.ensures.makes.0)
    c.solve.ensures.gives
