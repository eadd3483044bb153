use Rattle.std.proofs.Common.{rules, ◌≡◌, ◌+◌, ap}
use Rattle.dk_model.specs.Trees.{tree}
use Rattle.dk_model.specs.Signatures.{pattern}
use Rattle.signature_log.specs.Versions.{entries_of}
use Rattle.tree_typing.specs.Contexts.{bound_types}
use Rattle.tree_rules.specs.Founds.{found_of, walked_of}
use Rattle.tree_rules.proofs.Sizes.{pattern_size, patterns_size, plain_patterns, symbol_is, variable_is}
use Rattle.tree_rules.proofs.Steps.{symbol_walked, variable_walked}
use Rattle.tree_rules.proofs.walk.+walking.Goals as goal

pub walked-headed_walked-requires : goal.walked-headed_walked-requires
walked-headed_walked-requires g t c κs within =
    let s : pattern_size (pattern c.args.pattern.now) ≡ patterns_size (plain_patterns c.as_slice-in-Sym.result.now) + 1
    = ap pattern_size (symbol_is c.in-Sym.number c.args.pattern.now c.in-Sym.arguments c.as_slice-in-Sym.result.now c.in-Sym.is c.as_slice-in-Sym.ensures) in
    search rules

pub walked-headed_walked-requires-in-Var : goal.walked-headed_walked-requires-in-Var
walked-headed_walked-requires-in-Var g t c κs within =
    let s : pattern_size (pattern c.args.pattern.now) ≡ patterns_size (plain_patterns c.as_slice-in-Var.result.now) + 1
    = ap pattern_size (variable_is c.in-Var.number c.args.pattern.now c.in-Var.arguments c.as_slice-in-Var.result.now c.in-Var.is c.as_slice-in-Var.ensures) in
    search rules

pub walked-returns-in_ok-typ-in-Sym : goal.walked-returns-in_ok-typ-in-Sym
walked-returns-in_ok-typ-in-Sym g t c =
    let S = entries_of c.args.place.version.now in
    record {
      gives = symbol_walked (g.E.Evaluates.evaluator S) S (bound_types c.args.place.context.now) walked_of c.in-Sym.number (pattern c.args.pattern.now) (plain_patterns c.as_slice-in-Sym.result.now)
          (tree c.in_ok-typ-in-Sym.typ) (tree c.args.expected) (found_of c.args.found) (g.E.Evaluates.left c.args.evaluation.now) c.headed_walked.result (g.E.Evaluates.left c.headed_walked.new.evaluation)
          (symbol_is c.in-Sym.number c.args.pattern.now c.in-Sym.arguments c.as_slice-in-Sym.result.now c.in-Sym.is c.as_slice-in-Sym.ensures) c.in_ok-typ-in-Sym.ensures c.headed_walked.ensures.gives;
    }

pub walked-returns-in_ok-typ-in-Var : goal.walked-returns-in_ok-typ-in-Var
walked-returns-in_ok-typ-in-Var g t c =
    let S = entries_of c.args.place.version.now in
    let j : c.from.result ≡ c.in-Var.number = search rules in
    let i : c.from-in-Var.result ≡ c.in-Var.number = search rules in
    record {
      gives = variable_walked (g.E.Evaluates.evaluator S) S (bound_types c.args.place.context.now) walked_of c.in-Var.number c.from.result c.from-in-Var.result (pattern c.args.pattern.now)
          (plain_patterns c.as_slice-in-Var.result.now)
          (tree c.in_ok-typ-in-Var.typ) (tree c.args.expected) (found_of c.args.found) (g.E.Evaluates.left c.args.evaluation.now) c.headed_walked-in-Var.result
          (g.E.Evaluates.left c.headed_walked-in-Var.new.evaluation)
          (variable_is c.in-Var.number c.args.pattern.now c.in-Var.arguments c.as_slice-in-Var.result.now c.in-Var.is c.as_slice-in-Var.ensures) c.in_ok-typ-in-Var.ensures j i
          c.headed_walked-in-Var.ensures.gives;
    }
