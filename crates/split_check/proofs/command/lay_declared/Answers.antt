use Rattle.std.proofs.Common.{rules, ◌≡◌, ◌∙◌, true, false, ap}
use Rattle.dk_model.specs.Erasure.{erased}
use Rattle.dk_model.specs.Typing.{sort_of}
use Rattle.shared_term.specs.Storage.{stored_term}
use Rattle.signature_log.specs.Versions.{entries_of}
use Rattle.signature_log.proofs.Keeping.{keeps_further}
use Rattle.infer_check.specs.Contexts.{rule_types, bound_types}
use Rattle.infer_check.specs.declared.context.Context.{Context}
use Rattle.infer_check.proofs.Contexts.{rule_types_empty, bound_types_empty}
use Rattle.split_check.specs.declared.laying.Laying.{Laying}
use Rattle.split_check.proofs.Commands.{sort_false, sort_true, declared_over, declared_fit}
use Rattle.split_check.proofs.command.lay_declared.Goals as goal

pub returns-then-not-branch-clause-steps : goal.returns-then-not-branch-clause-steps
returns-then-not-branch-clause-steps g c =
    let S = entries_of c.args.version.now in
    let D = g.R.Reducer.denotes in
    let A = stored_term c.args.declared.typ.now in
    let b = stored_term c.args.declared.body.now in
    let r1 = c.bring.new.self in
    let x = c.new.result.context in
    let old : Laying g.row.R-T.Denot = record { walk = c.new.result; steps = c.new-2.result; whole = c.args.budget; nodes = c.from.result; apart = false } in
    let l1 = c.lay_sort.new.laying in
    let V = rule_types D r1 x in
    let G = bound_types D r1 x in
    let v = rule_types_empty D r1 x c.new.ensures.rule_vars in
    let w = bound_types_empty D r1 x c.new.ensures.bound in
    let a = D r1 c.in_ok-typ.typ in
    let ls = c.in_ok-lay_sort.ensures in
    let e : c.in_ok-lay_sort.field-0 ≡ false = search rules in
    declared_over S A b a V G v w c.in_ok-typ.ensures.makes.0 old l1 l1 c.new-2.ensures.items (sort_false S (sort_of S V G a) old l1 c.in_ok-lay_sort.field-0 e ls.lays)

pub returns-clause-steps : goal.returns-clause-steps
returns-clause-steps g c =
    let S = entries_of c.args.version.now in
    let D = g.R.Reducer.denotes in
    let A = stored_term c.args.declared.typ.now in
    let b = stored_term c.args.declared.body.now in
    let r1 = c.bring.new.self in
    let x = c.new.result.context in
    let old : Laying g.row.R-T.Denot = record { walk = c.new.result; steps = c.new-2.result; whole = c.args.budget; nodes = c.from.result; apart = false } in
    let l1 = c.lay_sort.new.laying in
    let V = rule_types D r1 x in
    let G = bound_types D r1 x in
    let v = rule_types_empty D r1 x c.new.ensures.rule_vars in
    let w = bound_types_empty D r1 x c.new.ensures.bound in
    let a = D r1 c.in_ok-typ.typ in
    let ls = c.in_ok-lay_sort.ensures in
    let e : c.in_ok-lay_sort.field-0 ≡ true = search rules in
    let p = sort_true S (sort_of S V G a) old l1 c.in_ok-lay_sort.field-0 e ls.lays in
    let l2 = c.lay_check.new.laying in
    let r2 = c.lay_sort.new.r in
    let r3 = c.erase.new.self in
    let r4 = c.bring-2.new.self in
    let r5 = c.size.new.r in
    let k4 = c.in_ok-nodes.ensures.keeps in
    let k3 = keeps_further r3 r4 r5 c.in_ok-term.ensures.keeps k4 in
    let H = l1.walk.context in
    let x5 = rule_types_empty D r5 H (ap (λ (y : Context g.row.R-T.Denot). y.rule_vars) ls.stays.context ∙ c.new.ensures.rule_vars) in
    let y5 = bound_types_empty D r5 H (ap (λ (y : Context g.row.R-T.Denot). y.bound) ls.stays.context ∙ c.new.ensures.bound) in
    let t = D r5 c.in_ok-term.term in
    let F = D r5 c.in_ok-expected.expected in
    let z : t ≡ b = k4.same c.in_ok-term.term c.in_ok-term.ensures.makes.1 ∙ c.in_ok-term.ensures.makes.0 in
    let f : F ≡ erased A = k3.same c.in_ok-expected.expected c.in_ok-expected.ensures.makes.1 ∙ c.in_ok-expected.ensures.makes.0
    ∙ ap erased (ls.follows.keeps.same c.in_ok-typ.typ c.in_ok-typ.ensures.makes.1 ∙ c.in_ok-typ.ensures.makes.0) in
    declared_fit S A b a V G v w c.in_ok-typ.ensures.makes.0 old l1 l2 c.new-2.ensures.items p.0 p.1 ls.stays.whole t F (rule_types D r5 H) (bound_types D r5 H) x5 y5 z f c.in_ok-_fits._fits c.in_ok-_fits.ensures.lays
