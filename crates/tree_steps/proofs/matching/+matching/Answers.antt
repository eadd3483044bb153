use Rattle.std.proofs.Common.{◌≡◌, ◌∙◌, IfOk, ap, subst, sym as flip}
use Rattle.std.specs.Option.{option_map}
use Rattle.dk_model.specs.Trees.{tree}
use Rattle.dk_model.specs.PlainTerms.{variable}
use Rattle.dk_model.specs.Spines.{head}
use Rattle.dk_model.specs.Matrix.{heads_same}
use Rattle.tree_steps.specs.Views.{parts}
use Rattle.tree_steps.proofs.Matched.{symbol_matched, variable_matched}
use Rattle.tree_steps.proofs.matching.+matching.Goals as goal

pub matched-returns-in_ok-arguments-in-Sym : goal.matched-returns-in_ok-arguments-in-Sym
matched-returns-in_ok-arguments-in-Sym t c =
    subst (λ o. IfOk c.all_matched.result (λ ps. option_map parts ps ≡ o))
    (symbol_matched c.args.depth c.in-Sym.number c.args.pattern.now c.in-Sym.patterns c.as_slice-then-has_head.result.now (tree c.args.term.now) c.as_slice-then-has_head-2.result.now c.in_ok-arguments-in-Sym.arguments.items
    c.as_slice-then-has_head.ensures c.as_slice-then-has_head-2.ensures.value c.in_ok-arguments-in-Sym.ensures c.in-Sym.is (flip c.has_head.ensures ∙ c.if-has_head.true))
    c.all_matched.ensures

pub matched-returns-in_ok-arguments-in-Var : goal.matched-returns-in_ok-arguments-in-Var
matched-returns-in_ok-arguments-in-Var t c =
    subst (λ o. IfOk c.all_matched-then-has_head-2.result (λ ps. option_map parts ps ≡ o))
    (variable_matched c.args.depth c.in-Var.number c.args.pattern.now c.in-Var.patterns c.as_slice-then-has_head-2-2.result.now (tree c.args.term.now) c.as_slice-then-has_head-2-3.result.now c.in_ok-arguments-in-Var.arguments.items
    c.as_slice-then-has_head-2-2.ensures c.as_slice-then-has_head-2-3.ensures.value c.in_ok-arguments-in-Var.ensures c.in-Var.is
    (ap (λ k. heads_same (head (tree c.args.term.now)) (variable k)) (flip c.from.ensures) ∙ flip c.has_head-in-Var.ensures ∙ c.if-has_head-2.true))
    c.all_matched-then-has_head-2.ensures
