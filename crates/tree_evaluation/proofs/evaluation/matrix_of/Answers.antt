use Rattle.std.proofs.Common.{List, ◌≡◌, ◌∙◌, ap, map, take, length, subst as along, sym as flip}
use Rattle.dk_model.specs.Spines.{arguments}
use Rattle.dk_model.specs.Matrix.{width}
use Rattle.tree_evaluation.specs.Views.{Term, SymbolRule, at_depth, rule, Tree, tree, columns_of}
use Rattle.signature_log.specs.Versions.{entries_of}
use Rattle.tree_evaluation.specs.Tellings.{AreFirstRows, first_columns}
use Rattle.tree_evaluation.proofs.Lists.{counted, first_mapped}
use Rattle.tree_evaluation.proofs.Rewriting.{begins}
use Rattle.tree_evaluation.proofs.evaluation.matrix_of.Goals as goal

pub returns-clause-begins : goal.returns-clause-begins
returns-clause-begins c =
    let all : List Term = c.in_ok-arguments.arguments.items in
    let count = length c.as_slice-arguments.result.now in
    let wide = c.width-width.result in
    let listed : map tree c.as_slice-arguments.result.now ≡ arguments (tree c.args.term.now) = ap (map tree) c.as_slice-arguments.ensures.value ∙ c.in_ok-arguments.ensures in
    let columns : columns_of c.in_ok-columns.columns ≡ first_columns wide (tree c.args.term.now) =
    c.in_ok-columns.ensures.columns ∙ ap (λ (ts : List Term). map (at_depth 0) (map tree ts)) c.front.ensures
    ∙ ap (map (at_depth 0)) (first_mapped wide c.as_slice-arguments.result.now) ∙ ap (λ (ts : List Tree). map (at_depth 0) (take wide ts)) listed in
    begins (entries_of c.args.version.now) c.args.symbol (tree c.args.term.now) c.in_ok-rules.rules.items count wide c.in_ok-columns.columns c.in_ok-rows.rows.items
    c.in_ok-rules.ensures (flip (counted c.as_slice-arguments.result.now) ∙ ap length listed)
    (c.width-width.ensures ∙ ap (λ (rules : List SymbolRule). width count (map rule rules)) c.as_slice.ensures.value)
    columns c.in_ok-columns.ensures.leads
    (along (λ (rules : List SymbolRule). AreFirstRows wide count rules c.in_ok-rows.rows.items) c.as_slice-2.ensures.value c.in_ok-rows.ensures.from)
