use Rattle.std.proofs.Common.{◌∙◌, Vec, Global, List, Option, ap, length, subst, sym as flip, rules}
use Rattle.shared_term.specs.declared.id.TermId.{TermId}
use Rattle.shared_term.specs.Changes.{AreCaptures}
use Rattle.rule_match.specs.declared.matcher.Stage.{Stage}
use Rattle.rule_match.specs.declared.value.Column.{Column}
use Rattle.rule_match.specs.Columns.{AreColumns}
use Rattle.rule_match.specs.Matching.{IsStage, Tries, IsBegun}
use Rattle.rule_match.specs.Remaining.{rule_count}
use Rattle.rule_match.proofs.Placing.{tree_rows_placed}
use Rattle.rule_match.proofs.Opening.{first_within}
use Rattle.rule_match.proofs.Starting.{started}
use Rattle.rule_match.proofs.matcher.Matcher.start.Goals as goal

pub returns-clause-starts : goal.returns-clause-starts
returns-clause-starts c = λ rs it. let b : IsBegun rs c.args.arguments.now c.begun.result = search rules in started rs c.args.arguments.now c.begun.result b

pub returns-clause-within : goal.returns-clause-within
returns-clause-within c = λ n h. record {
  columns = subst (λ (l : List Column). AreColumns n l) (flip (ap (λ (v : Vec Column Global). v.items) c.begun.ensures.columns ∙ c.in_ok-columns.ensures)) (first_within n c.width_before-width.result c.args.arguments.now h);
  captures = subst (λ (l : List (Option TermId)). AreCaptures n l) (flip c.begun.ensures.captures) tt;
  stage = subst (λ (s : Stage). IsStage (length c.begun.result.columns.items) (length c.begun.result.row.cells.items) s) (flip c.begun.ensures.begins) tt;
  tried = subst (λ (s : Stage). Tries (rule_count c.begun.result.source) c.begun.result.row.at c.begun.result.tried s) (flip c.begun.ensures.begins) tt;
  placed = rw (c.begun.ensures.source, c.begun.ensures.left) (tree_rows_placed c.args.tree (length c.args.arguments.now) c.width_before-width.result c.in_ok-left.left c.requires c.width_before-width.ensures.width c.in_ok-left.ensures.rows c.in_ok-left.ensures.is);
}
