use Rattle.std.proofs.Common.{◌≡◌, ◌-◌, ◌∙◌, ℕ, ap, length, arith, refl, replicate}
use Rattle.dk_model.specs.Matrix.{blank}
use Rattle.tree_evaluation.specs.Views.{rule}
use Rattle.tree_evaluation.proofs.Rows.{first_are}
use Rattle.tree_evaluation.proofs.matrix.row_for.Goals as goal

pub returns-clause-some : goal.returns-clause-some
returns-clause-some c =
    let n : c.saturating_sub.result ≡ c.args.width - length (rule c.args.rule).pats = omega (arith, c.pattern_count-2.ensures) in
    record {
      place = refl;
      same_rule = refl;
      cells = first_are (rule c.args.rule) c.args.width c.patterns.result.now c.in_ok-cells.cells.items c.in_ok-behind.behind.items c.append.new.self.items
          c.in_ok-append.ensures.items c.in_ok-cells.ensures c.patterns.ensures (c.in_ok-behind.ensures ∙ ap (λ (m : ℕ). replicate m blank) n);
      few = omega (arith, c.pattern_count.ensures, c.if-count-pattern_count.false);
    }
