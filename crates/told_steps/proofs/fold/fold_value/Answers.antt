use Rattle.std.proofs.Common.{ℕ, ◌≤◌, ◌+◌, ◌∙◌, Option, length, subst as along}
use Rattle.std.specs.Prelude.{IfSome}
use Rattle.told_steps.specs.declared.fold.Cut.{Cut}
use Rattle.told_steps.specs.Folding.{IsCut}
use Rattle.told_steps.proofs.Folding.{folds_back, too_few}
use Rattle.told_steps.proofs.fold.fold_value.Goals as goal

pub returns-in_default : goal.returns-in_default
returns-in_default c = record {
  folds = too_few c.args.opened c.args.deeper _
      (along (λ (n : ℕ). length c.args.deeper ≤ c.args.opened.at + n) c.in_ok-count.ensures (c.in_ok-found.ensures.none c.in_default.is));
}

pub returns : goal.returns
returns c =
    let is : IsCut c.args.deeper c.args.opened.at c.in_ok-count.count c.in-Some.cut =
    along (λ (o : Option Cut). IfSome o (λ (it : Cut). IsCut c.args.deeper c.args.opened.at c.in_ok-count.count it)) c.in-Some.is c.in_ok-found.ensures.some in
    record {
      folds = folds_back c.args.opened c.args.deeper c.in-Some.cut.front c.in-Some.cut.own c.in-Some.cut.parts c.in-Some.cut.behind c.in_ok-end.end c.in_ok-ends.ends
          is.whole is.place (is.counted ∙ c.in_ok-count.ensures) c.in_ok-end.ensures c.in_ok-ends.ensures;
    }
