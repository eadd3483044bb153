use Rattle.std.proofs.Common.{◌≡◌, ◌≤◌, Bool, true, false, refl, arith}
use Rattle.prune_theory.specs.Mentions.{itself}
use Rattle.prune_theory.proofs.Below.{rests_before}
use Rattle.prune_theory.proofs.Pruning.{closed_accepted, tests_closed}
use Rattle.prune_theory.proofs.laws.pruned_are_accepted.Goals as goal

not_kept : (b : Bool) → ¬ (b ≡ true) → b ≡ false
not_kept true h = absurd (h refl)
not_kept false h = refl

pub returns : goal.returns
returns c = λ budget k keep U fs cs ns a h l t. closed_accepted budget k keep a h (tests_closed cs k keep t) (t.all k itself)
    (λ j m. not_kept (keep j) (λ e. let q : j ≤ k = rests_before a k (t.rests j e) in omega arith))
