use Rattle.std.proofs.Common.{◌≡◌, ◌∙◌, ap, sym, subst, map}
use Rattle.dk_model.specs.Scoping.{plain_command}
use Rattle.prune_theory.specs.Before.{all_below, all_before}
use Rattle.prune_theory.proofs.Behind.{none_left, one_behind}
use Rattle.prune_theory.proofs.before.mention_before.Goals as goal

pub returns-then-not-all_below : goal.returns-then-not-all_below
returns-then-not-all_below c = one_behind c.loop-command.place c.in-Some.command.now c.in-Some.others.now c.args.commands.now
    (sym c.if-not-all_below.true ∙ c.all_below.ensures ∙ ap (all_below c.loop-command.place) (c.as_slice.ensures ∙ c.in_ok-mentioned.ensures))
    (subst (λ z. all_before c.loop-command.place (map plain_command z) ≡ all_before 0 (map plain_command c.args.commands.now)) c.in-Some.ensures.cases.0 c.loop-command.invariant.before)

pub returns : goal.returns
returns c = none_left c.loop-command.place c.loop-command.rest.now c.args.commands.now c.in_default.ensures.cases c.loop-command.invariant.before
