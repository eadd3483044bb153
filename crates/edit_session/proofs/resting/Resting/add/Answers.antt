use Rattle.std.proofs.Common.{◌≡◌, ◌∙◌, ◌++◌, ◌∷◌, [], ℕ, List, ap, arith, length, sym}
use Rattle.dk_model.specs.Scoping.{plain_command}
use Rattle.prune_theory.specs.Before.{all_below}
use Rattle.prune_theory.specs.Reaching.{with_edges}
use Rattle.edit_session.proofs.Rests.{marks_below, rest_on, rests_more}
use Rattle.edit_session.proofs.resting.Resting.add.Goals as goal

pub returns-clause-added : goal.returns-clause-added
returns-clause-added c = λ commands h.
    let m = plain_command c.args.command.now in
    let own : c.len-count.result ≡ length commands = c.len-count.ensures ∙ c.args.self.now.marks.ok.0 ∙ h.count in
    let below = sym (c.all_below.ensures ∙ ap (all_below c.len-count.result) (c.as_slice.ensures ∙ c.in_ok-heads.ensures)) ∙ c.if-not-all_below.false in
    rests_more commands m c.args.self.now h (record { mentions = c.push.new.self; rules = c.add_edges.new.rules; marks = c.from_last.new.marks }) c.len-count.result own below
    (c.in_ok-push.ensures.items ∙ ap (λ (z : List ℕ). c.args.self.now.mentions.items ++ z ∷ []) c.in_ok-mentions.ensures)
    (c.in_ok-add_edges.ensures ∙ (λ i. with_edges ((c.in_ok-push-2.ensures.items ∙ ap (λ (z : List ℕ). c.args.self.now.rules.items ++ z ∷ []) c.new.ensures) i) ((c.as_slice-4.ensures ∙ c.in_ok-heads.ensures) i) c.len-count.result))
    (omega (arith, c.in_ok-places.ensures.marks, c.in_ok-push-3.ensures.len))
    (c.in_ok-places.ensures.marked (marks_below commands m c.args.self.now h c.push-3.new.self.items c.len-count.result (c.len-count.ensures ∙ c.args.self.now.marks.ok.0) c.in_ok-push-3.ensures.items))

pub returns-clause-places : goal.returns-clause-places
returns-clause-places c = λ commands h.
    let m = plain_command c.args.command.now in
    let own : c.len-count.result ≡ length commands = c.len-count.ensures ∙ c.args.self.now.marks.ok.0 ∙ h.count in
    let below = sym (c.all_below.ensures ∙ ap (all_below c.len-count.result) (c.as_slice.ensures ∙ c.in_ok-heads.ensures)) ∙ c.if-not-all_below.false in
    rest_on commands m c.args.self.now h c.as_slice-2.result.now c.as_slice-3.result.now c.len-count.result c.in_ok-places.places.items own below
    (c.as_slice-2.ensures.value ∙ c.in_ok-push.ensures.items ∙ ap (λ (z : List ℕ). c.args.self.now.mentions.items ++ z ∷ []) c.in_ok-mentions.ensures)
    (c.as_slice-3.ensures.value ∙ c.in_ok-push-2.ensures.items ∙ ap (λ (z : List ℕ). c.args.self.now.rules.items ++ z ∷ []) c.new.ensures)
    c.in_ok-places.ensures.ascending
    (c.in_ok-places.ensures.reached (marks_below commands m c.args.self.now h c.push-3.new.self.items c.len-count.result (c.len-count.ensures ∙ c.args.self.now.marks.ok.0) c.in_ok-push-3.ensures.items))
