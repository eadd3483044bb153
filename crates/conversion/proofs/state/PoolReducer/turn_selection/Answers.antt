-- A selection with its answer, up to what it asks for next.
use Rattle.std.proofs.Common.{rules, ◌≡◌, ◌∙◌, arith, ℕ, List, Bool, length, ap, subst, refl, sym as flip}
use Rattle.dk_model.specs.Trees.{Tree}
use Rattle.dk_model.specs.Signatures.{PlainSignature}
use Rattle.dk_model.specs.SymbolRules.{rules_of}
use Rattle.dk_model.specs.Units.{Units}
use Rattle.dk_model.specs.Evaluation.{whnf_of, normal_of, comparison_of}
use Rattle.shared_term.specs.Pools.{Node, term}
use Rattle.shared_term.specs.Changes.{captured_terms}
use Rattle.shared_term.proofs.Winding.{within_grown}
use Rattle.signature_log.specs.Versions.{entries_of}
use Rattle.rule_match.specs.Rows.{rule_at}
use Rattle.rule_match.specs.Selecting.{TakesValue}
use Rattle.rule_match.specs.declared.matcher.Answer.TheVariants.{Value, Normal}
use Rattle.conversion.specs.declared.compare.Look.TheVariants.{At}
use Rattle.conversion.specs.declared.compare.Step.{Step}
use Rattle.conversion.specs.declared.normal.Frame.{Frame}
use Rattle.conversion.specs.declared.pauses.Waiter.{Waiter}
use Rattle.conversion.specs.Machine.{behind, wound}
use Rattle.conversion.specs.Pausing.{rewritten_by, GoesOnWith, GoesOnWhether, TakesAlike, TakesNormal}
use Rattle.conversion.specs.Pending.{IsUnderWay, look_made, look_due}
use Rattle.conversion.specs.Waiting.{IsResumed, resumed}
use Rattle.conversion.proofs.Comparing.{pair_alone, look_open, look_begins}
use Rattle.conversion.proofs.Waiting.{normal_begins}
use Rattle.conversion.proofs.Selecting.{selection_ends, selection_goes, selection_stands, selection_takes, selection_waits, selection_compares}
use Rattle.conversion.proofs.Asking.{waiter_made}
use Rattle.conversion.proofs.Telling.{recalled_stops}
use Rattle.conversion.proofs.Winding.{extends_none, extends_more}
use Rattle.conversion.proofs.Serving.{serves_grown}
use Rattle.conversion.proofs.state.PoolReducer.turn_selection.Goals as goal

pub loop-matcher-init : goal.loop-matcher-init
loop-matcher-init c = record {
  selection = c.requires.selection;
  due = refl;
  stack = c.requires.stack;
  keeps = extends_none c.args.self.now.pool;
  serves = c.requires.serves;
  less = omega arith;
}

pub put_right-requires-clause-place : goal.put_right-requires-clause-place
put_right-requires-clause-place c =
    let S : PlainSignature = entries_of c.args.version.now in
    let a = (rw c.in-Take.is at c.in_ok-ask.ensures.asks) (rules_of S c.args.selection.symbol) c.loop-matcher.invariant.selection.stands in
    (a.to S).0

pub returns-in-Take-clause-gives : goal.returns-in-Take-clause-gives
returns-in-Take-clause-gives c =
    let S : PlainSignature = entries_of c.args.version.now in
    let a = (rw c.in-Take.is at c.in_ok-ask.ensures.asks) (rules_of S c.args.selection.symbol) c.loop-matcher.invariant.selection.stands in
    let g = a.to S in
    let p = rw c.as_slice.ensures.value at c.in_ok-next-in-Take.ensures.puts in (
      c.loop-matcher.invariant.due ∙ selection_takes S (record { symbol = c.args.selection.symbol; matcher = c.loop-matcher.matcher; answer = c.loop-matcher.answer }) c.loop-matcher.left c.loop-matcher.self.pool c.next.new.pool c.loop-matcher.stack.items c.in_ok-ask.ensures.keeps c.loop-matcher.invariant.stack
          (captured_terms c.next.new.pool c.in-Take.captures.items) (rule_at (rules_of S c.args.selection.symbol) c.in-Take.at)
          (wound (term c.put_right.new.self.pool c.in_ok-next-in-Take.next) (behind c.put_right.new.self.pool c.put_right.new.stack.items)) (g.1 c.loop-matcher.left) p.0,
      p.1,
    )

pub returns-in-Nothing-clause-gives : goal.returns-in-Nothing-clause-gives
returns-in-Nothing-clause-gives c =
    let S : PlainSignature = entries_of c.args.version.now in
    let a = (rw c.in-Nothing.is at c.in_ok-ask.ensures.asks) (rules_of S c.args.selection.symbol) c.loop-matcher.invariant.selection.stands in
    let g = a.to S in (
      c.loop-matcher.invariant.due ∙ selection_stands S (record { symbol = c.args.selection.symbol; matcher = c.loop-matcher.matcher; answer = c.loop-matcher.answer }) c.loop-matcher.left c.loop-matcher.self.pool c.next.new.pool c.loop-matcher.stack.items c.in_ok-ask.ensures.keeps c.loop-matcher.invariant.stack c.intern.new.self
          c.in_ok-head-in-Nothing.head c.in_ok-head-in-Nothing.ensures.keeps (g c.loop-matcher.left) c.in_ok-head-in-Nothing.ensures.denotes,
      c.in_ok-head-in-Nothing.ensures.within,
    )

-- a selection that waits for what it asks for, with the arguments

pub recalled-requires-clause-whole : goal.recalled-requires-clause-whole
recalled-requires-clause-whole c = c.at-asked.ensures.within (length c.next.new.pool) c.in_ok-ask.ensures.within

pub returns-in_err-value-in-Evaluate-clause-gives : goal.returns-in_err-value-in-Evaluate-clause-gives
returns-in_err-value-in-Evaluate-clause-gives c =
    let S : PlainSignature = entries_of c.args.version.now in
    let a = (rw c.in-Evaluate.is at c.in_ok-ask.ensures.asks) (rules_of S c.args.selection.symbol) c.loop-matcher.invariant.selection.stands in
    let g = a.to S c.at-asked.result c.at-asked.ensures.is in
    let h = recalled_stops S _ _ c.next.new.pool c.loop-matcher.left c.in_err-value-in-Evaluate.field-0.0 c.loop-matcher.stack.items c.recalled.new.left
    (λ e. c.loop-matcher.invariant.due ∙ selection_ends S (record { symbol = c.args.selection.symbol; matcher = c.loop-matcher.matcher; answer = c.loop-matcher.answer }) c.loop-matcher.left c.loop-matcher.self.pool c.next.new.pool c.loop-matcher.stack.items c.in_ok-ask.ensures.keeps c.loop-matcher.invariant.stack (g.ends c.loop-matcher.left e))
    c.in_err-value-in-Evaluate.ensures.gives in
    search rules

-- it goes on with a weak head form that is there

pub loop-matcher-preserved : goal.loop-matcher-preserved
loop-matcher-preserved c =
    let S : PlainSignature = entries_of c.args.version.now in
    let ns : List Node = c.next.new.pool in
    let i = c.loop-matcher.invariant in
    let x = c.in_ok-ask.ensures.keeps in
    let a = (rw c.in-Evaluate.is at c.in_ok-ask.ensures.asks) (rules_of S c.args.selection.symbol) i.selection.stands in
    let g = a.to S c.at-asked.result c.at-asked.ensures.is in
    let q = rw c.in-Some.is at c.in_ok-value-in-Evaluate.ensures.gives in
    let takes : TakesValue c.next.new.self = (rw c.in-Evaluate.is at c.in_ok-ask.ensures.awaits).1 in
    record {
      selection = record { matcher = c.in_ok-ask.ensures.within; answer = takes (length ns) c.in-Some.value q.1; stands = a.stands };
      due = i.due
          ∙ selection_goes S (record { symbol = c.args.selection.symbol; matcher = c.loop-matcher.matcher; answer = c.loop-matcher.answer }) c.loop-matcher.left c.loop-matcher.self.pool ns c.loop-matcher.stack.items x i.stack ns c.next.new.self (Value c.in-Some.value) c.recalled.new.left (extends_none ns)
          (g.goes c.loop-matcher.left c.recalled.new.left ns c.in-Some.value (extends_none ns) q.0);
      stack = within_grown c.loop-matcher.self.pool ns c.loop-matcher.stack.items x i.stack;
      keeps = extends_more _ _ _ i.keeps x;
      serves = serves_grown S c.loop-matcher.self ns x i.serves;
      less = omega (arith, q.2, i.less);
    }

pub returns-in-None-clause-gives : goal.returns-in-None-clause-gives
returns-in-None-clause-gives c =
    let S : PlainSignature = entries_of c.args.version.now in
    let ns : List Node = c.next.new.pool in
    let due : Units Tree = rewritten_by S c.loop-matcher.self.pool (record { symbol = c.args.selection.symbol; matcher = c.loop-matcher.matcher; answer = c.loop-matcher.answer }) c.loop-matcher.stack.items c.loop-matcher.left in
    let a = (rw c.in-Evaluate.is at c.in_ok-ask.ensures.asks) (rules_of S c.args.selection.symbol) c.loop-matcher.invariant.selection.stands in
    let w = c.with_arguments-waiter.ensures in
    let q : c.recalled.new.left ≡ c.loop-matcher.left = rw c.in-None.is at c.in_ok-value-in-Evaluate.ensures.gives in
    let within = within_grown c.loop-matcher.self.pool ns c.loop-matcher.stack.items c.in_ok-ask.ensures.keeps c.loop-matcher.invariant.stack in
    let takes : TakesValue c.next.new.self = (rw c.in-Evaluate.is at c.in_ok-ask.ensures.awaits).1 in (
      subst (GoesOnWith S ns c.with_arguments-waiter.result (λ v. Value v) (whnf_of S c.recalled.new.left (term ns c.at-asked.result))) (flip c.loop-matcher.invariant.due)
          (subst (λ (n : ℕ). GoesOnWith S ns c.with_arguments-waiter.result (λ v. Value v) (whnf_of S n (term ns c.at-asked.result)) due) (flip q)
          (selection_waits S (record { symbol = c.args.selection.symbol; matcher = c.loop-matcher.matcher; answer = c.loop-matcher.answer }) c.loop-matcher.left c.loop-matcher.self.pool ns c.loop-matcher.stack.items c.in_ok-ask.ensures.keeps c.loop-matcher.invariant.stack c.next.new.self c.with_arguments-waiter.result (λ v. Value v)
          (λ n. whnf_of S n (term ns c.at-asked.result)) (ap (λ (x : Waiter). x.symbol) w.waits) (ap (λ (x : Waiter). x.matcher) w.waits) (ap (λ (x : Waiter). x.stack.items) w.waits)
          (a.to S c.at-asked.result c.at-asked.ensures.is))),
      refl,
      w.empty,
      record {
        waiter = waiter_made S (length ns) c.args.selection.symbol c.next.new.self c.loop-matcher.stack c.with_arguments-waiter.result w.waits c.in_ok-ask.ensures.within a.stands within;
        fits = subst TakesValue (flip (ap (λ (x : Waiter). x.matcher) w.waits)) takes;
        asked = c.at-asked.ensures.within (length ns) c.in_ok-ask.ensures.within;
      },
    )

pub normalise_for-requires-clause-waiter : goal.normalise_for-requires-clause-waiter
normalise_for-requires-clause-waiter c =
    let S : PlainSignature = entries_of c.args.version.now in
    let a = (rw c.in-Escape.is at c.in_ok-ask.ensures.asks) (rules_of S c.args.selection.symbol) c.loop-matcher.invariant.selection.stands in
    waiter_made S (length c.next.new.pool) c.args.selection.symbol c.next.new.self c.loop-matcher.stack c.with_arguments-waiter-in-Escape.result c.with_arguments-waiter-in-Escape.ensures.waits c.in_ok-ask.ensures.within a.stands
    (within_grown c.loop-matcher.self.pool c.next.new.pool c.loop-matcher.stack.items c.in_ok-ask.ensures.keeps c.loop-matcher.invariant.stack)

pub normalise_for-requires-clause-fits : goal.normalise_for-requires-clause-fits
normalise_for-requires-clause-fits c =
    let takes : TakesNormal c.next.new.self = rw c.in-Escape.is at c.in_ok-ask.ensures.awaits in
    subst TakesNormal (flip (ap (λ (x : Waiter). x.matcher) c.with_arguments-waiter-in-Escape.ensures.waits)) takes

pub normalise_for-requires-clause-way : goal.normalise_for-requires-clause-way
normalise_for-requires-clause-way c =
    let S : PlainSignature = entries_of c.args.version.now in
    let x : Units Tree = normal_of S c.loop-matcher.left (term c.next.new.pool c.in-Escape.part) in
    subst (λ (l : List Frame). IsResumed S c.next.new.pool (resumed S c.next.new.pool l x) x c.loop-matcher.left l) (flip c.new-frames.ensures.items) (normal_begins S c.next.new.pool x c.loop-matcher.left)

pub compare_for-requires-clause-waiter : goal.compare_for-requires-clause-waiter
compare_for-requires-clause-waiter c =
    let S : PlainSignature = entries_of c.args.version.now in
    let a = (rw c.in-Same.is at c.in_ok-ask.ensures.asks) (rules_of S c.args.selection.symbol) c.loop-matcher.invariant.selection.stands in
    waiter_made S (length c.next.new.pool) c.args.selection.symbol c.next.new.self c.loop-matcher.stack c.with_arguments-waiter-in-Same.result c.with_arguments-waiter-in-Same.ensures.waits c.in_ok-ask.ensures.within a.stands
    (within_grown c.loop-matcher.self.pool c.next.new.pool c.loop-matcher.stack.items c.in_ok-ask.ensures.keeps c.loop-matcher.invariant.stack)

pub compare_for-requires-clause-fits : goal.compare_for-requires-clause-fits
compare_for-requires-clause-fits c =
    let takes : TakesAlike c.next.new.self = rw c.in-Same.is at c.in_ok-ask.ensures.awaits in
    subst TakesAlike (flip (ap (λ (x : Waiter). x.matcher) c.with_arguments-waiter-in-Same.ensures.waits)) takes

pub compare_for-requires-clause-open : goal.compare_for-requires-clause-open
compare_for-requires-clause-open c =
    let S : PlainSignature = entries_of c.args.version.now in
    let ns : List Node = c.next.new.pool in
    look_open S ns (comparison_of S c.loop-matcher.left (term ns c.in-Same.first) (term ns c.in-Same.second)) (At c.in-Same.first c.in-Same.second) c.loop-matcher.left c.new-work.result.items
    (subst (λ (l : List Step). IsUnderWay S ns (comparison_of S c.loop-matcher.left (term ns c.in-Same.first) (term ns c.in-Same.second)) (look_made S ns (At c.in-Same.first c.in-Same.second) c.loop-matcher.left) c.loop-matcher.left l)
    (flip c.new-work.ensures.items) (look_begins S ns c.loop-matcher.left c.in-Same.first c.in-Same.second))

-- the turn is that of what it waits for

pub returns-in-Escape-clause-gives : goal.returns-in-Escape-clause-gives
returns-in-Escape-clause-gives c =
    let S : PlainSignature = entries_of c.args.version.now in
    let whole : Units Tree = rewritten_by S c.args.self.now.pool c.args.selection c.args.stack.now.items c.args.left.now in
    let due : Units Tree = rewritten_by S c.loop-matcher.self.pool (record { symbol = c.args.selection.symbol; matcher = c.loop-matcher.matcher; answer = c.loop-matcher.answer }) c.loop-matcher.stack.items c.loop-matcher.left in
    let a = (rw c.in-Escape.is at c.in_ok-ask.ensures.asks) (rules_of S c.args.selection.symbol) c.loop-matcher.invariant.selection.stands in
    let w = c.with_arguments-waiter-in-Escape.ensures in
    let x : Units Tree = normal_of S c.loop-matcher.left (term c.next.new.pool c.in-Escape.part) in
    c.normalise_for.ensures.gives whole
    (subst (GoesOnWith S c.next.new.pool c.with_arguments-waiter-in-Escape.result (λ v. Normal v) _) (flip c.loop-matcher.invariant.due) (subst (λ (l : List Frame). GoesOnWith S c.next.new.pool c.with_arguments-waiter-in-Escape.result (λ v. Normal v) (resumed S c.next.new.pool l x) due) (flip c.new-frames.ensures.items)
    (selection_waits S (record { symbol = c.args.selection.symbol; matcher = c.loop-matcher.matcher; answer = c.loop-matcher.answer }) c.loop-matcher.left c.loop-matcher.self.pool c.next.new.pool c.loop-matcher.stack.items c.in_ok-ask.ensures.keeps c.loop-matcher.invariant.stack c.next.new.self c.with_arguments-waiter-in-Escape.result (λ v. Normal v)
    (λ n. normal_of S n (term c.next.new.pool c.in-Escape.part)) (ap (λ (x : Waiter). x.symbol) w.waits) (ap (λ (x : Waiter). x.matcher) w.waits) (ap (λ (x : Waiter). x.stack.items) w.waits) (a.to S))))

pub returns-in-Same-clause-gives : goal.returns-in-Same-clause-gives
returns-in-Same-clause-gives c =
    let S : PlainSignature = entries_of c.args.version.now in
    let whole : Units Tree = rewritten_by S c.args.self.now.pool c.args.selection c.args.stack.now.items c.args.left.now in
    let ns : List Node = c.next.new.pool in
    let due : Units Tree = rewritten_by S c.loop-matcher.self.pool (record { symbol = c.args.selection.symbol; matcher = c.loop-matcher.matcher; answer = c.loop-matcher.answer }) c.loop-matcher.stack.items c.loop-matcher.left in
    let a = (rw c.in-Same.is at c.in_ok-ask.ensures.asks) (rules_of S c.args.selection.symbol) c.loop-matcher.invariant.selection.stands in
    let w = c.with_arguments-waiter-in-Same.ensures in
    let g = selection_compares S (record { symbol = c.args.selection.symbol; matcher = c.loop-matcher.matcher; answer = c.loop-matcher.answer }) c.loop-matcher.left c.loop-matcher.self.pool ns c.loop-matcher.stack.items c.in_ok-ask.ensures.keeps c.loop-matcher.invariant.stack c.next.new.self c.with_arguments-waiter-in-Same.result
    (λ n. comparison_of S n (term ns c.in-Same.first) (term ns c.in-Same.second)) (ap (λ (x : Waiter). x.symbol) w.waits) (ap (λ (x : Waiter). x.matcher) w.waits) (ap (λ (x : Waiter). x.stack.items) w.waits) (a.to S) in
    c.compare_for.ensures.gives whole
    (subst (GoesOnWhether S ns c.with_arguments-waiter-in-Same.result _) (flip c.loop-matcher.invariant.due) (subst (λ (l : List Step). GoesOnWhether S ns c.with_arguments-waiter-in-Same.result (look_due S ns (At c.in-Same.first c.in-Same.second) c.loop-matcher.left l) due) (flip c.new-work.ensures.items)
    (subst (λ (x : Units Bool). GoesOnWhether S ns c.with_arguments-waiter-in-Same.result x due) (flip (pair_alone S c.loop-matcher.left (term ns c.in-Same.first) (term ns c.in-Same.second))) g)))
