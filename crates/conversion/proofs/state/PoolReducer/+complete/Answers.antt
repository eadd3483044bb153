-- An evaluation to its end, with a tree compiled in its middle.
use Rattle.std.proofs.Common.{List, subst, arith}
use Rattle.dk_model.specs.Signatures.{PlainRule, PlainSignature}
use Rattle.shared_term.specs.declared.id.TermId.{TermId}
use Rattle.shared_term.specs.Pools.{Node}
use Rattle.signature_log.specs.Versions.{entries_of}
use Rattle.rule_match.specs.Trees.{IsTree}
use Rattle.conversion.specs.Courses.{Begins}
use Rattle.conversion.specs.Machine.{behind}
use Rattle.conversion.specs.Turning.{rule_due}
use Rattle.conversion.proofs.state.PoolReducer.+complete.Goals as goal

pub complete-found-requires : goal.complete-found-requires
complete-found-requires t c =
    let S : PlainSignature = entries_of c.args.version.now in
    let ns : List Node = c.turns.new.self.pool in
    let k = c.in-Wants.symbol in
    let ids : List TermId = c.in-Wants.stack.items in
    let g = (rw c.in-Wants.is at c.in_ok-value.ensures.gives) c.requires.course.comes.0 c.requires.course.comes.1 in
    let r = rw c.in-Wants.is at c.in_ok-value.ensures.reached in
    let s = subst (λ (l : List TermId). Begins S ns k l c.in_ok-selection-in-Wants.selection) c.as_slice.ensures.value c.in_ok-selection-in-Wants.ensures in (
      omega (arith, c.decreases, c.in_ok-more-in-Wants.ensures.room),
      (
        record {
          comes = (c.requires.course.comes.0, (rule_due S k (behind ns ids) c.turns.new.left, g, s.0 c.turns.new.left));
          next = s.1;
          stack = r.3;
          pauses = r.2;
        },
        (
          c.in_ok-more-in-Wants.ensures.trees S c.requires.trees
              (subst (λ (l : List PlainRule). IsTree l c.in-Some.tree) c.rules_of.ensures ((rw c.in-Some.is at c.in_ok-tree-in-Wants.ensures.tree) k)),
          c.in_ok-value.ensures.serves,
        ),
      ),
    )

pub returns-in-Value-clause-gives : goal.returns-in-Value-clause-gives
returns-in-Value-clause-gives t c = λ whole w.
    ((rw c.in-Value.is at c.in_ok-value.ensures.gives) whole w, rw c.in-Value.is at c.in_ok-value.ensures.reached)

pub returns-in_ok-selection-in-Wants-clause-gives : goal.returns-in_ok-selection-in-Wants-clause-gives
returns-in_ok-selection-in-Wants-clause-gives t c = λ whole w.
    let S : PlainSignature = entries_of c.args.version.now in
    let ns : List Node = c.turns.new.self.pool in
    let k = c.in-Wants.symbol in
    let ids : List TermId = c.in-Wants.stack.items in
    let g = (rw c.in-Wants.is at c.in_ok-value.ensures.gives) whole w in
    let s = subst (λ (l : List TermId). Begins S ns k l c.in_ok-selection-in-Wants.selection) c.as_slice.ensures.value c.in_ok-selection-in-Wants.ensures in
    c.complete-found.ensures.gives whole (rule_due S k (behind ns ids) c.turns.new.left, g, s.0 c.turns.new.left)
