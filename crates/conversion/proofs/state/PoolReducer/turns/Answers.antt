-- The turns of an evaluation.
use Rattle.std.proofs.Common.{◌≡◌, ◌∙◌, ◌<◌, List, Some, length, ap, subst, sym as flip, arith, rules}
use Rattle.dk_model.specs.Trees.{Tree}
use Rattle.dk_model.specs.Signatures.{PlainSignature}
use Rattle.dk_model.specs.Units.{Units}
use Rattle.shared_term.specs.declared.id.TermId.{TermId}
use Rattle.shared_term.specs.Pools.{term}
use Rattle.signature_log.specs.Versions.{entries_of}
use Rattle.conversion.specs.declared.pauses.Pause.{Pause}
use Rattle.conversion.specs.Courses.{Begins}
use Rattle.conversion.specs.Machine.{AreWithin, behind}
use Rattle.conversion.specs.Pausing.{ArePauses, Await}
use Rattle.conversion.specs.Turning.{IsDue, rule_due}
use Rattle.conversion.proofs.Winding.{extends_more, extends_none}
use Rattle.conversion.proofs.Serving.{values_put, loaded_grown, heads_grown, values_grown, normals_grown, answers_grown}
use Rattle.conversion.proofs.Pausing.{await_grown, pauses_grown, pauses_popped, popped_pause}
use Rattle.conversion.proofs.Evaluating.{evaluation_ends, waiting_ends, await_done, awaited_is, awaited_falls, told_next, awaited_value}
use Rattle.conversion.proofs.state.PoolReducer.turns.Goals as goal

pub loop-stack-init : goal.loop-stack-init
loop-stack-init c = record {
  goes = λ whole w. w;
  next = c.requires.course.next;
  stack = c.requires.course.stack;
  pauses = c.requires.course.pauses;
  keeps = extends_none c.args.self.now.pool;
  serves = c.requires.serves;
  less = omega arith;
}

pub turn-requires-clause-due : goal.turn-requires-clause-due
turn-requires-clause-due c =
    let a = c.loop-stack.invariant.goes c.requires.course.comes.0 c.requires.course.comes.1 in (a.0, a.2)

pub wind-requires-clause-head : goal.wind-requires-clause-head
wind-requires-clause-head c =
    let a = c.loop-stack.invariant.goes c.requires.course.comes.0 c.requires.course.comes.1 in
    let g = (rw c.in-Stands.is at c.in_ok-term.ensures.gives) a.0 a.2 in g.1

pub loop-stack-preserved-in-Goes : goal.loop-stack-preserved-in-Goes
loop-stack-preserved-in-Goes c =
    let S : PlainSignature = entries_of c.args.version.now in
    let i = c.loop-stack.invariant in
    let x = c.in_ok-term.ensures.keeps in
    let a = i.goes c.requires.course.comes.0 c.requires.course.comes.1 in
    let g = (rw c.in-Goes.is at c.in_ok-term.ensures.gives) a.0 a.2 in
    record {
      goes = λ whole w.
          let b = i.goes whole w in
          let h = (rw c.in-Goes.is at c.in_ok-term.ensures.gives) b.0 b.2 in (b.0, await_grown S c.loop-stack.self.pool c.turn.new.self.pool x whole b.0 c.loop-stack.pauses.items i.pauses b.1, h.0);
      next = g.1;
      stack = c.in_ok-term.ensures.stack;
      pauses = pauses_grown S c.loop-stack.self.pool c.turn.new.self.pool c.loop-stack.pauses.items x i.pauses;
      keeps = extends_more c.args.self.now.pool c.loop-stack.self.pool c.turn.new.self.pool i.keeps x;
      serves = c.in_ok-term.ensures.serves;
      less = omega (arith, c.in_ok-term.ensures.spent, i.less);
    }

-- a selection begins, or the symbol is to have a tree

pub loop-stack-preserved-in-Begins : goal.loop-stack-preserved-in-Begins
loop-stack-preserved-in-Begins c =
    let S : PlainSignature = entries_of c.args.version.now in
    let i = c.loop-stack.invariant in
    let x = c.in_ok-term.ensures.keeps in
    let g = subst (λ (ids : List TermId). Begins S c.turn.new.self.pool c.in-Begins.symbol ids c.in_ok-selection-in-Begins.selection) c.as_slice.ensures.value c.in_ok-selection-in-Begins.ensures in
    let s = c.in_ok-term.ensures.serves in
    record {
      goes = λ whole w.
          let b = i.goes whole w in
          let h : b.0 ≡ rule_due S c.in-Begins.symbol (behind c.turn.new.self.pool c.turn.new.stack.items) c.turn.new.left = (rw c.in-Begins.is at c.in_ok-term.ensures.gives) b.0 b.2 in
          (b.0, await_grown S c.loop-stack.self.pool c.turn.new.self.pool x whole b.0 c.loop-stack.pauses.items i.pauses b.1, h ∙ g.0 c.turn.new.left);
      next = g.1;
      stack = c.in_ok-term.ensures.stack;
      pauses = pauses_grown S c.loop-stack.self.pool c.turn.new.self.pool c.loop-stack.pauses.items x i.pauses;
      keeps = extends_more c.args.self.now.pool c.loop-stack.self.pool c.turn.new.self.pool i.keeps x;
      serves = record { loaded = s.loaded; heads = s.heads; values = s.values; normals = s.normals; answers = s.answers; trees = s.trees };
      less = omega (arith, c.in_ok-term.ensures.spent, i.less);
    }

pub returns-then-wants_tree-clause-gives : goal.returns-then-wants_tree-clause-gives
returns-then-wants_tree-clause-gives c = λ whole w.
    let S : PlainSignature = entries_of c.args.version.now in
    let i = c.loop-stack.invariant in
    let b = i.goes whole w in
    let h : b.0 ≡ rule_due S c.in-Begins.symbol (behind c.turn.new.self.pool c.turn.new.stack.items) c.turn.new.left = (rw c.in-Begins.is at c.in_ok-term.ensures.gives) b.0 b.2 in
    subst (λ (d : Units Tree). Await S c.turn.new.self.pool whole c.loop-stack.pauses.items d) h (await_grown S c.loop-stack.self.pool c.turn.new.self.pool c.in_ok-term.ensures.keeps whole b.0 c.loop-stack.pauses.items i.pauses b.1)

pub loop-stack-preserved-in-Selects : goal.loop-stack-preserved-in-Selects
loop-stack-preserved-in-Selects c =
    let S : PlainSignature = entries_of c.args.version.now in
    let i = c.loop-stack.invariant in
    let x = c.in_ok-term.ensures.keeps in
    let a = i.goes c.requires.course.comes.0 c.requires.course.comes.1 in
    let g = (rw c.in-Selects.is at c.in_ok-term.ensures.gives) a.0 a.2 in
    record {
      goes = λ whole w.
          let b = i.goes whole w in
          let h = (rw c.in-Selects.is at c.in_ok-term.ensures.gives) b.0 b.2 in (b.0, await_grown S c.loop-stack.self.pool c.turn.new.self.pool x whole b.0 c.loop-stack.pauses.items i.pauses b.1, h.0);
      next = g.1;
      stack = c.in_ok-term.ensures.stack;
      pauses = pauses_grown S c.loop-stack.self.pool c.turn.new.self.pool c.loop-stack.pauses.items x i.pauses;
      keeps = extends_more c.args.self.now.pool c.loop-stack.self.pool c.turn.new.self.pool i.keeps x;
      serves = c.in_ok-term.ensures.serves;
      less = omega (arith, c.in_ok-term.ensures.spent, i.less);
    }

pub wait-requires-clause-pause : goal.wait-requires-clause-pause
wait-requires-clause-pause c =
    let a = c.loop-stack.invariant.goes c.requires.course.comes.0 c.requires.course.comes.1 in
    let g = (rw c.in-Asks.is at c.in_ok-term.ensures.gives) a.0 a.2 in g.3

pub wait-requires-clause-start : goal.wait-requires-clause-start
wait-requires-clause-start c =
    let a = c.loop-stack.invariant.goes c.requires.course.comes.0 c.requires.course.comes.1 in
    let g = (rw c.in-Asks.is at c.in_ok-term.ensures.gives) a.0 a.2 in g.1

pub wait-requires-clause-pauses : goal.wait-requires-clause-pauses
wait-requires-clause-pauses c = pauses_grown (entries_of c.args.version.now) c.loop-stack.self.pool c.turn.new.self.pool c.loop-stack.pauses.items c.in_ok-term.ensures.keeps c.loop-stack.invariant.pauses

pub loop-stack-preserved-in-Asks : goal.loop-stack-preserved-in-Asks
loop-stack-preserved-in-Asks c =
    let S : PlainSignature = entries_of c.args.version.now in
    let i = c.loop-stack.invariant in
    let x = c.in_ok-term.ensures.keeps in
    record {
      goes = λ whole w.
          let b = i.goes whole w in
          let g = (rw c.in-Asks.is at c.in_ok-term.ensures.gives) b.0 b.2 in
          let h = c.in_ok-next-in-Asks.ensures.gives whole b.0 (await_grown S c.loop-stack.self.pool c.turn.new.self.pool x whole b.0 c.loop-stack.pauses.items i.pauses b.1) g.0 in
          (h.0, h.1, subst (λ (l : List TermId). IsDue S c.turn.new.self.pool c.in_ok-next-in-Asks.next l c.wait.new.left h.0) (flip g.2) h.2);
      next = c.in_ok-next-in-Asks.ensures.next;
      stack = c.in_ok-term.ensures.stack;
      pauses = c.in_ok-next-in-Asks.ensures.pauses;
      keeps = extends_more c.args.self.now.pool c.loop-stack.self.pool c.turn.new.self.pool i.keeps x;
      serves = c.in_ok-term.ensures.serves;
      less = omega (arith, c.in_ok-term.ensures.spent, c.in_ok-next-in-Asks.ensures.spent, i.less);
    }

pub returns-in_err-next-in-Asks-clause-gives : goal.returns-in_err-next-in-Asks-clause-gives
returns-in_err-next-in-Asks-clause-gives c = λ whole w.
    let S : PlainSignature = entries_of c.args.version.now in
    let i = c.loop-stack.invariant in
    let b = i.goes whole w in
    let g = (rw c.in-Asks.is at c.in_ok-term.ensures.gives) b.0 b.2 in
    let h = waiting_ends S c.turn.new.self.pool c.turn.new.self.pool whole c.wait.new.pauses.items c.in_err-next-in-Asks.field-0.0 c.wait.new.left
    (c.in_err-next-in-Asks.ensures.gives whole b.0 (await_grown S c.loop-stack.self.pool c.turn.new.self.pool c.in_ok-term.ensures.keeps whole b.0 c.loop-stack.pauses.items i.pauses b.1) g.0) in
    search rules

pub returns-in_err-term-clause-gives : goal.returns-in_err-term-clause-gives
returns-in_err-term-clause-gives c = λ whole w.
    let b = c.loop-stack.invariant.goes whole w in
    let h = evaluation_ends (entries_of c.args.version.now) c.loop-stack.self.pool c.turn.new.self.pool c.turn.new.self.pool whole b.0 c.loop-stack.pauses.items c.turn.new.stack.items c.in_err-term.field-0.0 c.turn.new.left b.1
    (c.in_err-term.ensures.gives b.0 b.2) in
    search rules

pub returns-in-None-clause-gives : goal.returns-in-None-clause-gives
returns-in-None-clause-gives c = λ whole w.
    let S : PlainSignature = entries_of c.args.version.now in
    let i = c.loop-stack.invariant in
    let x = extends_more c.loop-stack.self.pool c.turn.new.self.pool c.wind.new.pool c.in_ok-term.ensures.keeps c.in_ok-value-in-Stands.ensures.keeps in
    let b = i.goes whole w in
    let g = (rw c.in-Stands.is at c.in_ok-term.ensures.gives) b.0 b.2 in
    let none : length c.loop-stack.pauses.items ≡ 0 = omega (arith, c.in-None.ensures.cases.0, c.loop-stack.pauses.ok.0) in
    await_done S c.wind.new.pool whole b.0 c.loop-stack.pauses.items none (await_grown S c.loop-stack.self.pool c.wind.new.pool x whole b.0 c.loop-stack.pauses.items i.pauses b.1)
    ∙ g.0 ∙ ap (λ (v : Tree). Some (v, c.turn.new.left)) (flip c.in_ok-value-in-Stands.ensures.whole)

pub overflow_sub-units : goal.overflow_sub-units
overflow_sub-units c =
    let S : PlainSignature = entries_of c.args.version.now in
    let i = c.loop-stack.invariant in
    let x = extends_more c.loop-stack.self.pool c.turn.new.self.pool c.wind.new.pool c.in_ok-term.ensures.keeps c.in_ok-value-in-Stands.ensures.keeps in
    let a = i.goes c.requires.course.comes.0 c.requires.course.comes.1 in
    let g = (rw c.in-Stands.is at c.in_ok-term.ensures.gives) a.0 a.2 in
    let f : c.turn.new.left < c.in-Some.pause.start = awaited_falls S c.wind.new.pool c.requires.course.comes.0 a.0 c.pop.new.self.items c.loop-stack.pauses.items c.in-Some.pause c.in_ok-value-in-Stands.value c.turn.new.left c.in-Some.ensures.items
    (await_grown S c.loop-stack.self.pool c.wind.new.pool x c.requires.course.comes.0 a.0 c.loop-stack.pauses.items i.pauses a.1)
    (g.0 ∙ ap (λ (v : Tree). Some (v, c.turn.new.left)) (flip c.in_ok-value-in-Stands.ensures.whole)) in
    omega (arith, f)

pub loop-stack-preserved : goal.loop-stack-preserved
loop-stack-preserved c =
    let S : PlainSignature = entries_of c.args.version.now in
    let i = c.loop-stack.invariant in
    let y = c.in_ok-value-in-Stands.ensures.keeps in
    let x = extends_more c.loop-stack.self.pool c.turn.new.self.pool c.wind.new.pool c.in_ok-term.ensures.keeps y in
    let a = i.goes c.requires.course.comes.0 c.requires.course.comes.1 in
    let g = (rw c.in-Stands.is at c.in_ok-term.ensures.gives) a.0 a.2 in
    let ps = subst (λ (l : List Pause). ArePauses S (length c.wind.new.pool) l) c.in-Some.ensures.items (pauses_grown S c.loop-stack.self.pool c.wind.new.pool c.loop-stack.pauses.items x i.pauses) in
    let p = popped_pause S (length c.wind.new.pool) c.pop.new.self.items c.in-Some.pause ps in
    let w = await_grown S c.loop-stack.self.pool c.wind.new.pool x c.requires.course.comes.0 a.0 c.loop-stack.pauses.items i.pauses a.1 in
    let d : a.0 ≡ Some (term c.wind.new.pool c.in_ok-value-in-Stands.value, c.turn.new.left) = g.0 ∙ ap (λ (v : Tree). Some (v, c.turn.new.left)) (flip c.in_ok-value-in-Stands.ensures.whole) in
    let e = awaited_is S c.wind.new.pool c.requires.course.comes.0 a.0 c.pop.new.self.items c.loop-stack.pauses.items c.in-Some.pause c.in_ok-value-in-Stands.value c.turn.new.left c.in-Some.ensures.items w d in
    let s = c.in_ok-term.ensures.serves in
    record {
      goes = λ whole f.
          let b = i.goes whole f in
          let h = (rw c.in-Stands.is at c.in_ok-term.ensures.gives) b.0 b.2 in
          told_next S c.wind.new.pool whole b.0 c.pop.new.self.items c.loop-stack.pauses.items c.in-Some.pause c.in_ok-value-in-Stands.value c.turn.new.left c.in-Some.ensures.items
          (await_grown S c.loop-stack.self.pool c.wind.new.pool x whole b.0 c.loop-stack.pauses.items i.pauses b.1)
          (h.0 ∙ ap (λ (v : Tree). Some (v, c.turn.new.left)) (flip c.in_ok-value-in-Stands.ensures.whole)) c.new-stack.result.items;
      next = (p, c.in_ok-value-in-Stands.ensures.there);
      stack = subst (AreWithin (length c.wind.new.pool)) (flip c.new-stack.ensures.items) tt;
      pauses = pauses_popped S (length c.wind.new.pool) c.pop.new.self.items c.in-Some.pause ps;
      keeps = extends_more c.args.self.now.pool c.loop-stack.self.pool c.wind.new.pool i.keeps x;
      serves = record {
        loaded = loaded_grown S c.turn.new.self.pool c.wind.new.pool c.turn.new.self.loaded y s.loaded;
        heads = heads_grown S c.turn.new.self.pool c.wind.new.pool c.turn.new.self.heads y s.heads;
        values = values_put S c.wind.new.pool c.turn.new.self.values c.put.new.self c.in-Some.pause.asked.0 0 _ (values_grown S c.turn.new.self.pool c.wind.new.pool c.turn.new.self.values y s.values)
            (awaited_value S c.wind.new.pool c.in-Some.pause c.in_ok-value-in-Stands.value c.turn.new.left p.asked c.in_ok-value-in-Stands.ensures.there e)
            (rw c.number-key.ensures at c.put.ensures);
        normals = normals_grown S c.turn.new.self.pool c.wind.new.pool c.turn.new.self.normals y s.normals;
        answers = answers_grown S c.turn.new.self.pool c.wind.new.pool c.turn.new.self.answers y s.answers;
        trees = s.trees;
      };
      less = omega (arith, c.in_ok-term.ensures.spent, i.less);
    }
