use Rattle.std.proofs.Common.{◌-◌, refl, arith}
use Rattle.signature_log.specs.Versions.{entries_of}
use Rattle.conversion.specs.Reducers.{IsValue}
use Rattle.conversion.proofs.Winding.{extends_none}
use Rattle.conversion.proofs.Serving.{value_made, values_put}
use Rattle.conversion.proofs.state.PoolReducer.evaluate.Goals as goal

pub returns-then-left-found-clause-gives : goal.returns-then-left-found-clause-gives
returns-then-left-found-clause-gives c =
    let h : IsValue (entries_of c.args.version.now) c.args.self.now.pool c.args.whole.0 c.in-Some.found = c.in-Some.ensures in
    (h.takes.ends c.args.left.now c.if-left-found.true, refl)

pub returns-in-Some-clause-gives : goal.returns-in-Some-clause-gives
returns-in-Some-clause-gives c =
    let h : IsValue (entries_of c.args.version.now) c.args.self.now.pool c.args.whole.0 c.in-Some.found = c.in-Some.ensures in
    (h.takes.suffices c.args.left.now (omega (arith, c.if-left-found.false)), h.gives)

pub returns-clause-serves : goal.returns-clause-serves
returns-clause-serves c =
    let s = c.in_ok-id.ensures.serves in
    let g = c.in_ok-id.ensures.gives in
    record {
      loaded = s.loaded;
      heads = s.heads;
      values = values_put (entries_of c.args.version.now) c.evaluated.new.self.pool c.evaluated.new.self.values c.put.new.self c.args.whole.0 0 (record { id = c.in_ok-id.id; units = c.args.left.now - c.evaluated.new.left }) s.values
          (value_made (entries_of c.args.version.now) c.args.self.now.pool c.evaluated.new.self.pool c.args.whole
          (record { id = c.in_ok-id.id; units = c.args.left.now - c.evaluated.new.left }) c.args.left.now c.evaluated.new.left
          c.in_ok-id.ensures.keeps c.requires.whole g.1 g.0 refl)
          (rw c.number.ensures at c.put.ensures);
      normals = s.normals;
      answers = s.answers;
      trees = s.trees;
    }

pub returns-then-left-found-clause-keeps : goal.returns-then-left-found-clause-keeps
returns-then-left-found-clause-keeps c = extends_none c.args.self.now.pool

pub returns-in-Some-clause-keeps : goal.returns-in-Some-clause-keeps
returns-in-Some-clause-keeps c = extends_none c.args.self.now.pool
