-- A symbol without rules, and one with a body.
use Rattle.std.proofs.Common.{◌≡◌, ◌∙◌, ap, sym as flip, Some, None}
use Rattle.std.specs.Prelude.{slice_get}
use Rattle.dk_model.specs.Trees.{Tree}
use Rattle.dk_model.specs.Signatures.{PlainSignature}
use Rattle.dk_model.specs.SymbolRules.{rules_of}
use Rattle.shared_term.specs.Storage.{stored_term}
use Rattle.signature_log.specs.Versions.{entries_of}
use Rattle.conversion.specs.declared.state.Head.TheVariants.{Stands, Unfolds}
use Rattle.conversion.specs.Reducers.{unfolding_rule}
use Rattle.conversion.proofs.Serving.{heads_put, serves_grown}
use Rattle.conversion.proofs.Turning.{symbol_stands, symbol_unfolds}
use Rattle.conversion.proofs.state.PoolReducer.turn_by_rules.Goals as goal

pub returns-in-None-clause-gives : goal.returns-in-None-clause-gives
returns-in-None-clause-gives c = λ n.
    let q : slice_get (rules_of (entries_of c.args.version.now) c.args.symbol) 0 ≡ None = ap (λ l. slice_get l 0) (flip c.rules_of-rules.ensures) ∙ flip (c.in-None.ensures c.args.symbol) in
    (symbol_stands (entries_of c.args.version.now) n c.args.symbol c.args.self.now.pool c.args.stack.now c.args.head c.requires.symbol q, c.requires.head)

pub returns-in_ok-body-in-Some-Body-clause-gives : goal.returns-in_ok-body-in-Some-Body-clause-gives
returns-in_ok-body-in-Some-Body-clause-gives c = λ n.
    let b : Tree = stored_term c.in-Some-Body.stored.now in
    let q : slice_get (rules_of (entries_of c.args.version.now) c.args.symbol) 0 ≡ Some (unfolding_rule c.args.symbol b) =
    ap (λ l. slice_get l 0) (flip c.rules_of-rules.ensures) ∙ flip (rw c.in-Some-Body.field-0-is at (c.in-Some-Body.ensures c.args.symbol)) in
    let l = c.in_ok-body-in-Some-Body.ensures in
    let d = rw c.in-Some-Body.field-0-is at l.denotes in (
      symbol_unfolds (entries_of c.args.version.now) n c.args.symbol c.args.self.now.pool c.load.new.self c.args.stack.now b c.in_ok-body-in-Some-Body.body q (flip d)
          l.keeps c.requires.stack,
      l.within,
    )

pub returns-in-None-clause-serves : goal.returns-in-None-clause-serves
returns-in-None-clause-serves c =
    let S : PlainSignature = entries_of c.args.version.now in
    let s = c.requires.serves in
    let q : slice_get (rules_of S c.args.symbol) 0 ≡ None = ap (λ l. slice_get l 0) (flip c.rules_of-rules.ensures) ∙ flip (c.in-None.ensures c.args.symbol) in
    record {
      loaded = s.loaded;
      heads = heads_put S c.args.self.now.pool c.args.self.now.heads c.put.new.self c.args.symbol 0 Stands s.heads q c.put.ensures;
      values = s.values;
      normals = s.normals;
      answers = s.answers;
      trees = s.trees;
    }

pub returns-in_ok-body-in-Some-Body-clause-serves : goal.returns-in_ok-body-in-Some-Body-clause-serves
returns-in_ok-body-in-Some-Body-clause-serves c =
    let S : PlainSignature = entries_of c.args.version.now in
    let b : Tree = stored_term c.in-Some-Body.stored.now in
    let q : slice_get (rules_of S c.args.symbol) 0 ≡ Some (unfolding_rule c.args.symbol b) =
    ap (λ l. slice_get l 0) (flip c.rules_of-rules.ensures) ∙ flip (rw c.in-Some-Body.field-0-is at (c.in-Some-Body.ensures c.args.symbol)) in
    let l = c.in_ok-body-in-Some-Body.ensures in
    let d = rw c.in-Some-Body.field-0-is at l.denotes in
    let s = serves_grown S c.args.self.now c.load.new.self l.keeps c.requires.serves in
    record {
      loaded = s.loaded;
      heads = heads_put S c.load.new.self c.args.self.now.heads c.put-in-Some-Body.new.self c.args.symbol 0 (Unfolds c.in_ok-body-in-Some-Body.body) s.heads
          (l.within, q ∙ ap (λ (t : Tree). Some (unfolding_rule c.args.symbol t)) (flip d)) c.put-in-Some-Body.ensures;
      values = s.values;
      normals = s.normals;
      answers = s.answers;
      trees = s.trees;
    }
