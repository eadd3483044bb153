-- What was loaded before, and what is loaded now.
use Rattle.std.proofs.Common.{◌≡◌, ◌∙◌, ap, sym as flip, Some}
use Rattle.std.specs.Prelude.{slice_get}
use Rattle.dk_model.specs.Trees.{Tree}
use Rattle.dk_model.specs.SymbolRules.{rules_of}
use Rattle.signature_log.specs.Versions.{entries_of}
use Rattle.conversion.specs.Rules.{plain_rule_of}
use Rattle.conversion.proofs.Serving.{loaded_grown, heads_grown, values_grown, normals_grown, answers_grown, loaded_put}
use Rattle.conversion.proofs.Selecting.{right_is}
use Rattle.conversion.proofs.state.PoolReducer.brought.Goals as goal

pub returns-in-Some-clause-gives : goal.returns-in-Some-clause-gives
returns-in-Some-clause-gives c = c.requires.serves.loaded.each c.args.symbol c.args.at c.in-Some.found c.in-Some.ensures

pub returns-clause-serves : goal.returns-clause-serves
returns-clause-serves c =
    let at : slice_get (rules_of (entries_of c.args.version.now) c.args.symbol) c.args.at ≡ Some (plain_rule_of c.rule_at-rule.result) =
    ap (λ l. slice_get l c.args.at) (flip c.rules_of.ensures) ∙ c.rule_at-rule.ensures.rule in
    let k = c.in_ok-right.ensures.keeps in
    record {
      loaded = loaded_put (entries_of c.args.version.now) c.load.new.self c.args.self.now.loaded c.put.new.self c.args.symbol c.args.at c.in_ok-right.right
          (loaded_grown (entries_of c.args.version.now) c.args.self.now.pool c.load.new.self c.args.self.now.loaded k c.requires.serves.loaded)
          (record {
            there = c.in_ok-right.ensures.within;
            is = right_is (entries_of c.args.version.now) c.args.symbol c.args.at (plain_rule_of c.rule_at-rule.result) at ∙ ap (λ (t : Tree). Some t) (flip (c.in_ok-right.ensures.denotes ∙ c.right.ensures));
          }) c.put.ensures;
      heads = heads_grown (entries_of c.args.version.now) c.args.self.now.pool c.load.new.self c.args.self.now.heads k c.requires.serves.heads;
      values = values_grown (entries_of c.args.version.now) c.args.self.now.pool c.load.new.self c.args.self.now.values k c.requires.serves.values;
      normals = normals_grown (entries_of c.args.version.now) c.args.self.now.pool c.load.new.self c.args.self.now.normals k c.requires.serves.normals;
      answers = answers_grown (entries_of c.args.version.now) c.args.self.now.pool c.load.new.self c.args.self.now.answers k c.requires.serves.answers;
      trees = c.requires.serves.trees;
    }
