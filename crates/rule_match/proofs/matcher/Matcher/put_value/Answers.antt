use Rattle.std.proofs.Common.{◌≡◌, ◌∙◌, List, Vec, Global, ap, subst, sym as flip, length}
use Rattle.shared_term.specs.Pools.{term}
use Rattle.rule_match.specs.declared.value.Column.{Column}
use Rattle.rule_match.specs.declared.matcher.Matcher.{Matcher}
use Rattle.rule_match.specs.declared.matcher.Stage.TheVariants.{Begins}
use Rattle.rule_match.specs.Columns.{AreColumns}
use Rattle.rule_match.specs.Matching.{selects, after_value}
use Rattle.rule_match.specs.Columns.{value_put}
use Rattle.rule_match.proofs.Following.{value_there, depth_got}
use Rattle.rule_match.proofs.Matching.{asks_on}
use Rattle.rule_match.proofs.Asking.{put_within}
use Rattle.rule_match.proofs.Placing.{next_placed}
use Rattle.rule_match.proofs.matcher.Matcher.put_value.Goals as goal

pub try_row-requires : goal.try_row-requires
try_row-requires c =
    let e : c.in_ok-self-2.field-0.items ≡ value_put c.args.self.now.columns.items c.args.at c.args.value c.in_ok-key.parts.items =
    c.in_ok-self-2.ensures ∙ ap (λ (u : Vec Column Global). value_put u.items c.args.at c.args.value c.in_ok-key.parts.items) c.replace-columns.ensures.value in record {
      columns = subst (λ (l : List Column). AreColumns (length c.args.pool.now) l) (flip e)
          (put_within (length c.args.pool.now) c.args.at c.args.self.now.columns.items c.args.value c.in_ok-key.parts.items c.requires.within.columns c.requires.value c.in_ok-key.ensures.within);
      captures = c.requires.within.captures;
      stage = tt;
      tried = tt;
      placed = next_placed c.args.self.now.source c.args.self.now.left c.in_ok-self.field-0 c.args.self.now.tried c.in_ok-key.key c.args.at c.requires.within.placed c.in_ok-self.ensures;
    }

pub returns-clause-asks : goal.returns-clause-asks
returns-clause-asks c =
    let m1 : Matcher = record c.args.self.now { columns = c.in_ok-self-2.field-0; left = c.in_ok-self.field-0; tried = 0; stage = Begins } in
    let e : c.in_ok-self-2.field-0.items ≡ value_put c.args.self.now.columns.items c.args.at c.args.value c.in_ok-key.parts.items =
    c.in_ok-self-2.ensures ∙ ap (λ (u : Vec Column Global). value_put u.items c.args.at c.args.value c.in_ok-key.parts.items) c.replace-columns.ensures.value in
    asks_on c.try_row.result c.try_row.new.pool c.try_row.new.self c.args.self.now m1 (λ rules S. selects S rules c.args.pool.now m1)
    (λ rules S. after_value S rules c.args.pool.now c.args.self.now c.args.at (term c.args.pool.now c.args.value))
    (λ rules s. record { source = s.source; left = (c.in_ok-self.ensures rules s.source s.left).is })
    (λ rules s S n. value_there S rules c.args.self.now.source c.args.pool.now c.args.self.now.columns.items c.args.at c.column_of-depth.result.depth c.args.value c.in_ok-key.parts.items
    c.in_ok-self-2.field-0.items c.args.self.now.left c.in_ok-self.field-0 c.args.self.now.tried c.in_ok-key.key n
    (depth_got c.args.self.now.columns.items c.args.at c.column_of-depth.result (rw c.as_slice.ensures.value at c.column_of-depth.ensures)) c.in_ok-key.ensures.opens c.in_ok-key.ensures.key
    (c.in_ok-self.ensures rules s.source s.left) e)
    c.try_row.ensures.asks
