use Rattle.std.proofs.Common.{◌+◌, refl}
use Rattle.rule_match.specs.declared.matcher.Matcher.{Matcher}
use Rattle.rule_match.specs.declared.matcher.Stage.TheVariants.{Begins}
use Rattle.rule_match.specs.Matching.{selects, fails}
use Rattle.rule_match.proofs.Matching.{asks_on}
use Rattle.rule_match.proofs.matcher.Matcher.next_row.Goals as goal

pub try_row-requires : goal.try_row-requires
try_row-requires c = record {
  columns = c.requires.within.columns;
  captures = c.requires.within.captures;
  stage = tt;
  tried = tt;
  placed = c.requires.within.placed;
}

pub returns-clause-asks : goal.returns-clause-asks
returns-clause-asks c =
    let m1 : Matcher = record c.args.self.now { tried = c.args.self.now.tried + 1; stage = Begins } in
    asks_on c.try_row.result c.try_row.new.pool c.try_row.new.self c.args.self.now m1 (λ rules S. selects S rules c.args.pool.now m1) (λ rules S. fails S rules c.args.pool.now c.args.self.now)
    (λ rules s. record { source = s.source; left = s.left })
    (λ rules s S n. refl) c.try_row.ensures.asks
