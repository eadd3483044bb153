use Rattle.scope_terms.proofs.Known.{table_added, table_kept, table_new}
use Rattle.scope_terms.proofs.modules.Modules.add_at.Goals as goal

pub returns-in-Named-clause-is_new : goal.returns-in-Named-clause-is_new
returns-in-Named-clause-is_new c =
    let e = c.pair_mut-declared.ensures in
    table_new c.args.self.now c.in-Named.at _ _ e.unique e.value c.args.place c.in-Named.is c.add-in-Named.result c.args.name.now c.args.number c.add-in-Named.new.self c.add-in-Named.ensures.is_new

pub returns-in-Named-clause-ok : goal.returns-in-Named-clause-ok
returns-in-Named-clause-ok c =
    let e = c.pair_mut-declared.ensures in
    table_added c.args.self.now c.in-Named.at _ _ e.unique e.value c.args.place c.in-Named.is c.add-in-Named.result c.args.name.now c.args.number c.add-in-Named.new.self c.add-in-Named.ensures.ok

pub returns-in-Named-clause-err : goal.returns-in-Named-clause-err
returns-in-Named-clause-err c =
    let e = c.pair_mut-declared.ensures in
    table_kept c.args.self.now c.in-Named.at _ _ e.unique e.value c.args.place c.in-Named.is c.add-in-Named.result c.args.name.now c.args.number c.add-in-Named.new.self c.add-in-Named.ensures.err
