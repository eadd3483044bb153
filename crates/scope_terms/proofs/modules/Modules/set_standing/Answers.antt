use Rattle.scope_terms.proofs.Known.{changed_standing}
use Rattle.scope_terms.proofs.modules.Modules.set_standing.Goals as goal

pub returns-in-Named : goal.returns-in-Named
returns-in-Named c =
    let e = c.pair_mut-declared.ensures in changed_standing c.args.self.now c.in-Named.at _ _ e.unique e.value c.args.place c.in-Named.is c.args.standing
