use Rattle.std.proofs.Common.{ap}
use Rattle.scope_terms.specs.Reading.{module_of}
use Rattle.scope_terms.proofs.Known.{standing_found}
use Rattle.scope_terms.proofs.modules.Modules.standing.Goals as goal

pub returns-in-Some-get : goal.returns-in-Some-get
returns-in-Some-get c =
    standing_found c.args.self.now c.as_bytes.result.now c.in-Some.module_name.now (module_of c.args.module_name) c.in-Some-get.declared.now c.in-Some-get.ensures.value c.as_bytes.ensures.value (ap module_of c.in-Some.is)
