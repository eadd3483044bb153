use Rattle.std.proofs.Common.{◌∙◌, ap}
use Rattle.scope_terms.specs.Reading.{Reading, after_entering}
use Rattle.theory_reading.proofs.names.names_in.Goals as goal

pub returns : goal.returns
returns c = c.in_ok-enter_module.ensures ∙ ap (λ (r : Reading). after_entering r c.args.own.now) c.in_ok-names.ensures
