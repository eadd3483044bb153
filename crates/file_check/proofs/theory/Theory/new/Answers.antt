use Rattle.std.proofs.Common.{◌∙◌, ap}
use Rattle.scope_terms.specs.Reading.{Reading, after_entering}
use Rattle.file_check.proofs.theory.Theory.new.Goals as goal

pub returns-clause-entered : goal.returns-clause-entered
returns-clause-entered c = c.in-Ok.ensures ∙ ap (λ (r : Reading). after_entering r c.args.own.now) c.in_ok-names.ensures
