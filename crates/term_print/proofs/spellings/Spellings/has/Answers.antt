use Rattle.std.proofs.Common.{◌∙◌, ap, sym}
use Rattle.term_print.specs.Named.{has}
use Rattle.term_print.proofs.Spelt.{has_listed}
use Rattle.term_print.proofs.spellings.Spellings.has.Goals as goal

pub returns : goal.returns
returns c = c.contains.ensures ∙ (sym (has_listed (λ k. k.items) c.self.inside.set.keys c.args.name.now) ∙ ap (λ ss. has ss c.args.name.now) c.self.view_is)
