use Rattle.std.proofs.Common.{◌∙◌, ◌++◌, ap, refl}
use Rattle.term_print.proofs.Spelt.{spelling_added}
use Rattle.term_print.proofs.spellings.Spellings.add.Goals as goal

pub returns : goal.returns
returns c = spelling_added (λ k. k.items) c.self.inside.set.keys c.insert.new.self.keys c.extend_from_slice.new.self c.args.self.now _ c.args.spelling.now c.self.view_is refl c.in_ok-insert.ensures.keys
    (c.in_ok-extend_from_slice.ensures.items ∙ ap (λ xs. xs ++ c.args.spelling.now) c.new-key.ensures.items)
