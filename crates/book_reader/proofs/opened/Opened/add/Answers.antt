use Rattle.std.proofs.Common.{◌∙◌, ap, ◌++◌, ◌∷◌, []}
use Rattle.book_reader.specs.Walkers.{has}
use Rattle.book_reader.proofs.Names.{names_added}
use Rattle.book_reader.proofs.opened.Opened.add.Goals as goal

pub returns : goal.returns
returns c = record {
  ok = names_added (λ (k : _). k.items) c.self.inside.names.keys c.insert.new.self.keys c.in_ok-text.text c.args.name.now
      c.in-Ok.ensures.keys (c.in_ok-text.ensures.items_if_clones_equal (λ x y e. e))
      (ap (λ l. has l c.args.name.now) c.self.view_is ∙ c.requires)
      ∙ ap (λ l. l ++ c.args.name.now ∷ []) c.self.view_is;
}
