use Rattle.std.proofs.Common.{◌∙◌, ap}
use Rattle.book_reader.specs.Walkers.{has}
use Rattle.book_reader.proofs.Names.{any_names}
use Rattle.book_reader.proofs.opened.Opened.has.Goals as goal

pub returns : goal.returns
returns c = c.contains.ensures ∙ any_names (λ (k : _). k.items) c.args.name.now c.self.inside.names.keys ∙ ap (λ l. has l c.args.name.now) c.self.view_is
