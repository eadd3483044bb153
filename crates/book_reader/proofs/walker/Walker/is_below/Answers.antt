use Rattle.std.proofs.Common.{◌∙◌, sym}
use Rattle.std.specs.Prelude.{reverse}
use Rattle.book_reader.proofs.Openings.{below_books}
use Rattle.book_reader.proofs.walker.Walker.is_below.Goals as goal

pub returns : goal.returns
returns c = c.any_below.ensures ∙ sym (below_books c.args.self.now.root.own c.args.name.now (reverse c.args.self.now.below.items))
