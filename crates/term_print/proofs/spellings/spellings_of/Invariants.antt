use Rattle.std.proofs.Common.{◌≡◌, ◌||◌}
use Rattle.scope_terms.specs.Scopes.{Spelling}
use Rattle.term_print.specs.Named.{has, spellings}
use Rattle.term_print.specs.Walks.{some_spelt, sizes}
use Rattle.term_print.proofs.spellings.spellings_of.Given as goal

abbrev pub invariant-parts : goal.invariant-parts
invariant-parts g l = (x : Spelling) → has (spellings (g.W.Words.word l.words) (g.S.Source.denotes l.source l.fn.whole)) x
    ≡ (has l.search.found x || some_spelt (g.S.Source.denotes l.source) (g.W.Words.word l.words) l.search.left.items x)

abbrev pub decreases-parts : goal.decreases-parts
decreases-parts g l = sizes (g.S.Source.denotes l.source) l.search.left.items
