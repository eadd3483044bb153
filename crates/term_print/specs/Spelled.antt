-- Trusted: the terminals of a written term, with as few brackets as the grammar allows (docs/printing.md).
use Rattle.std.specs.Prelude.{ℕ, Option, Some, None, List, [], ◌∷◌, ◌++◌}
use Rattle.dk_terms.specs.declared.terminal.Terminal.{Terminal}
use Rattle.dk_terms.specs.declared.terminal.Terminal.TheVariants as terminal
use Rattle.dk_terms.specs.Signs.{arrow, close_bracket, colon, double_arrow, open_bracket}
use Rattle.dk_terms.specs.Written.{Written, written_name, written_qualified, written_star, written_wild, written_apply, written_arrow, written_product, written_bare, written_annotated}
use Rattle.term_print.specs.declared.place.Place.{Place}
use Rattle.term_print.specs.declared.place.Place.TheVariants as place

abbrev pub in_brackets : List Terminal → List Terminal
in_brackets xs = open_bracket ∷ (xs ++ close_bracket ∷ [])

-- an application: in brackets as an argument
abbrev pub narrow : Place → List Terminal → List Terminal
narrow place.Term xs = xs
narrow place.Application xs = xs
narrow place.Atom xs = in_brackets xs

-- a product or an abstraction: in brackets but as a whole term
abbrev pub wide : Place → List Terminal → List Terminal
wide place.Term xs = xs
wide place.Application xs = in_brackets xs
wide place.Atom xs = in_brackets xs

abbrev pub binder_terminal : Option (List ℕ) → Terminal
binder_terminal None = terminal.Wildcard
binder_terminal (Some n) = terminal.Name n

-- a written term that stands at this place
abbrev pub spelled : Place → Written → List Terminal
spelled p (written_name n) = terminal.Name n ∷ []
spelled p (written_qualified m n) = terminal.Qualified m n ∷ []
spelled p written_star = terminal.Star ∷ []
spelled p written_wild = terminal.Wildcard ∷ []
spelled p (written_apply f a) = narrow p (spelled place.Application f ++ spelled place.Atom a)
spelled p (written_arrow a b) = wide p (spelled place.Application a ++ arrow ∷ spelled place.Term b)
spelled p (written_product x a b) = wide p (binder_terminal x ∷ colon ∷ (spelled place.Application a ++ arrow ∷ spelled place.Term b))
spelled p (written_bare x b) = wide p (binder_terminal x ∷ double_arrow ∷ spelled place.Term b)
spelled p (written_annotated x a b) = wide p (binder_terminal x ∷ colon ∷ (spelled place.Application a ++ double_arrow ∷ spelled place.Term b))
