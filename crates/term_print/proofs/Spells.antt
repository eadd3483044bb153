-- The terminals of a written term spell it.
use Rattle.std.proofs.Common.{List, ℕ, Option, Some, None}
use Rattle.dk_terms.specs.declared.terminal.Terminal.{Terminal}
use Rattle.dk_terms.specs.Grammar.{SpellsBinder, spells_binder, spells_no_binder, SpellsAtom, SpellsApplication, SpellsTerm, spells_name, spells_qualified, spells_star, spells_wildcard, spells_brackets, spells_head, spells_applied, spells_application, spells_arrow, spells_product, spells_bare, spells_annotated}
use Rattle.dk_terms.specs.Written.{Written, written_name, written_qualified, written_star, written_wild, written_apply, written_arrow, written_product, written_bare, written_annotated}
use Rattle.term_print.specs.Spelled.{narrow, wide, binder_terminal, spelled}
use Rattle.term_print.specs.declared.place.Place.{Place}
use Rattle.term_print.specs.declared.place.Place.TheVariants as place

abbrev SpellsAt : Place → List Terminal → Written → Type 0
SpellsAt place.Term xs w = SpellsTerm xs w
SpellsAt place.Application xs w = SpellsApplication xs w
SpellsAt place.Atom xs w = SpellsAtom xs w

from_atom : (p : Place) {xs : List Terminal} {w : Written} → SpellsAtom xs w → SpellsAt p xs w
from_atom place.Term a = spells_application (spells_head a)
from_atom place.Application a = spells_head a
from_atom place.Atom a = a

from_application : (p : Place) {xs : List Terminal} {w : Written} → SpellsApplication xs w → SpellsAt p (narrow p xs) w
from_application place.Term a = spells_application a
from_application place.Application a = a
from_application place.Atom a = spells_brackets (spells_application a)

from_term : (p : Place) {xs : List Terminal} {w : Written} → SpellsTerm xs w → SpellsAt p (wide p xs) w
from_term place.Term t = t
from_term place.Application t = spells_head (spells_brackets t)
from_term place.Atom t = spells_brackets t

binder_spelled : (x : Option (List ℕ)) → SpellsBinder (binder_terminal x) x
binder_spelled None = spells_no_binder
binder_spelled (Some n) = spells_binder

spells_at : (p : Place) (w : Written) → SpellsAt p (spelled p w) w
spells_at p (written_name n) = from_atom p spells_name
spells_at p (written_qualified m n) = from_atom p spells_qualified
spells_at p written_star = from_atom p spells_star
spells_at p written_wild = from_atom p spells_wildcard
spells_at p (written_apply f a) = from_application p (spells_applied (spells_at place.Application f) (spells_at place.Atom a))
spells_at p (written_arrow a b) = from_term p (spells_arrow (spells_at place.Application a) (spells_at place.Term b))
spells_at p (written_product x a b) = from_term p (spells_product (binder_spelled x) (spells_at place.Application a) (spells_at place.Term b))
spells_at p (written_bare x b) = from_term p (spells_bare (binder_spelled x) (spells_at place.Term b))
spells_at p (written_annotated x a b) = from_term p (spells_annotated (binder_spelled x) (spells_at place.Application a) (spells_at place.Term b))

pub term_spelled : (w : Written) → SpellsTerm (spelled place.Term w) w
term_spelled w = spells_at place.Term w
