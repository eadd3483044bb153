-- For proofs: how far the operations of a written term have been made.
use Rattle.std.specs.Prelude.{◌≡◌, ℕ, List, [], ◌∷◌, Option, Some, None, drop}
use Rattle.dk_model.specs.Trees.{Tree, annotated, bare, product}
use Rattle.dk_parser.specs.RawViews.{written}
use Rattle.dk_parser.specs.Written.{Written}
use Rattle.dk_terms.specs.Makes.{MakesTerm}
use Rattle.dk_terms.specs.Postfix.{Item, begun_binder, item_scope, item_term}
use Rattle.dk_terms.specs.declared.operation.RawOperation.{RawOperation}
use Rattle.dk_terms.specs.declared.operation.RawOperation.TheVariants as operation
use Rattle.dk_terms.specs.declared.operation.Wrap.{Wrap}
use Rattle.dk_terms.specs.declared.operation.Wrap.TheVariants as wrap
use Rattle.dk_terms.specs.declared.raw.RawTerm.{RawTerm}
use Rattle.scope_terms.specs.Binding.{binders}
use Rattle.scope_terms.specs.Meanings.{names_of, rule_variables, symbols_of}
use Rattle.scope_terms.specs.Scopes.{Binder, Scoping, both, scoped, term_of}
use Rattle.scope_terms.specs.declared.binders.Binders.{Binders}
use Rattle.scope_terms.specs.declared.meaning.Scope.{Scope}

-- what a written term stands for under these binders
abbrev pub under_binders : Scope → List Binder → Written → Scoping Tree
under_binders scope bound t = term_of (symbols_of scope) (names_of scope) (rule_variables scope) bound t

-- the binders of the scopes that have begun, on those outside of the term
abbrev pub binders_over : List Binder → List Item → List Binder
binders_over outside [] = outside
binders_over outside (item_term t ∷ items) = binders_over outside items
binders_over outside (item_scope o ∷ items) = begun_binder o ∷ binders_over outside items

-- one more on others
abbrev pub on_top : List Tree → Tree → List Tree
on_top ts x = x ∷ ts

-- what the terms among the items stand for, the last one first, on others
abbrev pub trees_over : Scope → List Binder → List Tree → List Item → Scoping (List Tree)
trees_over scope outside below [] = scoped below
trees_over scope outside below (item_term t ∷ items) = both on_top (trees_over scope outside below items) (under_binders scope (binders_over outside items) t)
trees_over scope outside below (item_scope o ∷ items) = trees_over scope outside below items

-- the operations from a place on make the term of items which are these trees, under these binders
pub record Stands (scope : Scope) (term : RawTerm) (outside : List Binder) (below : List Tree) (at : ℕ) (bound : Binders) (trees : List Tree) : Type 0 where
  pub items : List Item
  pub makes : MakesTerm term.letters (written term) (drop at term.operations) items
  pub under : binders_over outside items ≡ binders bound
  pub made : trees_over scope outside below items ≡ scoped trees

-- they do so outside of some binders and on some trees
pub record IsReady (scope : Scope) (term : RawTerm) (at : ℕ) (bound : Binders) (trees : List Tree) : Type 0 where
  pub outside : List Binder
  pub below : List Tree
  pub stands : Stands scope term outside below at bound trees

-- a scope ends here, or the list
abbrev pub IsAtEnd : Option RawOperation → Type 0
IsAtEnd None = Unit {0}
IsAtEnd (Some (operation.Wrap w)) = Unit {0}
IsAtEnd (Some x) = ⊥

-- how it does
abbrev pub wrap_of : Option RawOperation → Option Wrap
wrap_of (Some (operation.Wrap w)) = Some w
wrap_of x = None

-- how many terms a wrap takes, and what it makes of the last ones
abbrev pub wrap_parts : Wrap → ℕ
wrap_parts wrap.Bare = 1
wrap_parts w = 2

abbrev pub two_on_top : (Tree → Tree → Tree) → List Tree → List Tree
two_on_top f (y ∷ x ∷ rest) = f x y ∷ rest
two_on_top f ts = ts

abbrev pub one_on_top : (Tree → Tree) → List Tree → List Tree
one_on_top f (x ∷ rest) = f x ∷ rest
one_on_top f [] = []

abbrev pub wrap_made : Wrap → List Tree → List Tree
wrap_made wrap.Product ts = two_on_top product ts
wrap_made wrap.Bare ts = one_on_top bare ts
wrap_made wrap.Annotated ts = two_on_top annotated ts
