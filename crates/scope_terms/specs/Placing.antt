-- For proofs: what is made of a written term, and of a declaration.
use Rattle.std.specs.Prelude.{◌≡◌, List, None, [], ◌∷◌, map}
use Rattle.dk_model.specs.Trees.{Tree}
use Rattle.dk_parser.specs.RawViews.{written, written_param}
use Rattle.dk_parser.specs.declared.raw.RawParam.{RawParam}
use Rattle.dk_terms.specs.declared.raw.RawTerm.{RawTerm}
use Rattle.dk_parser.specs.Written.{Written, WrittenParam}
use Rattle.shared_term.specs.Changes.{joined}
use Rattle.shared_term.specs.declared.change.Pair.{Pair}
use Rattle.scope_terms.specs.Binding.{binders}
use Rattle.scope_terms.specs.Meanings.{names_of, symbols_of}
use Rattle.scope_terms.specs.Scopes.{Binder, Declaration, Numbered, Scoping, Symbols, both, no_names, scoped, term_of}
use Rattle.scope_terms.specs.declared.binders.Binders.{Binders}
use Rattle.scope_terms.specs.declared.meaning.Scope.{Scope}

-- the scoping has a term, and it was made on top of the others
pub record Pushes (s : Scoping Tree) (old new : List Tree) : Type 0 where
  pub term : Tree
  pub is : s ≡ scoped term
  pub made : new ≡ term ∷ old

-- a type under parameters is a product, and a body an abstraction
abbrev pub under_params : Symbols → Numbered → Pair → List Binder → List WrittenParam → Written → Scoping Tree
under_params symbols names pair bound [] t = term_of symbols names no_names bound t
under_params symbols names pair bound (p ∷ ps) t =
    both (joined pair) (term_of symbols names no_names bound p.typ) (under_params symbols names pair (p.binder ∷ bound) ps t)

abbrev pub under_sense : Scope → Binders → Pair → List RawParam → RawTerm → Scoping Tree
under_sense scope bound pair params t = under_params (symbols_of scope) (names_of scope) pair (binders bound) (map written_param params) (written t)

-- neither a type nor a body
abbrev pub no_parts : Declaration
no_parts = record { typ = None; body = None }
