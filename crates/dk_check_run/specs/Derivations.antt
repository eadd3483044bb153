-- Trusted: that each command of a theory has a derivation over the commands before it (docs/derivations.md).
use Rattle.std.specs.Prelude.{ℕ, List, [], ◌∷◌, ◌++◌, Option}
use Rattle.dk_io.specs.Bytes.{Books}
use Rattle.dk_model.specs.Scoping.{PlainCommand}
use Rattle.dk_model.specs.Signatures.{PlainEntry}
use Rattle.dk_model.specs.declared.limits.Limits.{Limits}
use Rattle.scope_terms.specs.Scopes.{Scoping, names_after, refused, scope_of, scoped}
use Rattle.typing_model.specs.Derivations.{HasDerivation}
use Rattle.command_line.specs.Requests.{CheckRequest, MakeRequest}
use Rattle.theory_walk.specs.Walks.{Placed, module_in}
use Rattle.file_report.specs.Outcomes.{Theory, no_theory, scoped_entry}
use Rattle.file_report.specs.Theories.{scoped_at, theory_with}
use Rattle.book_reader.specs.Shelved.{Setting, walk_in, whole_library}
use Rattle.dk_check_run.specs.Books.{asked_setting, made_setting}

-- a command has a derivation over the commands before it
abbrev pub IsDerived : Theory → Scoping PlainCommand → Type 0
IsDerived T (scoped command) = HasDerivation T.signature command
IsDerived T (refused code) = ⊥

-- a command in its book, with the entries that it adds
pub record Entered : Type 0 where
  pub placed : Placed
  pub entries : List PlainEntry

-- where this is the file's own module
module _ (own : Option (List ℕ)) where
  -- the theory with a command and its entries
  abbrev pub with_entered : Theory → Entered → Theory
  with_entered T e = record { names = names_after T.names (module_in own e.placed.book) e.placed.command.form; signature = T.signature ++ e.entries }

  -- each declared type, body and rule has a derivation over the entries before it
  abbrev pub AllDerived : Theory → List Entered → Type 0
  AllDerived T [] = Unit {0}
  AllDerived T (e ∷ es) = IsDerived T (scope_of T.names (module_in own e.placed.book) e.placed.command.form) × AllDerived (with_entered T e) es

-- the commands after a theory, each with the entries that the plain check gives it
abbrev pub entered : Setting → ℕ → Theory → List Placed → List Entered
entered s budget T [] = []
entered s budget T (c ∷ cs) =
    record { placed = c; entries = scoped_entry T.signature budget (scoped_at s.limits budget s.own T c) } ∷ entered s budget (theory_with s.limits budget s.own T c) cs

-- each declared type, body and rule of the books has a derivation over the commands before it, in the order of first need
abbrev pub AreBooksDerived : Setting → ℕ → Type 0
AreBooksDerived s budget = AllDerived s.own no_theory (entered s budget no_theory (walk_in s (whole_library s)).commands)

-- each of the file that is asked for and of all that it needs
abbrev pub IsTheoryDerived : Limits → CheckRequest → Books → Type 0
IsTheoryDerived limits q books = AreBooksDerived (asked_setting limits q books) q.budget

-- and each of the made theory
abbrev pub IsMadeDerived : Limits → MakeRequest → Type 0
IsMadeDerived limits q = AreBooksDerived (made_setting limits q) q.budget
