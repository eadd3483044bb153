-- Trusted: what an accepted file is pruned to for a name (docs/pruning.md).
use Rattle.std.specs.Prelude.{◌≡◌, ℕ, Bool, true, false, List, [], ◌∷◌, Option, Some, None, if◌then◌else◌}
use Rattle.std.specs.Str.{bytes_eq}
use Rattle.dk_model.specs.declared.limits.Limits.{Limits}
use Rattle.dk_parser.specs.Modules.{is_directive}
use Rattle.dk_parser.specs.Written.{WrittenCommand, WrittenForm, written_declare}
use Rattle.scope_terms.specs.Scopes.{Module, number_from}
use Rattle.text_law.specs.Cuts.{AreTextsOf, IsReadAs, lines}
use Rattle.verdict_book.specs.Report.{concat}
use Rattle.prune_theory.specs.Resting.{Rests, picked}
use Rattle.prune_file.specs.Files.{IsAccepted, commands_in}

-- the texts of the commands among these commands and directives, which have these texts
abbrev pub texts_in : List WrittenCommand → List (List ℕ) → List (List ℕ)
texts_in (c ∷ cs) (text ∷ texts) = if is_directive c.form then texts_in cs texts else text ∷ texts_in cs texts
texts_in cs texts = []

-- it declares this name, as it is spelt
abbrev pub declares : List ℕ → WrittenForm → Bool
declares name (written_declare sort x params typ body) = bytes_eq x name
declares name form = false

-- the place among these commands, counted from 0, of the one that declares the name
abbrev pub declared_at : List ℕ → List WrittenCommand → Option ℕ
declared_at name cs = number_from 0 (λ c. declares name c.form) cs

-- no command of the file with these bytes declares the name
pub record IsUnknown (limits : Limits) (name bytes : List ℕ) : Type 0 where
  pub items : List WrittenCommand
  pub reads : IsReadAs limits bytes items
  pub none : declared_at name (commands_in items) ≡ None

-- the text has the commands of this accepted file on which the one rests that declares the name, in their order, each from its
-- first token to its dot on lines of its own
pub record IsPruned (limits : Limits) (own : Module) (budget : ℕ) (name bytes text : List ℕ) : Type 0 where
  pub file : IsAccepted limits own budget bytes
  pub texts : List (List ℕ)
  pub texts_are : AreTextsOf limits bytes file.items texts
  pub place : ℕ
  pub declared : declared_at name (commands_in file.items) ≡ Some place
  -- those that are kept: just the ones on which it rests
  pub keep : ℕ → Bool
  pub kept_rests : (i : ℕ) → keep i ≡ true → Rests file.commands place i
  pub rests_kept : (i : ℕ) → Rests file.commands place i → keep i ≡ true
  pub text_is : text ≡ concat (lines (picked keep 0 (texts_in file.items texts)))
