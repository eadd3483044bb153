-- For proofs: what is left to print, as terminals, and what putting one does.
use Rattle.std.specs.Prelude.{◌≡◌, ℕ, ◌+◌, ◌*◌, Bool, true, false, List, [], ◌∷◌, ◌++◌}
use Rattle.dk_lexer.specs.declared.token.Sign.{Sign}
use Rattle.dk_lexer.specs.declared.token.Sign.TheVariants as sign
use Rattle.dk_model.specs.PlainTerms.{Tree}
use Rattle.dk_terms.specs.declared.terminal.Terminal.{Terminal}
use Rattle.dk_terms.specs.declared.terminal.Terminal.TheVariants as terminal
use Rattle.scope_terms.specs.Scopes.{Spelling}
use Rattle.term_print.specs.Named.{Word, binder_name, written_at}
use Rattle.term_print.specs.Products.{named_last, size}
use Rattle.term_print.specs.Spelled.{in_brackets, spelled}
use Rattle.term_print.specs.Text.{text_behind}
use Rattle.term_print.specs.declared.place.Place.{Place}
use Rattle.term_print.specs.declared.place.Place.TheVariants as place
use Rattle.term_print.specs.declared.task.Subterm.{Subterm}
use Rattle.term_print.specs.declared.task.Task.{Task}
use Rattle.term_print.specs.declared.task.Task.TheVariants as task
use Rattle.term_print.specs.declared.text.Mark.{Mark}
use Rattle.term_print.specs.declared.text.Mark.TheVariants as mark
use Rattle.term_print.specs.declared.text.Text.{Text}

abbrev pub mark_sign : Mark → Sign
mark_sign mark.Colon = sign.Colon
mark_sign mark.Arrow = sign.Arrow
mark_sign mark.DoubleArrow = sign.DoubleArrow

-- what a text becomes with these terminals behind it
abbrev pub text_with : Text → List Terminal → List ℕ
text_with t xs = t.bytes.items ++ text_behind t.joined xs

-- the terminal is put
abbrev pub Puts : Text → Terminal → Text → Type 0
Puts old x new = (rest : List Terminal) → text_with old (x ∷ rest) ≡ text_with new rest

-- where an application, and where a product or an abstraction stands in brackets
abbrev pub is_narrow : Place → Bool
is_narrow place.Term = false
is_narrow place.Application = false
is_narrow place.Atom = true

abbrev pub is_wide : Place → Bool
is_wide place.Term = false
is_wide place.Application = true
is_wide place.Atom = true

abbrev pub bracketed_if : Bool → List Terminal → List Terminal
bracketed_if true xs = in_brackets xs
bracketed_if false xs = xs

-- ---- the parts of a term that stands so, as tasks; a body stands under one binder more

abbrev pub application_parts : Subterm → ℕ → ℕ → List Task
application_parts s f a = task.Term (record { term = f; depth = s.depth; place = place.Application }) ∷ task.Term (record { term = a; depth = s.depth; place = place.Atom }) ∷ []

abbrev pub bare_parts : Subterm → ℕ → ℕ → List Task
bare_parts s under b = task.Binder s.depth ∷ task.Mark mark.DoubleArrow ∷ task.Term (record { term = b; depth = under; place = place.Term }) ∷ []

-- a binder with its type, the mark and the body
abbrev pub bound_parts : Subterm → ℕ → ℕ → Mark → ℕ → List Task
bound_parts s under a m b = task.Binder s.depth ∷ task.Mark mark.Colon ∷ task.Term (record { term = a; depth = s.depth; place = place.Application }) ∷ task.Mark m ∷ task.Term (record { term = b; depth = under; place = place.Term }) ∷ []

abbrev pub arrow_parts : Subterm → ℕ → ℕ → ℕ → List Task
arrow_parts s under a b = task.Term (record { term = a; depth = s.depth; place = place.Application }) ∷ task.Mark mark.Arrow ∷ task.Term (record { term = b; depth = under; place = place.Term }) ∷ []

module _ (denotes : ℕ → Tree) (words : ℕ → Word) (used : List Spelling) where
  abbrev pub term_terminals : Subterm → List Terminal
  term_terminals s = spelled s.place (written_at words used s.depth (denotes s.term))

  abbrev pub terminals : Task → List Terminal
  terminals (task.Term s) = term_terminals s
  terminals (task.Binder d) = terminal.Name (binder_name used d) ∷ []
  terminals task.Open = terminal.Sign sign.OpenBracket ∷ []
  terminals task.Close = terminal.Sign sign.CloseBracket ∷ []
  terminals (task.Mark m) = terminal.Sign (mark_sign m) ∷ []

  -- all that is left, the last task first
  abbrev pub left_of : List Task → List Terminal
  left_of [] = []
  left_of (t ∷ ts) = left_of ts ++ terminals t

  -- these, the first one first
  abbrev pub before : List Task → List Terminal
  before [] = []
  before (t ∷ ts) = terminals t ++ before ts

module _ (denotes : ℕ → Tree) where
  -- which products of a task are written with a name, the last one first
  abbrev pub named_in : Task → List Bool
  named_in (task.Term s) = named_last (denotes s.term)
  named_in t = []

  -- and of a stack
  abbrev pub named_left : List Task → List Bool
  named_left [] = []
  named_left (t ∷ ts) = named_in t ++ named_left ts

  -- and of these, the first one on top
  abbrev pub named_behind : List Task → List Bool
  named_behind [] = []
  named_behind (t ∷ ts) = named_behind ts ++ named_in t

  abbrev pub weight : Task → ℕ
  weight (task.Term s) = 8 * size (denotes s.term)
  weight t = 1

  abbrev pub weights : List Task → ℕ
  weights [] = 0
  weights (t ∷ ts) = weight t + weights ts
