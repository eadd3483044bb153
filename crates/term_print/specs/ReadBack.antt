-- For callers: where a printed term is read and scoped as the same term (docs/printing.md).
use Rattle.std.specs.Prelude.{◌≡◌, ◌<◌, ◌≤◌, ◌+◌, ◌^◌, max, ℕ, Option, Some, None, List, [], ◌∷◌, ◌++◌, codes, length}
use Rattle.std.specs.Map.{lookup}
use Rattle.dk_model.specs.Bounds.{IsClosedAt}
use Rattle.dk_model.specs.PlainTerms.{Tree, star, kind, symbol, variable, rule_variable, apply, bare, annotated, product}
use Rattle.dk_model.specs.Scoping.{PlainCommand}
use Rattle.dk_model.specs.declared.limits.Limits.{Limits}
use Rattle.dk_lexer.specs.Tokens.{command_limit, input_limit}
use Rattle.dk_lexer.specs.Tokens as lexer
use Rattle.dk_terms.specs.declared.terminal.Terminal.{Terminal}
use Rattle.dk_terms.specs.declared.terminal.Terminal.TheVariants as terminal
use Rattle.dk_terms.specs.Signs.{defined, dot}
use Rattle.dk_parser.specs.Levels.{IsWithin}
use Rattle.dk_parser.specs.FileReading.{read, whole}
use Rattle.dk_parser.specs.Written.{WrittenForm}
use Rattle.scope_terms.specs.Scopes.{Module, Symbols, Spelling, own_of, number_of, numbers_in, same_spelling, scoped, scope_of, spelling_of}
use Rattle.term_print.specs.Named.{Word, binder_name, spellings, written_term}
use Rattle.term_print.specs.Spelled.{spelled}
use Rattle.term_print.specs.Printing.{printed}
use Rattle.term_print.specs.Readable.{IsSpelt}
use Rattle.term_print.specs.Text.{terminal_text}
use Rattle.term_print.specs.declared.place.Place.TheVariants as place

abbrev pub word_terminal : Word → Terminal
word_terminal w = elim w.module_name [ None ↦ terminal.Name w.spelling | Some m ↦ terminal.Qualified m w.spelling ]

-- the module in which a word is looked for, where it stands in module m: its own, else m
abbrev pub module_of_word : Module → Word → Module
module_of_word m w = elim w.module_name [ None ↦ m | Some n ↦ Some n ]

-- the word of symbol k is declared with this number
abbrev pub IsDeclared : Symbols → Module → ℕ → Word → Type 0
IsDeclared symbols m k w = lookup (same_spelling w.spelling) (numbers_in symbols (module_of_word m w)) ≡ Some k

module _ (P : ℕ → Type 0) where
  -- no `Kind`, no annotation and no rule variable; and this holds of each symbol
  abbrev pub IsReadableBy : Tree → Type 0
  IsReadableBy star = Unit {0}
  IsReadableBy kind = ⊥
  IsReadableBy (symbol k) = P k
  IsReadableBy (variable k) = Unit {0}
  IsReadableBy (rule_variable k) = ⊥
  IsReadableBy (apply f a) = IsReadableBy f × IsReadableBy a
  IsReadableBy (bare b) = IsReadableBy b
  IsReadableBy (annotated n b) = ⊥
  IsReadableBy (product a b) = IsReadableBy a × IsReadableBy b

-- the words of the symbols are declared
abbrev pub CanBeRead : Symbols → Module → (ℕ → Word) → Tree → Type 0
CanBeRead symbols m words t = IsReadableBy (λ k. IsDeclared symbols m k (words k)) t

-- what the second module declares can be named in the first: that of the module without a name only there
abbrev pub CanBeNamed : Module → Module → Type 0
CanBeNamed m None = m ≡ None
CanBeNamed m (Some n) = Unit {0}

abbrev pub HasWord : Module → Option (Module × Spelling) → Type 0
HasWord m None = ⊥
HasWord m (Some s) = CanBeNamed m s.0

-- each symbol is declared, in this module or in one with a name
abbrev pub CanBeWritten : Symbols → Module → Tree → Type 0
CanBeWritten symbols m t = IsReadableBy (λ k. HasWord m (spelling_of symbols k)) t

-- the words of the symbols are read as names
abbrev pub SymbolsSpelt : ℕ → (ℕ → Word) → Tree → Type 0
SymbolsSpelt limit words (symbol k) = IsSpelt limit (word_terminal (words k))
SymbolsSpelt limit words (apply f a) = SymbolsSpelt limit words f × SymbolsSpelt limit words a
SymbolsSpelt limit words (bare b) = SymbolsSpelt limit words b
SymbolsSpelt limit words (annotated n b) = SymbolsSpelt limit words n × SymbolsSpelt limit words b
SymbolsSpelt limit words (product a b) = SymbolsSpelt limit words a × SymbolsSpelt limit words b
SymbolsSpelt limit words t = Unit {0}

-- the command `def c := TERM .`, with the printed term
abbrev pub definition : (ℕ → Word) → List ℕ → Tree → List Terminal
definition words c t = terminal.Def ∷ terminal.Name c ∷ defined ∷ (spelled place.Term (written_term words t) ++ dot ∷ [])

-- its bytes
abbrev pub definition_text : (ℕ → Word) → List ℕ → Tree → List ℕ
definition_text words c t = codes "def " ++ (c ++ (codes " := " ++ (printed words t ++ codes " .")))

-- how many binders stand in each other's scope at most
abbrev pub binders_deep : Tree → ℕ
binders_deep (apply f a) = max (binders_deep f) (binders_deep a)
binders_deep (bare b) = binders_deep b + 1
binders_deep (annotated n b) = max (binders_deep n) (binders_deep b + 1)
binders_deep (product a b) = max (binders_deep a) (binders_deep b + 1)
binders_deep t = 0

-- the term is closed, and can be spelt in this module with names that aren't too long
pub record IsReadable (limits : Limits) (symbols : Symbols) (m : Module) (words : ℕ → Word) (t : Tree) : Type 0 where
  pub closed : IsClosedAt 0 t
  pub readable : CanBeRead symbols m words t
  pub symbols_spelt : SymbolsSpelt limits.name_bytes words t
  pub deep : binders_deep t < 2 ^ 64
  pub binders : (d : ℕ) → d < binders_deep t → length (binder_name (spellings words t) d) ≤ limits.name_bytes
  pub short_words : 4 ≤ limits.name_bytes

-- and the command with it is within the limits
pub record FitsIn (limits : Limits) (command : List Terminal) (bytes : List ℕ) : Type 0 where
  pub levels : IsWithin limits.levels command
  pub command_bytes : length bytes ≤ command_limit limits
  pub input_bytes : length bytes ≤ input_limit limits

-- the term can be read in a definition of this name, which is new in the module
pub record IsWritable (limits : Limits) (symbols : Symbols) (m : Module) (words : ℕ → Word) (c : List ℕ) (t : Tree) : Type 0 where
  pub term : IsReadable limits symbols m words t
  pub fits : FitsIn limits (definition words c t) (definition_text words c t)
  pub name : IsSpelt limits.name_bytes (terminal.Name c)
  pub is_new : number_of (own_of symbols m) c ≡ None

-- the command that is this word, the printed term and a dot, and its bytes: `#EVAL TERM .`
abbrev pub asking : Terminal → (ℕ → Word) → Tree → List Terminal
asking w words t = w ∷ (spelled place.Term (written_term words t) ++ dot ∷ [])

abbrev pub asking_text : Terminal → (ℕ → Word) → Tree → List ℕ
asking_text w words t = terminal_text w ++ (codes " " ++ (printed words t ++ codes " ."))

-- the term can be read behind this word
pub record IsAskable (limits : Limits) (symbols : Symbols) (m : Module) (words : ℕ → Word) (w : Terminal) (t : Tree) : Type 0 where
  pub term : IsReadable limits symbols m words t
  pub fits : FitsIn limits (asking w words t) (asking_text w words t)

-- the bytes are read as one command, which is scoped in this module as that one
pub record ReadsAs (limits : Limits) (symbols : Symbols) (m : Module) (bytes : List ℕ) (command : PlainCommand) : Type 0 where
  pub line : ℕ
  pub form : WrittenForm
  pub is : read limits bytes lexer.whole ≡ record { commands = record { line = line; form = form } ∷ []; tail = whole }
  pub means : scope_of symbols m form ≡ scoped command
