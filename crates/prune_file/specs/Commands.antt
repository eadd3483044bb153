-- For proofs: the commands of a file that were found so far, and what is chosen of them.
use Rattle.std.specs.Prelude.{◌≡◌, ◌<◌, ℕ, Bool, true, false, List, [], ◌∷◌, ◌++◌, length, map, take, drop, Option, Some, None, if◌then◌else◌}
use Rattle.dk_model.specs.Scoping.{PlainCommand, plain_command}
use Rattle.dk_model.specs.declared.limits.Limits.{Limits}
use Rattle.dk_parser.specs.Modules.{is_directive}
use Rattle.dk_parser.specs.RawViews.{written_form}
use Rattle.dk_parser.specs.Written.{WrittenCommand, WrittenForm}
use Rattle.scope_terms.specs.Names.{reading}
use Rattle.scope_terms.specs.Reading.{Reading, after_command, current}
use Rattle.scope_terms.specs.Scopes.{Module, Symbols, names_after, no_symbols, scope_of, scoped}
use Rattle.text_law.specs.Texts.{forms_of}
use Rattle.file_reader.specs.Progress.{IsBehind}
use Rattle.file_reader.specs.declared.reader.Next.{Next}
use Rattle.file_reader.specs.declared.reader.Next.TheVariants as next
use Rattle.file_reader.specs.declared.reader.Reader.{Reader}
use Rattle.command_texts.specs.declared.span.Span.{Span}
use Rattle.prune_file.specs.declared.commands.Commands.{Commands}
use Rattle.prune_file.specs.Files.{commands_in}
use Rattle.prune_file.specs.Pruned.{declared_at, declares}

-- commands of a module, one after the other, are scoped so
abbrev pub AreScoped : Module → Symbols → List WrittenForm → List PlainCommand → Type 0
AreScoped own A [] [] = Unit {0}
AreScoped own A (f ∷ fs) (c ∷ cs) = (scope_of A own f ≡ scoped c) × AreScoped own (names_after A own f) fs cs
AreScoped own A fs cs = ⊥

-- the symbols behind them
abbrev pub symbols_behind : Module → Symbols → List WrittenForm → Symbols
symbols_behind own A [] = A
symbols_behind own A (f ∷ fs) = symbols_behind own (names_after A own f) fs

-- the spans of the commands among these commands and directives, which have these spans
abbrev pub spans_in : List WrittenCommand → List Span → List Span
spans_in (c ∷ cs) (span ∷ spans) = if is_directive c.form then spans_in cs spans else span ∷ spans_in cs spans
spans_in cs spans = []

-- ---- what was found

pub record Found : Type 0 where
  pub commands : List PlainCommand
  pub spans : List Span
  pub place : Option ℕ
  pub names : Reading

abbrev pub found_of : Commands → Found
found_of s = record { commands = map plain_command s.scoped.items; spans = s.spans.items; place = s.place; names = reading s.names }

-- nothing yet
abbrev pub nothing_found : Reading → Found
nothing_found names = record { commands = []; spans = []; place = None; names = names }

-- the place of the command that declares the name, where the next one, at this place, may be it
abbrev pub place_with : List ℕ → WrittenForm → ℕ → Option ℕ → Option ℕ
place_with name form place None = if declares name form then Some place else None
place_with name form place (Some found) = Some found

-- one more command was found
pub record Adds (name : List ℕ) (form : WrittenForm) (span : Span) (old new : Found) : Type 0 where
  pub command : PlainCommand
  pub scopes : scope_of old.names.symbols (current old.names) form ≡ scoped command
  pub commands : new.commands ≡ old.commands ++ command ∷ []
  pub spans : new.spans ≡ old.spans ++ span ∷ []
  pub place : new.place ≡ place_with name form (length old.commands) old.place
  pub names : new.names ≡ after_command old.names form

-- one more command, or a directive, which adds nothing
abbrev pub TakesBy : Bool → List ℕ → WrittenForm → Span → Found → Found → Type 0
TakesBy true name form span old new = new ≡ old
TakesBy false name form span old new = Adds name form span old new

abbrev pub Takes : List ℕ → WrittenForm → Span → Found → Found → Type 0
Takes name form span old new = TakesBy (is_directive form) name form span old new

abbrev pub TakesNext : List ℕ → Next → Span → Found → Found → Type 0
TakesNext name (next.Command raw) span old new = Adds name (written_form raw.form) span old new
TakesNext name (next.Directive raw) span old new = new ≡ old

-- the first of these spans is that of the next one, and these are behind it
pub record TakesFirst (name : List ℕ) (next : Next) (spans behind : List Span) (old new : Found) : Type 0 where
  pub span : Span
  pub first : spans ≡ span ∷ behind
  pub takes : TakesNext name next span old new

-- these commands and directives, with these spans, were gone through
pub record HasTaken (own : Module) (name : List ℕ) (done : List WrittenCommand) (spans : List Span) (s : Found) : Type 0 where
  pub even : length spans ≡ length done
  pub own_is : current s.names ≡ own
  pub symbols : s.names.symbols ≡ symbols_behind own no_symbols (forms_of (commands_in done))
  pub scoped : AreScoped own no_symbols (forms_of (commands_in done)) s.commands
  pub spans_are : s.spans ≡ spans_in done spans
  pub place : s.place ≡ declared_at name (commands_in done)

-- the reader has come so far in the file
pub record Stands (limits : Limits) (own : Module) (name bytes : List ℕ) (all : List Span) (done : List WrittenCommand) (reader : Reader) (left : List ℕ) (rest : List Span) (s : Found) : Type 0 where
  pub behind : IsBehind limits bytes done (Some left) reader
  pub before : List Span
  pub split : all ≡ before ++ rest
  pub taken : HasTaken own name done before s

-- what is found of a file of these commands and directives, of which each has a span
pub record HasAll (own : Module) (name : List ℕ) (items : List WrittenCommand) (spans : List Span) (s : Found) : Type 0 where
  pub scoped : AreScoped own no_symbols (forms_of (commands_in items)) s.commands
  pub spans_are : s.spans ≡ spans_in items spans
  pub place : s.place ≡ declared_at name (commands_in items)

-- ---- some of a list

-- those at these places
abbrev pub at_places : {A : Type 0} → List A → List ℕ → List A
at_places xs [] = []
at_places xs (place ∷ places) = take 1 (drop place xs) ++ at_places xs places

abbrev pub AllBelow : ℕ → List ℕ → Type 0
AllBelow n [] = Unit {0}
AllBelow n (place ∷ places) = (place < n) × AllBelow n places
