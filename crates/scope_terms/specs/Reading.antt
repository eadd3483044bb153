-- For callers: how modules are entered and left, and which one is being read (docs/scoping.md).
use Rattle.std.specs.Prelude.{ℕ, Option, None, List, [], ◌∷◌, drop, if◌then◌else◌}
use Rattle.std.specs.Option.{option_map}
use Rattle.std.specs.Borrow.{Bor}
use Rattle.dk_parser.specs.Written.{WrittenForm}
use Rattle.scope_terms.specs.declared.modules.Entered.{Entered}
use Rattle.scope_terms.specs.declared.modules.Entered.TheVariants.{New, Known, Open}
use Rattle.scope_terms.specs.Scopes.{Module, Numbered, Spelling, Symbols, names_after, no_symbols, own_of, same_module, with_symbol}

-- what is kept of names while modules are read: the symbols, the modules that are entered and not left, the one being
-- read first, and how each module stands
pub record Reading : Type 0 where
  pub symbols : Symbols
  pub entered : List Module
  pub standing : Module → Entered

abbrev pub no_reading : Reading
no_reading = record { symbols = no_symbols; entered = []; standing = λ m. New }

-- the module being read; before any is entered it is the one without a name
abbrev pub first_module : List Module → Module
first_module [] = None
first_module (m ∷ ms) = m

abbrev pub current : Reading → Module
current reading = first_module reading.entered

-- the names of the module being read
abbrev pub own_names : Reading → Numbered
own_names reading = own_of reading.symbols (current reading)

-- with other symbols
abbrev pub with_symbols : Reading → Symbols → Reading
with_symbols reading symbols = record { symbols = symbols; entered = reading.entered; standing = reading.standing }

-- the module being read declares one more name
abbrev pub with_own_name : Reading → Spelling → Reading
with_own_name reading x = with_symbols reading (with_symbol reading.symbols (current reading) x)

-- a command of the module being read was accepted
abbrev pub after_command : Reading → WrittenForm → Reading
after_command reading form = with_symbols reading (names_after reading.symbols (current reading) form)

-- with these modules entered, where this one stands so
abbrev pub with_standing : Reading → List Module → Module → Entered → Reading
with_standing reading entered m how = record {
  symbols = reading.symbols;
  entered = entered;
  standing = λ n. if same_module m n then how else reading.standing n;
}

-- a module that is new is entered, and is the one being read from then on; any other changes nothing
abbrev pub entering : Entered → Reading → Module → Reading
entering New reading m = with_standing reading (m ∷ reading.entered) m Open
entering Known reading m = reading
entering Open reading m = reading

abbrev pub after_entering : Reading → Module → Reading
after_entering reading m = entering (reading.standing m) reading m

-- the module being read is left for good, and the one entered before it is read again
abbrev pub after_leaving : Reading → Reading
after_leaving reading = with_standing reading (drop 1 reading.entered) (current reading) Known

-- the bytes of a module's name
abbrev pub module_of : Option (Bor (List ℕ)) → Module
module_of name = option_map (λ n. n.now) name

-- a module and a name as they are handed out
abbrev pub spelt_word : Option (Bor (List ℕ)) × Bor (List ℕ) → Module × Spelling
spelt_word word = (module_of word.0, word.1.now)
