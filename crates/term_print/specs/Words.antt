-- Trusted: the word of a symbol where it is printed in a module (docs/printing.md).
use Rattle.std.specs.Prelude.{ℕ, None, [], if◌then◌else◌}
use Rattle.std.specs.Option.{option_map_or}
use Rattle.scope_terms.specs.Scopes.{Module, Spelling, Symbols, same_module, spelling_of}
use Rattle.term_print.specs.Named.{Word}

-- a name that the first module declares, as it is written in the second: qualified, but in the own module, and never with
-- the module without a name
abbrev pub word_in : Module → Module × Spelling → Word
word_in m s = record { module_name = if same_module s.0 m then None else s.0; spelling = s.1 }

-- the word of a symbol, by what the commands declare; empty where the number declares none
abbrev pub word_of : Symbols → Module → ℕ → Word
word_of symbols m k = option_map_or (word_in m) (spelling_of symbols k) (record { module_name = None; spelling = [] })
