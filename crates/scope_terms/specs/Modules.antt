-- For proofs: what is known of the modules, as it is kept.
use Rattle.std.specs.Prelude.{◌≡◌, ◌≤◌, ◌<◌, ◌+◌, ℕ, Option, None, Some, List, [], ◌∷◌, ◌++◌, length, map, reverse, if◌then◌else◌, slice_get}
use Rattle.std.specs.Option.{ForSome, option_map, unwrap_or}
use Rattle.std.specs.Map.{lookup}
use Rattle.scope_terms.specs.Scopes.{Module, Spelling, same_module, same_spelling}
use Rattle.scope_terms.specs.Reading.{Reading}
use Rattle.scope_terms.specs.declared.modules.Declared.{Declared}
use Rattle.scope_terms.specs.declared.modules.Entered.{Entered}
use Rattle.scope_terms.specs.declared.modules.Entered.TheVariants.{New}
use Rattle.scope_terms.specs.declared.modules.Modules.{Modules}
use Rattle.scope_terms.specs.declared.modules.Place.{Place}
use Rattle.scope_terms.specs.declared.modules.Place.TheVariants.{Nameless, Named}
use Rattle.scope_terms.specs.declared.spelt.Symbol.{Symbol}

-- a module that was never entered
abbrev pub unentered : Declared
unentered = record { table = []; standing = New }

abbrev pub no_modules : Modules → Type 0
no_modules ms = (ms.named.entries ≡ []) × (ms.nameless ≡ unentered)

-- with one more name, of this number
abbrev pub with_name_in : Declared → Spelling → ℕ → Declared
with_name_in d x n = record { table = d.table ++ (x, n) ∷ []; standing = d.standing }

abbrev pub standing_so : Declared → Entered → Declared
standing_so d how = record { table = d.table; standing = how }

-- what is known of a module
abbrev pub known_of : Modules → Module → Declared
known_of ms None = ms.nameless
known_of ms (Some x) = unwrap_or (lookup (λ k. same_spelling x k.items) ms.named.entries) unentered

-- the module that is kept at a place
abbrev pub module_at : Modules → Place → Module
module_at ms Nameless = None
module_at ms (Named at) = option_map (λ e. e.0.items) (slice_get ms.named.entries at)

-- how many named modules there are at least, where a place has one
abbrev pub past : Place → ℕ
past Nameless = 0
past (Named at) = at + 1

abbrev pub IsWithin : Modules → Place → Type 0
IsWithin ms p = past p ≤ length ms.named.entries

-- each module stands where it stood
pub record KeepsPlaces (old new : Modules) : Type 0 where
  pub within : (p : Place) → IsWithin old p → IsWithin new p
  pub same : (p : Place) → IsWithin old p → module_at new p ≡ module_at old p

-- of one module this is known, and of each other what was known of it
pub record Changes (old new : Modules) (m : Module) (d : Declared) : Type 0 where
  pub known : (n : Module) → known_of new n ≡ if same_module m n then d else known_of old n
  pub places : KeepsPlaces old new

-- the module and the name of a symbol, by where they are kept
abbrev pub spelt_at : Modules → Option Symbol → Option (Module × Spelling)
spelt_at ms None = None
spelt_at ms (Some s) = option_map (λ e. (module_at ms s.place, e.0)) (slice_get (known_of ms (module_at ms s.place)).table s.at)

-- its module has a place, and that name
abbrev pub HasName : Modules → Symbol → Type 0
HasName ms s = IsWithin ms s.place × (s.at < length (known_of ms (module_at ms s.place)).table)

abbrev pub IsKept : Modules → Option Symbol → Type 0
IsKept ms s = ForSome s (HasName ms)

-- the first of these places; where there is none, that of the module without a name
abbrev pub first_place : List Place → Place
first_place [] = Nameless
first_place (p ∷ ps) = p

-- the modules with those at these places entered, the one being read last, and these symbols, one for each number
abbrev pub reading_of : Modules → List Place → List (Option Symbol) → ℕ → Reading
reading_of ms places symbols count = record {
  symbols = record { declared = λ m. (known_of ms m).table; spelt = map (spelt_at ms) symbols; count = count };
  entered = map (module_at ms) (reverse places);
  standing = λ m. (known_of ms m).standing;
}
