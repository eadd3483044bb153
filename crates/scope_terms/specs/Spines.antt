-- For proofs: a written application of patterns as a head and its arguments, of which the last stands first.
use Rattle.std.specs.Prelude.{ℕ, ◌+◌, List, [], ◌∷◌, map}
use Rattle.std.specs.Borrow.{Bor}
use Rattle.dk_model.specs.Scoping.{PlainLeft, left_apply}
use Rattle.dk_parser.specs.RawViews.{written_pattern}
use Rattle.dk_parser.specs.Written.{WrittenPattern, pattern_apply, pattern_bare}
use Rattle.dk_terms.specs.declared.raw.RawPat.{RawPat}
use Rattle.scope_terms.specs.Scopes.{Scoping, both}
use Rattle.scope_terms.specs.Meanings.{left_sense}
use Rattle.scope_terms.specs.declared.binders.Binders.{Binders}
use Rattle.scope_terms.specs.declared.meaning.Scope.{Scope}

abbrev pub pattern_references : List (Bor RawPat) → List WrittenPattern
pattern_references ps = map (λ p. written_pattern p.now) ps

abbrev pub applied_pattern : WrittenPattern → List WrittenPattern → WrittenPattern
applied_pattern f [] = f
applied_pattern f (a ∷ rest) = pattern_apply (applied_pattern f rest) a

abbrev pub pattern_size : WrittenPattern → ℕ
pattern_size (pattern_apply f a) = pattern_size f + pattern_size a + 1
pattern_size (pattern_bare x p) = pattern_size p + 1
pattern_size p = 1

abbrev pub total_pattern_size : List WrittenPattern → ℕ
total_pattern_size [] = 0
total_pattern_size (p ∷ ps) = pattern_size p + total_pattern_size ps

abbrev pub left_spine_sense : Scope → Binders → Scoping PlainLeft → List (Bor RawPat) → Scoping PlainLeft
left_spine_sense scope bound head [] = head
left_spine_sense scope bound head (a ∷ rest) = both left_apply (left_spine_sense scope bound head rest) (left_sense scope bound a.now)
