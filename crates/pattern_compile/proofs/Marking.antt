-- Marks say which rule variables occur.
use Rattle.std.proofs.Common.{◌≡◌, ◌∙◌, ap, sym, refl, ℕ, zero, suc, ◌+◌, ◌<◌, Bool, true, false, List, [], ◌∷◌, ◌++◌, length, get_or, set, drop, replicate, eqb, eqb-true, eq-eqb, get_or-set_same, get_or-set_other}
use Rattle.std.proofs.lemmas.List.{at_drop_more, length-replicate, length-set}
use Rattle.std.specs.Prelude.{Option, Some, None, ◌&&◌, ◌||◌}
use Rattle.dk_model.specs.Trees.{Tree, star, kind, symbol, variable, rule_variable, apply, bare, annotated, product}
use Rattle.dk_model.specs.Signatures.{Pattern, Patterns, no_patterns, more_patterns, rule_variable_pattern, wildcard_pattern, guard_pattern, symbol_pattern, variable_pattern, abstraction_pattern, pattern}
use Rattle.dk_model.specs.Captures.{is_in}
use Rattle.dk_model.specs.Shapes.{covers, covers_guards, covers_all_guards, covers_notes, pattern_variables, patterns_variables}
use Rattle.dk_model.specs.declared.signature.Pat.{Pat}
use Rattle.pattern_compile.specs.Patterns.{plain_patterns}
use Rattle.pattern_compile.specs.Marks.{marked, is_marked, guards_are_marked, all_guards_are_marked, are_marked}
use Rattle.pattern_compile.proofs.Below.{Below}
use Rattle.dk_model.specs.declared.term.Term.{Term}

-- ---- marking in turn

marked_both : (xs ys : List ℕ) (ms : List Bool) → marked ms (xs ++ ys) ≡ marked (marked ms xs) ys
marked_both [] ys ms = refl
marked_both (x ∷ xs) ys ms = marked_both xs ys (set ms x true)

module _ (whole : List Bool) (ms : List Bool) (ps : List (Pat Term)) (i : ℕ) (p : Pat Term) (lt : i < length ps) (is : p ≡ get_or ps i p) (at : whole ≡ marked ms (patterns_variables (plain_patterns (drop i ps)))) where
  pub mark_goes_on : (new : List Bool) → marked ms (pattern_variables (pattern p)) ≡ new → whole ≡ marked new (patterns_variables (plain_patterns (drop (i + 1) ps)))
  mark_goes_on new e =
      at ∙ at_drop_more (λ qs. marked ms (patterns_variables (plain_patterns qs))) ps i p lt
      ∙ ap (λ (q : Pat Term). marked ms (pattern_variables (pattern q) ++ patterns_variables (plain_patterns (drop (i + 1) ps)))) (sym is)
      ∙ marked_both (pattern_variables (pattern p)) (patterns_variables (plain_patterns (drop (i + 1) ps))) ms
      ∙ ap (λ (ns : List Bool). marked ns (patterns_variables (plain_patterns (drop (i + 1) ps)))) e

-- ---- what marks say

clash : (b : Bool) → b ≡ true → b ≡ false → ⊥
clash b e h = cc

get_set : (ms : List Bool) (k x : ℕ) → k < length ms → get_or (set ms k true) x false ≡ (eqb x k || get_or ms x false)
get_set ms k x lt = by (eqb x k) refl
  where
    by : (b : Bool) → eqb x k ≡ b → get_or (set ms k true) x false ≡ (b || get_or ms x false)
    by true e = ap (λ (j : ℕ). get_or (set ms k true) j false) (eqb-true x k e) ∙ get_or-set_same ms k true false lt
    by false e = get_or-set_other ms k x true false (λ same. clash (eqb x k) (eq-eqb x k same) e)

below_set : (ms : List Bool) (k : ℕ) (xs : List ℕ) → Below (length ms) xs → Below (length (set ms k true)) xs
below_set ms k xs h = rw length-set h

or_step : (a b g : Bool) → (a || (b || g)) ≡ ((b || a) || g)
or_step true true g = refl
or_step true false g = refl
or_step false true g = refl
or_step false false g = refl

marks_are : (xs : List ℕ) (ms : List Bool) → Below (length ms) xs → (j : ℕ) → get_or (marked ms xs) j false ≡ (is_in j xs || get_or ms j false)
marks_are [] ms h j = refl
marks_are (x ∷ xs) ms h j =
    marks_are xs (set ms x true) (below_set ms x xs h.1) j ∙ ap (λ (b : Bool). is_in j xs || b) (get_set ms x j h.0)
    ∙ or_step (is_in j xs) (eqb j x) (get_or ms j false)

-- ---- from no marks

none_marked : (vars j : ℕ) → get_or (replicate vars false) j false ≡ false
none_marked zero j = refl
none_marked (suc vars) zero = refl
none_marked (suc vars) (suc j) = none_marked vars j

below_none : (vars : ℕ) (xs : List ℕ) → Below vars xs → Below (length (replicate vars false)) xs
below_none vars xs h = rw length-replicate h

or_false : (b : Bool) → (b || false) ≡ b
or_false true = refl
or_false false = refl

-- the marks are those of these variables
abbrev pub Marks : List ℕ → List Bool → Type 0
Marks xs ms = (j : ℕ) → get_or ms j false ≡ is_in j xs

pub marks_of : (vars : ℕ) (xs : List ℕ) (ms : List Bool) → Below vars xs → marked (replicate vars false) xs ≡ ms → Marks xs ms
marks_of vars xs ms h e =
    λ j. ap (λ (ns : List Bool). get_or ns j false) (sym e) ∙ marks_are xs (replicate vars false) (below_none vars xs h) j
    ∙ ap (λ (b : Bool). is_in j xs || b) (none_marked vars j) ∙ or_false (is_in j xs)

module _ (xs : List ℕ) (ms : List Bool) (are : Marks xs ms) where
  pub covers_is : (t : Tree) → is_marked ms t ≡ covers xs t
  covers_is star = refl
  covers_is kind = refl
  covers_is (symbol k) = refl
  covers_is (variable k) = refl
  covers_is (rule_variable k) = are k
  covers_is (apply f a) = ap (λ (b : Bool). b && is_marked ms a) (covers_is f) ∙ ap (λ (b : Bool). covers xs f && b) (covers_is a)
  covers_is (bare b) = covers_is b
  covers_is (annotated n b) = ap (λ (c : Bool). c && is_marked ms b) (covers_is n) ∙ ap (λ (c : Bool). covers xs n && c) (covers_is b)
  covers_is (product a b) = ap (λ (c : Bool). c && is_marked ms b) (covers_is a) ∙ ap (λ (c : Bool). covers xs a && c) (covers_is b)

  pub covers_notes_is : (ns : List (Option Tree)) → are_marked ms ns ≡ covers_notes xs ns
  covers_notes_is [] = refl
  covers_notes_is (None ∷ ns) = covers_notes_is ns
  covers_notes_is (Some n ∷ ns) = ap (λ (b : Bool). b && are_marked ms ns) (covers_is n) ∙ ap (λ (b : Bool). covers xs n && b) (covers_notes_is ns)

  mutual
    guards_are : (p : Pattern) → guards_are_marked ms p ≡ covers_guards xs p
    guards_are (rule_variable_pattern k ys) = refl
    guards_are wildcard_pattern = refl
    guards_are (guard_pattern t) = covers_is t
    guards_are (symbol_pattern k ps) = covers_guards_is ps
    guards_are (variable_pattern k ps) = covers_guards_is ps
    guards_are (abstraction_pattern p) = guards_are p

    pub covers_guards_is : (ps : Patterns) → all_guards_are_marked ms ps ≡ covers_all_guards xs ps
    covers_guards_is no_patterns = refl
    covers_guards_is (more_patterns p ps) = ap (λ (b : Bool). b && all_guards_are_marked ms ps) (guards_are p) ∙ ap (λ (b : Bool). covers_guards xs p && b) (covers_guards_is ps)
