-- Patterns without arguments, and the numbers of patterns that are variables, found in turn.
use Rattle.std.proofs.Common.{◌≡◌, ◌∙◌, ap, sym, refl, ℕ, ◌+◌, ◌<◌, true, false, List, [], ◌∷◌, ◌++◌, length, get_or, drop}
use Rattle.std.proofs.lemmas.List.{at_drop_more, append_assoc}
use Rattle.std.specs.Prelude.{Option, Some, None, ◌==◌}
use Rattle.dk_model.specs.Signatures.{Pattern, Patterns, no_patterns, more_patterns, rule_variable_pattern, wildcard_pattern, guard_pattern, symbol_pattern, variable_pattern, abstraction_pattern, pattern}
use Rattle.dk_model.specs.Shapes.{bare_variables, unapplied}
use Rattle.dk_model.specs.declared.signature.Pat.{Pat}
use Rattle.dk_model.specs.declared.signature.Pat.TheVariants.{Var}
use Rattle.pattern_compile.specs.Patterns.{plain_patterns, bare_variable}
use Rattle.pattern_compile.proofs.Rowed.{variable_is}
use Rattle.dk_model.specs.declared.term.Term.{Term}

-- numbers behind those that are found
abbrev pub behind : List ℕ → Option (List ℕ) → Option (List ℕ)
behind found None = None
behind found (Some xs) = Some (found ++ xs)

pub has_arguments : (p : Pattern) (ps : List (Pat Term)) → false ≡ (length ps == 0) → unapplied p (plain_patterns ps) ≡ None
has_arguments p [] h = absurd (clash h)
  where
    clash : false ≡ true → ⊥
    clash e = cc
has_arguments p (q ∷ qs) h = refl

abbrev joined : Option ℕ → Option (List ℕ) → Option (List ℕ)
joined None o = None
joined (Some k) None = None
joined (Some k) (Some xs) = Some (k ∷ xs)

first_of_all : (p : Pattern) (ps : Patterns) → bare_variables (more_patterns p ps) ≡ joined (bare_variable p) (bare_variables ps)
first_of_all (variable_pattern k no_patterns) ps = by (bare_variables ps)
  where
    by : (o : Option (List ℕ)) → elim o [ None ↦ None | Some xs ↦ Some (k ∷ xs) ] ≡ joined (Some k) o
    by None = refl
    by (Some xs) = refl
first_of_all (variable_pattern k (more_patterns q qs)) ps = refl
first_of_all (rule_variable_pattern k xs) ps = refl
first_of_all wildcard_pattern ps = refl
first_of_all (guard_pattern t) ps = refl
first_of_all (symbol_pattern k qs) ps = refl
first_of_all (abstraction_pattern q) ps = refl

behind_joined : (found : List ℕ) (k : ℕ) (o : Option (List ℕ)) → behind found (joined (Some k) o) ≡ behind (found ++ (k ∷ [])) o
behind_joined found k None = refl
behind_joined found k (Some xs) = ap Some (sym (append_assoc found (k ∷ []) xs))

behind_none : (found : List ℕ) (o : Option (List ℕ)) → behind found (joined None o) ≡ None
behind_none found o = refl

pub some_arguments : (p : Pat Term) (k : ℕ) (ps : List (Pat Term)) → p ≡ Var k ps → (ps ≡ [] → ⊥) → None ≡ bare_variable (pattern p)
some_arguments p k [] is h = absurd (h refl)
some_arguments p k (q ∷ qs) is h = sym (ap (λ (r : Pat Term). bare_variable (pattern r)) is ∙ ap bare_variable (variable_is k (q ∷ qs)))

pub no_arguments : (p : Pat Term) (k : ℕ) (ps : List (Pat Term)) → p ≡ Var k ps → ps ≡ [] → Some k ≡ bare_variable (pattern p)
no_arguments p k ps is e = sym (ap (λ (r : Pat Term). bare_variable (pattern r)) is ∙ ap bare_variable (variable_is k ps) ∙ ap (λ (qs : List (Pat Term)). bare_variable (variable_pattern k (plain_patterns qs))) e)

module _ (whole : Option (List ℕ)) (found : List ℕ) (ps : List (Pat Term)) (i : ℕ) (p : Pat Term) (lt : i < length ps) (is : p ≡ get_or ps i p) (at : whole ≡ behind found (bare_variables (plain_patterns (drop i ps)))) where
  next_is : whole ≡ behind found (joined (bare_variable (pattern p)) (bare_variables (plain_patterns (drop (i + 1) ps))))
  next_is =
      at ∙ at_drop_more (λ qs. behind found (bare_variables (plain_patterns qs))) ps i p lt
      ∙ ap (λ (q : Pat Term). behind found (bare_variables (more_patterns (pattern q) (plain_patterns (drop (i + 1) ps))))) (sym is)
      ∙ ap (behind found) (first_of_all (pattern p) (plain_patterns (drop (i + 1) ps)))

  pub variable_found : (k : ℕ) → bare_variable (pattern p) ≡ Some k → whole ≡ behind (found ++ (k ∷ [])) (bare_variables (plain_patterns (drop (i + 1) ps)))
  variable_found k e =
      next_is ∙ ap (λ (o : Option ℕ). behind found (joined o (bare_variables (plain_patterns (drop (i + 1) ps))))) e
      ∙ behind_joined found k (bare_variables (plain_patterns (drop (i + 1) ps)))

  pub variable_lost : bare_variable (pattern p) ≡ None → whole ≡ None
  variable_lost e = next_is ∙ ap (λ (o : Option ℕ). behind found (joined o (bare_variables (plain_patterns (drop (i + 1) ps))))) e
