-- An application in a left side, argument by argument.
use Rattle.std.proofs.Common.{◌≡◌, ◌∙◌, ap, sym, subst, refl, ◌+◌, List, [], ◌∷◌, ◌++◌, arith}
use Rattle.std.specs.Borrow.{Bor}
use Rattle.dk_model.specs.Scoping.{PlainLeft, left_apply}
use Rattle.dk_parser.specs.RawViews.{written_pattern}
use Rattle.dk_parser.specs.Written.{WrittenPattern, pattern_apply}
use Rattle.dk_terms.specs.declared.raw.RawPat.{RawPat}
use Rattle.scope_terms.specs.Scopes.{left_of}
use Rattle.scope_terms.specs.Binding.{binders}
use Rattle.dk_model.specs.declared.code.Fault.{Fault}
use Rattle.scope_terms.specs.Scopes.{Scoping, scoped, both}
use Rattle.scope_terms.specs.Answers.{IsFaultOf}
use Rattle.scope_terms.specs.Meanings.{rule_variables, names_of, symbols_of, left_sense}
use Rattle.scope_terms.specs.Spines.{applied_pattern, pattern_references, pattern_size, total_pattern_size, left_spine_sense}
use Rattle.scope_terms.specs.declared.binders.Binders.{Binders}
use Rattle.scope_terms.specs.declared.meaning.Scope.{Scope}
use Rattle.scope_terms.proofs.Stages.{both_scoped, both_first, both_second}

pub applied_pushed : (w : WrittenPattern) (rs : List (Bor RawPat)) (r : Bor RawPat) → applied_pattern w (pattern_references (rs ++ r ∷ [])) ≡ applied_pattern (pattern_apply w (written_pattern r.now)) (pattern_references rs)
applied_pushed w [] r = refl
applied_pushed w (x ∷ rs) r = ap (λ (u : WrittenPattern). pattern_apply u (written_pattern x.now)) (applied_pushed w rs r)

pub total_pushed : (rs : List (Bor RawPat)) (r : Bor RawPat) → total_pattern_size (pattern_references (rs ++ r ∷ [])) ≡ total_pattern_size (pattern_references rs) + pattern_size (written_pattern r.now)
total_pushed [] r = omega arith
total_pushed (x ∷ rs) r = let q = total_pushed rs r in omega (arith, q)

module _ (scope : Scope) (bound : Binders) where
  abbrev spine : Scoping PlainLeft → List (Bor RawPat) → Scoping PlainLeft
  spine s rs = left_spine_sense scope bound s rs

  spine_pushed : (s : Scoping PlainLeft) (rs : List (Bor RawPat)) (r : Bor RawPat) → spine s (rs ++ r ∷ []) ≡ spine (both left_apply s (left_sense scope bound r.now)) rs
  spine_pushed s [] r = refl
  spine_pushed s (x ∷ rs) r = ap (λ (u : Scoping PlainLeft). both left_apply u (left_sense scope bound x.now)) (spine_pushed s rs r)

  spine_fault : (s : Scoping PlainLeft) (rs : List (Bor RawPat)) (e : Fault) → IsFaultOf s e → IsFaultOf (spine s rs) e
  spine_fault s [] e is = is
  spine_fault s (x ∷ rs) e is = both_first left_apply (spine s rs) (left_sense scope bound x.now) e (spine_fault s rs e is)

  -- the scoping of what is written, argument by argument
  spine_written : (w : WrittenPattern) (rs : List (Bor RawPat)) → left_of (symbols_of scope) (names_of scope) (rule_variables scope) (binders bound) (applied_pattern w (pattern_references rs)) ≡ spine (left_of (symbols_of scope) (names_of scope) (rule_variables scope) (binders bound) w) rs
  spine_written w [] = refl
  spine_written w (x ∷ rs) = ap (λ (u : Scoping PlainLeft). both left_apply u (left_sense scope bound x.now)) (spine_written w rs)

  -- the head is scoped
  pub spine_begun : (raw head : RawPat) (rs : List (Bor RawPat)) (t : PlainLeft) → applied_pattern (written_pattern head) (pattern_references rs) ≡ written_pattern raw → left_sense scope bound head ≡ scoped t → spine (scoped t) rs ≡ left_sense scope bound raw
  spine_begun raw head rs t whole is =
      ap (λ (s : Scoping PlainLeft). spine s rs) (sym is) ∙ sym (spine_written (written_pattern head) rs) ∙ ap (left_of (symbols_of scope) (names_of scope) (rule_variables scope) (binders bound)) whole

  pub spine_head_fault : (raw head : RawPat) (rs : List (Bor RawPat)) (e : Fault) → applied_pattern (written_pattern head) (pattern_references rs) ≡ written_pattern raw → IsFaultOf (left_sense scope bound head) e → IsFaultOf (left_sense scope bound raw) e
  spine_head_fault raw head rs e whole is =
      subst (λ (s : Scoping PlainLeft). IsFaultOf s e) (sym (spine_written (written_pattern head) rs) ∙ ap (left_of (symbols_of scope) (names_of scope) (rule_variables scope) (binders bound)) whole) (spine_fault (left_sense scope bound head) rs e is)

  -- an argument more is scoped
  pub spine_further : (all : Scoping PlainLeft) (t a u : PlainLeft) (rs : List (Bor RawPat)) (r : Bor RawPat) → spine (scoped t) (rs ++ r ∷ []) ≡ all → left_sense scope bound r.now ≡ scoped a → u ≡ left_apply t a → spine (scoped u) rs ≡ all
  spine_further all t a u rs r at is made =
      ap (λ (s : Scoping PlainLeft). spine s rs) (sym (both_scoped left_apply (scoped t) (left_sense scope bound r.now) t a u refl is made))
      ∙ sym (spine_pushed (scoped t) rs r) ∙ at

  pub spine_argument_fault : (all : Scoping PlainLeft) (t : PlainLeft) (rs : List (Bor RawPat)) (r : Bor RawPat) (e : Fault) → spine (scoped t) (rs ++ r ∷ []) ≡ all → IsFaultOf (left_sense scope bound r.now) e → IsFaultOf all e
  spine_argument_fault all t rs r e at is =
      subst (λ (s : Scoping PlainLeft). IsFaultOf s e) (sym (spine_pushed (scoped t) rs r) ∙ at)
      (spine_fault (both left_apply (scoped t) (left_sense scope bound r.now)) rs e (both_second left_apply (scoped t) (left_sense scope bound r.now) t e refl is))
