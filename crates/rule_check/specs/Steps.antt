-- For proofs: stages of the definition of rule typing.
use Rattle.std.specs.Prelude.{ℕ, List, Option, Some, None, length, slice_get}
use Rattle.dk_model.specs.Trees.{Tree, variable, apply}
use Rattle.dk_model.specs.Substitution.{shift, substitute}
use Rattle.dk_model.specs.Signatures.{Pattern, PlainSignature}
use Rattle.dk_model.specs.Typing.{Judged, answer, next, as_product, as_convertible, variable_type}
use Rattle.dk_model.specs.Erasure.{erased}
use Rattle.dk_model.specs.Bindings.{Bindings, under}
use Rattle.dk_model.specs.Solving.{solved}
use Rattle.dk_model.specs.RuleTyping.{Found, Walked, Posed, with_type, with_bindings, first_typed, later_type, walked}
use Rattle.dk_model.specs.declared.code.Code.TheVariants.{E34}

-- what stands at a place, where something does
abbrev pub found_at : {A : Type 0} → List (Option A) → ℕ → Option A
found_at types k = elim (slice_get types k) [ None ↦ None | Some o ↦ o ]

module _ (S : PlainSignature) (G : List Tree) where
  -- the type of a term of type F applied to a variable
  abbrev pub applied_type : ℕ → Tree → Bindings → ℕ → Judged Posed
  applied_type x F s n = next (as_product S E34 (under s F) n) (λ p m. next (solved S s (variable_type G x) p.0 m) (λ r i. answer (record { typ = substitute 0 (variable x) p.1; bindings = r }) i))

  -- the term t of type F applied to a pattern
  abbrev pub argument_walked : Tree → Tree → Pattern → Found → ℕ → Judged Walked
  argument_walked t F p w n = next (as_product S E34 (under w.bindings F) n) (λ q m.
      next (walked S G p q.0 w m) (λ a i. answer (record { term = apply t a.term; typ = substitute 0 a.term q.1; found = a.found }) i))

  -- a first occurrence of a rule variable
  abbrev pub met_first : ℕ → List ℕ → Tree → Found → ℕ → Judged Found
  met_first k xs A w n = next (first_typed S w.bindings G xs A n) (λ T m. answer (with_type w k T) m)

  -- the equation of the type of a later occurrence, of a rule variable of type F there, and the type A
  abbrev pub later_fits : List ℕ → Tree → Tree → Bindings → ℕ → Judged Bindings
  later_fits xs F A s n = next (later_type S G xs F s n) (λ T m. solved S T.bindings T.typ A m)

  -- an occurrence of a rule variable, first or later
  abbrev pub met : ℕ → List ℕ → Option Tree → Tree → Found → ℕ → Judged Found
  met k xs None A w n = met_first k xs A w n
  met k xs (Some F) A w n = next (later_fits xs (shift 0 (length G) F) A w.bindings n) (λ s m. answer (with_bindings w s) m)

-- whether an annotation agrees with the type of its rule variable, both under bindings
abbrev pub note_agrees : PlainSignature → Bindings → Option Tree → Option Tree → ℕ → Judged (Unit {0})
note_agrees S s (Some a) (Some T) n = as_convertible S E34 (under s (erased a)) (under s T) n
note_agrees S s (Some a) None n = answer tt n
note_agrees S s None o n = answer tt n
