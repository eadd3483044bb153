-- Trusted: the types of rules, that of the left side, whose equations bind rule variables, then of annotations, guards and
-- right side, over any evaluation (docs/typing.md).
use Rattle.std.specs.Prelude.{ℕ, zero, suc, Option, Some, None, Bool, true, false, if◌then◌else◌, List, [], ◌∷◌, ◌++◌, map, length, replicate, slice_get, slice_set}
use Rattle.dk_model.specs.PlainTerms.{Tree, kind, symbol, variable, rule_variable, apply, bare, product}
use Rattle.dk_model.specs.Substitution.{shift, substitute}
use Rattle.dk_model.specs.Erasure.{erased}
use Rattle.dk_model.specs.PlainEntries.{Pattern, Patterns, no_patterns, more_patterns, rule_variable_pattern, wildcard_pattern, guard_pattern, symbol_pattern, variable_pattern, abstraction_pattern, PlainRule, PlainSignature}
use Rattle.dk_model.specs.Spines.{applied}
use Rattle.dk_model.specs.Captures.{mentions_others, renamed}
use Rattle.dk_model.specs.Bindings.{Bindings, under}
use Rattle.dk_model.specs.TypingOver.{Evaluator, JudgedIn, answer, refused, after, next, symbol_type, variable_type, as_product, as_convertible, checked}
use Rattle.dk_model.specs.declared.code.Code.TheVariants.{E34, E35}

-- ---- what a walk has found

-- a guard that is checked once the left side is walked: its term, below the variables bound at its place, and the type there
pub record Guard : Type 0 where
  pub context : List Tree
  pub term : Tree
  pub typ : Tree

-- the types of the rule variables met so far, and the guards, from left to right; the types of the wildcards stand behind
-- those of the rule's context, so that the next wildcard is the rule variable whose number is the length of the list; and what
-- rule variables are bound to by the equations so far
pub record Found : Type 0 where
  pub types : List (Option Tree)
  pub guards : List Guard
  pub bindings : Bindings

-- a walked pattern as a term, its type, and what is found then
pub record Walked : Type 0 where
  pub term : Tree
  pub typ : Tree
  pub found : Found

-- a type, and the bindings then
pub record Posed : Type 0 where
  pub typ : Tree
  pub bindings : Bindings

abbrev pub found_type : List (Option Tree) → ℕ → Option Tree
found_type types k = elim (slice_get types k) [ None ↦ None | Some o ↦ o ]

-- a rule variable of this type, at its first occurrence
abbrev pub with_type : Found → ℕ → Tree → Found
with_type w k T = record { types = slice_set w.types k (Some T); guards = w.guards; bindings = w.bindings }

-- a wildcard of this type
abbrev pub with_wildcard : Found → Tree → Found
with_wildcard w T = record { types = w.types ++ (Some T ∷ []); guards = w.guards; bindings = w.bindings }

abbrev pub with_guard : Found → Guard → Found
with_guard w g = record { types = w.types; guards = w.guards ++ (g ∷ []); bindings = w.bindings }

abbrev pub with_bindings : Found → Bindings → Found
with_bindings w s = record { types = w.types; guards = w.guards; bindings = s }

abbrev pub type_or_kind : Option Tree → Tree
type_or_kind None = kind
type_or_kind (Some T) = T

-- the types of all rule variables; `Kind` for one that the left side doesn't have
abbrev pub all_types : List (Option Tree) → List Tree
all_types types = map type_or_kind types

-- the same under the bindings
abbrev pub types_under : Bindings → List (Option Tree) → List Tree
types_under s types = map (under s) (all_types types)

-- the variables bound by the pattern at a place, outermost first
abbrev pub outermost_first : ℕ → List ℕ
outermost_first zero = []
outermost_first (suc depth) = depth ∷ outermost_first depth

-- a rule variable applied to variables
abbrev pub occurrence : ℕ → List ℕ → Tree
occurrence k xs = applied (rule_variable k) (map variable xs)

-- a guard is its term without annotations, below the variables bound at its place
abbrev pub guard_walked : List Tree → Tree → Tree → Found → Walked
guard_walked G t A w = let u : Tree = shift 0 (length G) (erased t) in
    record { term = u; typ = A; found = with_guard w (record { context = G; term = u; typ = A }) }

abbrev pub abstraction_over : {X : Type 0} → Tree → Walked → X → JudgedIn X Walked
abstraction_over A w n = answer (record { term = bare w.term; typ = A; found = w.found }) n

-- before the walk no rule variable has a type, and none is bound
abbrev pub nothing_found : ℕ → Found
nothing_found vars = record { types = replicate vars None; guards = []; bindings = [] }

abbrev pub patterns_of : List Pattern → Patterns
patterns_of [] = no_patterns
patterns_of (p ∷ ps) = more_patterns p (patterns_of ps)

-- a type that of the `d` variables of the pattern mentions only these, else E35
abbrev pub allowed : {X : Type 0} → ℕ → List ℕ → Tree → X → JudgedIn X Tree
allowed d xs T n = if mentions_others 0 d xs T then refused E35 n else answer T n

module _ {X : Type 0} (E : Evaluator X) where
  -- ---- a rule variable

  -- a type that may mention, of the `d` variables of the pattern, only these: its normal form where it mentions another
  abbrev pub confined : ℕ → List ℕ → Tree → X → JudgedIn X Tree
  confined d xs T n = if mentions_others 0 d xs T then after (E.normal n T) (allowed d xs) else answer T n

  -- a confined type, as it stands behind the binders of these
  abbrev pub bound_type : List Tree → List ℕ → Tree → X → JudgedIn X Tree
  bound_type G xs T n = next (confined (length G) xs T n) (λ U m. answer (renamed 0 (length G) xs U) m)

  -- the type of a rule variable that stands first with the arguments `before` and then these, where A is expected: the
  -- product of the types of these, each over the arguments before it, ending in A
  abbrev pub first_type : List Tree → List ℕ → List ℕ → Tree → X → JudgedIn X Tree
  first_type G before [] A n = bound_type G before A n
  first_type G before (x ∷ xs) A n = next (bound_type G before (variable_type G x) n) (λ D m.
      next (first_type G (before ++ (x ∷ [])) xs A m) (λ B i. answer (product D B) i))

  -- the type of a term of type F applied to these variables
  abbrev pub later_type : List Tree → List ℕ → Tree → Bindings → X → JudgedIn X Posed
  later_type G [] F s n = answer (record { typ = F; bindings = s }) n
  later_type G (x ∷ xs) F s n = next (as_product E E34 (under s F) n) (λ p m.
      next (E.solve m s (variable_type G x) p.0) (λ r i. later_type G xs (substitute 0 (variable x) p.1) r i))

  -- the type of a rule variable that stands first, where all types are taken under the bindings
  abbrev pub first_typed : Bindings → List Tree → List ℕ → Tree → X → JudgedIn X Tree
  first_typed s G xs A n = first_type (map (under s) G) [] xs (under s A) n

  abbrev pub first_occurrence : List Tree → ℕ → List ℕ → Tree → Found → X → JudgedIn X Walked
  first_occurrence G k xs A w n = next (first_typed w.bindings G xs A n) (λ T m. answer (record { term = occurrence k xs; typ = A; found = with_type w k T }) m)

  abbrev pub later_occurrence : List Tree → ℕ → List ℕ → Tree → Tree → Found → X → JudgedIn X Walked
  later_occurrence G k xs F A w n = next (later_type G xs (shift 0 (length G) F) w.bindings n) (λ T m.
      next (E.solve m T.bindings T.typ A) (λ s i. answer (record { term = occurrence k xs; typ = A; found = with_bindings w s }) i))

  abbrev pub rule_variable_walked : List Tree → ℕ → List ℕ → Option Tree → Tree → Found → X → JudgedIn X Walked
  rule_variable_walked G k xs None A w n = first_occurrence G k xs A w n
  rule_variable_walked G k xs (Some F) A w n = later_occurrence G k xs F A w n

  -- a fresh rule variable applied to all variables bound there
  abbrev pub wildcard_walked : List Tree → Tree → Found → X → JudgedIn X Walked
  wildcard_walked G A w n = next (first_typed w.bindings G (outermost_first (length G)) A n) (λ T m.
      answer (record { term = occurrence (length w.types) (outermost_first (length G)); typ = A; found = with_wildcard w T }) m)

  -- ---- patterns

  -- a head with its patterns, where the equation of its type and the one expected is solved
  abbrev pub as_expected : Tree → Walked → X → JudgedIn X Walked
  as_expected A w n = next (E.solve n w.found.bindings w.typ A) (λ s m. answer (record { term = w.term; typ = A; found = with_bindings w.found s }) m)

  -- each annotation of a rule variable that has a type is convertible with it, both under the bindings
  abbrev pub notes_agree : Bindings → List (Option Tree) → List (Option Tree) → X → JudgedIn X (Unit {0})
  notes_agree s (Some a ∷ notes) (Some T ∷ types) n = next (as_convertible E E34 (under s (erased a)) (under s T) n) (λ u m. notes_agree s notes types m)
  notes_agree s (a ∷ notes) (T ∷ types) n = notes_agree s notes types n
  notes_agree s notes types n = answer tt n

  module _ (S : PlainSignature) where
    abbrev mutual
      -- a pattern against the type A, where G has the types of the variables bound there, the innermost first
      pub walked : List Tree → Pattern → Tree → Found → X → JudgedIn X Walked
      walked G (rule_variable_pattern k xs) A w n = rule_variable_walked G k xs (found_type w.types k) A w n
      walked G wildcard_pattern A w n = wildcard_walked G A w n
      walked G (guard_pattern t) A w n = answer (guard_walked G t A w) n
      walked G (symbol_pattern k ps) A w n = next (spine_walked G (symbol k) (symbol_type S k) ps w n) (as_expected A)
      walked G (variable_pattern k ps) A w n = next (spine_walked G (variable k) (variable_type G k) ps w n) (as_expected A)
      walked G (abstraction_pattern p) A w n = next (as_product E E34 (under w.bindings A) n) (λ q m. next (walked (q.0 ∷ G) p q.1 w m) (abstraction_over A))

      -- the term t of type F applied to these patterns
      pub spine_walked : List Tree → Tree → Tree → Patterns → Found → X → JudgedIn X Walked
      spine_walked G t F no_patterns w n = answer (record { term = t; typ = F; found = w }) n
      spine_walked G t F (more_patterns p ps) w n = next (as_product E E34 (under w.bindings F) n) (λ q m.
          next (walked G p q.0 w m) (λ a i. spine_walked G (apply t a.term) (substitute 0 a.term q.1) ps a.found i))

    -- ---- rules

    -- each guard against the type at its place, both under the bindings, where V has the types of the rule variables
    abbrev pub guards_fit : Bindings → List Tree → List Guard → X → JudgedIn X (Unit {0})
    guards_fit s V [] n = answer tt n
    guards_fit s V (g ∷ gs) n = next (checked E S V (map (under s) g.context) (under s g.term) (under s g.typ) n) (λ u m. guards_fit s V gs m)

    -- what comes behind the walk of the left side
    abbrev pub sides_fit : List (Option Tree) → Tree → Walked → X → JudgedIn X (Unit {0})
    sides_fit notes right w n = let s : Bindings = w.found.bindings in let V : List Tree = types_under s w.found.types in next (notes_agree s notes w.found.types n) (λ u m.
        next (guards_fit s V w.found.guards m) (λ v i. checked E S V [] (under s right) (under s w.typ) i))

    abbrev pub left_walked : PlainRule → X → JudgedIn X Walked
    left_walked r n = spine_walked [] (symbol r.head) (symbol_type S r.head) (patterns_of r.pats) (nothing_found r.vars) n

    abbrev pub rule_checked : PlainRule → X → JudgedIn X (Unit {0})
    rule_checked r n = next (left_walked r n) (sides_fit r.notes r.right)

    -- each in file order
    abbrev pub rules_typed : List PlainRule → X → JudgedIn X (Unit {0})
    rules_typed [] n = answer tt n
    rules_typed (r ∷ rs) n = next (rule_checked r n) (λ u m. rules_typed rs m)
