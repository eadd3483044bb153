-- Trusted: inference and checking, by the structure of the term, from left to right, over any evaluation (docs/typing.md).
use Rattle.std.specs.Prelude.{ℕ, ◌+◌, Option, Some, None, Bool, true, false, List, ◌∷◌, length, slice_get}
use Rattle.dk_model.specs.PlainTerms.{Tree, star, kind, symbol, variable, rule_variable, apply, bare, annotated, product}
use Rattle.dk_model.specs.Substitution.{shift, substitute}
use Rattle.dk_model.specs.Erasure.{erased}
use Rattle.dk_model.specs.Bindings.{Bindings}
use Rattle.dk_model.specs.PlainEntries.{PlainEntry, symbol_entry, rules_entry, PlainSignature}
use Rattle.dk_model.specs.declared.code.Code.{Code}
use Rattle.dk_model.specs.declared.code.Code.TheVariants.{E20, E21, E22, E23, E24, E25}

-- what typing gives: an answer or the first fault, with what is left to spend, or the end of it
pub data JudgedIn (X A : Type 0) : Type 0 where
  answer : A → X → JudgedIn X A
  refused : Code → X → JudgedIn X A
  ended : JudgedIn X A

-- what typing asks of evaluation: the weak head form, whether two terms are the same, the normal form, and what rule variables
-- are bound to once the equation of two types is solved. Each is given what is left to spend, as units, and gives what is left
-- then; None and `ended` where it doesn't suffice
pub record Evaluator (X : Type 0) : Type 0 where
  pub whnf : X → Tree → Option (Tree × X)
  pub same : X → Tree → Tree → Option (Bool × X)
  pub normal : X → Tree → Option (Tree × X)
  pub solve : X → Bindings → Tree → Tree → JudgedIn X Bindings

-- typing goes on after an evaluation
abbrev pub after : {X A B : Type 0} → Option (A × X) → (A → X → JudgedIn X B) → JudgedIn X B
after None g = ended
after (Some p) g = g p.0 p.1

-- typing goes on after typing
abbrev pub next : {X A B : Type 0} → JudgedIn X A → (A → X → JudgedIn X B) → JudgedIn X B
next (answer a n) g = g a n
next (refused c n) g = refused c n
next ended g = ended

abbrev pub entry_type : PlainEntry → Tree
entry_type (symbol_entry s t b) = t
entry_type (rules_entry rs) = kind

-- the type of a symbol; `Kind` for one that nothing declares
abbrev pub symbol_type : PlainSignature → ℕ → Tree
symbol_type S k = elim (slice_get S k) [ None ↦ kind | Some e ↦ entry_type e ]

-- the type of a rule variable, from the types of all; it stands outside of all binders
abbrev pub rule_variable_type : List Tree → ℕ → Tree
rule_variable_type V k = elim (slice_get V k) [ None ↦ kind | Some t ↦ t ]

-- the type of a variable: the context begins with the innermost one, and each type is over the variables behind it
abbrev pub variable_type : List Tree → ℕ → Tree
variable_type G k = elim (slice_get G k) [ None ↦ kind | Some t ↦ shift 0 (k + 1) t ]

-- the domain and the codomain of a product, else this code
abbrev pub parts_of_product : {X : Type 0} → Code → Tree → X → JudgedIn X (Tree × Tree)
parts_of_product c (product a b) n = answer (a, b) n
parts_of_product c t n = refused c n

-- `Type` or `Kind`, else E22
abbrev pub a_sort : {X : Type 0} → Tree → X → JudgedIn X Tree
a_sort star n = answer star n
a_sort kind n = answer kind n
a_sort t n = refused E22 n

-- `Type`, else E22
abbrev pub the_star : {X : Type 0} → Tree → X → JudgedIn X (Unit {0})
the_star star n = answer tt n
the_star t n = refused E22 n

-- yes, else this code
abbrev pub agreed : {X : Type 0} → Code → Bool → X → JudgedIn X (Unit {0})
agreed c true n = answer tt n
agreed c false n = refused c n

-- the type of an abstraction whose body has the type B, which isn't `Kind`
abbrev pub not_kind : {X : Type 0} → Tree → X → JudgedIn X Tree
not_kind kind n = refused E25 n
not_kind t n = answer t n

abbrev pub is_abstraction : Tree → Bool
is_abstraction (bare b) = true
is_abstraction (annotated d b) = true
is_abstraction t = false

module _ {X : Type 0} (E : Evaluator X) where
  -- the weak head form of a type, which must be a product
  abbrev pub as_product : Code → Tree → X → JudgedIn X (Tree × Tree)
  as_product c T n = after (E.whnf n T) (parts_of_product c)

  -- the weak head form of the type of a type, which must be a sort
  abbrev pub as_sort : Tree → X → JudgedIn X Tree
  as_sort T n = after (E.whnf n T) a_sort

  -- the weak head form of the type of a type, which must be `Type`
  abbrev pub as_star : Tree → X → JudgedIn X (Unit {0})
  as_star T n = after (E.whnf n T) the_star

  -- the comparison of two terms, which must be the same
  abbrev pub as_convertible : Code → Tree → Tree → X → JudgedIn X (Unit {0})
  as_convertible c T U n = after (E.same n T U) (agreed c)

  -- any term but an abstraction, whose type was inferred, against the type T
  abbrev pub against : Tree → JudgedIn X Tree → JudgedIn X (Unit {0})
  against T x = next x (λ U n. as_convertible E21 U T n)

  -- the type of `f a` where `f` has the type F and `fits` checks `a`: the codomain with `a` in it
  abbrev pub application_type : (Tree → X → JudgedIn X (Unit {0})) → Tree → Tree → X → JudgedIn X Tree
  application_type fits a F n = next (as_product E20 F n) (λ p m. next (fits p.0 m) (λ u i. answer (substitute 0 (erased a) p.1) i))

  -- the sort of a product whose domain has the type s, where `sort` infers the type of the codomain
  abbrev pub product_type : (X → JudgedIn X Tree) → Tree → X → JudgedIn X Tree
  product_type sort s n = next (as_star s n) (λ u m. next (sort m) as_sort)

  -- the type of an abstraction over the domain `d` of type s, where `typ` infers the type of the body
  abbrev pub abstraction_type : (X → JudgedIn X Tree) → Tree → Tree → X → JudgedIn X Tree
  abstraction_type typ d s n = next (as_star s n) (λ u m. next (typ m) (λ B i. next (not_kind B i) (λ C j. answer (product (erased d) C) j)))

  -- an abstraction over the domain `d` of type s against the product of A, where `fits` checks the body
  abbrev pub annotated_fits : (X → JudgedIn X (Unit {0})) → Tree → Tree → Tree → X → JudgedIn X (Unit {0})
  annotated_fits fits d A s n = next (as_star s n) (λ u m. next (as_convertible E21 (erased d) A m) (λ v i. fits i))

  -- `V` has the types of the rule variables, `G` those of the bound variables, the innermost first
  module _ (S : PlainSignature) (V : List Tree) where
    abbrev mutual
      pub inferred : List Tree → Tree → X → JudgedIn X Tree
      inferred G star n = answer kind n
      inferred G kind n = refused E22 n
      inferred G (symbol k) n = answer (symbol_type S k) n
      inferred G (variable k) n = answer (variable_type G k) n
      inferred G (rule_variable k) n = answer (shift 0 (length G) (rule_variable_type V k)) n
      inferred G (apply f a) n = next (inferred G f n) (application_type (checked G a) a)
      inferred G (bare b) n = refused E23 n
      inferred G (annotated d b) n = next (inferred G d n) (abstraction_type (inferred (erased d ∷ G) b) d)
      inferred G (product d b) n = next (inferred G d n) (product_type (inferred (erased d ∷ G) b))

      -- a term that is no abstraction is inferred, as above, and its type compared
      pub checked : List Tree → Tree → Tree → X → JudgedIn X (Unit {0})
      checked G (bare b) T n = next (as_product E24 T n) (λ p m. checked (p.0 ∷ G) b p.1 m)
      checked G (annotated d b) T n =
          next (as_product E24 T n) (λ p m. next (inferred G d m) (annotated_fits (checked (p.0 ∷ G) b p.1) d p.0))
      checked G (apply f a) T n = against T (next (inferred G f n) (application_type (checked G a) a))
      checked G (product d b) T n = against T (next (inferred G d n) (product_type (inferred (erased d ∷ G) b)))
      checked G star T n = against T (answer kind n)
      checked G kind T n = refused E22 n
      checked G (symbol k) T n = against T (answer (symbol_type S k) n)
      checked G (variable k) T n = against T (answer (variable_type G k) n)
      checked G (rule_variable k) T n = against T (answer (shift 0 (length G) (rule_variable_type V k)) n)

    -- the sort of a type
    abbrev pub sort_of : List Tree → Tree → X → JudgedIn X Tree
    sort_of G t n = next (inferred G t n) as_sort
