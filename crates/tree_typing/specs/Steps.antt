-- For proofs: the parts of typing that have a function of their own.
use Rattle.std.specs.Prelude.{Result, List, [], ◌∷◌}
use Rattle.dk_model.specs.Trees.{Tree, tree}
use Rattle.dk_model.specs.Erasure.{erased}
use Rattle.dk_model.specs.Signatures.{PlainSignature}
use Rattle.dk_model.specs.TypingOver.{Evaluator, JudgedIn, answer, next, as_star, as_convertible, application_type, inferred, checked}
use Rattle.dk_model.specs.declared.term.Term.{Term}
use Rattle.dk_model.specs.declared.code.Code.TheVariants.{E21}
use Rattle.dk_model.specs.declared.stop.TypeFault.{TypeFault}
use Rattle.tree_typing.specs.declared.setting.Setting.{Setting}
use Rattle.tree_typing.specs.declared.context.Context.{Context}
use Rattle.tree_typing.specs.Contexts.{bound_types}
use Rattle.tree_typing.specs.Clauses.{entries, rule_types}
use Rattle.tree_typing.specs.Given.{Judges}

module _ {X : Type 0} (E : Evaluator X) (S : PlainSignature) (V G : List Tree) where
  -- a domain without annotations, which must have the type `Type`
  abbrev pub domain_of : Tree → X → JudgedIn X Tree
  domain_of d n = next (inferred E S V G d n) (λ s m. next (as_star E s m) (λ u i. answer (erased d) i))

  -- that the annotation `d` is the domain `a`
  abbrev pub annotation_fits : Tree → Tree → X → JudgedIn X (Unit {0})
  annotation_fits d a n = next (domain_of d n) (λ D m. as_convertible E E21 D a m)

  -- the type of `f a` where `f` has the type F
  abbrev pub argument_type : Tree → Tree → X → JudgedIn X Tree
  argument_type a F n = application_type E (checked E S V G a) a F n

  -- the type of a head of type F applied to the arguments of a stack, the first one on top
  abbrev pub along : List Tree → Tree → X → JudgedIn X Tree
  along [] F n = answer F n
  along (x ∷ xs) F n = next (along xs F n) (argument_type x)

module _ {X : Type 0} (E : PlainSignature → Evaluator X) (s : Setting) (c : Context) where
  abbrev pub GivesDomain : Tree → X → Result Term TypeFault → X → Type 0
  GivesDomain d old result new = Judges tree (domain_of (E (entries s)) (entries s) (rule_types s) (bound_types c) d old) result new

  abbrev pub Applies : Tree → Tree → X → Result Term TypeFault → X → Type 0
  Applies a F old result new =
      Judges tree (application_type (E (entries s)) (checked (E (entries s)) (entries s) (rule_types s) (bound_types c) a) a F old) result new

  abbrev pub FitsAnnotation : Tree → Tree → X → Result (Unit {0}) TypeFault → X → Type 0
  FitsAnnotation d a old result new = Judges (λ u. u) (annotation_fits (E (entries s)) (entries s) (rule_types s) (bound_types c) d a old) result new
