-- For callers: one annotation, one guard, and the terms of a rule, over an evaluation.
use Rattle.std.specs.Prelude.{List, [], Option, Some, map}
use Rattle.dk_model.specs.PlainTerms.{Tree}
use Rattle.dk_model.specs.Erasure.{erased}
use Rattle.dk_model.specs.PlainEntries.{PlainSignature}
use Rattle.dk_model.specs.Bindings.{Bindings, under}
use Rattle.dk_model.specs.TypingOver.{Evaluator, JudgedIn, answer, next, as_convertible, checked}
use Rattle.dk_model.specs.RuleTypingOver.{Guard, Walked, guards_fit}
use Rattle.dk_model.specs.declared.code.Code.TheVariants.{E34}

module _ {X : Type 0} (E : Evaluator X) where
  -- an annotation of a rule variable that has a type is convertible with it, both under the bindings
  abbrev pub note_agrees : Bindings → Option Tree → Option Tree → X → JudgedIn X (Unit {0})
  note_agrees s (Some a) (Some T) n = as_convertible E E34 (under s (erased a)) (under s T) n
  note_agrees s a T n = answer tt n

  -- a guard fits the type at its place, both under the bindings, where V has the types of the rule variables
  abbrev pub guard_fits : PlainSignature → Bindings → List Tree → Guard → X → JudgedIn X (Unit {0})
  guard_fits S s V g n = checked E S V (map (under s) g.context) (under s g.term) (under s g.typ) n

  -- the guards, then the right side against the type of the left one, where V has the types of the rule variables
  abbrev pub terms_fit : PlainSignature → List Tree → Tree → Walked → X → JudgedIn X (Unit {0})
  terms_fit S V right w n = next (guards_fit E S w.found.bindings V w.found.guards n) (λ v i. checked E S V [] (under w.found.bindings right) (under w.found.bindings w.typ) i)
