-- For callers: what each call of a walk gives over an evaluation, at a place.
use Rattle.std.specs.Prelude.{Result, List}
use Rattle.dk_model.specs.PlainTerms.{Tree, apply}
use Rattle.dk_model.specs.Substitution.{substitute}
use Rattle.dk_model.specs.PlainEntries.{Pattern, Patterns, PlainSignature}
use Rattle.dk_model.specs.Bindings.{under}
use Rattle.dk_model.specs.TypingOver.{Evaluator, JudgedIn, answer, next, as_product}
use Rattle.dk_model.specs.RuleTypingOver.{Found as PlainFound, Walked as PlainWalked, as_expected, walked, spine_walked}
use Rattle.dk_model.specs.declared.code.Code.TheVariants.{E34}
use Rattle.dk_model.specs.declared.stop.TypeFault.{TypeFault}
use Rattle.signature_log.specs.Versions.{entries_of}
use Rattle.tree_typing.specs.Contexts.{bound_types}
use Rattle.tree_typing.specs.Given.{Judges}
use Rattle.tree_rules.specs.declared.place.Place.{Place}
use Rattle.tree_rules.specs.declared.found.Walked.{Walked}
use Rattle.tree_rules.specs.Founds.{walked_of}

-- the entries before the command
abbrev pub entries_at : Place → PlainSignature
entries_at p = entries_of p.version.now

-- the types of the variables that are bound at a place, the innermost first
abbrev pub bound_at : Place → List Tree
bound_at p = bound_types p.context.now

module _ {X : Type 0} (E : Evaluator X) (S : PlainSignature) (G : List Tree) where
  -- a head applied to patterns
  abbrev pub spine_due : PlainWalked → Patterns → X → JudgedIn X PlainWalked
  spine_due h ps n = spine_walked E S G h.term h.typ ps h.found n

  -- a head applied to one pattern
  abbrev pub argument_due : PlainWalked → Pattern → X → JudgedIn X PlainWalked
  argument_due h p n = next (as_product E E34 (under h.found.bindings h.typ) n) (λ q m. next (walked E S G p q.0 h.found m)
      (λ a i. answer (record { term = apply h.term a.term; typ = substitute 0 a.term q.1; found = a.found }) i))

module _ {X : Type 0} (E : PlainSignature → Evaluator X) (p : Place) where
  -- a pattern against a type
  abbrev pub Walks : Pattern → Tree → PlainFound → X → Result Walked TypeFault → X → Type 0
  Walks pattern A w old result new = Judges walked_of (walked (E (entries_at p)) (entries_at p) (bound_at p) pattern A w old) result new

  -- a head applied to patterns, against a type
  abbrev pub WalksHeaded : PlainWalked → Patterns → Tree → X → Result Walked TypeFault → X → Type 0
  WalksHeaded h ps A old result new = Judges walked_of (next (spine_due (E (entries_at p)) (entries_at p) (bound_at p) h ps old) (as_expected (E (entries_at p)) A)) result new

  -- a head applied to patterns
  abbrev pub WalksSpine : PlainWalked → Patterns → X → Result Walked TypeFault → X → Type 0
  WalksSpine h ps old result new = Judges walked_of (spine_due (E (entries_at p)) (entries_at p) (bound_at p) h ps old) result new

  -- a head applied to one pattern
  abbrev pub WalksArgument : PlainWalked → Pattern → X → Result Walked TypeFault → X → Type 0
  WalksArgument h pattern old result new = Judges walked_of (argument_due (E (entries_at p)) (entries_at p) (bound_at p) h pattern old) result new
