-- For callers: what each call of typing gives over an evaluation.
use Rattle.std.specs.Prelude.{Result, List, map}
use Rattle.dk_model.specs.Trees.{Tree, tree}
use Rattle.dk_model.specs.Signatures.{PlainSignature}
use Rattle.dk_model.specs.TypingOver.{Evaluator, JudgedIn, next, not_kind, inferred, checked, sort_of}
use Rattle.dk_model.specs.declared.term.Term.{Term}
use Rattle.dk_model.specs.declared.stop.TypeFault.{TypeFault}
use Rattle.signature_log.specs.Versions.{entries_of}
use Rattle.tree_typing.specs.declared.setting.Setting.{Setting}
use Rattle.tree_typing.specs.declared.context.Context.{Context}
use Rattle.tree_typing.specs.Contexts.{bound_types}
use Rattle.tree_typing.specs.Given.{Judges}

-- the entries that terms are typed over
abbrev pub entries : Setting → PlainSignature
entries s = entries_of s.version.now

-- the types of the rule variables
abbrev pub rule_types : Setting → List Tree
rule_types s = map tree s.rule_types.now

-- the type of a body, which isn't `Kind`
abbrev pub body_type : {X : Type 0} → Evaluator X → PlainSignature → List Tree → List Tree → Tree → X → JudgedIn X Tree
body_type E S V G b n = next (inferred E S V G b n) not_kind

module _ {X : Type 0} (E : PlainSignature → Evaluator X) (s : Setting) (c : Context) where
  -- the type of a term
  abbrev pub Infers : Tree → X → Result Term TypeFault → X → Type 0
  Infers t old result new = Judges tree (inferred (E (entries s)) (entries s) (rule_types s) (bound_types c) t old) result new

  -- that a term fits a type
  abbrev pub Checks : Tree → Tree → X → Result (Unit {0}) TypeFault → X → Type 0
  Checks t typ old result new = Judges (λ u. u) (checked (E (entries s)) (entries s) (rule_types s) (bound_types c) t typ old) result new

  -- the sort of a type
  abbrev pub GivesSort : Tree → X → Result Term TypeFault → X → Type 0
  GivesSort t old result new = Judges tree (sort_of (E (entries s)) (entries s) (rule_types s) (bound_types c) t old) result new

  -- the type of a body, which isn't `Kind`
  abbrev pub GivesBodyType : Tree → X → Result Term TypeFault → X → Type 0
  GivesBodyType b old result new = Judges tree (body_type (E (entries s)) (entries s) (rule_types s) (bound_types c) b old) result new
