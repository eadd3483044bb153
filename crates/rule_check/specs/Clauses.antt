-- For proofs: what each step of rule typing gives in a context.
use Rattle.std.specs.Prelude.{ℕ, List, [], Option, Result, map}
use Rattle.dk_model.specs.Trees.{Tree}
use Rattle.dk_model.specs.Signatures.{Pattern, Patterns, PlainRule, PlainSignature}
use Rattle.dk_model.specs.Bindings.{Bindings as PlainBindings, under}
use Rattle.dk_model.specs.Solving.{solved}
use Rattle.dk_model.specs.Typing.{Judged, next, checked, variable_type}
use Rattle.dk_model.specs.RuleTyping.{found_type, bound_type, first_type, first_typed, later_type, rule_variable_walked, wildcard_walked, as_expected, walked, spine_walked, notes_agree, guards_fit, types_under, sides_fit, left_walked, Walked}
use Rattle.dk_model.specs.declared.stop.TypeFault.{TypeFault}
use Rattle.infer_check.specs.declared.context.Context.{Context}
use Rattle.infer_check.specs.Contexts.{innermost_first, bound_types}
use Rattle.infer_check.specs.Given.{GivesType}
use Rattle.rule_check.specs.declared.found.Guard.{Guard}
use Rattle.rule_check.specs.declared.found.Found.{Found}
use Rattle.rule_check.specs.declared.found.Bindings.{Bindings}
use Rattle.rule_check.specs.declared.found.Headed.{Headed}
use Rattle.rule_check.specs.declared.found.Left.{Left}
use Rattle.rule_check.specs.Founds.{types_of, terms_of, guards_of, found_of}
use Rattle.rule_check.specs.Steps.{applied_type, argument_walked, met_first, later_fits, met}
use Rattle.rule_check.specs.Given.{GivesTerm, GivesHeaded, GivesFound, GivesBindings, GivesPosed}

-- a left side
abbrev pub left_due : PlainSignature → PlainRule → ℕ → Judged Walked
left_due S rule n = left_walked S rule n

module _ {R T : Type 0} (denotes : R → T → Tree) (S : PlainSignature) (old : R) where
  -- a guard where the rule variables have these types
  abbrev pub guard_due : List T → Guard T → ℕ → Judged (Unit {0})
  guard_due types g n = checked S (map (denotes old) types) (innermost_first denotes old g.bound) (denotes old g.term) (denotes old g.typ) n

  -- the guards that are found, under the bindings
  abbrev pub guards_due : List T → Found T → ℕ → Judged (Unit {0})
  guards_due types w n = guards_fit S (terms_of denotes old w.bindings) (map (denotes old) types) (guards_of denotes old w.guards.items) n

  -- the annotations of the rule variables whose types are found
  abbrev pub notes_due : List (Option Tree) → Found T → ℕ → Judged (Unit {0})
  notes_due notes w n = notes_agree S (terms_of denotes old w.bindings) notes (types_of denotes old w.types.items) n

  -- the right side behind a left side, where the rule variables have these types
  abbrev pub right_due : List T → Tree → Left T → ℕ → Judged (Unit {0})
  right_due types right l n = checked S (map (denotes old) types) [] (under (terms_of denotes old l.found.bindings) right) (under (terms_of denotes old l.found.bindings) (denotes old l.typ)) n

  -- the guards and the right side, behind a left side
  abbrev pub terms_due : Tree → Left T → ℕ → Judged (Unit {0})
  terms_due right l n = let s : PlainBindings = terms_of denotes old l.found.bindings in let V : List Tree = types_under s (types_of denotes old l.found.types.items) in
      next (guards_fit S s V (guards_of denotes old l.found.guards.items) n) (λ v i. checked S V [] (under s right) (under s (denotes old l.typ)) i)

  -- what comes behind the walk of a left side, whose term is `t`
  abbrev pub sides_due : PlainRule → Left T → Tree → ℕ → Judged (Unit {0})
  sides_due rule l t n = sides_fit S rule.notes rule.right (record { term = t; typ = denotes old l.typ; found = found_of denotes old l.found }) n

  -- a later occurrence in a context
  abbrev pub later_due : Context T → Bindings T → List ℕ → Tree → Tree → ℕ → Judged PlainBindings
  later_due c b xs F A n = later_fits S (bound_types denotes old c) xs F A (terms_of denotes old b) n

module _ {R T : Type 0} (owns : R → T → Type 0) (denotes : R → T → Tree) (S : PlainSignature) (old : R) (c : Context T) where
  -- a confined type behind binders
  abbrev pub Binds : List ℕ → Tree → ℕ → R → Result T TypeFault → ℕ → Type 0
  Binds xs A n new result left = GivesType owns denotes (bound_type S (bound_types denotes old c) xs A n) new result left

  module _ (b : Bindings T) where
    -- the type of an argument over those before it
    abbrev pub BindsArgument : List ℕ → ℕ → ℕ → R → Result T TypeFault → ℕ → Type 0
    BindsArgument xs x n new result left =
        GivesType owns denotes (bound_type S (map (under (terms_of denotes old b)) (bound_types denotes old c)) xs (variable_type (map (under (terms_of denotes old b)) (bound_types denotes old c)) x) n) new result left

    -- the product of the types of arguments, ending in a type that is under the bindings
    abbrev pub GivesProductOf : List ℕ → List ℕ → Tree → ℕ → R → Result T TypeFault → ℕ → Type 0
    GivesProductOf before xs A n new result left = GivesType owns denotes (first_type S (map (under (terms_of denotes old b)) (bound_types denotes old c)) before xs A n) new result left

    -- the type of a rule variable by its first occurrence
    abbrev pub GivesFirst : List ℕ → Tree → ℕ → R → Result T TypeFault → ℕ → Type 0
    GivesFirst xs A n new result left = GivesType owns denotes (first_typed S (terms_of denotes old b) (bound_types denotes old c) xs A n) new result left

    -- the equation of the type of a variable and a domain
    abbrev pub FitsVariable : ℕ → Tree → ℕ → R → Bindings T → Result Unit TypeFault → ℕ → Type 0
    FitsVariable x A n new after result left = GivesBindings owns denotes (solved S (terms_of denotes old b) (variable_type (bound_types denotes old c) x) A n) new after result left

    -- the type of a term of type F applied to a variable
    abbrev pub GivesStep : ℕ → Tree → ℕ → R → Bindings T → Result T TypeFault → ℕ → Type 0
    GivesStep x F n new after result left = GivesPosed owns denotes (applied_type S (bound_types denotes old c) x F (terms_of denotes old b) n) new after result left

    -- the type of a later occurrence
    abbrev pub GivesLater : List ℕ → Tree → ℕ → R → Bindings T → Result T TypeFault → ℕ → Type 0
    GivesLater xs F n new after result left = GivesPosed owns denotes (later_type S (bound_types denotes old c) xs F (terms_of denotes old b) n) new after result left

  module _ (w : Found T) where
    -- what is found at a first occurrence of a rule variable
    abbrev pub MeetsFirst : ℕ → List ℕ → Tree → ℕ → R → Found T → Result Unit TypeFault → ℕ → Type 0
    MeetsFirst k xs A n new found result left = GivesFound owns denotes (met_first S (bound_types denotes old c) k xs A (found_of denotes old w) n) new found result left

    -- what is found at an occurrence of a rule variable
    abbrev pub Meets : ℕ → List ℕ → Tree → ℕ → R → Found T → Result Unit TypeFault → ℕ → Type 0
    Meets k xs A n new found result left =
        GivesFound owns denotes (met S (bound_types denotes old c) k xs (found_type (types_of denotes old w.types.items) k) A (found_of denotes old w) n) new found result left

    -- a rule variable against the type A
    abbrev pub WalksVariable : ℕ → List ℕ → Tree → ℕ → R → Found T → Result T TypeFault → ℕ → Type 0
    WalksVariable k xs A n new found result left =
        GivesTerm owns denotes A (rule_variable_walked S (bound_types denotes old c) k xs (found_type (types_of denotes old w.types.items) k) A (found_of denotes old w) n) new found result left

    -- a wildcard against the type A
    abbrev pub WalksWildcard : Tree → ℕ → R → Found T → Result T TypeFault → ℕ → Type 0
    WalksWildcard A n new found result left = GivesTerm owns denotes A (wildcard_walked S (bound_types denotes old c) A (found_of denotes old w) n) new found result left

    -- a pattern against the type A
    abbrev pub Walks : Pattern → Tree → ℕ → R → Found T → Result T TypeFault → ℕ → Type 0
    Walks p A n new found result left = GivesTerm owns denotes A (walked S (bound_types denotes old c) p A (found_of denotes old w) n) new found result left

    -- a head applied to patterns, against the type A
    abbrev pub WalksHeaded : Headed T → Patterns → Tree → ℕ → R → Found T → Result T TypeFault → ℕ → Type 0
    WalksHeaded h ps A n new found result left =
        GivesTerm owns denotes A (next (spine_walked S (bound_types denotes old c) (denotes old h.term) (denotes old h.typ) ps (found_of denotes old w) n) (as_expected S A)) new found result left

    -- the term t of type F applied to a pattern
    abbrev pub WalksArgument : Tree → Tree → Pattern → ℕ → R → Found T → Result (Headed T) TypeFault → ℕ → Type 0
    WalksArgument t F p n new found result left = GivesHeaded owns denotes (argument_walked S (bound_types denotes old c) t F p (found_of denotes old w) n) new found result left

    -- the term t of type F applied to patterns
    abbrev pub WalksSpine : Tree → Tree → Patterns → ℕ → R → Found T → Result (Headed T) TypeFault → ℕ → Type 0
    WalksSpine t F ps n new found result left = GivesHeaded owns denotes (spine_walked S (bound_types denotes old c) t F ps (found_of denotes old w) n) new found result left
