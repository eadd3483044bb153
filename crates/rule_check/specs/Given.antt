-- For proofs: what a step of a walk answers, beside what is due.
use Rattle.std.specs.Prelude.{ℕ, ◌≡◌, Option, Some, None, Result, Ok, Err, List, map}
use Rattle.dk_model.specs.Trees.{Tree, apply}
use Rattle.dk_model.specs.Typing.{Judged, answer}
use Rattle.dk_model.specs.Substitution.{shift, substitute}
use Rattle.dk_model.specs.Bindings.{Bindings as PlainBindings}
use Rattle.dk_model.specs.RuleTyping.{Found as PlainFound, Walked, Posed, found_type}
use Rattle.dk_model.specs.declared.stop.TypeFault.{TypeFault}
use Rattle.infer_check.specs.declared.context.Context.{Context}
use Rattle.signature_log.specs.Reducers.{AreOwned}
use Rattle.infer_check.specs.Contexts.{innermost_first, bound_types}
use Rattle.infer_check.specs.Given.{Fails}
use Rattle.rule_check.specs.declared.found.Found.{Found}
use Rattle.rule_check.specs.declared.found.Bindings.{Bindings}
use Rattle.rule_check.specs.declared.found.Guard.{Guard}
use Rattle.rule_check.specs.declared.found.Headed.{Headed}
use Rattle.rule_check.specs.declared.found.Left.{Left}
use Rattle.rule_check.specs.Founds.{types_of, terms_of, found_of, OwnsGuard, OwnsBindings, OwnsFound}

-- a head whose term and type are the reducer's
pub record OwnsHeaded {R T : Type 0} (owns : R → T → Type 0) (r : R) (h : Headed T) : Type 0 where
  pub term : owns r h.term
  pub typ : owns r h.typ

module _ {R T : Type 0} (owns : R → T → Type 0) (denotes : R → T → Tree) where
  -- the term of a pattern against the type A, with what is found then and the units left
  abbrev pub GivesTerm : Tree → Judged Walked → R → Found T → Result T TypeFault → ℕ → Type 0
  GivesTerm A due r w (Ok t) left = (due ≡ answer (record { term = denotes r t; typ = A; found = found_of denotes r w }) left) × owns r t × OwnsFound owns denotes r w
  GivesTerm A due r w (Err fault) left = Fails fault left due

  -- a term and its type, with what is found then and the units left
  abbrev pub GivesHeaded : Judged Walked → R → Found T → Result (Headed T) TypeFault → ℕ → Type 0
  GivesHeaded due r w (Ok h) left =
      (due ≡ answer (record { term = denotes r h.term; typ = denotes r h.typ; found = found_of denotes r w }) left) × owns r h.term × owns r h.typ × OwnsFound owns denotes r w
  GivesHeaded due r w (Err fault) left = Fails fault left due

  -- what is found then, with the units left
  abbrev pub GivesFound : Judged PlainFound → R → Found T → Result Unit TypeFault → ℕ → Type 0
  GivesFound due r w (Ok u) left = (due ≡ answer (found_of denotes r w) left) × OwnsFound owns denotes r w
  GivesFound due r w (Err fault) left = Fails fault left due

  -- what rule variables are bound to then, with the units left
  abbrev pub GivesBindings : Judged PlainBindings → R → Bindings T → Result Unit TypeFault → ℕ → Type 0
  GivesBindings due r b (Ok u) left = (due ≡ answer (terms_of denotes r b) left) × OwnsBindings owns denotes r b
  GivesBindings due r b (Err fault) left = Fails fault left due

  -- a type, and what rule variables are bound to then, with the units left
  abbrev pub GivesPosed : Judged Posed → R → Bindings T → Result T TypeFault → ℕ → Type 0
  GivesPosed due r b (Ok t) left = (due ≡ answer (record { typ = denotes r t; bindings = terms_of denotes r b }) left) × owns r t × OwnsBindings owns denotes r b
  GivesPosed due r b (Err fault) left = Fails fault left due

  -- a left side, with the units left
  abbrev pub GivesLeft : Judged Walked → R → Result (Left T) TypeFault → ℕ → Type 0
  GivesLeft due r (Ok l) left =
      (t : Tree) × (due ≡ answer (record { term = t; typ = denotes r l.typ; found = found_of denotes r l.found }) left) × owns r l.typ × OwnsFound owns denotes r l.found
  GivesLeft due r (Err fault) left = Fails fault left due

  -- a head and its type
  pub record IsHeaded (t F : Tree) (r : R) (h : Headed T) : Type 0 where
    pub term : denotes r h.term ≡ t
    pub typ : denotes r h.typ ≡ F
    pub own : owns r h.term
    pub own_typ : owns r h.typ

  -- a term applied to an argument, and the codomain of its type
  pub record IsApplied (old : R) (t a B : T) (r : R) (h : Headed T) : Type 0 where
    pub term : denotes r h.term ≡ apply (denotes old t) (denotes old a)
    pub typ : denotes r h.typ ≡ substitute 0 (denotes old a) (denotes old B)
    pub own : owns r h.term
    pub own_typ : owns r h.typ

  -- the type that a rule variable has already, shifted by the depth
  abbrev pub IsKnown : R → Found T → ℕ → ℕ → R → Option T → Type 0
  IsKnown old w k depth r None = found_type (types_of denotes old w.types.items) k ≡ None
  IsKnown old w k depth r (Some t) = (F : Tree) × (found_type (types_of denotes old w.types.items) k ≡ Some F) × (denotes r t ≡ shift 0 depth F) × owns r t

  -- second values for the same terms
  pub record IsCopied (old : R) (ts : List T) (r : R) (us : List T) : Type 0 where
    pub same : map (denotes r) us ≡ map (denotes old) ts
    pub own : AreOwned owns r us

  -- a guard of this term and type in a context
  pub record IsGuardAt (old : R) (c : Context T) (t A : T) (r : R) (g : Guard T) : Type 0 where
    pub context : innermost_first denotes r g.bound ≡ bound_types denotes old c
    pub term : denotes r g.term ≡ denotes old t
    pub typ : denotes r g.typ ≡ denotes old A
    pub own : OwnsGuard owns r g

-- that a test is met, where these are given back
abbrev pub GivesTypes : {T : Type 0} → List T → Judged (Unit {0}) → Result (List T) TypeFault → ℕ → Type 0
GivesTypes types due (Ok ts) left = (due ≡ answer tt left) × (ts ≡ types)
GivesTypes types due (Err fault) left = Fails fault left due
