-- For callers: what it means that what a query finds is so, without a strategy of evaluation and without units.
use Rattle.std.specs.Prelude.{◌≡◌, Some, Bool, false, []}
use Rattle.dk_model.specs.PlainTerms.{Tree}
use Rattle.dk_model.specs.Erasure.{erased}
use Rattle.dk_model.specs.PlainEntries.{PlainSignature}
use Rattle.dk_model.specs.PlainCommands.{PlainAsked, typed, alike, type_of, value_of, PlainFound, yes, no, of_type, value}
use Rattle.dk_model.specs.TypingOver.{Evaluator, answer}
use Rattle.dk_model.specs.CommandTypingOver.{query_found}
use Rattle.typing_model.specs.Steps.{ReducesTo, AreJoinable}
use Rattle.typing_model.specs.Derivations.{HasType, IsDeclaredType, IsDeclaredBody}

-- a term without free variables has some type
abbrev pub HasSomeType : PlainSignature → Tree → Type 0
HasSomeType S t = (T : Tree) × HasType S [] [] t T

-- what a query may find, and what that says. Yes: the type has a sort and the term fits it; or both terms have types, and are
-- joinable without their annotations. A type: it is the term's. A value: the term has a type, and reduces to it without its
-- annotations. No, which no demand finds, says nothing
abbrev pub IsSo : PlainSignature → Bool → PlainAsked → PlainFound → Type 0
IsSo S demand (typed t A) yes = IsDeclaredType S (Some A) × IsDeclaredBody S (Some A) (Some t)
IsSo S demand (alike t u) yes = HasSomeType S t × HasSomeType S u × AreJoinable S (erased t) (erased u)
IsSo S demand (type_of t) (of_type T) = HasType S [] [] t T
IsSo S demand (value_of t) (value v) = HasSomeType S t × ReducesTo S (erased t) v
IsSo S false (typed t A) no = Unit {0}
IsSo S false (alike t u) no = Unit {0}
IsSo S demand a f = ⊥

-- what a query finds is so
abbrev pub FoundIsSo : {X : Type 0} → PlainSignature → Evaluator X → Type 0
FoundIsSo {X} S E = (demand : Bool) (asked : PlainAsked) (n m : X) (found : PlainFound) → query_found E S demand asked n ≡ answer found m → IsSo S demand asked found
