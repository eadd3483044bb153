-- Worked queries, by computation.
use Rattle.std.proofs.Common.{ℕ, ◌≡◌, Option, Some, None, Bool, true, false, refl, []}
use Rattle.dk_model.specs.Trees.{Tree, star, kind, symbol, variable, apply, bare, annotated, product}
use Rattle.dk_model.specs.Signatures.{PlainSignature, rules_entry}
use Rattle.dk_model.specs.Scoping.{PlainAsked, typed, alike, type_of, value_of, PlainFound, yes, no, of_type, value, query}
use Rattle.dk_model.specs.Verdicts.{verdict_of, entry_of, found_of}
use Rattle.dk_model.specs.declared.code.Verdict.{Verdict}
use Rattle.dk_model.specs.declared.code.Verdict.TheVariants.{Accepted, Refused, Ended}
use Rattle.dk_model.specs.declared.code.Code.TheVariants.{E20, E21, E22, E23}
use Rattle.dk_model.proofs.Worked.{numbers, numeral, plus, nat_z}

-- the verdict on a query, and what is found
abbrev asked_in : PlainSignature → Bool → PlainAsked → ℕ → Verdict × Option PlainFound
asked_in S demand a budget = (verdict_of S (query demand a) budget, found_of S (query demand a) budget)

-- nat : Type. z : nat. #CHECK z : nat. takes 2, as a theorem does
pub has_type : asked_in nat_z false (typed (symbol 1) (symbol 0)) 2 ≡ (Accepted, Some yes)
has_type = refl

pub has_type_ends : asked_in nat_z false (typed (symbol 1) (symbol 0)) 1 ≡ (Ended, None)
has_type_ends = refl

-- #CHECK nat : nat. is accepted and answered no, #ASSERT nat : nat. refused
pub has_another : asked_in nat_z false (typed (symbol 0) (symbol 0)) 100 ≡ (Accepted, Some no)
has_another = refl

pub asserts_another : asked_in nat_z true (typed (symbol 0) (symbol 0)) 100 ≡ (Refused E21, None)
asserts_another = refl

-- #CHECK z : z. with no type behind the colon
pub against_no_type : asked_in nat_z false (typed (symbol 1) (symbol 1)) 100 ≡ (Accepted, Some no)
against_no_type = refl

pub asserts_no_type : asked_in nat_z true (typed (symbol 1) (symbol 1)) 100 ≡ (Refused E22, None)
asserts_no_type = refl

-- #CHECK plus 2 2 == 4. and #CHECK 4 == 3.
pub sum_alike : asked_in numbers false (alike (plus (numeral 2) (numeral 2)) (numeral 4)) 100 ≡ (Accepted, Some yes)
sum_alike = refl

pub unlike : asked_in numbers false (alike (numeral 4) (numeral 3)) 100 ≡ (Accepted, Some no)
unlike = refl

pub asserts_unlike : asked_in numbers true (alike (numeral 4) (numeral 3)) 100 ≡ (Refused E21, None)
asserts_unlike = refl

-- a term without a type is not compared, not even with itself
pub without_type : asked_in nat_z true (alike (bare (variable 0)) (bare (variable 0))) 100 ≡ (Refused E23, None)
without_type = refl

-- annotations play no part: #CHECK (x : nat => x) == (x : nat => x).
pub annotations_alike : asked_in nat_z false (alike (annotated (symbol 0) (variable 0)) (annotated (symbol 0) (variable 0))) 100 ≡ (Accepted, Some yes)
annotations_alike = refl

-- #INFER Type. and #INFER s 2. and #INFER z z.
pub type_of_type : asked_in [] false (type_of star) 0 ≡ (Accepted, Some (of_type kind))
type_of_type = refl

pub type_of_numeral : asked_in numbers false (type_of (numeral 3)) 100 ≡ (Accepted, Some (of_type (symbol 0)))
type_of_numeral = refl

pub type_of_nothing : asked_in nat_z false (type_of (apply (symbol 1) (symbol 1))) 100 ≡ (Refused E20, None)
type_of_nothing = refl

-- #EVAL plus 2 2. and #EVAL x : nat => plus 0 x., below the binder too
pub sum_evaluated : asked_in numbers false (value_of (plus (numeral 2) (numeral 2))) 100 ≡ (Accepted, Some (value (numeral 4)))
sum_evaluated = refl

pub below_binder : asked_in numbers false (value_of (annotated (symbol 0) (plus (numeral 0) (variable 0)))) 100 ≡ (Accepted, Some (value (bare (variable 0))))
below_binder = refl

-- a query adds no rule
pub adds_none : entry_of nat_z (query true (typed (symbol 1) (symbol 0))) None ≡ rules_entry []
adds_none = refl
