-- Trusted: the verdict on a command and the entry that an accepted one adds (docs/typing.md).
use Rattle.std.specs.Prelude.{ℕ, Option, Some, None, []}
use Rattle.dk_model.specs.PlainTerms.{Tree, kind}
use Rattle.dk_model.specs.Erasure.{erased}
use Rattle.dk_model.specs.PlainEntries.{PlainRule, PlainEntry, symbol_entry, rules_entry, PlainSignature}
use Rattle.dk_model.specs.Shapes.{shapes_of, kept_rules}
use Rattle.dk_model.specs.PlainCommands.{PlainFound, PlainCommand, declare, rule_command, query}
use Rattle.dk_model.specs.TypingOver.{JudgedIn, answer, refused, ended}
use Rattle.dk_model.specs.CommandTypingOver as over
use Rattle.dk_model.specs.ByUnits.{by_units}
pub use Rattle.dk_model.specs.CommandTyping.{body_checked, body_type, declaration_checked, rules_checked, or_no, found_by, compared, evaluated, asked_found, query_found, command_checked}
use Rattle.dk_model.specs.declared.signature.SymSort.{SymSort}
use Rattle.dk_model.specs.declared.signature.SymSort.TheVariants.{Static, Definable, Theorem}
use Rattle.dk_model.specs.declared.code.Code.{Code}
use Rattle.dk_model.specs.declared.code.Verdict.{Verdict}
use Rattle.dk_model.specs.declared.code.Verdict.TheVariants.{Accepted, Refused, Ended}

abbrev pub verdict : {X A : Type 0} → JudgedIn X A → Verdict
verdict (answer a n) = Accepted
verdict (refused c n) = Refused c
verdict ended = Ended

-- `Ended` exactly where the check needs more units than the budget
abbrev pub verdict_of : PlainSignature → PlainCommand → ℕ → Verdict
verdict_of S c budget = verdict (over.command_checked (by_units S) S c budget)

abbrev pub answer_of : {X A : Type 0} → JudgedIn X A → Option A
answer_of (answer a n) = Some a
answer_of (refused c n) = None
answer_of ended = None

-- the type that is inferred for a definition without a declared type, where it is accepted
abbrev pub inferred_type : PlainSignature → PlainCommand → ℕ → Option Tree
inferred_type S (declare s None (Some b)) budget = answer_of (over.body_type (by_units S) S b budget)
inferred_type S (declare s None None) budget = None
inferred_type S (declare s (Some A) b) budget = None
inferred_type S (rule_command rs) budget = None
inferred_type S (query demand a) budget = None

-- what an accepted query found
abbrev pub found_of : PlainSignature → PlainCommand → ℕ → Option PlainFound
found_of S (query demand a) budget = answer_of (over.query_found (by_units S) S demand a budget)
found_of S (declare s A b) budget = None
found_of S (rule_command rs) budget = None

abbrev pub maybe_erased : Option Tree → Option Tree
maybe_erased None = None
maybe_erased (Some t) = Some (erased t)

-- the declared type without annotations, or the inferred one; `Kind` where there is neither
abbrev pub entry_type_of : Option Tree → Option Tree → Tree
entry_type_of (Some A) T = erased A
entry_type_of None (Some T) = T
entry_type_of None None = kind

-- only a definition keeps its body
abbrev pub kept_body : SymSort → Option Tree → Option Tree
kept_body Definable b = maybe_erased b
kept_body Static b = None
kept_body Theorem b = None

-- the entry of an accepted command, with the type that was inferred for a definition without a declared one; a query adds no rule
abbrev pub entry_of : PlainSignature → PlainCommand → Option Tree → PlainEntry
entry_of S (declare s A b) T = symbol_entry s (entry_type_of A T) (kept_body s b)
entry_of S (rule_command rs) T = rules_entry (kept_rules (shapes_of S rs))
entry_of S (query demand a) T = rules_entry []
