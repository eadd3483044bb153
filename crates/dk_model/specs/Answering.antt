-- For callers: what a call on a command asks for and may answer, beside the verdict that is due.
use Rattle.std.specs.Prelude.{Bool, true, false, ◌≡◌, Some, None}
use Rattle.dk_model.specs.PlainCommands.{PlainCommand, declare, rule_command, query}
use Rattle.dk_model.specs.declared.code.Verdict.{Verdict}
use Rattle.dk_model.specs.declared.code.Verdict.TheVariants.{Memory}

-- whether the command is a definition without a declared type
abbrev pub is_untyped : PlainCommand → Bool
is_untyped (declare s None (Some b)) = true
is_untyped (declare s None None) = false
is_untyped (declare s (Some A) b) = false
is_untyped (rule_command rs) = false
is_untyped (query demand a) = false

-- whether the command is a query that only asks, so that its answer is shown
abbrev pub is_answered : PlainCommand → Bool
is_answered (declare s A b) = false
is_answered (rule_command rs) = false
is_answered (query true a) = false
is_answered (query false a) = true

-- the verdict that is due, or want of memory
abbrev pub IsVerdictOrMemory : Verdict → Verdict → Type 0
IsVerdictOrMemory due Memory = Unit {0}
IsVerdictOrMemory due given = given ≡ due
