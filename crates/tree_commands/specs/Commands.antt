-- For callers: the check of a command that is no query, with the type that it gives, over any evaluation.
use Rattle.std.specs.Prelude.{Option, Some, None}
use Rattle.dk_model.specs.PlainTerms.{Tree}
use Rattle.dk_model.specs.PlainEntries.{PlainSignature}
use Rattle.dk_model.specs.PlainCommands.{PlainCommand, declare, rule_command, query}
use Rattle.dk_model.specs.Shapes.{shapes_of}
use Rattle.dk_model.specs.TypingOver.{Evaluator, JudgedIn, answer, next}
use Rattle.dk_model.specs.CommandTypingOver.{body_type, declaration_checked, rules_checked}

module _ {X : Type 0} (E : Evaluator X) (S : PlainSignature) where
  -- the check of a declaration, and the type of a body without a declared one
  abbrev pub declaration_type : Option Tree → Option Tree → X → JudgedIn X (Option Tree)
  declaration_type (Some A) b n = next (declaration_checked E S (Some A) b n) (λ u m. answer None m)
  declaration_type None (Some b) n = next (body_type E S b n) (λ T m. answer (Some T) m)
  declaration_type None None n = answer None n

  -- the same for a command; a query is asked nothing
  abbrev pub command_type : PlainCommand → X → JudgedIn X (Option Tree)
  command_type (declare s A b) n = declaration_type A b n
  command_type (rule_command rs) n = next (rules_checked E S (shapes_of S rs) n) (λ u m. answer None m)
  command_type (query demand a) n = answer None n
