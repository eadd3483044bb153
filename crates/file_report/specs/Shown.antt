-- Trusted: what a report shows of an accepted command (docs/report.md).
use Rattle.std.specs.Prelude.{ℕ, true, false, List, codes, Option, Some, None}
use Rattle.dk_model.specs.Signatures.{PlainSignature}
use Rattle.dk_model.specs.PlainCommands.{PlainCommand, PlainFound, declare, of_type, no, query, rule_command, value, yes}
use Rattle.dk_model.specs.Verdicts.{found_of}
use Rattle.scope_terms.specs.Scopes.{Scoping, refused, scoped}
use Rattle.term_print.specs.Named.{Word}
use Rattle.term_print.specs.Printing.{printed}
use Rattle.verdict_book.specs.Report.{PlainShown, ok_name, says_no, says_type, says_value, says_yes}

-- the words of the symbols
module _ (words : ℕ → Word) where
  abbrev pub found_shown : PlainFound → PlainShown
  found_shown yes = says_yes
  found_shown no = says_no
  found_shown (of_type T) = says_type (printed words T)
  found_shown (value t) = says_value (printed words t)

  -- what is shown of a query that only asks; of one that isn't accepted nothing is ever shown
  abbrev pub answer_shown : Option PlainFound → PlainShown
  answer_shown (Some found) = found_shown found
  answer_shown None = says_no

  -- what is shown of an accepted command over this signature: what the query found, or the name
  abbrev pub command_shown : List ℕ → PlainSignature → ℕ → PlainCommand → PlainShown
  command_shown name S budget (query false asked) = answer_shown (found_of S (query false asked) budget)
  command_shown name S budget (query true asked) = ok_name (codes "#ASSERT")
  command_shown name S budget (declare s A b) = ok_name name
  command_shown name S budget (rule_command rs) = ok_name name

  -- a command that isn't scoped is never accepted
  abbrev pub scoped_shown : List ℕ → PlainSignature → ℕ → Scoping PlainCommand → PlainShown
  scoped_shown name S budget (scoped c) = command_shown name S budget c
  scoped_shown name S budget (refused code) = ok_name name
