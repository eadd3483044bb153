-- For callers: a command whose terms are stored, as plain data.
use Rattle.std.specs.Prelude.{map}
use Rattle.dk_model.specs.Signatures.{maybe_by}
use Rattle.dk_model.specs.Scoping.{PlainCommand, declare, rule_command, query, plain_scoped_rule, plain_asked}
use Rattle.shared_term.specs.Storage.{stored_term}
use Rattle.shared_term.specs.declared.command.StoredCommand.{StoredCommand}
use Rattle.shared_term.specs.declared.command.StoredCommand.TheVariants.{Declare, Rules, Query}

abbrev pub stored_command : StoredCommand → PlainCommand
stored_command (Declare s t b) = declare s (maybe_by stored_term t) (maybe_by stored_term b)
stored_command (Rules rs) = rule_command (map plain_scoped_rule rs)
stored_command (Query demand a) = query demand (plain_asked a)
