-- For proofs: of what the program's command is put together.
use Rattle.std.specs.Prelude.{◌≡◌, ℕ, Some, true}
use Rattle.clap.specs.Words.{App, Rule, Text, app_of, new_rule}
use Rattle.clap.specs.declared.builder.command.Command.{Command}
use Rattle.clap.specs.declared.builder.value_parser.ValueParser.TheVariants as vp

-- an argument that has to be given
abbrev pub needed_rule : Text → Rule
needed_rule name = record (new_rule name) { required = true }

-- `--name N`, with a number from 1 to the largest
abbrev pub number_rule : Text → ℕ → Rule
number_rule name largest = record (new_rule name) {
  long = Some name;
  parser = Some (vp.Unsigned 1 largest);
}

-- a command that is this one for clap
abbrev pub IsApp : App → Command → Type 0
IsApp a c = app_of c ≡ a
