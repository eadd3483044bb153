-- Trusted: the lines of a certificate, those before its last one, and certificates of some first commands.
use Rattle.std.specs.Prelude.{ℕ, ◌+◌, ◌≡◌, List, [], ◌∷◌, ◌++◌}
use Rattle.dk_model.specs.PlainCommands.{PlainCommand}
use Rattle.certificate_lines.specs.declared.line.Line.{Line}
use Rattle.certificate_lines.specs.declared.line.Line.TheVariants.{First, Part, Last}
use Rattle.certificate_items.specs.Texts.{lines_of}
use Rattle.checked_steps.specs.Items.{Item}
use Rattle.checked_steps.specs.Certificates.{IsCertificate}

-- the lines of the parts behind those of so many commands
abbrev pub part_lines : ℕ → List (List Item) → List Line
part_lines done [] = []
part_lines done (items ∷ parts) = Part (done + 1) ∷ (lines_of items ++ part_lines (done + 1) parts)

-- the first line of a certificate, and those of its parts
abbrev pub first_lines : List (List Item) → List Line
first_lines parts = First ∷ part_lines 0 parts

-- all its lines
abbrev pub whole_lines : List (List Item) → List Line
whole_lines parts = first_lines parts ++ (Last ∷ [])

-- the parts are a certificate of some first commands of these
pub record AreFirstParts (commands : List PlainCommand) (parts : List (List Item)) : Type 0 where
  pub first : List PlainCommand
  pub others : List PlainCommand
  pub split : commands ≡ first ++ others
  pub certificate : IsCertificate first parts
