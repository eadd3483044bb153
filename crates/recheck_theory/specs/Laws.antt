-- For callers: what the laws say: what is rechecked has derivations, and the text of a certificate is rechecked.
use Rattle.std.specs.Prelude.{ℕ, ◌+◌, ◌≡◌, List, [], ◌∷◌, ◌++◌, length}
use Rattle.dk_model.specs.PlainCommands.{PlainCommand}
use Rattle.certificate_lines.specs.declared.line.Line.{Line}
use Rattle.certificate_lines.specs.declared.line.Line.TheVariants.{First, Part, Last}
use Rattle.certificate_items.specs.Texts.{AreShort, lines_of, lines_text}
use Rattle.checked_steps.specs.Items.{Item}
use Rattle.checked_steps.specs.Certificates.{IsCertificate}
use Rattle.checked_steps.specs.Theories.{HaveDerivations}
use Rattle.recheck_theory.specs.Answers.{Answers, rechecked}

-- the lines of the parts behind those of so many commands, and the last line
abbrev pub lines_behind : ℕ → List (List Item) → List Line
lines_behind done [] = Last ∷ []
lines_behind done (items ∷ parts) = Part (done + 1) ∷ (lines_of items ++ lines_behind (done + 1) parts)

-- the lines of a certificate
abbrev pub certificate_lines : List (List Item) → List Line
certificate_lines parts = First ∷ lines_behind 0 parts

-- commands that are rechecked are all of them, and each has a derivation over those before it
abbrev pub RecheckedHaveDerivations : Type 0
RecheckedHaveDerivations = (commands : List PlainCommand) (bytes : List ℕ) (count : ℕ) → Answers commands bytes (rechecked count) → (count ≡ length commands) × HaveDerivations [] commands

-- the text of a certificate is rechecked, where its numbers are below 2^64
abbrev pub CertificatesAreRechecked : Type 0
CertificatesAreRechecked = (commands : List PlainCommand) (parts : List (List Item)) → IsCertificate commands parts → AreShort (certificate_lines parts)
    → Answers commands (lines_text (certificate_lines parts)) (rechecked (length commands))
