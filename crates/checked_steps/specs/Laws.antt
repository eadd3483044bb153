-- For callers: what the laws say: what is checked by a certificate has derivations, and what is accepted can be certified.
use Rattle.std.specs.Prelude.{ℕ, ◌≡◌, List, [], ◌∷◌, ◌++◌}
use Rattle.dk_model.specs.PlainTerms.{Tree}
use Rattle.dk_model.specs.PlainEntries.{PlainSignature}
use Rattle.dk_model.specs.PlainCommands.{PlainCommand}
use Rattle.dk_model.specs.TypingOver.{answer}
use Rattle.dk_model.specs.ByUnits.{by_units}
use Rattle.dk_model.specs.CommandTypingOver.{body_type}
use Rattle.dk_model.specs.Verdicts.{verdict_of, entry_of, inferred_type}
use Rattle.dk_model.specs.declared.code.Verdict.TheVariants.{Accepted}
use Rattle.typing_model.specs.Derivations.{HasDerivation}
use Rattle.checked_steps.specs.Items.{Item}
use Rattle.checked_steps.specs.Checked.{by_items, IsChecked}
use Rattle.checked_steps.specs.Certificates.{IsCertificate}
use Rattle.checked_steps.specs.Theories.{HaveDerivations}

-- ---- one command

-- a command with a checked derivation has a derivation
abbrev pub CheckedHasDerivation : PlainSignature → Type 0
CheckedHasDerivation S = (command : PlainCommand) (items : List Item) → IsChecked S command items → HasDerivation S command

-- an accepted command has a checked derivation
abbrev pub AcceptedIsChecked : PlainSignature → Type 0
AcceptedIsChecked S = (command : PlainCommand) (budget : ℕ) → verdict_of S command budget ≡ Accepted → (items : List Item) × IsChecked S command items

-- the type that is inferred for a body is also the type of it by some items
abbrev pub TypeIsChecked : PlainSignature → Type 0
TypeIsChecked S = (body typ : Tree) (budget left : ℕ) → body_type (by_units S) S body budget ≡ answer typ left → (items : List Item) × (body_type (by_items S) S body items ≡ answer typ [])

-- ---- the commands of a theory

-- commands one after the other, each accepted over the entries of those before it
pub data AreAccepted (budget : ℕ) : PlainSignature → List PlainCommand → Type 0 where
  none_accepted : {S : PlainSignature} → AreAccepted budget S []
  one_accepted : {S : PlainSignature} {command : PlainCommand} {commands : List PlainCommand}
      → verdict_of S command budget ≡ Accepted → AreAccepted budget (S ++ (entry_of S command (inferred_type S command budget) ∷ [])) commands → AreAccepted budget S (command ∷ commands)

-- where the commands of a theory have a certificate, each has a derivation over those before it
abbrev pub CertifiedHaveDerivations : Type 0
CertifiedHaveDerivations = (commands : List PlainCommand) (parts : List (List Item)) → IsCertificate commands parts → HaveDerivations [] commands

-- where they are accepted they have a certificate
abbrev pub AcceptedHaveCertificate : Type 0
AcceptedHaveCertificate = (commands : List PlainCommand) (budget : ℕ) → AreAccepted budget [] commands → (parts : List (List Item)) × IsCertificate commands parts
