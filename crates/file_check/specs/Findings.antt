-- For proofs: what the reader finds of a command itself.
use Rattle.std.specs.Prelude.{◌≡◌, ◌||◌, ℕ, Bool, true, false, Some, None}
use Rattle.dk_model.specs.Answering.{is_answered, is_untyped}
use Rattle.dk_model.specs.PlainCommands.{PlainCommand}
use Rattle.dk_model.specs.PlainEntries.{PlainSignature}
use Rattle.dk_model.specs.Signatures.{maybe_by}
use Rattle.dk_model.specs.Verdicts.{found_of, inferred_type}
use Rattle.shared_term.specs.declared.found.Found.{Found}
use Rattle.shared_term.specs.Finding.{plain_found}
use Rattle.shared_term.specs.Storage.{stored_term}
use Rattle.file_check.specs.declared.finding.Findings.{Findings}

-- a definition without a declared type, or a query whose answer is shown
abbrev pub is_early : PlainCommand → Bool
is_early c = is_untyped c || is_answered c

-- the type of the one and the answer of the other, over this signature
pub record Finds (S : PlainSignature) (c : PlainCommand) (budget : ℕ) (f : Findings) : Type 0 where
  pub typ : maybe_by stored_term f.typ ≡ inferred_type S c budget
  pub found : is_answered c ≡ true → (answer : Found) × (f.found ≡ Some answer) × (found_of S c budget ≡ Some (plain_found answer))
  pub none : is_answered c ≡ false → f.found ≡ None
