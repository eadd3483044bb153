-- For proofs: the facts that the contracts of this crate state, over the program's own types.
use Rattle.std.specs.Prelude.{ℕ, Option}
use Rattle.dk_model.specs.Trees.{Tree}
use Rattle.dk_model.specs.Signatures.{plain_signature}
use Rattle.dk_model.specs.Scoping.{plain_command}
use Rattle.dk_model.specs.Verdicts.{verdict_of, inferred_type}
use Rattle.dk_model.specs.Answering.{IsVerdictOrMemory}
use Rattle.dk_model.specs.declared.code.Verdict.{Verdict}
use Rattle.dk_model.specs.declared.signature.Signature.{Signature}
use Rattle.dk_model.specs.declared.scoped.Scoped.{Scoped}

-- the verdict that is due over the signature within the budget
abbrev pub due : Signature → Scoped → ℕ → Verdict
due s c budget = verdict_of (plain_signature s) (plain_command c) budget

-- the verdict that is due, or want of memory
abbrev pub IsDue : Signature → Scoped → ℕ → Verdict → Type 0
IsDue s c budget v = IsVerdictOrMemory (due s c budget) v

-- the type inferred for a definition without a declared one, where it is accepted
abbrev pub inferred_for : Signature → Scoped → ℕ → Option Tree
inferred_for s c budget = inferred_type (plain_signature s) (plain_command c) budget
