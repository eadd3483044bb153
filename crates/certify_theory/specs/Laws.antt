-- For callers: what the law says: the text of a certificate that was written is rechecked.
use Rattle.std.specs.Prelude.{ℕ, ◌≡◌, List, length, Option}
use Rattle.dk_io.specs.Bytes.{added}
use Rattle.dk_model.specs.PlainCommands.{PlainCommand}
use Rattle.recheck_theory.specs.Answers.{Answers, rechecked}
use Rattle.certify_theory.specs.Ends.{TakesCertificate}

abbrev pub CertifiedIsRechecked : Type 0
CertifiedIsRechecked = (commands : List PlainCommand) (before after : Option (List ℕ)) → TakesCertificate commands before after
    → (text : List ℕ) × (after ≡ added before text) × Answers commands text (rechecked (length commands))
