-- For proofs: the parts of a certification.
use Rattle.std.specs.Prelude.{◌≡◌, ◌≢◌, ◌⊎◌, ℕ, List, ◌++◌, Option, None, Some}
use Rattle.dk_io.specs.Bytes.{Books}
use Rattle.dk_model.specs.PlainCommands.{PlainCommand}
use Rattle.dk_model.specs.declared.limits.Limits.{Limits}
use Rattle.command_line.specs.Requests.{CertifyRequest}
use Rattle.verdict_book.specs.Report.{status_of}
use Rattle.verdict_book.specs.declared.outcome.Outcome.{Outcome}
use Rattle.verdict_book.specs.declared.outcome.Outcome.TheVariants.{Accepted}
use Rattle.book_reader.specs.Shelves.{HasHeld, ShelfState}
use Rattle.dk_check_run.specs.Certify.{IsAccepted, IsCertificateText, IsFrontText, file_setting, last_of}
use Rattle.dk_check_run.specs.Run.{SinkState, Writes, memory_at_once}

-- the last line of a report that ends so was written; or nothing, where all is accepted
abbrev pub PutsOther : CertifyRequest → SinkState → SinkState → Outcome → Option ℕ → Type 0
PutsOther q before after outcome (Some result) = (status_of outcome ≢ 0) × Writes before after (last_of q outcome) (status_of outcome) result
PutsOther q before after outcome None = ((count : ℕ) × (outcome ≡ Accepted count)) × (after ≡ before)

-- the text of a certificate of these commands is due, or that memory ended behind some first parts
abbrev pub PutsCertificate : List PlainCommand → SinkState → SinkState → ℕ → Type 0
PutsCertificate commands before after result =
    ((text : List ℕ) × IsCertificateText commands text × Writes before after text 0 result)
    ⊎ ((front : List ℕ) × IsFrontText commands front × Writes before after (front ++ memory_at_once) 4 result)

-- the file was checked and accepted in between, and no call of the shelf failed
pub record WasAccepted (limits : Limits) (q : CertifyRequest) (old middle : ShelfState) : Type 0 where
  pub books : middle.books ≡ old.books
  pub held : HasHeld old middle
  pub accepted : (held : Books) → old.books ≡ Some held → IsAccepted q (file_setting limits q held)
