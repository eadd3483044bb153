-- How the summary of a made theory is written.
use Rattle.std.proofs.Common.{◌≡◌, ◌++◌, ℕ, Bool, true, false, List, [], refl, sym, ap, subst}
use Rattle.std.specs.Prelude.{if◌then◌else◌}
use Rattle.dk_model.specs.declared.code.Verdict.TheVariants as verdict
use Rattle.verdict_book.specs.Report.{last_line, status_of}
use Rattle.verdict_book.specs.declared.outcome.Outcome.{Outcome}
use Rattle.verdict_book.specs.declared.outcome.Outcome.TheVariants.{Accepted, Stopped, Unread, Unopened}
use Rattle.dk_check_run.specs.Run.{SinkState, Writes, memory_at_once}
use Rattle.dk_check_run.specs.Summaries.{is_at_once, text_by}

-- memory ended before the first command, and the text is that alone
pub at_once_text : (old new : SinkState) (line : List ℕ) (budget : ℕ) (o : Outcome) (result : ℕ) → is_at_once o ≡ true → Writes old new memory_at_once 4 result
    → Writes old new (text_by line budget o) (status_of o) result
at_once_text old new line budget o result early w = subst (λ t. Writes old new t (status_of o) result) (sym (ap (λ (b : Bool). if b then memory_at_once else line ++ last_line o budget []) early))
    (subst (λ n. Writes old new memory_at_once n result) (sym (early_status o early)) w)
  where
    early_status : (o : Outcome) → is_at_once o ≡ true → status_of o ≡ 4
    early_status (Accepted n) e = cc
    early_status (Unread n place) e = cc
    early_status (Unopened name) e = cc
    early_status (Stopped n l verdict.Accepted) e = cc
    early_status (Stopped n l (verdict.Refused code)) e = cc
    early_status (Stopped n l verdict.Ended) e = cc
    early_status (Stopped n l verdict.Memory) e = refl

-- it didn't, and the text is the line and a last line
pub later_text : (old new : SinkState) (line : List ℕ) (budget : ℕ) (o : Outcome) (result : ℕ) → is_at_once o ≡ false → Writes old new (line ++ last_line o budget []) (status_of o) result
    → Writes old new (text_by line budget o) (status_of o) result
later_text old new line budget o result late w = subst (λ t. Writes old new t (status_of o) result) (sym (ap (λ (b : Bool). if b then memory_at_once else line ++ last_line o budget []) late)) w
