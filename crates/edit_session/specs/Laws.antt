-- For callers: what the laws say: a kept answer is the present one where the command rests on the same texts.
use Rattle.std.specs.Prelude.{ℕ, ◌≡◌, List}
use Rattle.dk_model.specs.PlainCommands.{PlainCommand}
use Rattle.dk_model.specs.declared.limits.Limits.{Limits}
use Rattle.prune_theory.specs.Folds.{Declared}
use Rattle.prune_theory.specs.Renumbering.{picked}
use Rattle.edit_session.specs.Answers.{IsCommandBehind, IsMade, PlainKept, answer_on, answer_with, is_among, renumbered}

-- an answer that was made once, behind whatever texts, is the present one, but for the numbers of symbols
abbrev pub KeptAnswersServe : Type 0
KeptAnswersServe = (limits : Limits) (budget : ℕ) (text : List ℕ) (kept : PlainKept) (before : List (List ℕ)) (places : List ℕ) (T : Declared) (c : PlainCommand)
    → IsMade limits budget text kept → IsCommandBehind limits budget before text places T c → kept.texts ≡ picked (is_among places) 0 before
    → answer_on T.signature c budget ≡ answer_with (renumbered kept.places places) kept.answer
