-- The parts one after the other: what is answered behind those so far is answered of all.
use Rattle.std.specs.Prelude.{length, map, drop, ◌≢◌, Result, Ok, Err, IfOk}
use Rattle.std.proofs.Math.ListN.{get_or}
use Rattle.std.proofs.Math.Seq.{drop-cons}
use Rattle.std.proofs.lemmas.List.{drop_all}
use Rattle.std.specs.Str.{bytes_eq}
use Rattle.std.proofs.lemmas.Slice.Eq.{bytes_eq-Decides}
use Rattle.std.proofs.Common.{Bool, true, false, ℕ, suc, ◌+◌, ◌<◌, ◌≤◌, ◌≡◌, List, [], ◌∷◌, ◌++◌, Option, ap, ◌∙◌, sym as flip, subst as along, arith}
use Rattle.dk_model.specs.PlainTerms.{Tree}
use Rattle.dk_model.specs.PlainEntries.{PlainSignature}
use Rattle.dk_model.specs.Scoping.{PlainCommand, plain_command}
use Rattle.dk_model.specs.Verdicts.{entry_of}
use Rattle.dk_model.specs.declared.scoped.Scoped.{Scoped}
use Rattle.dk_model.specs.declared.memory.NoMemory.{NoMemory}
use Rattle.certificate_lines.specs.declared.line.Line.TheVariants.{First, Last}
use Rattle.certificate_items.specs.Texts.{BeginsWith, lines_text}
use Rattle.recheck_theory.specs.declared.answer.Answer.{Answer as CodeAnswer}
use Rattle.recheck_theory.specs.Answers.{Answer, rechecked, rejected, AnswersBehind, of_the_end, of_no_end, of_a_part, of_no_part, Answers, of_the_first_line}
use Rattle.recheck_theory.specs.Parts.{HasPart, HasNoPart}
use Rattle.recheck_theory.specs.Views.{plain_answer}

-- ---- the commands that are left

-- the first of them, as the code reads it
pub next_command : (commands : List Scoped) (at : ℕ) (command : Scoped) → at < length commands → command ≡ get_or commands at command
    → map plain_command (drop at commands) ≡ plain_command command ∷ map plain_command (drop (at + 1) commands)
next_command commands at command h r =
    let e : suc at ≡ at + 1 = omega arith in
    ap (map plain_command) (drop-cons commands at command h) ∙ ap (λ n. plain_command (get_or commands at command) ∷ map plain_command (drop n commands)) e
    ∙ ap (λ c. plain_command c ∷ map plain_command (drop (at + 1) commands)) (flip r)

pub no_command : (commands : List Scoped) (at : ℕ) → length commands ≤ at → map plain_command (drop at commands) ≡ []
no_command commands at h = ap (map plain_command) (drop_all at commands h)

-- ---- the answer

-- what is answered of the commands and bytes that are left is answered of all
abbrev pub Answered : PlainSignature → ℕ → List PlainCommand → List ℕ → List PlainCommand → List ℕ → Type 0
Answered S done left rest commands bytes = (a : Answer) → AnswersBehind S done left rest a → AnswersBehind [] 0 commands bytes a

-- before the first part
pub none_so_far : (S : PlainSignature) (commands : List PlainCommand) (bytes : List ℕ) → S ≡ [] → Answered S 0 commands bytes commands bytes
none_so_far S commands bytes e a h = along (λ z. AnswersBehind z 0 commands bytes a) e h

module _ {S : PlainSignature} {done : ℕ} {left commands : List PlainCommand} {rest bytes : List ℕ} (so_far : Answered S done left rest commands bytes) where
  pub goes_on : {T : PlainSignature} {command : PlainCommand} {others : List PlainCommand} {typ : Option Tree} {behind : List ℕ} → left ≡ command ∷ others
      → HasPart S (done + 1) command rest typ behind → T ≡ S ++ (entry_of S command typ ∷ []) → Answered T (done + 1) others behind commands bytes
  goes_on {T} {command} {others} {typ} {behind} l p e a h =
      let q : AnswersBehind S done (command ∷ others) rest a =
      of_a_part p.part (along (λ z. AnswersBehind z (done + 1) others behind a) (e ∙ ap (λ t. S ++ (entry_of S command t ∷ [])) p.given) h) in
      so_far a (along (λ z. AnswersBehind S done z rest a) (flip l) q)

  pub stops : {command : PlainCommand} {others : List PlainCommand} → left ≡ command ∷ others → HasNoPart S (done + 1) command rest
      → AnswersBehind [] 0 commands bytes (rejected (done + 1))
  stops {command} {others} l n = so_far (rejected (done + 1)) (along (λ z. AnswersBehind S done z rest (rejected (done + 1))) (flip l) (of_no_part n))

  pub ends : left ≡ [] → rest ≡ lines_text (Last ∷ []) → AnswersBehind [] 0 commands bytes (rechecked done)
  ends l e = so_far (rechecked done)
      (along (λ z. AnswersBehind S done z rest (rechecked done)) (flip l) (along (λ z. AnswersBehind S done [] z (rechecked done)) (flip e) of_the_end))

  pub ends_not : left ≡ [] → rest ≢ lines_text (Last ∷ []) → AnswersBehind [] 0 commands bytes (rejected (done + 1))
  ends_not l n = so_far (rejected (done + 1)) (along (λ z. AnswersBehind S done z rest (rejected (done + 1))) (flip l) (of_no_end n))

pub all_answered : (commands : List PlainCommand) (bytes rest : List ℕ) (r : Result CodeAnswer NoMemory) → BeginsWith (First ∷ []) bytes rest
    → IfOk r (λ a. AnswersBehind [] 0 commands rest (plain_answer a)) → IfOk r (λ a. Answers commands bytes (plain_answer a))
all_answered commands bytes rest (Ok a) b h = of_the_first_line b h
all_answered commands bytes rest (Err e) b h = tt

-- ---- behind the last part

-- the test of the end, as the code makes it: the same as the text of the last line or not
pub ended : {S : PlainSignature} {all : List PlainCommand} {bytes : List ℕ} (commands : List Scoped) (at : ℕ) (rest : List ℕ) → Answered S at (map plain_command (drop at commands)) rest all bytes
    → length commands ≤ at → at ≤ length commands → {literal : List ℕ} → literal ≡ lines_text (Last ∷ []) → {t : Bool} → t ≡ bytes_eq rest literal → t ≡ true
    → AnswersBehind [] 0 all bytes (rechecked (length commands))
ended {S} {all} {bytes} commands at rest so_far h g {literal} l {t} e y =
    let n : at ≡ length commands = omega (arith, h, g) in
    let q : rest ≡ lines_text (Last ∷ []) = (bytes_eq-Decides rest literal).0 (flip e ∙ y) ∙ l in
    along (λ z. AnswersBehind [] 0 all bytes (rechecked z)) n (ends so_far (no_command commands at h) q)

pub ended_not : {S : PlainSignature} {all : List PlainCommand} {bytes : List ℕ} (commands : List Scoped) (at : ℕ) (rest : List ℕ) → Answered S at (map plain_command (drop at commands)) rest all bytes
    → length commands ≤ at → at ≤ length commands → {literal : List ℕ} → literal ≡ lines_text (Last ∷ []) → {t : Bool} → t ≡ bytes_eq rest literal → t ≡ false
    → AnswersBehind [] 0 all bytes (rejected (length commands + 1))
ended_not {S} {all} {bytes} commands at rest so_far h g {literal} l {t} e y =
    let n : at ≡ length commands = omega (arith, h, g) in
    let q : rest ≢ lines_text (Last ∷ []) = λ i. let d : bytes_eq rest literal ≡ true = (bytes_eq-Decides rest literal).1 (i ∙ flip l) in let f : bytes_eq rest literal ≡ false = flip e ∙ y in cc in
    along (λ z. AnswersBehind [] 0 all bytes (rejected (z + 1))) n (ends_not so_far (no_command commands at h) q)
