-- What is known of a command's verdict before its check.
use Rattle.std.proofs.Common.{◌≡◌, ◌⊎◌, inl, inr, ℕ, Bool, true, false, refl, sym, ap, ◌∙◌}
use Rattle.std.specs.Prelude.{◌||◌, Option, Some, None, Result}
use Rattle.dk_model.specs.PlainCommands.{PlainCommand, declare, query, rule_command}
use Rattle.dk_model.specs.Signatures.{PlainSignature, maybe_by}
use Rattle.dk_model.specs.Answering.{IsVerdictOrMemory, is_answered, is_untyped}
use Rattle.dk_model.specs.Verdicts.{found_of, inferred_type, rules_checked, verdict, verdict_of}
use Rattle.dk_model.specs.declared.code.Code.{Code}
use Rattle.dk_model.specs.declared.code.Verdict.{Verdict}
use Rattle.dk_model.specs.declared.code.Verdict.TheVariants.{Accepted, Refused, Ended, Memory}
use Rattle.dk_model.specs.declared.stop.TypeFault.TheVariants as fault
use Rattle.shared_term.specs.Finding.{plain_found}
use Rattle.shared_term.specs.Storage.{stored_term}
use Rattle.shared_term.specs.declared.found.Found.{Found}
use Rattle.shared_term.specs.declared.stored.Stored.{Stored}
use Rattle.command_kinds.specs.Faults.{IsEntryFault}
use Rattle.file_check.specs.Findings.{Finds, is_early}

pub verdict_or_memory : (due given : Verdict) → IsVerdictOrMemory due given → (given ≡ due) ⊎ (given ≡ Memory)
verdict_or_memory due Accepted is = inl is
verdict_or_memory due (Refused code) is = inl is
verdict_or_memory due Ended is = inl is
verdict_or_memory due Memory is = inr refl

-- a command with a type, or without a body, has no inferred type
pub typed_infers_none : (S : PlainSignature) (c : PlainCommand) (budget : ℕ) → is_untyped c ≡ false → None ≡ inferred_type S c budget
typed_infers_none S (declare s None (Some b)) budget is = cc
typed_infers_none S (declare s None None) budget is = refl
typed_infers_none S (declare s (Some A) b) budget is = refl
typed_infers_none S (rule_command rs) budget is = refl
typed_infers_none S (query demand a) budget is = refl

-- rules without a shape are refused with the code of their shapes
pub entry_refused : (S : PlainSignature) (c : PlainCommand) (budget : ℕ) (code : Code) → IsEntryFault S c (fault.Refused code) → Refused code ≡ verdict_of S c budget
entry_refused S (declare s A b) budget code is = cc
entry_refused S (query demand a) budget code is = cc
entry_refused S (rule_command rs) budget code is = ap (λ (shapes : Result _ Code). verdict (rules_checked S shapes budget)) (sym is)

-- the making of an entry takes no units
pub entry_not_ended : (S : PlainSignature) (c : PlainCommand) → ¬ (IsEntryFault S c fault.Ended)
entry_not_ended S (declare s A b) is = cc
entry_not_ended S (query demand a) is = cc
entry_not_ended S (rule_command rs) is = is

-- ---- what the reader finds itself

answered_none : (S : PlainSignature) (c : PlainCommand) (budget : ℕ) → is_answered c ≡ true → None ≡ inferred_type S c budget
answered_none S (declare s A b) budget is = cc
answered_none S (rule_command rs) budget is = refl
answered_none S (query demand a) budget is = refl

pub finds_answer : (S : PlainSignature) (c : PlainCommand) (budget : ℕ) (x : Found) → is_answered c ≡ true → found_of S c budget ≡ Some (plain_found x) → Finds S c budget (record { typ = None; found = Some x })
finds_answer S c budget x is found = record {
  typ = answered_none S c budget is;
  found = λ _. (x, refl, found);
  none = λ not. absurd (let e : true ≡ false = sym is ∙ not in cc);
}

pub finds_type : (S : PlainSignature) (c : PlainCommand) (budget : ℕ) (typ : Option Stored) → is_answered c ≡ false → maybe_by stored_term typ ≡ inferred_type S c budget → Finds S c budget (record { typ = typ; found = None })
finds_type S c budget typ not is = record {
  typ = is;
  found = λ so. absurd (let e : true ≡ false = sym so ∙ not in cc);
  none = λ _. refl;
}

-- a command that the reader checks itself, and that isn't answered
pub early_untyped : (c : PlainCommand) → is_answered c ≡ false → is_early c ≡ true → is_untyped c ≡ true
early_untyped c not early = by_untyped (is_untyped c) (is_answered c) not early
  where
    by_untyped : (b d : Bool) → d ≡ false → b || d ≡ true → b ≡ true
    by_untyped true d not early = refl
    by_untyped false d not early = absurd (let e : true ≡ false = sym early ∙ not in cc)
