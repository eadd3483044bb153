-- What a check finds is the answer on the command.
use Rattle.std.proofs.Common.{◌≡◌, ℕ, Bool, true, false, Option, Some, None, refl, sym, ap, ◌∙◌}
use Rattle.dk_model.specs.Answering.{IsVerdictOrMemory, is_answered, is_untyped}
use Rattle.dk_model.specs.PlainCommands.{PlainCommand, PlainFound, declare, query, rule_command}
use Rattle.dk_model.specs.PlainEntries.{PlainSignature}
use Rattle.dk_model.specs.Typing.{Judged, answer, refused, ended, next}
use Rattle.dk_model.specs.Verdicts.{answer_of, body_type, found_of, inferred_type, query_found, verdict, verdict_of}
use Rattle.dk_model.specs.declared.code.Verdict.{Verdict}
use Rattle.dk_model.specs.declared.code.Verdict.TheVariants.{Accepted, Refused, Ended, Memory}
use Rattle.shared_term.specs.Finding.{plain_found}
use Rattle.shared_term.specs.Storage.{stored_term}
use Rattle.shared_term.specs.declared.found.Found.{Found}
use Rattle.shared_term.specs.declared.stored.Stored.{Stored}
use Rattle.edit_session.specs.Answers.{Answer, answer_on, asked_found}
use Rattle.edit_session.specs.Held.{plain_answer}
use Rattle.edit_session.specs.declared.finding.Findings.{Findings}

-- ---- what isn't inferred, and isn't found

answered_none : (S : PlainSignature) (c : PlainCommand) (budget : ℕ) → is_answered c ≡ true → None ≡ inferred_type S c budget
answered_none S (declare s A b) budget is = cc
answered_none S (rule_command rs) budget is = refl
answered_none S (query demand a) budget is = refl

pub typed_none : (S : PlainSignature) (c : PlainCommand) (budget : ℕ) → is_untyped c ≡ false → None ≡ inferred_type S c budget
typed_none S (declare s None (Some b)) budget is = cc
typed_none S (declare s None None) budget is = refl
typed_none S (declare s (Some A) b) budget is = refl
typed_none S (rule_command rs) budget is = refl
typed_none S (query demand a) budget is = refl

abbrev goes : {A : Type 0} → A → ℕ → Judged (Unit {0})
goes a m = answer tt m

no_answer : {A : Type 0} (x : Judged A) → ¬ (verdict (next x goes) ≡ Accepted) → None ≡ answer_of x
no_answer (answer a m) not = absurd (not refl)
no_answer (refused c m) not = refl
no_answer ended not = refl

refused_none : (S : PlainSignature) (c : PlainCommand) (budget : ℕ) → ¬ (verdict_of S c budget ≡ Accepted) → None ≡ inferred_type S c budget
refused_none S (declare s None (Some b)) budget not = no_answer (body_type S b budget) not
refused_none S (declare s None None) budget not = refl
refused_none S (declare s (Some A) b) budget not = refl
refused_none S (rule_command rs) budget not = refl
refused_none S (query demand a) budget not = refl

refused_found : (S : PlainSignature) (c : PlainCommand) (budget : ℕ) → ¬ (verdict_of S c budget ≡ Accepted) → None ≡ found_of S c budget
refused_found S (declare s A b) budget not = refl
refused_found S (rule_command rs) budget not = refl
refused_found S (query demand a) budget not = no_answer (query_found S demand a budget) not

asked_none : (b : Bool) {o : Option PlainFound} → None ≡ o → None ≡ asked_found b o
asked_none true e = e
asked_none false e = refl

given_is : (due given : Verdict) → IsVerdictOrMemory due given → ¬ (given ≡ Memory) → given ≡ due
given_is due Accepted is not = is
given_is due (Refused code) is not = is
given_is due Ended is not = is
given_is due Memory is not = absurd (not refl)

-- ---- answers

-- a query that is accepted
pub query_found_is : (S : PlainSignature) (c : PlainCommand) (budget : ℕ) (f : Found) → is_answered c ≡ true → found_of S c budget ≡ Some (plain_found f) → verdict_of S c budget ≡ Accepted
    → plain_answer (record { verdict = Accepted; typ = None; found = Some f }) ≡ answer_on S c budget
query_found_is S c budget f is found accepted = λ i. let a : Answer = record { verdict = sym accepted i; typ = answered_none S c budget is i; found = (sym found ∙ sym (ap (λ b. asked_found b (found_of S c budget)) is)) i } in a

-- a definition without a type that is accepted
pub type_found_is : (S : PlainSignature) (c : PlainCommand) (budget : ℕ) (t : Stored) → is_answered c ≡ false → inferred_type S c budget ≡ Some (stored_term t) → verdict_of S c budget ≡ Accepted
    → plain_answer (record { verdict = Accepted; typ = Some t; found = None }) ≡ answer_on S c budget
type_found_is S c budget t not typ accepted = λ i. let a : Answer = record { verdict = sym accepted i; typ = sym typ i; found = sym (ap (λ b. asked_found b (found_of S c budget)) not) i } in a

-- a refusal
pub refused_alone : (S : PlainSignature) (c : PlainCommand) (budget : ℕ) (v : Verdict) (f : Findings) → IsVerdictOrMemory (verdict_of S c budget) v → ¬ (v ≡ Accepted) → (f ≡ record { verdict = v; typ = None; found = None }) × ¬ (v ≡ Memory)
    → plain_answer f ≡ answer_on S c budget
refused_alone S c budget v f due not is = let e : v ≡ verdict_of S c budget = given_is (verdict_of S c budget) v due is.1 in
    let un : ¬ (verdict_of S c budget ≡ Accepted) = λ q. not (e ∙ q) in
    ap plain_answer is.0 ∙ (λ i. let a : Answer = record { verdict = e i; typ = refused_none S c budget un i; found = asked_none (is_answered c) (refused_found S c budget un) i } in a)

-- any other command
pub checked_alone : (S : PlainSignature) (c : PlainCommand) (budget : ℕ) (v : Verdict) (f : Findings) → is_answered c ≡ false → is_untyped c ≡ false → IsVerdictOrMemory (verdict_of S c budget) v
    → (f ≡ record { verdict = v; typ = None; found = None }) × ¬ (v ≡ Memory) → plain_answer f ≡ answer_on S c budget
checked_alone S c budget v f not typed due is = let e : v ≡ verdict_of S c budget = given_is (verdict_of S c budget) v due is.1 in
    ap plain_answer is.0 ∙ (λ i. let a : Answer = record { verdict = e i; typ = typed_none S c budget typed i; found = sym (ap (λ b. asked_found b (found_of S c budget)) not) i } in a)
