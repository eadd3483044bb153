-- The verdict, from what the check gave.
use Rattle.std.proofs.Common.{◌≡◌, ◌∙◌, ℕ, List, Some, None, ap, sym as flip, refl, subst, false}
use Rattle.std.specs.Prelude.{Result, Ok, Err, IfOk, IfErr}
use Rattle.dk_model.specs.Trees.{Tree}
use Rattle.dk_model.specs.Signatures.{PlainRule, PlainSignature}
use Rattle.dk_model.specs.Scoping.{PlainCommand, declare, rule_command, query}
use Rattle.dk_model.specs.Typing.{Judged, by_units, answer, refused, ended, next}
use Rattle.dk_model.specs.Verdicts.{answer_of, body_type, inferred_type, rules_checked, verdict, verdict_of}
use Rattle.dk_model.specs.Answering.{is_untyped, IsVerdictOrMemory}
use Rattle.dk_model.specs.declared.code.Code.{Code}
use Rattle.dk_model.specs.declared.code.Verdict.{Verdict}
use Rattle.dk_model.specs.declared.code.Verdict.TheVariants.{Accepted}
use Rattle.dk_model.specs.declared.signature.SymSort.{SymSort}
use Rattle.dk_model.specs.declared.stop.TypeFault.{TypeFault}
use Rattle.dk_model.specs.declared.stop.TypeFault.TheVariants.{Refused, Ended, NoMemory}
use Rattle.infer_check.specs.Given.{Fails, GivesFit}
use Rattle.dk_model.specs.RuleTyping.{rules_typed}
use Rattle.shared_term.specs.Storage.{stored_term}
use Rattle.shared_term.specs.declared.stored.Stored.{Stored}
use Rattle.typing_model.specs.Derivations.{HasDerivation}
use Rattle.dk_model.specs.WellFormed.{IsSignature}
use Rattle.typing_model.specs.Conditions.{HasNoAnnotations, IsNumbered}
use Rattle.typing_model.specs.Laws.{AcceptedHasDerivation, DeclarationHasDerivation}
use Rattle.command_kinds.specs.Faults.{FailsShapes}
use Rattle.command_check.specs.Given.{fault_verdict, HasBodyType}

pub shapes_typed : (S : PlainSignature) (due : Result (List PlainRule) Code) (rs : List PlainRule) (n : ℕ) (o : Result Unit TypeFault) (m : ℕ) → due ≡ Ok rs
    → GivesFit (rules_typed S rs n) o m → GivesFit (rules_checked S due n) o m
shapes_typed S due rs n o m e h = subst (λ (x : Judged (Unit {0})). GivesFit x o m) (flip (ap (λ (x : Result (List PlainRule) Code). rules_checked S x n) e)) h

pub shapes_fail : (S : PlainSignature) (due : Result (List PlainRule) Code) (f : TypeFault) (n : ℕ) → FailsShapes due f → Fails f n (rules_checked S due n)
shapes_fail S due (Refused c) n e = ap (λ (x : Result (List PlainRule) Code). rules_checked S x n) e
shapes_fail S due Ended n e = absurd e
shapes_fail S due NoMemory n e = tt

pub fit_verdict : {A : Type 0} (x : Judged A) (a : A) (n : ℕ) → x ≡ answer a n → verdict x ≡ Accepted
fit_verdict x a n e = ap verdict e

pub fault_due : {A : Type 0} (f : TypeFault) (spare : ℕ) (x : Judged A) → Fails f spare x → IsVerdictOrMemory (verdict x) (fault_verdict f)
fault_due (Refused c) spare x e = flip (ap verdict e)
fault_due Ended spare x e = flip (ap verdict e.0)
fault_due NoMemory spare x e = tt

pub fault_refuses : (f : TypeFault) → ¬ (fault_verdict f ≡ Accepted)
fault_refuses (Refused c) e = cc
fault_refuses Ended e = cc
fault_refuses NoMemory e = cc

pub derived : (S : PlainSignature) (c : PlainCommand) (budget : ℕ) → ((T : PlainSignature) → IsSignature T → AcceptedHasDerivation T (by_units T)) → verdict_of S c budget ≡ Accepted
    → IsSignature S → HasDerivation S c
derived S c budget law e formed = law S formed c budget e

pub numbered_derived : (S : PlainSignature) (c : PlainCommand) (budget : ℕ) → ((T : PlainSignature) → IsNumbered T → HasNoAnnotations T → AcceptedHasDerivation T (by_units T))
    → verdict_of S c budget ≡ Accepted → IsNumbered S → HasNoAnnotations S → HasDerivation S c
numbered_derived S c budget law e numbered plain = law S numbered plain c budget e

abbrev untyped_fits : Tree → ℕ → Judged (Unit {0})
untyped_fits T m = answer tt m

same_verdict : (x : Judged Tree) → verdict (next x untyped_fits) ≡ verdict x
same_verdict (answer T n) = refl
same_verdict (refused c n) = refl
same_verdict ended = refl

module _ (S : PlainSignature) (s : SymSort) (b : Tree) (budget : ℕ) where
  pub body_verdict : (T : Tree) → HasBodyType S b budget T → verdict_of S (declare s None (Some b)) budget ≡ Accepted
  body_verdict T h = same_verdict (body_type S b budget) ∙ ap verdict h.1

  pub body_inferred : (T : Tree) → HasBodyType S b budget T → inferred_type S (declare s None (Some b)) budget ≡ Some T
  body_inferred T h = ap answer_of h.1

  pub body_due : (v : Verdict) → IsVerdictOrMemory (verdict (body_type S b budget)) v → IsVerdictOrMemory (verdict_of S (declare s None (Some b)) budget) v
  body_due v h = subst (λ (d : Verdict). IsVerdictOrMemory d v) (flip (same_verdict (body_type S b budget))) h

  pub untyped_derives : ((T : PlainSignature) → IsNumbered T → DeclarationHasDerivation T (by_units T)) → (c : PlainCommand) → c ≡ declare s None (Some b) → (o : Result Stored Verdict)
      → IfOk o (λ t. HasBodyType S b budget (stored_term t)) → IfOk o (λ t. IsNumbered S → HasDerivation S c)
  untyped_derives law c e (Ok t) h = λ numbered. subst (HasDerivation S) (flip e) (law S numbered s None (Some b) budget (body_verdict (stored_term t) h))
  untyped_derives law c e (Err v) h = tt

  pub untyped_due : (c : PlainCommand) → c ≡ declare s None (Some b) → (o : Result Stored Verdict)
      → IfErr o (IsVerdictOrMemory (verdict (body_type S b budget))) → IfErr o (IsVerdictOrMemory (verdict_of S c budget))
  untyped_due c e (Ok t) h = tt
  untyped_due c e (Err v) h = subst (λ (d : PlainCommand). IsVerdictOrMemory (verdict_of S d budget) v) (flip e) (body_due v h)

pub no_type_inferred : (S : PlainSignature) (c : PlainCommand) (budget : ℕ) → is_untyped c ≡ false → inferred_type S c budget ≡ None
no_type_inferred S (declare s None (Some b)) budget e = cc
no_type_inferred S (declare s None None) budget e = refl
no_type_inferred S (declare s (Some A) b) budget e = refl
no_type_inferred S (rule_command rs) budget e = refl
no_type_inferred S (query demand a) budget e = refl
