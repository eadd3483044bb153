-- The commands of a theory: certified ones have derivations, and accepted ones a certificate.
use Rattle.std.specs.Prelude.{Result, Ok, Err, map}
use Rattle.std.proofs.Common.{List, [], ◌∷◌, ◌++◌, ℕ, ◌≡◌, Option, Some, None, refl, ap, sym as flip, subst as along}
use Rattle.dk_model.specs.Trees.{Tree}
use Rattle.dk_model.specs.Signatures.{PlainRule, PlainSignature}
use Rattle.dk_model.specs.Scoping.{PlainCommand, declare, rule_command, query}
use Rattle.dk_model.specs.Shapes.{shapes_of, erased_rule, kept_rules}
use Rattle.dk_model.specs.ByUnits.{by_units}
use Rattle.dk_model.specs.TypingOver.{JudgedIn, answer, refused, ended, next, not_kind, inferred}
use Rattle.dk_model.specs.CommandTypingOver.{body_type}
use Rattle.dk_model.specs.Verdicts.{verdict, verdict_of, answer_of, inferred_type, maybe_erased, entry_type_of, kept_body, entry_of}
use Rattle.dk_model.specs.declared.code.Code.{Code}
use Rattle.dk_model.specs.declared.code.Verdict.TheVariants.{Accepted}
use Rattle.dk_model.specs.declared.signature.SymSort.{SymSort}
use Rattle.dk_model.specs.declared.signature.SymSort.TheVariants.{Static, Definable, Theorem}
use Rattle.dk_model.specs.Erasure.{IsPlain}
use Rattle.typing_model.specs.Derivations.{HasType}
use Rattle.typing_model.specs.Conditions.{IsNumbered, IsPlainOption, ArePlainRules, IsPlainEntry, HasNoAnnotations}
use Rattle.typing_model.proofs.Typing.{from_next, not_kind_is, inferred_derives}
use Rattle.typing_model.proofs.Plain.{plain_erased}
use Rattle.typing_model.proofs.PlainEntries.{answer_plain, plain_more}
use Rattle.typing_model.proofs.Shapes.{entry_numbered, numbered_more}
use Rattle.typing_model.proofs.Rules.{whnf_reduces, normal_reduces, comparison_joins}
use Rattle.checked_steps.specs.Items.{Item}
use Rattle.checked_steps.specs.Checked.{by_items, IsChecked}
use Rattle.checked_steps.specs.Certificates.{type_by_items, AreChecked, none_checked, one_checked}
use Rattle.checked_steps.specs.Theories.{IsTypeOf, HaveDerivations, none_derives, one_derives}
use Rattle.checked_steps.specs.Laws.{AreAccepted, none_accepted, one_accepted}
use Rattle.checked_steps.proofs.Items.{items_reduce, checked_derives}
use Rattle.checked_steps.proofs.Complete.{accepted_items, type_items}

-- ---- an entry has no annotations where the type that was found for it has none

maybe_plain : (o : Option Tree) → IsPlainOption (maybe_erased o)
maybe_plain None = tt
maybe_plain (Some t) = plain_erased t

kept_plain : (s : SymSort) (b : Option Tree) → IsPlainOption (kept_body s b)
kept_plain Definable b = maybe_plain b
kept_plain Static b = tt
kept_plain Theorem b = tt

typ_plain : (A T : Option Tree) → IsPlainOption T → IsPlain (entry_type_of A T)
typ_plain (Some A) T h = plain_erased A
typ_plain None (Some T) h = h
typ_plain None None h = tt

rules_plain : (rs : List PlainRule) → ArePlainRules (map erased_rule rs)
rules_plain [] = tt
rules_plain (r ∷ rs) = (plain_erased r.right, rules_plain rs)

kept_rules_plain : (o : Result (List PlainRule) Code) → ArePlainRules (kept_rules o)
kept_rules_plain (Ok rs) = rules_plain rs
kept_rules_plain (Err c) = tt

entry_plain : (S : PlainSignature) (c : PlainCommand) (T : Option Tree) → IsPlainOption T → IsPlainEntry (entry_of S c T)
entry_plain S (declare s A b) T h = (typ_plain A T h, kept_plain s b)
entry_plain S (rule_command rs) T h = kept_rules_plain (shapes_of S rs)
entry_plain S (query demand a) T h = tt

-- a command is checked once its body has a type
abbrev done : {X : Type 0} → Tree → X → JudgedIn X (Unit {0})
done T n = answer tt n

-- ---- certified commands

module _ (S : PlainSignature) where
  found_plain : HasNoAnnotations S → (c : PlainCommand) (items : List Item) → IsPlainOption (type_by_items S c items)
  found_plain P (declare s None (Some b)) items = answer_plain S P (by_items S) (items_reduce S) b items (body_type (by_items S) S b items) refl
  found_plain P (declare s None None) items = tt
  found_plain P (declare s (Some A) b) items = tt
  found_plain P (rule_command rs) items = tt
  found_plain P (query demand a) items = tt

  body_has : (b : Tree) (items m : List Item) (x : JudgedIn (List Item) Tree) → body_type (by_items S) S b items ≡ x → next x done ≡ answer tt m
      → (T : Tree) × (answer_of x ≡ Some T) × HasType S [] [] b T
  body_has b items m (answer T i) q e = (
    T,
    refl,
    from_next (HasType S [] [] b T) (inferred (by_items S) S [] [] b items) not_kind T i q (λ B j e1 h.
        along (HasType S [] [] b) (not_kind_is B T j i h).0 (inferred_derives S (by_items S) (items_reduce S) [] [] b B items j e1)),
  )
  body_has b items m (refused c i) q e = cc
  body_has b items m ended q e = cc

  found_is_type : (c : PlainCommand) (items : List Item) → IsChecked S c items → IsTypeOf S c (type_by_items S c items)
  found_is_type (declare s None (Some b)) items e = body_has b items [] (body_type (by_items S) S b items) refl e
  found_is_type (declare s None None) items e = refl
  found_is_type (declare s (Some A) b) items e = refl
  found_is_type (rule_command rs) items e = refl
  found_is_type (query demand a) items e = refl

pub certified_derive : {S : PlainSignature} {commands : List PlainCommand} {parts : List (List Item)} → HasNoAnnotations S → AreChecked S commands parts → HaveDerivations S commands
certified_derive P none_checked = none_derives
certified_derive P (one_checked {S} {command} {items} {commands} {parts} e rest) = one_derives (type_by_items S command items) (checked_derives S P command items e) (found_is_type S command items e)
    (certified_derive (plain_more S (entry_of S command (type_by_items S command items)) P (entry_plain S command (type_by_items S command items) (found_plain S P command items))) rest)

-- ---- accepted commands

module _ (S : PlainSignature) (numbered : IsNumbered S) (budget : ℕ) where
  abbrev HasPart : PlainCommand → Option Tree → Type 0
  HasPart c typ = (items : List Item) × IsChecked S c items × (type_by_items S c items ≡ typ)

  body_part : (s : SymSort) (b : Tree) (x : JudgedIn ℕ Tree) → body_type (by_units S) S b budget ≡ x → verdict (next x done) ≡ Accepted → HasPart (declare s None (Some b)) (answer_of x)
  body_part s b (answer T m) q e =
      let y : (items : List Item) × (body_type (by_items S) S b items ≡ answer T []) = type_items S (whnf_reduces S numbered) (normal_reduces S numbered) (comparison_joins S numbered) b T budget m q in
      (y.0, ap (λ z. next z done) y.1, ap answer_of y.1)
  body_part s b (refused c m) q e = cc
  body_part s b ended q e = cc

  any_part : (c : PlainCommand) → verdict_of S c budget ≡ Accepted → (items : List Item) × IsChecked S c items
  any_part c e = accepted_items S (whnf_reduces S numbered) (normal_reduces S numbered) (comparison_joins S numbered) c budget e

  command_part : (c : PlainCommand) → verdict_of S c budget ≡ Accepted → HasPart c (inferred_type S c budget)
  command_part (declare s None (Some b)) e = body_part s b (body_type (by_units S) S b budget) refl e
  command_part (declare s None None) e = let y : _ = any_part (declare s None None) e in (y.0, y.1, refl)
  command_part (declare s (Some A) b) e = let y : _ = any_part (declare s (Some A) b) e in (y.0, y.1, refl)
  command_part (rule_command rs) e = let y : _ = any_part (rule_command rs) e in (y.0, y.1, refl)
  command_part (query demand a) e = let y : _ = any_part (query demand a) e in (y.0, y.1, refl)

pub accepted_certified : {budget : ℕ} {S : PlainSignature} {commands : List PlainCommand} → IsNumbered S → AreAccepted budget S commands → (parts : List (List Item)) × AreChecked S commands parts
accepted_certified numbered none_accepted = ([], none_checked)
accepted_certified {budget} numbered (one_accepted {S} {command} {commands} e rest) =
    let y : HasPart S numbered budget command (inferred_type S command budget) = command_part S numbered budget command e in
    let z : (parts : List (List Item)) × AreChecked (S ++ (entry_of S command (inferred_type S command budget) ∷ [])) commands parts =
    accepted_certified (numbered_more S (entry_of S command (inferred_type S command budget)) numbered (entry_numbered S command (inferred_type S command budget))) rest in
    (y.0 ∷ z.0, one_checked y.1 (along (λ T. AreChecked (S ++ (entry_of S command T ∷ [])) commands z.0) (flip y.2) z.1))
