-- A command that is scoped and has its shapes, and its entry.
use Rattle.std.proofs.Common.{ℕ, suc, ◌≡◌, true, Option, Some, None, Result, Ok, Err, List, [], ◌∷◌, length, map, refl, ap, sym, subst, ◌∙◌, inr}
use Rattle.dk_model.specs.Answering.{is_untyped}
use Rattle.dk_model.specs.PlainCommands.{PlainCommand, PlainScopedRule, declare, query, rule_command}
use Rattle.dk_model.specs.PlainEntries.{PlainEntry, PlainRule, PlainSignature, rules_entry, symbol_entry}
use Rattle.dk_model.specs.Scoping.{plain_scoped_rule}
use Rattle.dk_model.specs.Shapes.{kept_rules, shapes_of}
use Rattle.dk_model.specs.Signatures.{rule_by}
use Rattle.dk_model.specs.Verdicts.{entry_of, inferred_type, rules_checked, verdict}
use Rattle.dk_model.specs.declared.code.Code.{Code}
use Rattle.dk_model.specs.declared.code.Fault.{Fault}
use Rattle.dk_model.specs.declared.code.Fault.TheVariants as code_fault
use Rattle.dk_parser.specs.Written.{WrittenForm}
use Rattle.scope_terms.specs.Reading.{Reading, current}
use Rattle.scope_terms.specs.Scopes.{scope_of, scoped}
use Rattle.dk_model.specs.declared.code.Verdict.TheVariants.{Refused}
use Rattle.dk_model.specs.declared.scoped.ScopedRule.{ScopedRule}
use Rattle.dk_model.specs.declared.signature.Entry.{Entry}
use Rattle.dk_model.specs.declared.signature.Entry.TheVariants as entry
use Rattle.dk_model.specs.declared.signature.Rule.{Rule}
use Rattle.dk_model.specs.declared.stop.TypeFault.TheVariants as fault
use Rattle.shared_term.specs.Storage.{stored_term}
use Rattle.shared_term.specs.declared.stored.Stored.{Stored}
use Rattle.signature_log.specs.Versions.{stored_entry}
use Rattle.command_kinds.specs.Faults.{IsEntryFault}
use Rattle.edit_session.specs.Sessions.{are_shapes, is_shaped}
use Rattle.edit_session.specs.Shaping.{IsEntryFor, IsNotShaped, IsUnshaped, RefusesShape, ShapesAll}
use Rattle.edit_session.proofs.Answered.{typed_none}

-- some rule has no shape
pub unshaped : (S : PlainSignature) (c : PlainCommand) (code : Code) → IsEntryFault S c (fault.Refused code) → RefusesShape S c (Refused code)
unshaped S (declare s A b) code is = absurd cc
unshaped S (query demand a) code is = absurd cc
unshaped S (rule_command rs) code is = record {
  unshaped = ap are_shapes is;
  verdict_is = λ budget. ap (λ (shapes : Result (List PlainRule) Code). verdict (rules_checked S shapes budget)) is;
}

-- ---- an entry with a rule for each

all_shaped : (S : PlainSignature) (rs : List PlainScopedRule) (x : Result (List PlainRule) Code) → shapes_of S rs ≡ x → length (kept_rules x) ≡ length rs → are_shapes x ≡ true
all_shaped S rs (Ok ts) e l = refl
all_shaped S [] (Err code) e l = absurd (let q : Ok [] ≡ Err code = e in cc)
all_shaped S (r ∷ rs) (Err code) e l = absurd cc

map_length : {A B : Type 0} (f : A → B) (xs : List A) → length (map f xs) ≡ length xs
map_length f [] = refl
map_length f (x ∷ xs) = ap suc (map_length f xs)

abbrev entry_rules : PlainEntry → List PlainRule
entry_rules (rules_entry rs) = rs
entry_rules (symbol_entry s t b) = []

pub rules_shaped : (rules : List ScopedRule) (kept : List (Rule Stored)) → length rules ≡ length kept → ShapesAll (rule_command (map plain_scoped_rule rules)) (entry.Rules kept)
rules_shaped rules kept l S e = let rs : List PlainScopedRule = map plain_scoped_rule rules in
    all_shaped S rs (shapes_of S rs) refl (ap (λ (ts : List PlainRule). length ts) (sym (ap entry_rules e)) ∙ map_length (rule_by stored_term) kept ∙ sym l ∙ sym (map_length plain_scoped_rule rules))

pub declared_shaped : (S : PlainSignature) (c : PlainCommand) → is_untyped c ≡ true → is_shaped S c ≡ true
declared_shaped S (declare s A b) e = refl
declared_shaped S (rule_command rs) e = absurd cc
declared_shaped S (query demand a) e = refl

pub for_shaped : (S : PlainSignature) (c : PlainCommand) (o : Option (Entry Stored)) → IsEntryFor S c o → is_shaped S c ≡ true
for_shaped S c (Some e) h = h.2
for_shaped S c None h = declared_shaped S c h

-- ---- the entry of an accepted command

pub entry_is : (S : PlainSignature) (c : PlainCommand) (e : Entry Stored) (o : Option (Entry Stored)) (budget : ℕ) → o ≡ Some e → IsEntryFor S c o → stored_entry e ≡ entry_of S c (inferred_type S c budget)
entry_is S c e o budget q h = let is : IsEntryFor S c (Some e) = subst (IsEntryFor S c) q h in is.1 ∙ ap (entry_of S c) (typed_none S c budget is.0)

pub not_shaped : (r : Reading) (S : PlainSignature) (form : WrittenForm) (c : PlainCommand) (f : Fault) → scope_of r.symbols (current r) form ≡ scoped c → IsUnshaped S c f → IsNotShaped r S form f
not_shaped r S form c (code_fault.Refused code) e u = inr (c, e, u)
not_shaped r S form c code_fault.NoMemory e u = tt
