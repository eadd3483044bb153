-- A well-formed signature meets what the proofs need of its entries, and stays one with the entry of a further command.
use Rattle.std.specs.Prelude.{Result, Ok, Err, map, take, slice_get}
use Rattle.std.proofs.Common.{List, [], ◌∷◌, ◌++◌, ℕ, zero, suc, ◌≡◌, Option, Some, None, refl, sym as flip, subst as along}
use Rattle.dk_model.specs.Trees.{Tree}
use Rattle.dk_model.specs.Signatures.{PlainRule, PlainEntry, symbol_entry, rules_entry, PlainSignature}
use Rattle.dk_model.specs.Scoping.{PlainScopedRule, PlainCommand, declare, rule_command, query}
use Rattle.dk_model.specs.Shapes.{shapes_of, erased_rule, kept_rules}
use Rattle.dk_model.specs.Verdicts.{entry_of, inferred_type, maybe_erased, kept_body}
use Rattle.dk_model.specs.WellFormed.{IsKeptBody, AreRulesOver, IsEntryOver, before, IsSignature}
use Rattle.dk_model.specs.declared.code.Code.{Code}
use Rattle.dk_model.specs.declared.signature.SymSort.{SymSort}
use Rattle.dk_model.specs.declared.signature.SymSort.TheVariants.{Static, Definable, Theorem}
use Rattle.typing_model.specs.Conditions.{AreNumberedRules, IsNumberedEntry, IsNumbered, IsPlainOption, ArePlainRules, IsPlainEntry, HasNoAnnotations}
use Rattle.typing_model.proofs.Plain.{plain_erased}
use Rattle.typing_model.proofs.PlainEntries.{entry_plain}
use Rattle.typing_model.proofs.Rules.{units_reduce}
use Rattle.typing_model.proofs.Shapes.{shapes_numbered, erased_rules_numbered}

-- ---- what an entry gives

entry_numbered : (S : PlainSignature) (e : PlainEntry) → IsEntryOver S e → IsNumberedEntry e
entry_numbered S (symbol_entry s t b) h = tt
entry_numbered S (rules_entry rs) (scoped, shapes, e, q) = along AreNumberedRules (flip q) (erased_rules_numbered shapes (shapes_numbered S scoped shapes e))

rules_plain : (rs : List PlainRule) → ArePlainRules (map erased_rule rs)
rules_plain [] = tt
rules_plain (r ∷ rs) = (plain_erased r.right, rules_plain rs)

body_plain : (s : SymSort) (b : Option Tree) → IsKeptBody s b → IsPlainOption b
body_plain s None h = tt
body_plain s (Some b) h = h.1

entry_unannotated : (S : PlainSignature) (e : PlainEntry) → IsEntryOver S e → IsPlainEntry e
entry_unannotated S (symbol_entry s t b) h = (h.0, body_plain s b h.1)
entry_unannotated S (rules_entry rs) (scoped, shapes, e, q) = along ArePlainRules (flip q) (rules_plain shapes)

-- ---- what all entries give

all_numbered : (es : PlainSignature) → ((place : ℕ) (e : PlainEntry) → slice_get es place ≡ Some e → IsNumberedEntry e) → IsNumbered es
all_numbered [] h = tt
all_numbered (symbol_entry s t b ∷ es) h = all_numbered es (λ place. h (suc place))
all_numbered (rules_entry rs ∷ es) h = (h 0 (rules_entry rs) refl, all_numbered es (λ place. h (suc place)))

pub formed_numbered : (S : PlainSignature) → IsSignature S → IsNumbered S
formed_numbered S formed = all_numbered S (λ place e is. entry_numbered (before S place) e (formed place e is))

all_plain : (es : PlainSignature) → ((place : ℕ) (e : PlainEntry) → slice_get es place ≡ Some e → IsPlainEntry e) → HasNoAnnotations es
all_plain [] h = tt
all_plain (e ∷ es) h = (h 0 e refl, all_plain es (λ place. h (suc place)))

pub formed_plain : (S : PlainSignature) → IsSignature S → HasNoAnnotations S
formed_plain S formed = all_plain S (λ place e is. entry_unannotated (before S place) e (formed place e is))

-- ---- one entry more

pub none_formed : IsSignature []
none_formed place e is = cc

same_entry : (e x : PlainEntry) → Some e ≡ Some x → e ≡ x
same_entry e x is = cc

-- what holds of each entry with those before it, and of a further one with all
all_more : (P : PlainSignature → PlainEntry → Type 0) (es : PlainSignature) (e : PlainEntry) → ((place : ℕ) (x : PlainEntry) → slice_get es place ≡ Some x → P (take place es) x) → P es e
    → (place : ℕ) (x : PlainEntry) → slice_get (es ++ e ∷ []) place ≡ Some x → P (take place (es ++ e ∷ [])) x
all_more P [] e h last zero x is = along (P []) (same_entry e x is) last
all_more P [] e h last (suc place) x is = cc
all_more P (y ∷ es) e h last zero x is = h zero x is
all_more P (y ∷ es) e h last (suc place) x is = all_more (λ S. P (y ∷ S)) es e (λ k. h (suc k)) last place x is

pub formed_more : (S : PlainSignature) (e : PlainEntry) → IsSignature S → IsEntryOver S e → IsSignature (S ++ e ∷ [])
formed_more S e formed last = all_more IsEntryOver S e formed last

kept_over : (S : PlainSignature) (rs : List PlainScopedRule) (o : Result (List PlainRule) Code) → shapes_of S rs ≡ o → AreRulesOver S (kept_rules o)
kept_over S rs (Ok shapes) e = (rs, shapes, e, refl)
kept_over S rs (Err c) e = ([], [], refl, refl)

erased_kept : (b : Option Tree) → IsKeptBody Definable (maybe_erased b)
erased_kept None = tt
erased_kept (Some b) = (refl, plain_erased b)

body_kept : (s : SymSort) (b : Option Tree) → IsKeptBody s (kept_body s b)
body_kept Definable b = erased_kept b
body_kept Static b = tt
body_kept Theorem b = tt

-- the entry of a command is one over the signature before it
pub command_entry : (S : PlainSignature) → IsSignature S → (c : PlainCommand) (budget : ℕ) → IsEntryOver S (entry_of S c (inferred_type S c budget))
command_entry S formed (declare s A b) budget = let numbered : IsNumbered S = formed_numbered S formed in
    ((entry_plain S (formed_plain S formed) (units_reduce S numbered) (declare s A b) budget).0, body_kept s b)
command_entry S formed (rule_command rs) budget = kept_over S rs (shapes_of S rs) refl
command_entry S formed (query demand a) budget = ([], [], refl, refl)
