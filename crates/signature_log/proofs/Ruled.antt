-- The rules that a table has for a symbol, and those that a signature declares, with one more entry.
use Rattle.std.proofs.Common.{◌≡◌, ℕ, ◌+◌, ◌<◌, true, false, ◌==◌, if◌then◌else◌, List, [], ◌∷◌, ◌++◌, length, map, take, get_or, Option, inl, inr, refl, sym, ◌∙◌, ap, subst, append-nil, append_assoc, arith}
use Rattle.std.proofs.lemmas.Bool.Decides.{eqb_tells}
use Rattle.std.proofs.lemmas.List.{map-append, take_more}
use Rattle.dk_model.specs.Signatures.{PlainRule, PlainEntry, symbol_entry, rules_entry, PlainSignature, entry_by}
use Rattle.dk_model.specs.SymbolRules.{rules_of_head, declared_rules}
use Rattle.dk_model.specs.declared.signature.Entry.{Entry}
use Rattle.dk_model.specs.declared.signature.Entry.TheVariants.{Symbol, Rules}
use Rattle.shared_term.specs.Storage.{stored_term}
use Rattle.shared_term.specs.declared.stored.Stored.{Stored}
use Rattle.signature_log.specs.Slots.{IsPut}
use Rattle.signature_log.specs.Placed.{Places, Table, placed_rule, places_in, listed_rules, entry_rules, table_at, AddsRules}

has_head : (k : ℕ) (r : PlainRule) → (r.head == k) ≡ true → rules_of_head k (r ∷ []) ≡ r ∷ []
has_head k r e = ap (λ b. if b then r ∷ [] else []) e

other_head : (k : ℕ) (r : PlainRule) → (r.head == k) ≡ false → rules_of_head k (r ∷ []) ≡ []
other_head k r e = ap (λ b. if b then r ∷ [] else []) e

module _ (old new : ℕ → Option Places) (head : ℕ) (place : Entry Stored × ℕ) (list : Places) (put : IsPut old new head list) (made : list ≡ places_in (old head) ++ place ∷ []) (is : (placed_rule place).head ≡ head) where
  here : listed_rules (new head) ≡ listed_rules (old head) ++ placed_rule place ∷ []
  here = ap listed_rules put.here ∙ (ap (map placed_rule) made ∙ map-append placed_rule (places_in (old head)) (place ∷ []))

  pub put_rule : (k : ℕ) → listed_rules (new k) ≡ listed_rules (old k) ++ rules_of_head k (placed_rule place ∷ [])
  put_rule k = elim (eqb_tells head k) [
    | inl same ↦ subst (λ n. listed_rules (new n) ≡ listed_rules (old n) ++ placed_rule place ∷ []) same.1 here
        ∙ ap (λ rs. listed_rules (old k) ++ rs) (sym (has_head k (placed_rule place) (ap (λ n. n == k) is ∙ same.0)))
    | inr other ↦ ap listed_rules (put.others k (λ e. other.1 (sym e)))
        ∙ (sym (append-nil (listed_rules (old k))) ∙ ap (λ rs. listed_rules (old k) ++ rs) (sym (other_head k (placed_rule place) (ap (λ n. n == k) is ∙ other.0))))
  ]

of_head_append : (k : ℕ) (xs ys : List PlainRule) → rules_of_head k (xs ++ ys) ≡ rules_of_head k xs ++ rules_of_head k ys
of_head_append k [] ys = refl
of_head_append k (x ∷ xs) ys =
    elim (x.head == k) as (λ b. (if b then x ∷ rules_of_head k (xs ++ ys) else rules_of_head k (xs ++ ys)) ≡ (if b then x ∷ rules_of_head k xs else rules_of_head k xs) ++ rules_of_head k ys) [
      | true ↦ ap (λ rs. x ∷ rs) (of_head_append k xs ys)
      | false ↦ of_head_append k xs ys
    ]

pub adds_none : (old new : Table) (rules : List PlainRule) → new ≡ old → length rules ≡ 0 → AddsRules old new rules
adds_none old new [] same none k = ap (λ t. listed_rules (table_at t k)) same ∙ sym (append-nil (listed_rules (table_at old k)))
adds_none old new (r ∷ rs) same none k = absurd (omega (arith, none))

pub adds_more : (old middle new : Table) (rules : List PlainRule) (at : ℕ) (rule : PlainRule) (d : PlainRule) → rule ≡ get_or rules at d → at < length rules → AddsRules old middle (take at rules) → AddsRules middle new (rule ∷ []) → AddsRules old new (take (at + 1) rules)
adds_more old middle new rules at rule d is less first second k =
    second k
    ∙ (ap (λ rs. rs ++ rules_of_head k (rule ∷ [])) (first k)
    ∙ (append_assoc (listed_rules (table_at old k)) (rules_of_head k (take at rules)) (rules_of_head k (rule ∷ []))
    ∙ ap (λ rs. listed_rules (table_at old k) ++ rs) (sym (of_head_append k (take at rules) (rule ∷ [])) ∙ ap (rules_of_head k) (ap (λ r. take at rules ++ r ∷ []) is ∙ sym (take_more rules at d less)))))

-- the rules of an entry as plain data
plain_rules : PlainEntry → List PlainRule
plain_rules (symbol_entry sort typ body) = []
plain_rules (rules_entry rules) = rules

stored_rules : (e : Entry Stored) → plain_rules (entry_by stored_term e) ≡ entry_rules e
unfolding plain_rules
stored_rules (Symbol sort typ body) = refl
stored_rules (Rules rules) = refl

declared_more : (k : ℕ) (S : PlainSignature) (e : PlainEntry) → declared_rules k (S ++ e ∷ []) ≡ declared_rules k S ++ rules_of_head k (plain_rules e)
unfolding plain_rules
declared_more k [] (symbol_entry sort typ body) = refl
declared_more k [] (rules_entry rules) = append-nil (rules_of_head k rules)
declared_more k (symbol_entry sort typ body ∷ S) e = declared_more k S e
declared_more k (rules_entry rules ∷ S) e = ap (λ rs. rules_of_head k rules ++ rs) (declared_more k S e) ∙ sym (append_assoc (rules_of_head k rules) (declared_rules k S) (rules_of_head k (plain_rules e)))

-- the rules of a version with one entry more
pub ruled_more : (es new : List (Entry Stored)) (e : Entry Stored) (old table : Table) → new ≡ es ++ e ∷ []
    → ((symbol : ℕ) → listed_rules (table_at old symbol) ≡ declared_rules symbol (map (entry_by stored_term) es))
    → AddsRules old table (entry_rules e)
    → (symbol : ℕ) → listed_rules (table_at table symbol) ≡ declared_rules symbol (map (entry_by stored_term) new)
ruled_more es new e old table made before adds k =
    adds k
    ∙ (ap (λ rs. rs ++ rules_of_head k (entry_rules e)) (before k)
    ∙ (ap (λ rs. declared_rules k (map (entry_by stored_term) es) ++ rules_of_head k rs) (sym (stored_rules e))
    ∙ (sym (declared_more k (map (entry_by stored_term) es) (entry_by stored_term e))
    ∙ ap (declared_rules k) (sym (ap (map (entry_by stored_term)) made ∙ map-append (entry_by stored_term) es (e ∷ []))))))
