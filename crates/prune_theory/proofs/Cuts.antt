-- A signature cut down to places that are closed under the rules of their symbols is similar to the whole one.
use Rattle.std.proofs.Common.{List, [], ◌∷◌, ◌++◌, slice_get, ℕ, zero, suc, ◌≡◌, ◌<◌, ◌+◌, Bool, true, false, eqb, nat_lt, Option, Some, None, refl, ap, sym, subst, ◌∙◌, true≢false, arith, if◌then◌else◌}
use Rattle.std.proofs.lemmas.Bool.Decides.{nat_tests}
use Rattle.dk_model.specs.PlainTerms.{Tree}
use Rattle.dk_model.specs.PlainEntries.{PlainRule, PlainEntry, symbol_entry, rules_entry, PlainSignature}
use Rattle.dk_model.specs.SymbolRules.{rules_of_head, declared_rules, body_rule}
use Rattle.dk_model.specs.Shapes.{is_definable_entry}
use Rattle.dk_model.specs.Typing.{entry_type}
use Rattle.dk_model.specs.declared.signature.SymSort.{SymSort}
use Rattle.dk_model.specs.declared.signature.SymSort.TheVariants.{Static, Definable, Theorem}
use Rattle.prune_theory.specs.Alike.{Each, none_left, one_more, Maybe, neither, both, Alike, alike_kind, AlikeRule, alike_rule, AlikeEntry, alike_symbol_entry, alike_rules_entry, IsMatching, AreSimilar}
use Rattle.prune_theory.specs.Renumbering.{kept_from, rank, Renumbers}
use Rattle.prune_theory.proofs.Lists.{if_alike, option_alike, each_append}

-- no rule of an entry that is left out has a head that is kept
abbrev pub NoHeadKept : (ℕ → Bool) → List PlainRule → Type 0
NoHeadKept keep [] = Unit {0}
NoHeadKept keep (r ∷ rs) = (keep r.head ≡ false) × NoHeadKept keep rs

abbrev pub IsLeftOut : (ℕ → Bool) → PlainEntry → Type 0
IsLeftOut keep (symbol_entry s t b) = Unit {0}
IsLeftOut keep (rules_entry rs) = NoHeadKept keep rs

-- the second is the first, whose entries are numbered from `n` on, without those that aren't kept, and renumbered
pub data Cut (keep : ℕ → Bool) : ℕ → PlainSignature → PlainSignature → Type 0 where
  cut_end : {n : ℕ} → Cut keep n [] []
  cut_kept : {n : ℕ} {e d : PlainEntry} {S S' : PlainSignature} → keep n ≡ true → AlikeEntry (Renumbers keep) e d → Cut keep (suc n) S S' → Cut keep n (e ∷ S) (d ∷ S')
  cut_left : {n : ℕ} {e : PlainEntry} {S S' : PlainSignature} → keep n ≡ false → IsLeftOut keep e → Cut keep (suc n) S S' → Cut keep n (e ∷ S) S'

module _ (keep : ℕ → Bool) where
  when_kept : {A : Type 0} (n : ℕ) (x y : A) → keep n ≡ true → (if keep n then x else y) ≡ x
  when_kept n x y e = ap (λ b. if b then x else y) e

  when_left : {A : Type 0} (n : ℕ) (x y : A) → keep n ≡ false → (if keep n then x else y) ≡ y
  when_left n x y e = ap (λ b. if b then x else y) e

  -- ---- numbers

  less_here : (b : Bool) (n i m : ℕ) → keep n ≡ b → kept_from keep (suc n) i < kept_from keep (suc n) m → kept_from keep n (suc i) < kept_from keep n (suc m)
  less_here true n i m k l = subst (λ z. z < kept_from keep n (suc m)) (sym (when_kept n (suc (kept_from keep (suc n) i)) (kept_from keep (suc n) i) k))
      (subst (λ z. suc (kept_from keep (suc n) i) < z) (sym (when_kept n (suc (kept_from keep (suc n) m)) (kept_from keep (suc n) m) k)) (omega arith))
  less_here false n i m k l = subst (λ z. z < kept_from keep n (suc m)) (sym (when_left n (suc (kept_from keep (suc n) i)) (kept_from keep (suc n) i) k))
      (subst (λ z. kept_from keep (suc n) i < z) (sym (when_left n (suc (kept_from keep (suc n) m)) (kept_from keep (suc n) m) k)) l)

  -- a place that is kept comes before a later one
  kept_less : (n i m : ℕ) → i < m → keep (n + i) ≡ true → kept_from keep n i < kept_from keep n m
  kept_less n i zero l e = absurd (omega arith)
  kept_less n zero (suc m) l e = subst (λ z. 0 < z) (sym (when_kept n (suc (kept_from keep (suc n) m)) (kept_from keep (suc n) m) (subst (λ z. keep z ≡ true) (let q : n + 0 ≡ n = omega arith in q) e))) (omega arith)
  kept_less n (suc i) (suc m) l e = less_here (keep n) n i m refl (kept_less (suc n) i m (omega arith) (subst (λ z. keep z ≡ true) (let q : n + suc i ≡ suc n + i = omega arith in q) e))

  rank_less : (j k : ℕ) → j < k → keep j ≡ true → rank keep j < rank keep k
  rank_less j k l e = kept_less 0 j k l (subst (λ z. keep z ≡ true) (let q : j ≡ 0 + j = omega arith in q) e)

  differ : (j k : ℕ) → j < k → eqb j k ≡ false
  differ j k l = grind (arith, nat_tests)

  differ' : (j k : ℕ) → k < j → eqb j k ≡ false
  differ' j k l = grind (arith, nat_tests)

  three_ways : {C : Type 0} (j k : ℕ) → (j < k → C) → (j ≡ k → C) → (k < j → C) → C
  three_ways {C} j k f g h = below (nat_lt j k) refl
    where
      above : (b : Bool) → nat_lt k j ≡ b → nat_lt j k ≡ false → C
      above true e d = h (grind (arith, nat_tests))
      above false e d = g (grind (arith, nat_tests))

      below : (b : Bool) → nat_lt j k ≡ b → C
      below true e = f (grind (arith, nat_tests))
      below false e = above (nat_lt k j) refl e

  pub renumbering_matches : IsMatching (Renumbers keep)
  renumbering_matches j k a b p q = three_ways j k
      (λ l. differ j k l ∙ sym (differ a b (let h : rank keep j < rank keep k = rank_less j k l p.0 in let d : a ≡ rank keep j = p.1 in let c : b ≡ rank keep k = q.1 in omega arith)))
      (λ e. subst (λ z. eqb j k ≡ eqb a z) (let f : a ≡ b = p.1 ∙ ap (rank keep) e ∙ sym q.1 in f) (subst (λ z. eqb j z ≡ eqb a a) e (eqb_itself j ∙ sym (eqb_itself a))))
      (λ l. differ' j k l ∙ sym (differ' a b (let h : rank keep k < rank keep j = rank_less k j l q.0 in let d : a ≡ rank keep j = p.1 in let c : b ≡ rank keep k = q.1 in omega arith)))
    where
      eqb_itself : (n : ℕ) → eqb n n ≡ true
      eqb_itself n = grind (arith, nat_tests)

  -- ---- entries

  entry_kept : (n i : ℕ) (d : PlainEntry) (S S' : PlainSignature) → keep n ≡ true → Maybe (AlikeEntry (Renumbers keep)) (slice_get S i) (slice_get S' (kept_from keep (suc n) i))
      → Maybe (AlikeEntry (Renumbers keep)) (slice_get S i) (slice_get (d ∷ S') (kept_from keep n (suc i)))
  entry_kept n i d S S' k m = subst (λ z. Maybe (AlikeEntry (Renumbers keep)) (slice_get S i) (slice_get (d ∷ S') z)) (sym (when_kept n (suc (kept_from keep (suc n) i)) (kept_from keep (suc n) i) k)) m

  entry_left : (n i : ℕ) (S S' : PlainSignature) → keep n ≡ false → Maybe (AlikeEntry (Renumbers keep)) (slice_get S i) (slice_get S' (kept_from keep (suc n) i))
      → Maybe (AlikeEntry (Renumbers keep)) (slice_get S i) (slice_get S' (kept_from keep n (suc i)))
  entry_left n i S S' k m = subst (λ z. Maybe (AlikeEntry (Renumbers keep)) (slice_get S i) (slice_get S' z)) (sym (when_left n (suc (kept_from keep (suc n) i)) (kept_from keep (suc n) i) k)) m

  here_zero : (n : ℕ) → keep (n + 0) ≡ true → keep n ≡ true
  here_zero n e = subst (λ z. keep z ≡ true) (let q : n + 0 ≡ n = omega arith in q) e

  next_place : (n i : ℕ) → keep (n + suc i) ≡ true → keep (suc n + i) ≡ true
  next_place n i e = subst (λ z. keep z ≡ true) (let q : n + suc i ≡ suc n + i = omega arith in q) e

  entries_cut : {n : ℕ} {S S' : PlainSignature} → Cut keep n S S' → (i : ℕ) → keep (n + i) ≡ true → Maybe (AlikeEntry (Renumbers keep)) (slice_get S i) (slice_get S' (kept_from keep n i))
  entries_cut cut_end i e = neither
  entries_cut (cut_kept k d c) zero e = both d
  entries_cut (cut_left {n} k l c) zero e = absurd (true≢false (sym (here_zero n e) ∙ k))
  entries_cut (cut_kept {n} {d} {S} {S'} k a c) (suc i) e = entry_kept n i d S S' k (entries_cut c i (next_place n i e))
  entries_cut (cut_left {n} {S} {S'} k l c) (suc i) e = entry_left n i S S' k (entries_cut c i (next_place n i e))

  entry_cut : {S S' : PlainSignature} {j a : ℕ} → Cut keep 0 S S' → Renumbers keep j a → Maybe (AlikeEntry (Renumbers keep)) (slice_get S j) (slice_get S' a)
  entry_cut {S} {S'} {j} c q = subst (λ z. Maybe (AlikeEntry (Renumbers keep)) (slice_get S j) (slice_get S' z)) (sym q.1) (entries_cut c j (subst (λ z. keep z ≡ true) (let q : j ≡ 0 + j = omega arith in q) q.0))

  type_cut : {e d : PlainEntry} → AlikeEntry (Renumbers keep) e d → Alike (Renumbers keep) (entry_type e) (entry_type d)
  type_cut (alike_symbol_entry t b) = t
  type_cut (alike_rules_entry rs) = alike_kind

  definable_sort : (s : SymSort) (t u : Tree) (b c : Option Tree) → is_definable_entry (symbol_entry s t b) ≡ is_definable_entry (symbol_entry s u c)
  definable_sort Static t u b c = refl
  definable_sort Definable t u b c = refl
  definable_sort Theorem t u b c = refl

  definable_cut : {e d : PlainEntry} → AlikeEntry (Renumbers keep) e d → is_definable_entry e ≡ is_definable_entry d
  definable_cut (alike_symbol_entry {s} {t} {u} {b} {c} p q) = definable_sort s t u b c
  definable_cut (alike_rules_entry rs) = refl

  definable_entry : {o o' : Option PlainEntry} → Maybe (AlikeEntry (Renumbers keep)) o o'
      → elim o as (λ _. Bool) [ None ↦ false | Some e ↦ is_definable_entry e ] ≡ elim o' as (λ _. Bool) [ None ↦ false | Some e ↦ is_definable_entry e ]
  definable_entry neither = refl
  definable_entry (both m) = definable_cut m

  -- ---- rules

  body_cut : {j a : ℕ} {o o' : Option PlainEntry} → Renumbers keep j a → Maybe (AlikeEntry (Renumbers keep)) o o' → Each (AlikeRule (Renumbers keep)) (body_rule j o) (body_rule a o')
  body_cut q neither = none_left
  body_cut q (both (alike_symbol_entry t neither)) = none_left
  body_cut q (both (alike_symbol_entry t (both b))) = one_more (alike_rule q none_left none_left b) none_left
  body_cut q (both (alike_rules_entry rs)) = none_left

  head_tests : {j a : ℕ} {r s : PlainRule} → Renumbers keep j a → AlikeRule (Renumbers keep) r s → eqb r.head j ≡ eqb s.head a
  head_tests {j} {a} q (alike_rule {j = h} {k = g} p ps ns t) = renumbering_matches h j g a p q

  heads_cut : {j a : ℕ} {rs qs : List PlainRule} → Renumbers keep j a → Each (AlikeRule (Renumbers keep)) rs qs → Each (AlikeRule (Renumbers keep)) (rules_of_head j rs) (rules_of_head a qs)
  heads_cut q none_left = none_left
  heads_cut q (one_more r e) = if_alike (Each (AlikeRule (Renumbers keep))) _ _ _ _ _ _ (head_tests q r) (one_more r (heads_cut q e)) (heads_cut q e)

  other_head : (h j : ℕ) → keep h ≡ false → keep j ≡ true → eqb h j ≡ false
  other_head h j k q = three_ways h j (differ h j) (λ e. absurd (true≢false (sym q ∙ sym (ap keep e) ∙ k))) (differ' h j)

  no_rules : (j : ℕ) (rs : List PlainRule) → keep j ≡ true → NoHeadKept keep rs → rules_of_head j rs ≡ []
  no_rules j [] q l = refl
  no_rules j (r ∷ rs) q l = ap (λ b. if b then r ∷ rules_of_head j rs else rules_of_head j rs) (other_head r.head j l.0 q) ∙ no_rules j rs q l.1

  declared_cut : {n : ℕ} {S S' : PlainSignature} {j a : ℕ} → Renumbers keep j a → Cut keep n S S' → Each (AlikeRule (Renumbers keep)) (declared_rules j S) (declared_rules a S')
  declared_cut q cut_end = none_left
  declared_cut q (cut_kept k (alike_symbol_entry t b) c) = declared_cut q c
  declared_cut q (cut_kept k (alike_rules_entry rs) c) = each_append (heads_cut q rs) (declared_cut q c)
  declared_cut q (cut_left {e = symbol_entry s t b} k l c) = declared_cut q c
  declared_cut {j} {a} q (cut_left {e = rules_entry rs} {S} {S'} k l c) = subst (λ z. Each (AlikeRule (Renumbers keep)) (z ++ declared_rules j S) (declared_rules a S')) (sym (no_rules j rs q.0 l)) (declared_cut q c)

  -- ---- the law

  pub cut_similar : {S S' : PlainSignature} → Cut keep 0 S S' → AreSimilar (Renumbers keep) S S'
  cut_similar c = record {
    matching = renumbering_matches;
    rules = λ j a q. each_append (body_cut q (entry_cut c q)) (declared_cut q c);
    types = λ j a q. option_alike (Alike (Renumbers keep)) _ _ _ _ (entry_cut c q) alike_kind (λ e d m. type_cut m);
    definable = λ j a q. definable_entry (entry_cut c q);
  }
