-- Marks of rule variables.
use Rattle.std.specs.Prelude.{slice_set, length, ◌||◌, Bool, true, false, IsTrue}
use Rattle.std.proofs.Common.{List, [], ◌∷◌, ◌++◌, ℕ, zero, suc, ◌≡◌, ◌<◌, ◌≤◌, Option, refl, ap, ◌∙◌, sym as flip, subst, arith}
use Rattle.std.proofs.lemmas.Bool.{eqb-true}
use Rattle.dk_model.specs.Trees.{Tree, rule_variable}
use Rattle.dk_model.specs.Bindings.{mentions_rule_variable}
use Rattle.rule_check.specs.Mentioned.{is_marked, with_mark, stands_in}

-- ---- one or the other

pub any_left : (a b : Bool) → a ≡ true → (a || b) ≡ true
any_left a b e = rw e refl

pub any_right : (a b : Bool) → b ≡ true → (a || b) ≡ true
any_right true b e = refl
any_right false b e = e

pub by_either : (P : Type 0) (a b : Bool) → (a || b) ≡ true → (a ≡ true → P) → (b ≡ true → P) → P
by_either P true b e f g = f refl
by_either P false b e f g = g e

-- ---- marks

pub mark_padded : (bs : List Bool) (k : ℕ) → length bs ≤ k → with_mark (bs ++ false ∷ []) k ≡ with_mark bs k
mark_padded [] zero l = refl
mark_padded [] (suc k) l = refl
mark_padded (b ∷ bs) zero l = absurd (omega arith)
mark_padded (b ∷ bs) (suc k) l = ap (λ (xs : List Bool). b ∷ xs) (mark_padded bs k (omega arith))

pub mark_set : (bs : List Bool) (k : ℕ) → k < length bs → slice_set bs k true ≡ with_mark bs k
mark_set [] k l = absurd (omega arith)
mark_set (b ∷ bs) zero l = refl
mark_set (b ∷ bs) (suc k) l = ap (λ (xs : List Bool). b ∷ xs) (mark_set bs k (omega arith))

marked_here : (bs : List Bool) (k : ℕ) → is_marked (with_mark bs k) k ≡ true
marked_here [] zero = refl
marked_here [] (suc k) = marked_here [] k
marked_here (b ∷ bs) zero = refl
marked_here (b ∷ bs) (suc k) = marked_here bs k

marked_kept : (bs : List Bool) (k j : ℕ) → is_marked bs j ≡ true → is_marked (with_mark bs k) j ≡ true
marked_kept [] k j e = cc
marked_kept (b ∷ bs) zero zero e = refl
marked_kept (b ∷ bs) zero (suc j) e = e
marked_kept (b ∷ bs) (suc k) zero e = e
marked_kept (b ∷ bs) (suc k) (suc j) e = marked_kept bs k j e

pub mark_keeps : (bs ms : List Bool) (k j : ℕ) → ms ≡ with_mark bs k → is_marked bs j ≡ true → is_marked ms j ≡ true
mark_keeps bs ms k j e m = subst (λ xs. is_marked xs j ≡ true) (flip e) (marked_kept bs k j m)

-- a rule variable is marked
pub variable_marked : (bs ms : List Bool) (k j : ℕ) (t : Tree) → t ≡ rule_variable k → ms ≡ with_mark bs k → mentions_rule_variable j t ≡ true → is_marked ms j ≡ true
variable_marked bs ms k j t e f m =
    let q : k ≡ j = eqb-true k j (flip (ap (mentions_rule_variable j) e) ∙ m) in
    subst (λ xs. is_marked xs j ≡ true) (flip f) (subst (λ i. is_marked (with_mark bs k) i ≡ true) q (marked_here bs k))

-- the rule variables of both parts are marked, one after the other
pub both_marked : (j : ℕ) (t one other later : Tree) (ms ns : List Bool) (b : Bool) → mentions_rule_variable j t ≡ (mentions_rule_variable j one || mentions_rule_variable j other) → later ≡ other
    → (mentions_rule_variable j one ≡ true → is_marked ms j ≡ true) → (is_marked ms j ≡ true → is_marked ns j ≡ true)
    → (mentions_rule_variable j later ≡ true → IsTrue b → is_marked ns j ≡ true) → mentions_rule_variable j t ≡ true → IsTrue b → is_marked ns j ≡ true
both_marked j t one other later ms ns b e q f g h m i =
    by_either (is_marked ns j ≡ true) (mentions_rule_variable j one) (mentions_rule_variable j other) (flip e ∙ m) (λ x. g (f x)) (λ x. h (ap (mentions_rule_variable j) q ∙ x) i)

-- ---- what a test says

pub told_by : (b : Bool) (j : ℕ) (ms : List Bool) (o : Option Tree) → is_marked ms j ≡ false → b ≡ stands_in j o → (is_marked ms j || stands_in j o) ≡ true → IsTrue b
told_by b j ms o e f m = by_either (IsTrue b) (is_marked ms j) (stands_in j o) m (λ q. let r : true ≡ false = flip q ∙ e in cc) (λ q. f ∙ q)
