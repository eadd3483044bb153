-- Raising the others changes a term exactly where it mentions one.
use Rattle.std.proofs.Common.{◌≡◌, ℕ, ◌+◌, List, Bool, true, false, ◌||◌, not, refl, ap, sym, true≢false, arith, if◌then◌else◌}
use Rattle.dk_model.specs.Trees.{Tree, star, kind, symbol, variable, rule_variable, apply, bare, annotated, product}
use Rattle.dk_model.specs.Captures.{mentions_others}
use Rattle.shared_term.specs.Changes.{is_other, others_raised}

same_variable : (k n : ℕ) → variable k ≡ variable n → k ≡ n
same_variable k n e = cc

raised_variable : (b : Bool) (k : ℕ) → variable (if b then k + 1 else k) ≡ variable k → b ≡ false
raised_variable true k e = absurd (no (same_variable (k + 1) k e))
  where
    no : k + 1 ≡ k → ⊥
    no h = omega arith
raised_variable false k e = refl

kept_variable : (b : Bool) (k : ℕ) → b ≡ false → variable (if b then k + 1 else k) ≡ variable k
kept_variable true k e = absurd (true≢false e)
kept_variable false k e = refl

neither : (a b : Bool) → a ≡ false → b ≡ false → a || b ≡ false
neither true b e h = absurd (true≢false e)
neither false b e h = h

left : (a b : Bool) → a || b ≡ false → a ≡ false
left true b e = absurd (true≢false e)
left false b e = refl

right : (a b : Bool) → a || b ≡ false → b ≡ false
right true b e = absurd (true≢false e)
right false b e = e

apply_parts : (f g a b : Tree) → apply f a ≡ apply g b → (f ≡ g) × (a ≡ b)
apply_parts f g a b e = (cc, cc)

bare_part : (b c : Tree) → bare b ≡ bare c → b ≡ c
bare_part b c e = cc

annotated_parts : (f g a b : Tree) → annotated f a ≡ annotated g b → (f ≡ g) × (a ≡ b)
annotated_parts f g a b e = (cc, cc)

product_parts : (f g a b : Tree) → product f a ≡ product g b → (f ≡ g) × (a ≡ b)
product_parts f g a b e = (cc, cc)

pub mentions_none : (u d : ℕ) (xs : List ℕ) (t : Tree) → others_raised u d xs t ≡ t → mentions_others u d xs t ≡ false
mentions_none u d xs star e = refl
mentions_none u d xs kind e = refl
mentions_none u d xs (symbol k) e = refl
mentions_none u d xs (variable k) e = raised_variable (is_other u d xs k) k e
mentions_none u d xs (rule_variable k) e = refl
mentions_none u d xs (apply f a) e = let p = apply_parts _ f _ a e in neither _ _ (mentions_none u d xs f p.0) (mentions_none u d xs a p.1)
mentions_none u d xs (bare b) e = mentions_none (u + 1) d xs b (bare_part _ b e)
mentions_none u d xs (annotated n b) e = let p = annotated_parts _ n _ b e in neither _ _ (mentions_none u d xs n p.0) (mentions_none (u + 1) d xs b p.1)
mentions_none u d xs (product a b) e = let p = product_parts _ a _ b e in neither _ _ (mentions_none u d xs a p.0) (mentions_none (u + 1) d xs b p.1)

pub none_raised : (u d : ℕ) (xs : List ℕ) (t : Tree) → mentions_others u d xs t ≡ false → others_raised u d xs t ≡ t
none_raised u d xs star e = refl
none_raised u d xs kind e = refl
none_raised u d xs (symbol k) e = refl
none_raised u d xs (variable k) e = kept_variable (is_other u d xs k) k e
none_raised u d xs (rule_variable k) e = refl
none_raised u d xs (apply f a) e = λ i. apply (none_raised u d xs f (left _ _ e) i) (none_raised u d xs a (right _ _ e) i)
none_raised u d xs (bare b) e = ap bare (none_raised (u + 1) d xs b e)
none_raised u d xs (annotated n b) e = λ i. annotated (none_raised u d xs n (left _ _ e) i) (none_raised (u + 1) d xs b (right _ _ e) i)
none_raised u d xs (product a b) e = λ i. product (none_raised u d xs a (left _ _ e) i) (none_raised (u + 1) d xs b (right _ _ e) i)

-- whether the raised term is the same tells whether it mentions one
pub mentions_by : (same : Bool) (u d : ℕ) (xs : List ℕ) (t : Tree) → (same ≡ true → others_raised u d xs t ≡ t) → (others_raised u d xs t ≡ t → same ≡ true)
    → not same ≡ mentions_others u d xs t
mentions_by true u d xs t h k = sym (mentions_none u d xs t (h refl))
mentions_by false u d xs t h k = sym (told (mentions_others u d xs t) refl)
  where
    told : (b : Bool) → mentions_others u d xs t ≡ b → mentions_others u d xs t ≡ true
    told true e = e
    told false e = absurd (true≢false (sym (k (none_raised u d xs t e))))
