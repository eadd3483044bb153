-- Looking for a binder.
use Rattle.std.proofs.Common.{◌≡◌, ◌∙◌, ap, sym, subst, refl, ◌≢◌, ℕ, zero, suc, ◌+◌, Bool, true, false, cond, List, [], ◌∷◌, ◌++◌, length, replicate, arith}
use Rattle.std.specs.Prelude.{Some, None, IsTrue, ◌↔◌}
use Rattle.std.specs.Cmp.Lexicographic.{bytes_decides}
use Rattle.scope_terms.specs.Scopes.{Binder, Spelling, binds, number_from, same_spelling}
use Rattle.scope_terms.specs.Binding.{AreTold, LeadsTo, MayBe, Widens, class_of, first_byte}
use Rattle.scope_terms.specs.declared.binders.Spans.{Spans}

-- binders that bind nothing that can be named
pub number_unnamed : (x : Spelling) (n k : ℕ) (bs : List Binder) → number_from n (binds x) (replicate k None ++ bs) ≡ number_from (n + k) (binds x) bs
number_unnamed x n zero bs = ap (λ m. number_from m (binds x) bs) (omega arith)
number_unnamed x n (suc k) bs = number_unnamed x (n + 1) k bs ∙ ap (λ m. number_from m (binds x) bs) (omega arith)

pub told_unnamed : (s : Spans) (k : ℕ) (bs : List Binder) → AreTold s bs → AreTold s (replicate k None ++ bs)
told_unnamed s zero bs told = told
told_unnamed s (suc k) bs told = told_unnamed s k bs told

-- with a name more
told_wider : (l c : ℕ) (s t : Spans) (bs : List Binder) → Widens s.lengths l t.lengths → Widens s.firsts c t.firsts → AreTold s bs → AreTold t bs
told_wider l c s t [] ls cs told = tt
told_wider l c s t (None ∷ bs) ls cs told = told_wider l c s t bs ls cs told
told_wider l c s t (Some y ∷ bs) ls cs told =
    let a = told.0.0.0 in
    let b = told.0.0.1 in
    let d = told.0.1.0 in
    let e = told.0.1.1 in
    let a' = ls.least in
    let b' = ls.most in
    let d' = cs.least in
    let e' = cs.most in
    (((omega (arith, a, a'), omega (arith, b, b')), (omega (arith, d, d'), omega (arith, e, e'))), told_wider l c s t bs ls cs told.1)

pub told_named : (x : Spelling) (s t : Spans) (bs : List Binder) → Widens s.lengths (length x) t.lengths → Widens s.firsts (first_byte x) t.firsts → AreTold s bs → AreTold t (Some x ∷ bs)
told_named x s t bs ls cs told = (((ls.least_new, ls.most_new), (cs.least_new, cs.most_new)), told_wider (length x) (first_byte x) s t bs ls cs told)

-- a name that is told from all
pub number_absent : (x : Spelling) (s : Spans) (n : ℕ) (bs : List Binder) (found : Bool) → AreTold s bs → (IsTrue found ↔ MayBe x s) → found ≡ false → number_from n (binds x) bs ≡ None
number_absent x s n [] found told is lacks = refl
number_absent x s n (None ∷ bs) found told is lacks = number_absent x s (n + 1) bs found told is lacks
number_absent x s n (Some y ∷ bs) found told is lacks = by (same_spelling x y) refl (number_absent x s (n + 1) bs found told.1 is lacks)
  where
    here : same_spelling x y ≡ true → found ≡ true
    here e = is.1 (subst (λ (z : Spelling). MayBe z s) (sym ((bytes_decides x y).0 e)) told.0)

    by : (b : Bool) → same_spelling x y ≡ b → number_from (n + 1) (binds x) bs ≡ None → number_from n (binds x) (Some y ∷ bs) ≡ None
    by true e rest = let yes : false ≡ true = sym lacks ∙ here e in cc
    by false e rest = ap (λ b. cond b (Some n) (number_from (n + 1) (binds x) bs)) e ∙ rest

-- a name of another class
pub number_passed : (x y : Spelling) (n : ℕ) (bs : List Binder) → class_of y ≢ class_of x → number_from n (binds x) (Some y ∷ bs) ≡ number_from (n + 1) (binds x) bs
number_passed x y n bs unlike = by (same_spelling x y) refl
  where
    by : (b : Bool) → same_spelling x y ≡ b → number_from n (binds x) (Some y ∷ bs) ≡ number_from (n + 1) (binds x) bs
    by true e = absurd (unlike (ap class_of (sym ((bytes_decides x y).0 e))))
    by false e = ap (λ b. cond b (Some n) (number_from (n + 1) (binds x) bs)) e

-- ---- links

pub leads_unnamed : (class passed k : ℕ) (bs last : List Binder) → LeadsTo class bs passed (replicate k None ++ last) → LeadsTo class bs (passed + k) last
leads_unnamed class passed k bs last leads x n is =
    leads x n is ∙ number_unnamed x (n + passed) k last ∙ ap (λ m. number_from m (binds x) last) (omega arith)

pub leads_named : (class passed : ℕ) (y : Spelling) (bs last : List Binder) → class_of y ≢ class → LeadsTo class bs passed (Some y ∷ last) → LeadsTo class bs (passed + 1) last
leads_named class passed y bs last unlike leads x n is =
    leads x n is ∙ number_passed x y (n + passed) last (λ same. unlike (same ∙ is)) ∙ ap (λ m. number_from m (binds x) last) (omega arith)
