-- A closed term as it is printed is scoped as that term.
use Rattle.std.proofs.Common.{◌⊎◌, inl, inr, List, [], ◌∷◌, ◌++◌, ℕ, zero, suc, ◌≡◌, ◌<◌, ◌+◌, ◌-◌, ◌^◌, Bool, true, false, ◌||◌, length, Some, None, refl, ap, sym as flip, subst as along_path, ◌∙◌, arith, if◌then◌else◌}
use Rattle.std.specs.Option.{option_map_or}
use Rattle.std.proofs.lemmas.Bool.{eq-eqb, eqb-true}
use Rattle.dk_model.specs.PlainTerms.{Tree, star, kind, symbol, variable, rule_variable, apply, bare, annotated, product}
use Rattle.dk_model.specs.Bounds.{IsClosedAt}
use Rattle.dk_terms.specs.Written.{written_arrow, written_product}
use Rattle.scope_terms.specs.Scopes.{Spelling, Binder, Module, Symbols, no_names, own_of, same_spelling, binds, number_from, number_of, means_variable, means_symbol, means_rule_variable, unknown, meant_term, Scoping, scoped, one, both, term_of}
use Rattle.term_print.specs.Named.{Word, has, binder_name, mentions, written_at, written_term, written_word, spellings}
use Rattle.term_print.specs.ReadBack.{binders_deep, CanBeRead, IsDeclared}
use Rattle.term_print.proofs.Fresh.{same_self, unlike, true_false, binder_unused, binder_depth, apart}

-- ---- words

both_scoped : {A B C : Type 0} (f : A → B → C) (x : Scoping A) (y : Scoping B) (a : A) (b : B) → x ≡ scoped a → y ≡ scoped b → both f x y ≡ scoped (f a b)
both_scoped f x y a b e h = ap (λ z. both f z y) e ∙ ap (λ z. one (f a) z) h

one_scoped : {A B : Type 0} (f : A → B) (x : Scoping A) (a : A) → x ≡ scoped a → one f x ≡ scoped (f a)
one_scoped f x a e = ap (λ z. one f z) e

pub either_left : (b c : Bool) → b ≡ true → (b || c) ≡ true
either_left b c e = ap (λ d. d || c) e

pub either_right : (b c : Bool) → c ≡ true → (b || c) ≡ true
either_right true c e = refl
either_right false c e = e

or_cases : (b c : Bool) (C : Type 0) → (b || c) ≡ true → (b ≡ true → C) → (c ≡ true → C) → C
or_cases true c C e f g = f refl
or_cases false c C e f g = g e

-- ---- words

-- a word that is declared means its symbol wherever no binder is spelt as it is
pub word_means : (symbols : Symbols) (m : Module) (k : ℕ) (w : Word) (bound : List Binder) → IsDeclared symbols m k w → number_from 0 (binds w.spelling) bound ≡ None
    → term_of symbols (own_of symbols m) no_names bound (written_word w) ≡ scoped (symbol k)
word_means symbols m k w bound d free = by w.module_name d
  where
    by : (o : Module) → IsDeclared symbols m k (record { module_name = o; spelling = w.spelling })
        → term_of symbols (own_of symbols m) no_names bound (written_word (record { module_name = o; spelling = w.spelling })) ≡ scoped (symbol k)
    by None e =
        ap (λ o. meant_term (option_map_or means_variable o (option_map_or means_rule_variable (number_of no_names w.spelling) (option_map_or means_symbol (number_of (own_of symbols m) w.spelling) unknown)))) free
        ∙ ap (λ o. meant_term (option_map_or means_symbol o unknown)) e
    by (Some n) e = ap (λ o. meant_term (option_map_or means_symbol o unknown)) e

-- ---- what a closed term mentions

pub closed_below : (d k : ℕ) (t : Tree) → IsClosedAt d t → mentions k t ≡ true → k < d
closed_below d k star c m = absurd (true_false (flip m))
closed_below d k kind c m = absurd (true_false (flip m))
closed_below d k (symbol s) c m = absurd (true_false (flip m))
closed_below d k (variable j) c m = along_path (λ i. i < d) (flip (eqb-true k j m)) c
closed_below d k (rule_variable s) c m = absurd (true_false (flip m))
closed_below d k (apply f a) c m = or_cases (mentions k f) (mentions k a) (k < d) m (closed_below d k f c.0) (closed_below d k a c.1)
closed_below d k (bare b) c m = let l : k + 1 < d + 1 = closed_below (d + 1) (k + 1) b c m in omega arith
closed_below d k (annotated n b) c m = or_cases (mentions k n) (mentions (k + 1) b) (k < d) m (closed_below d k n c.0)
    (λ h. let l : k + 1 < d + 1 = closed_below (d + 1) (k + 1) b c.1 h in omega arith)
closed_below d k (product a b) c m = or_cases (mentions k a) (mentions (k + 1) b) (k < d) m (closed_below d k a c.0)
    (λ h. let l : k + 1 < d + 1 = closed_below (d + 1) (k + 1) b c.1 h in omega arith)

-- ---- the binders

module _ (used : List Spelling) where
  -- each binder is the wildcard, or has the name of its depth
  abbrev Stand : List Binder → Type 0
  Stand [] = Unit {0}
  Stand (x ∷ xs) = ((x ≡ None) ⊎ (x ≡ Some (binder_name used (length xs)))) × Stand xs

  -- variable k has a name
  abbrev NamedAt : List Binder → ℕ → Type 0
  NamedAt [] k = ⊥
  NamedAt (x ∷ xs) zero = x ≡ Some (binder_name used (length xs))
  NamedAt (x ∷ xs) (suc k) = NamedAt xs k

  named_below : (bound : List Binder) (k : ℕ) → NamedAt bound k → k < length bound
  named_below [] k n = absurd n
  named_below (x ∷ xs) zero n = omega arith
  named_below (x ∷ xs) (suc k) n = let l = named_below xs k n in omega arith

  passed : (n : ℕ) (y : Spelling) (x : Binder) (xs : List Binder) → binds y x ≡ false → number_from n (binds y) (x ∷ xs) ≡ number_from (n + 1) (binds y) xs
  passed n y x xs e = ap (λ b. if b then Some n else number_from (n + 1) (binds y) xs) e

  here : (n : ℕ) (y : Spelling) (x : Binder) (xs : List Binder) → binds y x ≡ true → number_from n (binds y) (x ∷ xs) ≡ Some n
  here n y x xs e = ap (λ b. if b then Some n else number_from (n + 1) (binds y) xs) e

  -- the innermost binder so spelt is the one meant
  found : (n k d : ℕ) (bound : List Binder) → Stand bound → NamedAt bound k → length bound < 2 ^ 64 → d ≡ length bound - (k + 1)
      → number_from n (binds (binder_name used d)) bound ≡ Some (n + k)
  found n k d [] s m l e = absurd m
  found n zero d (x ∷ xs) s m l e =
      let same : d ≡ length xs = omega arith in
      here n (binder_name used d) x xs (ap (binds (binder_name used d)) m ∙ (ap (λ i. same_spelling (binder_name used d) (binder_name used i)) (flip same) ∙ same_self (binder_name used d)))
      ∙ ap Some (let z : n ≡ n + 0 = omega arith in z)
  found n (suc k) d (x ∷ xs) s m l e =
      let below = named_below xs k m in
      passed n (binder_name used d) x xs (other s.0 (omega arith))
      ∙ (found (n + 1) k d xs s.1 m (omega arith) (omega arith) ∙ ap Some (let z : n + 1 + k ≡ n + suc k = omega arith in z))
    where
      other : ((x ≡ None) ⊎ (x ≡ Some (binder_name used (length xs)))) → d < length xs → binds (binder_name used d) x ≡ false
      other (inl none) b = ap (binds (binder_name used d)) none
      other (inr some) b = ap (binds (binder_name used d)) some
          ∙ unlike (binder_name used d) (binder_name used (length xs)) (λ same. clash (binder_depth used d (length xs) (omega arith) (omega arith) same))
        where
          clash : d ≡ length xs → ⊥
          clash q = omega arith

  -- no binder is spelt as a symbol is
  unbound : (n : ℕ) (y : Spelling) (bound : List Binder) → has used y ≡ true → Stand bound → number_from n (binds y) bound ≡ None
  unbound n y [] h s = refl
  unbound n y (x ∷ xs) h s = passed n y x xs (other s.0) ∙ unbound (n + 1) y xs h s.1
    where
      other : ((x ≡ None) ⊎ (x ≡ Some (binder_name used (length xs)))) → binds y x ≡ false
      other (inl none) = ap (binds y) none
      other (inr some) = ap (binds y) some ∙ apart used y (binder_name used (length xs)) h (binder_unused used (length xs))

  -- ---- the variables of a term under a binder

  -- each variable that the term mentions has a name
  abbrev AreNamed : List Binder → Tree → Type 0
  AreNamed bound t = (k : ℕ) → mentions k t ≡ true → NamedAt bound k

  one_more : (k : ℕ) (t : Tree) → mentions (suc k) t ≡ true → mentions (k + 1) t ≡ true
  one_more k t m = ap (λ i. mentions i t) (let z : k + 1 ≡ suc k = omega arith in z) ∙ m

  under_name : (d : ℕ) (bound : List Binder) (b : Tree) → d ≡ length bound → ((k : ℕ) → mentions (k + 1) b ≡ true → NamedAt bound k) → AreNamed (Some (binder_name used d) ∷ bound) b
  under_name d bound b e n zero m = ap (λ i. Some (binder_name used i)) e
  under_name d bound b e n (suc k) m = n k (one_more k b m)

  under_none : (bound : List Binder) (b : Tree) → mentions 0 b ≡ false → ((k : ℕ) → mentions (k + 1) b ≡ true → NamedAt bound k) → AreNamed (None ∷ bound) b
  under_none bound b unused n zero m = absurd (true_false (flip m ∙ unused))
  under_none bound b unused n (suc k) m = n k (one_more k b m)

  module _ (symbols : Symbols) (m : Module) (words : ℕ → Word) where
    -- each symbol of the term is so spelt
    abbrev AreUsed : Tree → Type 0
    AreUsed (symbol k) = has used (words k).spelling ≡ true
    AreUsed (apply f a) = AreUsed f × AreUsed a
    AreUsed (bare b) = AreUsed b
    AreUsed (annotated n b) = AreUsed n × AreUsed b
    AreUsed (product a b) = AreUsed a × AreUsed b
    AreUsed t = Unit {0}

    -- a product: it has a name where its variable is used
    product_scoped : (d : ℕ) (bound : List Binder) (a b : Tree) → term_of symbols (own_of symbols m) no_names bound (written_at words used d a) ≡ scoped a
        → (mentions 0 b ≡ true → term_of symbols (own_of symbols m) no_names (Some (binder_name used d) ∷ bound) (written_at words used (d + 1) b) ≡ scoped b)
        → (mentions 0 b ≡ false → term_of symbols (own_of symbols m) no_names (None ∷ bound) (written_at words used (d + 1) b) ≡ scoped b)
        → term_of symbols (own_of symbols m) no_names bound (written_at words used d (product a b)) ≡ scoped (product a b)
    product_scoped d bound a b first named unnamed = by (mentions 0 b) refl
      where
        by : (c : Bool) → mentions 0 b ≡ c
            → term_of symbols (own_of symbols m) no_names bound (if c then written_product (Some (binder_name used d)) (written_at words used d a) (written_at words used (d + 1) b)
            else written_arrow (written_at words used d a) (written_at words used (d + 1) b)) ≡ scoped (product a b)
        by true m = both_scoped product _ _ a b first (named m)
        by false m = both_scoped product _ _ a b first (unnamed m)

    scoped_at : (d : ℕ) (bound : List Binder) (t : Tree) → d ≡ length bound → d + binders_deep t < 2 ^ 64 → Stand bound → AreNamed bound t → CanBeRead symbols m words t → AreUsed t
        → term_of symbols (own_of symbols m) no_names bound (written_at words used d t) ≡ scoped t
    scoped_at d bound star e l s n r u = refl
    scoped_at d bound kind e l s n r u = absurd r
    scoped_at d bound (symbol k) e l s n r u = word_means symbols m k (words k) bound r (unbound 0 (words k).spelling bound u s)
    scoped_at d bound (variable k) e l s n r u =
        ap (λ o. meant_term (option_map_or means_variable o (option_map_or means_rule_variable (number_of no_names (binder_name used (d - (k + 1)))) (option_map_or means_symbol (number_of (own_of symbols m) (binder_name used (d - (k + 1)))) unknown))))
        (found 0 k (d - (k + 1)) bound s (n k (eq-eqb k k refl)) (omega arith) (ap (λ i. i - (k + 1)) e))
        ∙ ap (λ i. scoped (variable i)) (let z : 0 + k ≡ k = omega arith in z)
    scoped_at d bound (rule_variable k) e l s n r u = absurd r
    scoped_at d bound (apply f a) e l s n r u = both_scoped apply _ _ f a
        (scoped_at d bound f e (omega arith) s (λ k m. n k (either_left (mentions k f) (mentions k a) m)) r.0 u.0)
        (scoped_at d bound a e (omega arith) s (λ k m. n k (either_right (mentions k f) (mentions k a) m)) r.1 u.1)
    scoped_at d bound (bare b) e l s n r u = one_scoped bare _ b
        (scoped_at (d + 1) (Some (binder_name used d) ∷ bound) b (omega arith) (omega arith) (inr (ap (λ i. Some (binder_name used i)) e), s) (under_name d bound b e n) r u)
    scoped_at d bound (annotated c b) e l s n r u = absurd r
    scoped_at d bound (product a b) e l s n r u = product_scoped d bound a b
        (scoped_at d bound a e (omega arith) s (λ k m. n k (either_left (mentions k a) (mentions (k + 1) b) m)) r.0 u.0)
        (λ m. scoped_at (d + 1) (Some (binder_name used d) ∷ bound) b (omega arith) (omega arith) (inr (ap (λ i. Some (binder_name used i)) e), s)
        (under_name d bound b e (λ k h. n k (either_right (mentions k a) (mentions (k + 1) b) h))) r.1 u.1)
        (λ m. scoped_at (d + 1) (None ∷ bound) b (omega arith) (omega arith) (inl refl, s)
        (under_none bound b m (λ k h. n k (either_right (mentions k a) (mentions (k + 1) b) h))) r.1 u.1)

-- ---- the symbols of a term

has_left : (xs ys : List Spelling) (s : Spelling) → has xs s ≡ true → has (xs ++ ys) s ≡ true
has_left [] ys s h = absurd (true_false (flip h))
has_left (x ∷ xs) ys s h = or_cases (same_spelling s x) (has xs s) (has (x ∷ (xs ++ ys)) s ≡ true) h
    (either_left (same_spelling s x) (has (xs ++ ys) s))
    (λ k. either_right (same_spelling s x) (has (xs ++ ys) s) (has_left xs ys s k))

has_right : (xs ys : List Spelling) (s : Spelling) → has ys s ≡ true → has (xs ++ ys) s ≡ true
has_right [] ys s h = h
has_right (x ∷ xs) ys s h = either_right (same_spelling s x) (has (xs ++ ys) s) (has_right xs ys s h)

module _ (symbols : Symbols) (m : Module) (words : ℕ → Word) where
  more_used : (xs ys : List Spelling) → ((s : Spelling) → has xs s ≡ true → has ys s ≡ true) → (t : Tree) → AreUsed xs symbols m words t → AreUsed ys symbols m words t
  more_used xs ys k star u = tt
  more_used xs ys k kind u = tt
  more_used xs ys k (symbol i) u = k (words i).spelling u
  more_used xs ys k (variable i) u = tt
  more_used xs ys k (rule_variable i) u = tt
  more_used xs ys k (apply f a) u = (more_used xs ys k f u.0, more_used xs ys k a u.1)
  more_used xs ys k (bare b) u = more_used xs ys k b u
  more_used xs ys k (annotated n b) u = (more_used xs ys k n u.0, more_used xs ys k b u.1)
  more_used xs ys k (product a b) u = (more_used xs ys k a u.0, more_used xs ys k b u.1)

  all_used : (t : Tree) → AreUsed (spellings words t) symbols m words t
  all_used star = tt
  all_used kind = tt
  all_used (symbol i) = either_left (same_spelling (words i).spelling (words i).spelling) false (same_self (words i).spelling)
  all_used (variable i) = tt
  all_used (rule_variable i) = tt
  all_used (apply f a) = (more_used _ _ (has_left (spellings words f) (spellings words a)) f (all_used f), more_used _ _ (has_right (spellings words f) (spellings words a)) a (all_used a))
  all_used (bare b) = all_used b
  all_used (annotated n b) = (more_used _ _ (has_left (spellings words n) (spellings words b)) n (all_used n), more_used _ _ (has_right (spellings words n) (spellings words b)) b (all_used b))
  all_used (product a b) = (more_used _ _ (has_left (spellings words a) (spellings words b)) a (all_used a), more_used _ _ (has_right (spellings words a) (spellings words b)) b (all_used b))

pub term_scoped : (symbols : Symbols) (m : Module) (words : ℕ → Word) (t : Tree) → IsClosedAt 0 t → binders_deep t < 2 ^ 64 → CanBeRead symbols m words t
    → term_of symbols (own_of symbols m) no_names [] (written_term words t) ≡ scoped t
term_scoped symbols m words t c l r = scoped_at (spellings words t) symbols m words 0 [] t refl (omega arith) tt (λ k m. absurd (nothing k (closed_below 0 k t c m))) r (all_used symbols m words t)
  where
    nothing : (k : ℕ) → k < 0 → ⊥
    nothing k h = omega arith
