-- A pool that takes a new node is a pool, and what was denoted is denoted still.
use Rattle.std.proofs.Common.{◌≡◌, zero, suc, ℕ, ◌+◌, ◌<◌, ◌≤◌, List, [], ◌∷◌, ◌++◌, length, get_or, slice_get, Some, None, Bool, true, false, refl, ap, sym, subst, ◌∙◌, ◌⊎◌, inl, inr, arith, length-append, true≢false, ◌||◌, if◌then◌else◌}
use Rattle.std.proofs.Math.ListN.{get_or-append}
use Rattle.std.proofs.Math.Seq.{get_or-append_seam}
use Rattle.std.proofs.lemmas.Option.{slice_get-get_or}
use Rattle.std.specs.List.{list_any}
use Rattle.indexmap.specs.IndexSet.{insert_key}
use Rattle.dk_model.specs.Trees.{Tree, star, kind, symbol, variable, rule_variable, apply, bare, annotated, product}
use Rattle.dk_model.specs.declared.NodeOf.TheVariants.{Star, Kind, Sym, Var, Rvar, App, Abs, Prod}
use Rattle.shared_term.specs.declared.id.TermId.{TermId}
use Rattle.shared_term.specs.declared.summary.Summary.{Summary}
use Rattle.shared_term.specs.Summaries.{IsSummary, AreSummaries, blank, summary_at, node_summary}
use Rattle.shared_term.proofs.Summing.{both_right, inside_right, annotated_right, product_right}
use Rattle.shared_term.specs.Pools.{Node, at, denoted, IsWithin, terms_after, terms, IsPool, Extends}

pub no_terms : terms [] ≡ []
unfolding terms
no_terms = refl

-- one node after others
after-push : (ts : List Tree) (ns : List Node) (n : Node) → terms_after ts (ns ++ n ∷ []) ≡ terms_after ts ns ++ denoted (terms_after ts ns) n ∷ []
after-push ts [] n = refl
after-push ts (m ∷ ns) n = after-push (ts ++ denoted ts m ∷ []) ns n

pub terms-push : (ns : List Node) (n : Node) → terms (ns ++ n ∷ []) ≡ terms ns ++ denoted (terms ns) n ∷ []
unfolding terms
terms-push ns n = after-push [] ns n

length-after : (ts : List Tree) (ns : List Node) → length (terms_after ts ns) ≡ length ts + length ns
length-after ts [] = omega arith
length-after ts (n ∷ ns) = omega (arith, length-after (ts ++ denoted ts n ∷ []) ns, length-append ts (denoted ts n ∷ []))

-- there are as many terms as nodes
pub length-terms : (ns : List Node) → length (terms ns) ≡ length ns
unfolding terms
length-terms ns = omega (arith, length-after [] ns)

pub extends-push : (ns : List Node) (n : Node) → Extends ns (ns ++ n ∷ [])
extends-push ns n = record {
  longer = omega (arith, length-append ns (n ∷ []));
  keeps = λ i l. ap (λ ts. get_or ts i star) (terms-push ns n)
      ∙ get_or-append (terms ns) (denoted (terms ns) n ∷ []) star i (omega (arith, length-terms ns));
}

pub extends-same : (ns : List Node) → Extends ns ns
extends-same ns = record { longer = omega arith; keeps = λ i l. refl }

pub extends-further : (old mid new : List Node) → Extends old mid → Extends mid new → Extends old new
extends-further old mid new h k = record {
  longer = omega (arith, h.longer, k.longer);
  keeps = λ i l. k.keeps i (omega (arith, h.longer)) ∙ h.keeps i l;
}

-- a node whose parts are there denotes what it did
pub denoted-extends : (old new : List Node) (n : Node) → Extends old new → IsWithin (length old) n → denoted (terms new) n ≡ denoted (terms old) n
denoted-extends old new Star e w = refl
denoted-extends old new Kind e w = refl
denoted-extends old new (Sym k) e w = refl
denoted-extends old new (Var k) e w = refl
denoted-extends old new (Rvar k) e w = refl
denoted-extends old new (App f a) e w = let p = e.keeps f.0 w.0 in let q = e.keeps a.0 w.1 in cc
denoted-extends old new (Abs None b) e w = ap bare (e.keeps b.0 w)
denoted-extends old new (Abs (Some n) b) e w = let p = e.keeps n.0 w.0 in let q = e.keeps b.0 w.1 in cc
denoted-extends old new (Prod a b) e w = let p = e.keeps a.0 w.0 in let q = e.keeps b.0 w.1 in cc

pub within_further : (m n : ℕ) (x : Node) → m ≤ n → IsWithin m x → IsWithin n x
within_further m n Star l w = tt
within_further m n Kind l w = tt
within_further m n (Sym k) l w = tt
within_further m n (Var k) l w = tt
within_further m n (Rvar k) l w = tt
within_further m n (App f a) l w = (omega (arith, w.0), omega (arith, w.1))
within_further m n (Abs None b) l w = omega arith
within_further m n (Abs (Some a) b) l w = (omega (arith, w.0), omega (arith, w.1))
within_further m n (Prod a b) l w = (omega (arith, w.0), omega (arith, w.1))

-- The node is one that denotes the tree, by its parts.
abbrev Names : List Tree → ℕ → Tree → Node → Type 0
Names ts n star m = m ≡ Star
Names ts n kind m = m ≡ Kind
Names ts n (symbol k) m = m ≡ Sym k
Names ts n (variable k) m = m ≡ Var k
Names ts n (rule_variable k) m = m ≡ Rvar k
Names ts n (apply f a) m = (x : TermId) × (y : TermId) × (m ≡ App x y) × (x.0 < n) × (y.0 < n) × (at ts x ≡ f) × (at ts y ≡ a)
Names ts n (bare b) m = (y : TermId) × (m ≡ Abs None y) × (y.0 < n) × (at ts y ≡ b)
Names ts n (annotated a b) m = (x : TermId) × (y : TermId) × (m ≡ Abs (Some x) y) × (x.0 < n) × (y.0 < n) × (at ts x ≡ a) × (at ts y ≡ b)
Names ts n (product a b) m = (x : TermId) × (y : TermId) × (m ≡ Prod x y) × (x.0 < n) × (y.0 < n) × (at ts x ≡ a) × (at ts y ≡ b)

named : (ts : List Tree) (n : ℕ) (m : Node) → IsWithin n m → Names ts n (denoted ts m) m
named ts n Star w = refl
named ts n Kind w = refl
named ts n (Sym k) w = refl
named ts n (Var k) w = refl
named ts n (Rvar k) w = refl
named ts n (App f a) w = (f, a, refl, w.0, w.1, refl, refl)
named ts n (Abs None b) w = (b, refl, w, refl)
named ts n (Abs (Some a) b) w = (a, b, refl, w.0, w.1, refl, refl)
named ts n (Prod a b) w = (a, b, refl, w.0, w.1, refl, refl)

same_id : (x y : TermId) → x.0 ≡ y.0 → x ≡ y
same_id x y e = ap (λ (k : ℕ). let t : TermId = record { 0 = k } in t) e

-- each term stands at one place
abbrev Once : List Tree → ℕ → Type 0
Once ts n = (i j : ℕ) → i < n → j < n → get_or ts i star ≡ get_or ts j star → i ≡ j

one_name : (ts : List Tree) (n : ℕ) → Once ts n → (t : Tree) (a b : Node) → Names ts n t a → Names ts n t b → a ≡ b
one_name ts n once star a b h k = h ∙ sym k
one_name ts n once kind a b h k = h ∙ sym k
one_name ts n once (symbol i) a b h k = h ∙ sym k
one_name ts n once (variable i) a b h k = h ∙ sym k
one_name ts n once (rule_variable i) a b h k = h ∙ sym k
one_name ts n once (apply f g) a b h k =
    let p = same_id h.0 k.0 (once h.0.0 k.0.0 h.3 k.3 (h.5 ∙ sym k.5)) in
    let q = same_id h.1 k.1 (once h.1.0 k.1.0 h.4 k.4 (h.6 ∙ sym k.6)) in
    h.2 ∙ (λ i. App (p i) (q i)) ∙ sym k.2
one_name ts n once (bare c) a b h k =
    let q = same_id h.0 k.0 (once h.0.0 k.0.0 h.2 k.2 (h.3 ∙ sym k.3)) in
    h.1 ∙ ap (Abs None) q ∙ sym k.1
one_name ts n once (annotated f g) a b h k =
    let p = same_id h.0 k.0 (once h.0.0 k.0.0 h.3 k.3 (h.5 ∙ sym k.5)) in
    let q = same_id h.1 k.1 (once h.1.0 k.1.0 h.4 k.4 (h.6 ∙ sym k.6)) in
    h.2 ∙ (λ i. Abs (Some (p i)) (q i)) ∙ sym k.2
one_name ts n once (product f g) a b h k =
    let p = same_id h.0 k.0 (once h.0.0 k.0.0 h.3 k.3 (h.5 ∙ sym k.5)) in
    let q = same_id h.1 k.1 (once h.1.0 k.1.0 h.4 k.4 (h.6 ∙ sym k.6)) in
    h.2 ∙ (λ i. Prod (p i) (q i)) ∙ sym k.2

-- nodes that denote one term over a pool are one
pub one_node : (ts : List Tree) (n : ℕ) → Once ts n → (a b : Node) → IsWithin n a → IsWithin n b → denoted ts a ≡ denoted ts b → a ≡ b
one_node ts n once a b u v e =
    let P : Tree → Type 0 = λ t. Names ts n t b in
    one_name ts n once (denoted ts a) a b (named ts n a u) (subst P (sym e) (named ts n b v))

pub split_push : (ns : List Node) (n : Node) (i : ℕ) (m : Node) → slice_get (ns ++ n ∷ []) i ≡ Some m
    → ((i < length ns) × (slice_get ns i ≡ Some m)) ⊎ ((i ≡ length ns) × (m ≡ n))
split_push [] n zero m h = inr (refl, cc)
split_push [] n (suc i) m h = cc
split_push (x ∷ xs) n zero m h = inl (omega arith, h)
split_push (x ∷ xs) n (suc i) m h = elim (split_push xs n i m h) [ inl p ↦ inl (omega (arith, p.0), p.1) | inr p ↦ inr (omega (arith, p.0), p.1) ]

pub last_term : (ns : List Node) (n : Node) → get_or (terms (ns ++ n ∷ [])) (length ns) star ≡ denoted (terms ns) n
last_term ns n = ap (λ ts. get_or ts (length ns) star) (terms-push ns n)
    ∙ ap (λ k. get_or (terms ns ++ denoted (terms ns) n ∷ []) k star) (sym (length-terms ns))
    ∙ get_or-append_seam (terms ns) (denoted (terms ns) n) [] star

-- the node stands nowhere in the list
abbrev IsNew : List Node → Node → Type 0
IsNew ns n = (i : ℕ) (m : Node) → slice_get ns i ≡ Some m → m ≡ n → ⊥

new_term : (ns : List Node) (n : Node) → IsPool ns → IsWithin (length ns) n → IsNew ns n → (i : ℕ) → i < length ns → get_or (terms ns) i star ≡ denoted (terms ns) n → ⊥
new_term ns n h w new i l e =
    let at-i = slice_get-get_or ns i Star l in
    let m : Node = get_or ns i Star in
    new i m at-i (one_node (terms ns) (length ns) h.once m n (within_further i (length ns) m (omega arith) (h.within i m at-i)) w (sym (h.built i m at-i) ∙ e))

pub below_or_last : (i n : ℕ) → i < n + 1 → (i < n) ⊎ (i ≡ n)
below_or_last i n l = grind arith

once-push : (ns : List Node) (n : Node) → IsPool ns → IsWithin (length ns) n → IsNew ns n → (i j : ℕ) → (i < length ns) ⊎ (i ≡ length ns) → (j < length ns) ⊎ (j ≡ length ns)
    → get_or (terms (ns ++ n ∷ [])) i star ≡ get_or (terms (ns ++ n ∷ [])) j star → i ≡ j
once-push ns n h w new i j (inl p) (inl q) e = h.once i j p q (sym ((extends-push ns n).keeps i p) ∙ e ∙ (extends-push ns n).keeps j q)
once-push ns n h w new i j (inl p) (inr q) e =
    absurd (new_term ns n h w new i p (sym ((extends-push ns n).keeps i p) ∙ e ∙ ap (λ k. get_or (terms (ns ++ n ∷ [])) k star) q ∙ last_term ns n))
once-push ns n h w new i j (inr p) (inl q) e =
    absurd (new_term ns n h w new j q (sym ((extends-push ns n).keeps j q) ∙ sym e ∙ ap (λ k. get_or (terms (ns ++ n ∷ [])) k star) p ∙ last_term ns n))
once-push ns n h w new i j (inr p) (inr q) e = p ∙ sym q

built-push : (ns : List Node) (n : Node) → IsPool ns → IsWithin (length ns) n → (i : ℕ) (m : Node)
    → ((i < length ns) × (slice_get ns i ≡ Some m)) ⊎ ((i ≡ length ns) × (m ≡ n)) → IsWithin i m × (get_or (terms (ns ++ n ∷ [])) i star ≡ denoted (terms (ns ++ n ∷ [])) m)
built-push ns n h w i m (inl p) = (
  h.within i m p.1,
  (extends-push ns n).keeps i p.0 ∙ h.built i m p.1
      ∙ sym (denoted-extends ns (ns ++ n ∷ []) m (extends-push ns n) (within_further i (length ns) m (omega (arith, p.0)) (h.within i m p.1))),
)
built-push ns n h w i m (inr p) =
    let P : ℕ → Type 0 = λ k. IsWithin k m in
    let Q : Node → Type 0 = λ x. IsWithin (length ns) x in (
      subst P (sym p.0) (subst Q (sym p.1) w),
      ap (λ k. get_or (terms (ns ++ n ∷ [])) k star) p.0 ∙ last_term ns n ∙ sym (denoted-extends ns (ns ++ n ∷ []) n (extends-push ns n) w)
          ∙ ap (denoted (terms (ns ++ n ∷ []))) (sym p.1),
    )

pub pool-push : (ns : List Node) (n : Node) → IsPool ns → IsWithin (length ns) n → IsNew ns n → IsPool (ns ++ n ∷ [])
pool-push ns n h w new = record {
  within = λ i m at-i. (built-push ns n h w i m (split_push ns n i m at-i)).0;
  built = λ i m at-i. (built-push ns n h w i m (split_push ns n i m at-i)).1;
  once = λ i j p q e. once-push ns n h w new i j
      (below_or_last i (length ns) (omega (arith, length-append ns (n ∷ [])))) (below_or_last j (length ns) (omega (arith, length-append ns (n ∷ [])))) e;
}

summary_right : (ss : List Summary) (ts : List Tree) (n : ℕ) (m : Node) → ((i : ℕ) → i < n → IsSummary (get_or ss i blank) (get_or ts i star)) → IsWithin n m
    → IsSummary (node_summary ss m) (denoted ts m)
summary_right ss ts n Star h w = record { closed = tt; ruled = λ e. tt; plain = λ e. tt }
summary_right ss ts n Kind h w = record { closed = tt; ruled = λ e. tt; plain = λ e. tt }
summary_right ss ts n (Sym k) h w = record { closed = tt; ruled = λ e. tt; plain = λ e. tt }
summary_right ss ts n (Var k) h w = record { closed = omega arith; ruled = λ e. tt; plain = λ e. tt }
summary_right ss ts n (Rvar k) h w = record { closed = tt; ruled = λ e. absurd (true≢false e); plain = λ e. tt }
summary_right ss ts n (App f a) h w = both_right (summary_at ss f) (summary_at ss a) (at ts f) (at ts a) (h f.0 w.0) (h a.0 w.1)
summary_right ss ts n (Abs None b) h w = inside_right (summary_at ss b) (at ts b) (h b.0 w)
summary_right ss ts n (Abs (Some a) b) h w = annotated_right (summary_at ss a) (summary_at ss b) (at ts a) (at ts b) (h a.0 w.0) (h b.0 w.1)
summary_right ss ts n (Prod a b) h w = product_right (summary_at ss a) (summary_at ss b) (at ts a) (at ts b) (h a.0 w.0) (h b.0 w.1)

right-push : (ns : List Node) (ss : List Summary) (n : Node) → AreSummaries ns ss → IsWithin (length ns) n → (i : ℕ) → (i < length ns) ⊎ (i ≡ length ns)
    → IsSummary (get_or (ss ++ node_summary ss n ∷ []) i blank) (get_or (terms (ns ++ n ∷ [])) i star)
right-push ns ss n h w i (inl p) =
    let e = get_or-append ss (node_summary ss n ∷ []) blank i (omega (arith, h.count)) in
    let f = (extends-push ns n).keeps i p in
    let P : Summary → Tree → Type 0 = λ s t. IsSummary s t in
    subst (λ (s : Summary). P s (get_or (terms (ns ++ n ∷ [])) i star)) (sym e) (subst (λ (t : Tree). P (get_or ss i blank) t) (sym f) (h.right i p))
right-push ns ss n h w i (inr p) =
    let e = ap (λ k. get_or (ss ++ node_summary ss n ∷ []) k blank) (p ∙ sym h.count) ∙ get_or-append_seam ss (node_summary ss n) [] blank in
    let f = ap (λ k. get_or (terms (ns ++ n ∷ [])) k star) p ∙ last_term ns n in
    let P : Summary → Tree → Type 0 = λ s t. IsSummary s t in
    subst (λ (s : Summary). P s (get_or (terms (ns ++ n ∷ [])) i star)) (sym e)
    (subst (λ (t : Tree). P (node_summary ss n) t) (sym f) (summary_right ss (terms ns) (length ns) n h.right w))

pub summaries-push : (ns : List Node) (ss : List Summary) (n : Node) → AreSummaries ns ss → IsWithin (length ns) n → AreSummaries (ns ++ n ∷ []) (ss ++ node_summary ss n ∷ [])
summaries-push ns ss n h w = record {
  count = length-append ss (node_summary ss n ∷ []) ∙ ap (λ k. k + 1) h.count ∙ sym (length-append ns (n ∷ []));
  right = λ i l. right-push ns ss n h w i (below_or_last i (length ns) (omega (arith, length-append ns (n ∷ []))));
}

-- what a set that lacks the node says of each of its nodes
lacks : (test : Node → Bool) (ns : List Node) (i : ℕ) (m : Node) → slice_get ns i ≡ Some m → list_any test ns ≡ false → test m ≡ false
lacks test [] i m h k = cc
lacks test (x ∷ xs) zero m h k = by (test x) refl
  where
    by : (b : Bool) → test x ≡ b → test m ≡ false
    by true e = absurd (true≢false (ap (λ c. c || list_any test xs) (sym e) ∙ k))
    by false e = let f : x ≡ m = cc in ap test (sym f) ∙ e
lacks test (x ∷ xs) (suc i) m h k = by (test x) refl (λ e. lacks test xs i m h e)
  where
    by : (b : Bool) → test x ≡ b → (list_any test xs ≡ false → test m ≡ false) → test m ≡ false
    by true e rest = absurd (true≢false (ap (λ c. c || list_any test xs) (sym e) ∙ k))
    by false e rest = rest (ap (λ c. c || list_any test xs) (sym e) ∙ k)

module _ (eq : Node → Node → Bool) (exact : (m n : Node) → eq m n ≡ true → m ≡ n) (alike : (n : Node) → eq n n ≡ true) where
  fresh : (ns : List Node) (n : Node) → list_any (eq n) ns ≡ false → IsNew ns n
  fresh ns n h i m at-i e = true≢false (sym (alike n) ∙ ap (eq n) (sym e) ∙ lacks (eq n) ns i m at-i h)

  -- a set of nodes that took the node, which it may have had
  pub pool-insert : (ns : List Node) (n : Node) → IsPool ns → IsWithin (length ns) n → IsPool (insert_key eq ns n)
  pool-insert ns n h w = by (list_any (eq n) ns) refl
    where
      by : (b : Bool) → list_any (eq n) ns ≡ b → IsPool (insert_key eq ns n)
      by true e = let P : Bool → Type 0 = λ c. IsPool (if c then ns else ns ++ n ∷ []) in subst P (sym e) h
      by false e = let P : Bool → Type 0 = λ c. IsPool (if c then ns else ns ++ n ∷ []) in subst P (sym e) (pool-push ns n h w (fresh ns n e))

  pub summaries-insert : (ns : List Node) (ss : List Summary) (n : Node) → list_any (eq n) ns ≡ false → AreSummaries ns ss → IsWithin (length ns) n
      → AreSummaries (insert_key eq ns n) (ss ++ node_summary ss n ∷ [])
  summaries-insert ns ss n e h w =
      let P : Bool → Type 0 = λ c. AreSummaries (if c then ns else ns ++ n ∷ []) (ss ++ node_summary ss n ∷ []) in
      subst P (sym e) (summaries-push ns ss n h w)

  pub extends-insert : (ns : List Node) (n : Node) → Extends ns (insert_key eq ns n)
  extends-insert ns n = by (list_any (eq n) ns)
    where
      by : (b : Bool) → Extends ns (if b then ns else ns ++ n ∷ [])
      by true = extends-same ns
      by false = extends-push ns n

  -- the place that the set names has the node's term
  pub term-insert : (ns : List Node) (n : Node) (i : ℕ) (m : Node) → IsPool ns → IsWithin (length ns) n → slice_get (insert_key eq ns n) i ≡ Some m → eq n m ≡ true
      → get_or (terms (insert_key eq ns n)) i star ≡ denoted (terms ns) n
  term-insert ns n i m h w at-i e =
      (pool-insert ns n h w).built i m at-i ∙ ap (denoted (terms (insert_key eq ns n))) (sym (exact n m e))
      ∙ denoted-extends ns (insert_key eq ns n) n (extends-insert ns n) w
