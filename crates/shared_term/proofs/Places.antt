-- Lists of nodes that grow, and places from one to another.
use Rattle.std.proofs.Common.{◌≡◌, ℕ, ◌+◌, ◌<◌, List, [], ◌∷◌, ◌++◌, length, get_or, slice_get, Some, None, refl, ap, sym, subst, ◌∙◌, ◌⊎◌, inl, inr, arith, length-append, Bool, true, ◌≤◌}
use Rattle.std.proofs.Math.ListN.{get_or-append}
use Rattle.std.proofs.Math.Seq.{get_or-append_seam}
use Rattle.std.proofs.lemmas.Option.{slice_get_within}
use Rattle.dk_model.specs.Trees.{star, apply, bare, annotated, product}
use Rattle.dk_model.specs.declared.NodeOf.TheVariants.{Star, Kind, Sym, Var, Rvar, App, Abs, Prod}
use Rattle.shared_term.specs.declared.id.TermId.{TermId}
use Rattle.shared_term.specs.Pools.{Node, at, denoted, IsWithin, terms, term, Extends}
use Rattle.shared_term.specs.Storage.{IsSpelt, renamed, AreLoaded, IsNeeded, PartsNeeded, AreMarked, ArePlaced}
use Rattle.shared_term.proofs.Growth.{no_terms, extends-push, denoted-extends, within_further, split_push, last_term, below_or_last}

spelt-at : (ns : List Node) (n : Node) → IsSpelt ns → IsWithin (length ns) n → (i : ℕ) (m : Node)
    → ((i < length ns) × (slice_get ns i ≡ Some m)) ⊎ ((i ≡ length ns) × (m ≡ n)) → IsWithin i m × (get_or (terms (ns ++ n ∷ [])) i star ≡ denoted (terms (ns ++ n ∷ [])) m)
spelt-at ns n h w i m (inl p) = (
  h.within i m p.1,
  (extends-push ns n).keeps i p.0 ∙ h.built i m p.1
      ∙ sym (denoted-extends ns (ns ++ n ∷ []) m (extends-push ns n) (within_further i (length ns) m (omega (arith, p.0)) (h.within i m p.1))),
)
spelt-at ns n h w i m (inr p) =
    let P : ℕ → Type 0 = λ k. IsWithin k m in
    let Q : Node → Type 0 = λ x. IsWithin (length ns) x in (
      subst P (sym p.0) (subst Q (sym p.1) w),
      ap (λ k. get_or (terms (ns ++ n ∷ [])) k star) p.0 ∙ last_term ns n ∙ sym (denoted-extends ns (ns ++ n ∷ []) n (extends-push ns n) w)
          ∙ ap (denoted (terms (ns ++ n ∷ []))) (sym p.1),
    )

pub spelt-push : (ns : List Node) (n : Node) → IsSpelt ns → IsWithin (length ns) n → IsSpelt (ns ++ n ∷ [])
spelt-push ns n h w = record {
  within = λ i m at-i. (spelt-at ns n h w i m (split_push ns n i m at-i)).0;
  built = λ i m at-i. (spelt-at ns n h w i m (split_push ns n i m at-i)).1;
}

none_spelt : IsSpelt []
none_spelt = record { within = λ i n e. cc; built = λ i n e. cc }

-- a node without parts, alone in its list
pub one_spelt : (n : Node) → IsWithin 0 n → IsSpelt (n ∷ [])
one_spelt n w = spelt-push [] n none_spelt w

pub one_term : (n : Node) → get_or (terms (n ∷ [])) 0 star ≡ denoted [] n
one_term n = last_term [] n ∙ ap (λ ts. denoted ts n) no_terms

-- the part has a place, at which its term stands
abbrev HasPlace : List Node → List Node → List TermId → TermId → Type 0
HasPlace from to ps x = ((get_or ps x.0 x).0 < length to) × (at (terms to) (get_or ps x.0 x) ≡ at (terms from) x)

abbrev HavePlaces : List Node → List Node → List TermId → Node → Type 0
HavePlaces from to ps Star = Unit {0}
HavePlaces from to ps Kind = Unit {0}
HavePlaces from to ps (Sym k) = Unit {0}
HavePlaces from to ps (Var k) = Unit {0}
HavePlaces from to ps (Rvar k) = Unit {0}
HavePlaces from to ps (App f a) = HasPlace from to ps f × HasPlace from to ps a
HavePlaces from to ps (Abs None b) = HasPlace from to ps b
HavePlaces from to ps (Abs (Some n) b) = HasPlace from to ps n × HasPlace from to ps b
HavePlaces from to ps (Prod a b) = HasPlace from to ps a × HasPlace from to ps b

module _ (from to : List Node) (ps : List TermId) where
  -- a renamed node denotes what the node did
  placed_denotes : (n : Node) → HavePlaces from to ps n → denoted (terms to) (renamed ps n) ≡ denoted (terms from) n
  placed_denotes Star h = refl
  placed_denotes Kind h = refl
  placed_denotes (Sym k) h = refl
  placed_denotes (Var k) h = refl
  placed_denotes (Rvar k) h = refl
  placed_denotes (App f a) h = λ i. apply (h.0.1 i) (h.1.1 i)
  placed_denotes (Abs None b) h = ap bare h.1
  placed_denotes (Abs (Some n) b) h = λ i. annotated (h.0.1 i) (h.1.1 i)
  placed_denotes (Prod a b) h = λ i. product (h.0.1 i) (h.1.1 i)

  placed_within : (n : Node) → HavePlaces from to ps n → IsWithin (length to) (renamed ps n)
  placed_within Star h = tt
  placed_within Kind h = tt
  placed_within (Sym k) h = tt
  placed_within (Var k) h = tt
  placed_within (Rvar k) h = tt
  placed_within (App f a) h = (h.0.0, h.1.0)
  placed_within (Abs None b) h = h.0
  placed_within (Abs (Some n) b) h = (h.0.0, h.1.0)
  placed_within (Prod a b) h = (h.0.0, h.1.0)

module _ (stored pool : List Node) (ps : List TermId) (h : AreLoaded stored pool ps) where
  place : (x : TermId) → x.0 < length ps → HasPlace stored pool ps x
  place x l = (h.there x.0 x l, h.same x.0 x l)

  places : (n : Node) → IsWithin (length ps) n → HavePlaces stored pool ps n
  places Star w = tt
  places Kind w = tt
  places (Sym k) w = tt
  places (Var k) w = tt
  places (Rvar k) w = tt
  places (App f a) w = (place f w.0, place a w.1)
  places (Abs None b) w = place b w
  places (Abs (Some n) b) w = (place n w.0, place b w.1)
  places (Prod a b) w = (place a w.0, place b w.1)

  pub renamed_denotes : (n : Node) → IsWithin (length ps) n → denoted (terms pool) (renamed ps n) ≡ denoted (terms stored) n
  renamed_denotes n w = placed_denotes stored pool ps n (places n w)

  pub renamed_within : (n : Node) → IsWithin (length ps) n → IsWithin (length pool) (renamed ps n)
  renamed_within n w = placed_within stored pool ps n (places n w)

module _ (pool out : List Node) (marks : List Bool) (ps : List TermId) (h : ArePlaced pool out marks ps) where
  marked : (x : TermId) → x.0 < length ps → IsNeeded marks x.0 → HasPlace pool out ps x
  marked x l m = (h.there x.0 x l m, h.same x.0 x l m)

  all_marked : (n : Node) → IsWithin (length ps) n → PartsNeeded marks n → HavePlaces pool out ps n
  all_marked Star w m = tt
  all_marked Kind w m = tt
  all_marked (Sym k) w m = tt
  all_marked (Var k) w m = tt
  all_marked (Rvar k) w m = tt
  all_marked (App f a) w m = (marked f w.0 m.0, marked a w.1 m.1)
  all_marked (Abs None b) w m = marked b w m
  all_marked (Abs (Some n) b) w m = (marked n w.0 m.0, marked b w.1 m.1)
  all_marked (Prod a b) w m = (marked a w.0 m.0, marked b w.1 m.1)

  pub copied_denotes : (n : Node) → IsWithin (length ps) n → PartsNeeded marks n → denoted (terms out) (renamed ps n) ≡ denoted (terms pool) n
  copied_denotes n w m = placed_denotes pool out ps n (all_marked n w m)

  pub copied_within : (n : Node) → IsWithin (length ps) n → PartsNeeded marks n → IsWithin (length out) (renamed ps n)
  copied_within n w m = placed_within pool out ps n (all_marked n w m)

parts_kept : (old new : List Bool) (n : Node) → ((i : ℕ) → IsNeeded old i → IsNeeded new i) → PartsNeeded old n → PartsNeeded new n
parts_kept old new Star k h = tt
parts_kept old new Kind k h = tt
parts_kept old new (Sym j) k h = tt
parts_kept old new (Var j) k h = tt
parts_kept old new (Rvar j) k h = tt
parts_kept old new (App f a) k h = (k f.0 h.0, k a.0 h.1)
parts_kept old new (Abs None b) k h = k b.0 h
parts_kept old new (Abs (Some n) b) k h = (k n.0 h.0, k b.0 h.1)
parts_kept old new (Prod a b) k h = (k a.0 h.0, k b.0 h.1)

same_node : (m n : Node) → Some m ≡ Some n → m ≡ n
same_node m n e = cc

or_more : (i at : ℕ) → at ≤ i → (i ≡ at) ⊎ (at + 1 ≤ i)
or_more i at l = grind arith

-- the parts of one more node are marked
pub marked_more : (pool : List Node) (old new : List Bool) (at : ℕ) (n : Node) → AreMarked pool old (at + 1) → slice_get pool at ≡ Some n → PartsNeeded new n
    → ((i : ℕ) → IsNeeded old i → IsNeeded new i) → ((i : ℕ) → at ≤ i → IsNeeded new i → IsNeeded old i) → AreMarked pool new at
marked_more pool old new at n h is parts kept only = record { parts = λ i m l g w. by i m l g w (or_more i at l) }
  where
    by : (i : ℕ) (m : Node) → at ≤ i → slice_get pool i ≡ Some m → IsNeeded new i → (i ≡ at) ⊎ (at + 1 ≤ i) → PartsNeeded new m
    by i m l g w (inl e) = subst (λ (x : Node). PartsNeeded new x) (same_node n m (sym is ∙ ap (slice_get pool) (sym e) ∙ g)) parts
    by i m l g w (inr k) = parts_kept old new m kept (h.parts i m k g (only i l w))

-- past the marks there is nothing to mark
pub marked_past : (pool : List Node) (marks : List Bool) (k : ℕ) → length marks ≤ k → AreMarked pool marks k
marked_past pool marks k l = record { parts = λ i n j g w. absurd (past (slice_get_within marks i true w) j) }
  where
    past : {i : ℕ} → i < length marks → k ≤ i → ⊥
    past u v = omega arith

-- a node that isn't marked needs no parts
pub marked_skip : (pool : List Node) (marks : List Bool) (k : ℕ) → AreMarked pool marks (k + 1) → (IsNeeded marks k → ⊥) → AreMarked pool marks k
marked_skip pool marks k h never = record { parts = λ i m l g w. by i m g w (or_more i k l) }
  where
    by : (i : ℕ) (m : Node) → slice_get pool i ≡ Some m → IsNeeded marks i → (i ≡ k) ⊎ (k + 1 ≤ i) → PartsNeeded marks m
    by i m g w (inl e) = absurd (never (subst (IsNeeded marks) e w))
    by i m g w (inr j) = h.parts i m j g w

pub placed_none : (pool out : List Node) (marks : List Bool) → ArePlaced pool out marks []
placed_none pool out marks = record { there = λ i d l m. absurd (omega arith); same = λ i d l m. absurd (omega arith) }

-- one more place, in the longer list, which is right where it is marked
pub placed_more : (pool old new : List Node) (marks : List Bool) (ps : List TermId) (p : TermId) → ArePlaced pool old marks ps → Extends old new
    → (IsNeeded marks (length ps) → (p.0 < length new) × (term new p ≡ get_or (terms pool) (length ps) star)) → ArePlaced pool new marks (ps ++ p ∷ [])
placed_more pool old new marks ps p h e last = record {
  there = λ i d j m. at-place i d m (below_or_last i (length ps) (omega (arith, length-append ps (p ∷ []))));
  same = λ i d j m. denotes i d m (below_or_last i (length ps) (omega (arith, length-append ps (p ∷ []))));
}
  where
    at-place : (i : ℕ) (d : TermId) → IsNeeded marks i → (i < length ps) ⊎ (i ≡ length ps) → (get_or (ps ++ p ∷ []) i d).0 < length new
    at-place i d m (inl j) = let P : TermId → Type 0 = λ q. q.0 < length new in subst P (sym (get_or-append ps (p ∷ []) d i j)) (omega (arith, h.there i d j m, e.longer))
    at-place i d m (inr j) = let P : TermId → Type 0 = λ q. q.0 < length new in
        subst P (sym (ap (λ k. get_or (ps ++ p ∷ []) k d) j ∙ get_or-append_seam ps p [] d)) (last (subst (IsNeeded marks) j m)).0

    denotes : (i : ℕ) (d : TermId) → IsNeeded marks i → (i < length ps) ⊎ (i ≡ length ps) → get_or (terms new) (get_or (ps ++ p ∷ []) i d).0 star ≡ get_or (terms pool) i star
    denotes i d m (inl j) = ap (λ (q : TermId). get_or (terms new) q.0 star) (get_or-append ps (p ∷ []) d i j) ∙ e.keeps (get_or ps i d).0 (h.there i d j m) ∙ h.same i d j m
    denotes i d m (inr j) = ap (λ (q : TermId). get_or (terms new) q.0 star) (ap (λ k. get_or (ps ++ p ∷ []) k d) j ∙ get_or-append_seam ps p [] d)
        ∙ (last (subst (IsNeeded marks) j m)).1 ∙ ap (λ k. get_or (terms pool) k star) (sym j)

pub loaded_none : (stored pool : List Node) → AreLoaded stored pool []
loaded_none stored pool = record { there = λ i d l. absurd (omega arith); same = λ i d l. absurd (omega arith) }

-- one more place, in the larger pool
pub loaded_more : (stored old new : List Node) (ps : List TermId) (p : TermId) → AreLoaded stored old ps → Extends old new
    → p.0 < length new → term new p ≡ get_or (terms stored) (length ps) star → AreLoaded stored new (ps ++ p ∷ [])
loaded_more stored old new ps p h e l s = record {
  there = λ i d j. at-place i d (below_or_last i (length ps) (omega (arith, length-append ps (p ∷ []))));
  same = λ i d j. denotes i d (below_or_last i (length ps) (omega (arith, length-append ps (p ∷ []))));
}
  where
    at-place : (i : ℕ) (d : TermId) → (i < length ps) ⊎ (i ≡ length ps) → (get_or (ps ++ p ∷ []) i d).0 < length new
    at-place i d (inl j) = let P : TermId → Type 0 = λ q. q.0 < length new in subst P (sym (get_or-append ps (p ∷ []) d i j)) (omega (arith, h.there i d j, e.longer))
    at-place i d (inr j) = let P : TermId → Type 0 = λ q. q.0 < length new in subst P (sym (ap (λ k. get_or (ps ++ p ∷ []) k d) j ∙ get_or-append_seam ps p [] d)) l

    denotes : (i : ℕ) (d : TermId) → (i < length ps) ⊎ (i ≡ length ps) → get_or (terms new) (get_or (ps ++ p ∷ []) i d).0 star ≡ get_or (terms stored) i star
    denotes i d (inl j) = ap (λ (q : TermId). get_or (terms new) q.0 star) (get_or-append ps (p ∷ []) d i j) ∙ e.keeps (get_or ps i d).0 (h.there i d j) ∙ h.same i d j
    denotes i d (inr j) = ap (λ (q : TermId). get_or (terms new) q.0 star) (ap (λ k. get_or (ps ++ p ∷ []) k d) j ∙ get_or-append_seam ps p [] d) ∙ s
        ∙ ap (λ k. get_or (terms stored) k star) (sym j)
