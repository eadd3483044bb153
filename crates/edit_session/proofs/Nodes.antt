-- One node more, with another number.
use Rattle.std.proofs.Common.{◌≡◌, ℕ, ◌<◌, List, [], ◌∷◌, ◌++◌, length, get_or, Some, None, refl, ap, sym, subst, ◌∙◌, ◌⊎◌, inl, inr, arith, length-append, if◌then◌else◌}
use Rattle.std.proofs.lemmas.Bool.{eq-eqb, ne_eqb}
use Rattle.std.proofs.Math.ListN.{get_or-append}
use Rattle.std.proofs.Math.Seq.{get_or-append_seam}
use Rattle.dk_model.specs.Trees.{star, apply, bare, annotated, product}
use Rattle.dk_model.specs.declared.NodeOf.TheVariants.{Star, Kind, Sym, Var, Rvar, App, Abs, Prod}
use Rattle.shared_term.specs.declared.id.TermId.{TermId}
use Rattle.shared_term.specs.Pools.{Node, denoted, IsWithin, terms, term, Extends}
use Rattle.shared_term.proofs.Growth.{below_or_last}
use Rattle.prune_theory.specs.Renamed.{with_symbols}
use Rattle.edit_session.specs.Answers.{renumbered}
use Rattle.edit_session.specs.Renumbering.{AreRenumbered, renumbered_node}

-- ---- numbers

pub number_here : (k a b : ℕ) (old new : List ℕ) → a ≡ k → renumbered (a ∷ old) (b ∷ new) k ≡ b
number_here k a b old new e = ap (λ t. if t then b else renumbered old new k) (eq-eqb k a (sym e))

pub number_past : (k a b : ℕ) (old new : List ℕ) → ¬ (a ≡ k) → renumbered (a ∷ old) (b ∷ new) k ≡ renumbered old new k
number_past k a b old new n = ap (λ t. if t then b else renumbered old new k) (ne_eqb k a (λ e. n (sym e)))

-- ---- terms

module _ (m : ℕ → ℕ) (stored pool : List Node) (ps : List TermId) (h : AreRenumbered m stored pool ps) where
  pub node_denotes : (n : Node) → IsWithin (length ps) n → denoted (terms pool) (renumbered_node m ps n) ≡ with_symbols m (denoted (terms stored) n)
  node_denotes Star w = refl
  node_denotes Kind w = refl
  node_denotes (Sym k) w = refl
  node_denotes (Var k) w = refl
  node_denotes (Rvar k) w = refl
  node_denotes (App f a) w = λ i. apply (h.same f.0 f w.0 i) (h.same a.0 a w.1 i)
  node_denotes (Abs None b) w = ap bare (h.same b.0 b w)
  node_denotes (Abs (Some n) b) w = λ i. annotated (h.same n.0 n w.0 i) (h.same b.0 b w.1 i)
  node_denotes (Prod a b) w = λ i. product (h.same a.0 a w.0 i) (h.same b.0 b w.1 i)

  pub node_within : (n : Node) → IsWithin (length ps) n → IsWithin (length pool) (renumbered_node m ps n)
  node_within Star w = tt
  node_within Kind w = tt
  node_within (Sym k) w = tt
  node_within (Var k) w = tt
  node_within (Rvar k) w = tt
  node_within (App f a) w = (h.there f.0 f w.0, h.there a.0 a w.1)
  node_within (Abs None b) w = h.there b.0 b w
  node_within (Abs (Some n) b) w = (h.there n.0 n w.0, h.there b.0 b w.1)
  node_within (Prod a b) w = (h.there a.0 a w.0, h.there b.0 b w.1)

pub none_renumbered : (m : ℕ → ℕ) (stored pool : List Node) → AreRenumbered m stored pool []
none_renumbered m stored pool = record { there = λ i d l. absurd (omega arith); same = λ i d l. absurd (omega arith) }

-- one more place, in the larger pool
pub renumbered_more : (m : ℕ → ℕ) (stored old new : List Node) (ps : List TermId) (p : TermId) → AreRenumbered m stored old ps → Extends old new
    → p.0 < length new → term new p ≡ with_symbols m (get_or (terms stored) (length ps) star) → AreRenumbered m stored new (ps ++ p ∷ [])
renumbered_more m stored old new ps p h e l s = record {
  there = λ i d j. at-place i d (below_or_last i (length ps) (omega (arith, length-append ps (p ∷ []))));
  same = λ i d j. denotes i d (below_or_last i (length ps) (omega (arith, length-append ps (p ∷ []))));
}
  where
    at-place : (i : ℕ) (d : TermId) → (i < length ps) ⊎ (i ≡ length ps) → (get_or (ps ++ p ∷ []) i d).0 < length new
    at-place i d (inl j) = let P : TermId → Type 0 = λ q. q.0 < length new in subst P (sym (get_or-append ps (p ∷ []) d i j)) (omega (arith, h.there i d j, e.longer))
    at-place i d (inr j) = let P : TermId → Type 0 = λ q. q.0 < length new in subst P (sym (ap (λ k. get_or (ps ++ p ∷ []) k d) j ∙ get_or-append_seam ps p [] d)) l

    denotes : (i : ℕ) (d : TermId) → (i < length ps) ⊎ (i ≡ length ps) → get_or (terms new) (get_or (ps ++ p ∷ []) i d).0 star ≡ with_symbols m (get_or (terms stored) i star)
    denotes i d (inl j) = ap (λ (q : TermId). get_or (terms new) q.0 star) (get_or-append ps (p ∷ []) d i j) ∙ e.keeps (get_or ps i d).0 (h.there i d j) ∙ h.same i d j
    denotes i d (inr j) = ap (λ (q : TermId). get_or (terms new) q.0 star) (ap (λ k. get_or (ps ++ p ∷ []) k d) j ∙ get_or-append_seam ps p [] d) ∙ s
        ∙ ap (λ k. with_symbols m (get_or (terms stored) k star)) (sym j)

-- the term at the root
pub root_denotes : (m : ℕ → ℕ) (stored pool : List Node) (ps : List TermId) (root p : TermId) → AreRenumbered m stored pool ps → length ps ≡ length stored → root.0 < length stored → p ≡ get_or ps root.0 root
    → (p.0 < length pool) × (term pool p ≡ with_symbols m (term stored root))
root_denotes m stored pool ps root p h c l e = let w : root.0 < length ps = omega arith in let P : TermId → Type 0 = λ q. (q.0 < length pool) × (term pool q ≡ with_symbols m (term stored root)) in
    subst P (sym e) (h.there root.0 root w, h.same root.0 root w)
