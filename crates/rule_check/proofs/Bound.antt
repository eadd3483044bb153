-- Terms under bindings, and a further binding.
use Rattle.std.specs.Prelude.{Result, Ok, Err, IfOk, OnOk, get_or, slice_set, length, Bool, true, false, IsTrue, Vec}
use Rattle.std.specs.declared.alloc.Global.{Global}
use Rattle.std.proofs.Common.{List, [], ◌∷◌, ◌++◌, ◌≡◌, ◌<◌, ◌≤◌, ℕ, zero, suc, Option, Some, None, refl, ap, ◌∙◌, sym as flip, subst, arith}
use Rattle.dk_model.specs.Trees.{Tree}
use Rattle.dk_model.specs.Bounds.{IsClosedAt}
use Rattle.dk_model.specs.Captures.{capture_at, filled}
use Rattle.dk_model.specs.Signatures.{maybe_by}
use Rattle.dk_model.specs.Bindings.{Bindings as PlainBindings, under, under_option, with_binding, bound, mentions_rule_variable}
use Rattle.dk_model.proofs.Unders.{filled_under}
use Rattle.dk_model.specs.declared.memory.NoMemory.{NoMemory}
use Rattle.signature_log.specs.Reducers.{Keeps, Makes, OwnsSome, OwnsSomes}
use Rattle.rule_check.specs.declared.found.Bindings.{Bindings}
use Rattle.rule_check.specs.Founds.{types_of, terms_of, AreClosed, OwnsBindings}
use Rattle.rule_check.specs.Mentioned.{may_mention, IsNoted}
use Rattle.rule_check.specs.Levels.{rounds, resolved, behind_first, IsFree, with_rounds, put_into, put_into_each, IsAt, IsPlaced, IsJoined, IsBeforeLast, AreLevelled}
use Rattle.rule_check.specs.Bindings.{with_term, IsSomeUnder, ArePut, MayBind, IsStill, HasRoom, IsBound}
use Rattle.rule_check.proofs.Founds.{some_kept, mentioned_kept, types_of_kept, owned_types_kept, terms_kept, bindings_kept}
use Rattle.rule_check.proofs.Resolved.{at_more, levels_cover, levels_under, levels_free, levels_joined, joined_same, begun_ranked, begun_same, levels_further, further_same}

-- ---- terms under the bindings

pub makes_is : {R T : Type 0} (owns : R → T → Type 0) (denotes : R → T → Tree) (r : R) {t u : Tree} (o : Result T NoMemory) → t ≡ u → IfOk o (Makes owns denotes r t) → IfOk o (Makes owns denotes r u)
makes_is owns denotes r o e h = subst (λ z. IfOk o (Makes owns denotes r z)) e h

-- the bindings are put into a term once more
pub round_more : {R T : Type 0} (owns : R → T → Type 0) (denotes : R → T → Tree) (old at : R) (k : Keeps owns denotes old at) (b : Bindings T) (os : List (Option T)) (n : ℕ) (t u v : Tree) → OwnsBindings owns denotes old b → os ≡ b.terms.items
    → u ≡ rounds (types_of denotes old b.terms.items) n t → v ≡ filled (types_of denotes at os) 0 u → v ≡ rounds (types_of denotes old b.terms.items) (suc n) t
round_more owns denotes old at k b os n t u v w e f g =
    let s : PlainBindings = types_of denotes old b.terms.items in
    g ∙ ap (λ x. filled (types_of denotes at x) 0 u) e ∙ ap (λ x. filled x 0 u) (types_of_kept old at k b.terms.items w.own) ∙ filled_under s w.levels.closed 0 u ∙ ap (under s) f

pub all_rounds : {R T : Type 0} (owns : R → T → Type 0) (denotes : R → T → Tree) (r : R) (b : Bindings T) (n : ℕ) (t u : Tree) → OwnsBindings owns denotes r b → n ≡ length b.levels.items → u ≡ rounds (types_of denotes r b.terms.items) n t
    → u ≡ under (terms_of denotes r b) t
all_rounds owns denotes r b n t u w e f = f ∙ ap (λ i. rounds (types_of denotes r b.terms.items) i t) e ∙ levels_under w.levels t

-- a term under the bindings mentions no rule variable that is bound
pub under_free : {R T : Type 0} (owns : R → T → Type 0) (denotes : R → T → Tree) (old new : R) (k : Keeps owns denotes old new) (b : Bindings T) (t u : Tree) → OwnsBindings owns denotes old b → u ≡ under (terms_of denotes old b) t
    → IsFree (terms_of denotes new b) u
under_free owns denotes old new k b t u w e = subst (λ s. IsFree s u) (flip (terms_kept old new k b w)) (subst (IsFree (terms_of denotes old b)) (flip e) (levels_free w.levels t))

-- ---- what is bound

pub some_filled : {R T : Type 0} (owns : R → T → Type 0) (denotes : R → T → Tree) (old new : R) (ts : List (Option T)) (o : Option T) (t u : T) → o ≡ Some t → AreClosed (types_of denotes old ts)
    → Makes owns denotes new (filled (types_of denotes old ts) 0 (denotes old t)) u → IsSomeUnder owns denotes old ts (maybe_by (denotes old) o) new (Some u)
some_filled owns denotes old new ts o t u e c m = record {
  same = ap (λ (z : Tree). Some z) (m.0 ∙ filled_under (types_of denotes old ts) c 0 (denotes old t)) ∙ flip (ap (λ z. under_option (types_of denotes old ts) (maybe_by (denotes old) z)) e);
  own = m.1;
}

-- what stands at a place
pub bound_at : {R T : Type 0} (owns : R → T → Type 0) (denotes : R → T → Tree) (r : R) (ts : List (Option T)) (k : ℕ) (p : Option T) → k < length ts → p ≡ get_or ts k p → OwnsSomes owns r ts
    → (maybe_by (denotes r) p ≡ capture_at (types_of denotes r ts) k) × OwnsSome owns r p
bound_at owns denotes r [] k p l e h = absurd (omega (arith, l))
bound_at owns denotes r (t ∷ ts) zero p l e h = (ap (maybe_by (denotes r)) e, subst (OwnsSome owns r) (flip e) h.0)
bound_at owns denotes r (t ∷ ts) (suc k) p l e h = bound_at owns denotes r ts k p (omega (arith, l)) e h.1

nothing_at : {R T : Type 0} (denotes : R → T → Tree) (r : R) (ts : List (Option T)) (k : ℕ) → length ts ≤ k → capture_at (types_of denotes r ts) k ≡ None
nothing_at denotes r [] k l = refl
nothing_at denotes r (t ∷ ts) zero l = absurd (omega (arith, l))
nothing_at denotes r (t ∷ ts) (suc k) l = nothing_at denotes r ts k (omega (arith, l))

pub bound_nowhere : {R T : Type 0} (denotes : R → T → Tree) (r : R) (ts : List (Option T)) (k : ℕ) → length ts ≤ k → None ≡ under_option (types_of denotes r ts) (capture_at (types_of denotes r ts) k)
bound_nowhere denotes r ts k l = flip (ap (under_option (types_of denotes r ts)) (nothing_at denotes r ts k l))

-- ---- a term at a place

pub with_padded : {T : Type 0} (os : List (Option T)) (k : ℕ) (t : T) → length os ≤ k → with_term (os ++ None ∷ []) k t ≡ with_term os k t
with_padded [] zero t l = refl
with_padded [] (suc k) t l = refl
with_padded (o ∷ os) zero t l = absurd (omega arith)
with_padded (o ∷ os) (suc k) t l = ap (λ (xs : List (Option _)). o ∷ xs) (with_padded os k t (omega arith))

pub with_set : {T : Type 0} (os : List (Option T)) (k : ℕ) (t : T) → k < length os → slice_set os k (Some t) ≡ with_term os k t
with_set [] k t l = absurd (omega arith)
with_set (o ∷ os) zero t l = refl
with_set (o ∷ os) (suc k) t l = ap (λ (xs : List (Option _)). o ∷ xs) (with_set os k t (omega arith))

with_terms : {R T : Type 0} (denotes : R → T → Tree) (r : R) (os : List (Option T)) (k : ℕ) (t : T) → types_of denotes r (with_term os k t) ≡ with_binding (types_of denotes r os) k (denotes r t)
with_terms denotes r [] zero t = refl
with_terms denotes r [] (suc k) t = ap (λ (xs : List (Option Tree)). None ∷ xs) (with_terms denotes r [] k t)
with_terms denotes r (o ∷ os) zero t = refl
with_terms denotes r (o ∷ os) (suc k) t = ap (λ (xs : List (Option Tree)). maybe_by (denotes r) o ∷ xs) (with_terms denotes r os k t)

with_owned : {R T : Type 0} (owns : R → T → Type 0) (r : R) (os : List (Option T)) (k : ℕ) (t : T) → OwnsSomes owns r os → owns r t → OwnsSomes owns r (with_term os k t)
with_owned owns r [] zero t h o = (o, tt)
with_owned owns r [] (suc k) t h o = (tt, with_owned owns r [] k t tt o)
with_owned owns r (x ∷ os) zero t h o = (o, h.1)
with_owned owns r (x ∷ os) (suc k) t h o = (h.0, with_owned owns r os k t h.1 o)

-- ---- bindings put into one of them

put_some : (s : PlainBindings) (k : ℕ) (o : Option Tree) (v : Tree) → Some v ≡ under_option s o → with_rounds s k o ≡ with_binding s k v
put_some s k None v e = cc
put_some s k (Some u) v e = let x : v ≡ under s u = cc in ap (with_binding s k) (flip x)

put_none : (s : PlainBindings) (k : ℕ) (o : Option Tree) → None ≡ under_option s o → with_rounds s k o ≡ s
put_none s k None e = refl
put_none s k (Some u) e = cc

module _ {R T : Type 0} (owns : R → T → Type 0) (denotes : R → T → Tree) (old mid : R) (k : Keeps owns denotes old mid) (os : List (Option T)) (w : OwnsSomes owns old os) (i : ℕ) where
  -- a term is put in
  pub is_put : {A E : Type 0} (t : T) (ps : List (Option T)) (o : Result A E) → IsSomeUnder owns denotes old os (capture_at (types_of denotes old os) i) mid (Some t) → OnOk o (ps ≡ with_term os i t)
      → OnOk o (ArePut owns denotes (put_into (types_of denotes old os) i) mid ps)
  is_put t ps (Ok a) h e =
      let s : PlainBindings = types_of denotes old os in
      record {
        same = ap (types_of denotes mid) e ∙ with_terms denotes mid os i t ∙ ap (λ x. with_binding x i (denotes mid t)) (types_of_kept old mid k os w) ∙ flip (put_some s i (capture_at s i) (denotes mid t) h.same);
        own = subst (OwnsSomes owns mid) (flip e) (with_owned owns mid os i t (owned_types_kept old mid k os w) h.own);
      }
  is_put t ps (Err x) h e = e

  -- nothing is bound
  pub is_not_put : IsSomeUnder owns denotes old os (capture_at (types_of denotes old os) i) mid None → ArePut owns denotes (put_into (types_of denotes old os) i) mid os
  is_not_put h = record { same = types_of_kept old mid k os w ∙ flip (put_none (types_of denotes old os) i (capture_at (types_of denotes old os) i) h.same); own = owned_types_kept old mid k os w }

-- ---- the same bindings in other levels

module _ {R T : Type 0} (owns : R → T → Type 0) (denotes : R → T → Tree) (old new : R) (k : Keeps owns denotes old new) (b d : Bindings T) (w : OwnsBindings owns denotes old b) where
  -- two levels are joined
  pub is_still : (js : List ℕ) → IsBeforeLast b.levels.items js → IsJoined b.levels.items d.levels.items → ArePut owns denotes (put_into_each (types_of denotes old b.terms.items) js) new d.terms.items → d.mentioned ≡ b.mentioned
      → IsStill owns denotes old b new d
  is_still js l j a m = record {
    same = ap (resolved (behind_first d.levels.items)) a.same ∙ joined_same w.levels js d.levels.items l j;
    own = record {
      own = a.own;
      noted = subst (λ x. OwnsSome owns new x.term) (flip m) (some_kept old new k b.mentioned.term w.noted);
      levels = subst (AreLevelled (may_mention denotes new d.mentioned) d.levels.items) (flip a.same) (levels_cover (levels_joined w.levels js d.levels.items l j) (may_mention denotes new d.mentioned)
          (λ i e. ap (λ x. may_mention denotes new x i) m ∙ mentioned_kept old new k b w i e));
    };
  }

-- the same as before an earlier call of the reducer
pub still_from : {R T : Type 0} (owns : R → T → Type 0) (denotes : R → T → Tree) (old mid new : R) (k : Keeps owns denotes old mid) (b d : Bindings T) → OwnsBindings owns denotes old b → IsStill owns denotes mid b new d → IsStill owns denotes old b new d
still_from owns denotes old mid new k b d w h = record { same = h.same ∙ terms_kept old mid k b w; own = h.own }

-- ---- room for a further binding

-- the rule variable stands nowhere
pub has_room : {R T : Type 0} (owns : R → T → Type 0) (denotes : R → T → Tree) (old new : R) (k : Keeps owns denotes old new) (b : Bindings T) (i : ℕ) (told : Bool) → OwnsBindings owns denotes old b → told ≡ false
    → (may_mention denotes old b.mentioned i ≡ true → IsTrue told) → HasRoom owns denotes old b i new b
has_room owns denotes old new k b i told w e h = record {
  same = terms_kept old new k b w;
  own = bindings_kept old new k b w;
  above = λ j u q m. let x : told ≡ true = h (w.levels.covered i j u (ap (λ s. capture_at s j) (flip (types_of_kept old new k b.terms.items w.own)) ∙ q) m) in let y : true ≡ false = flip x ∙ e in cc;
}

-- a level begins
pub has_level : {R T : Type 0} (owns : R → T → Type 0) (denotes : R → T → Tree) (old mid : R) (b c : Bindings T) (ls : Vec (Vec ℕ Global) Global) (l : Vec ℕ Global) (i : ℕ) → IsStill owns denotes old b mid c → ls.items ≡ c.levels.items ++ l ∷ []
    → HasRoom owns denotes old b i mid (record { terms = c.terms; levels = ls; mentioned = c.mentioned })
has_level owns denotes old mid b c ls l i h e =
    let w = h.own.levels in
    record {
      same = ap (λ x. resolved (behind_first x) (types_of denotes mid c.terms.items)) e ∙ begun_same w l ∙ h.same;
      own = record {
        own = h.own.own;
        noted = h.own.noted;
        levels = record {
          rank = λ j. suc (w.rank j);
          ranked = begun_ranked w l;
          levelled = λ j u q. subst (λ x. IsAt x j (suc (w.rank j))) (flip e) (at_more c.levels.items l j (w.rank j) (w.levelled j u q));
          closed = w.closed;
          covered = w.covered;
        };
      };
      above = λ j u q m. omega arith;
    }

-- ---- a further binding

pub is_bound : {R T : Type 0} (owns : R → T → Type 0) (denotes : R → T → Tree) (old one two : R) (k : Keeps owns denotes old one) (l : Keeps owns denotes one two) (b e d : Bindings T) (i : ℕ) (t : T) → MayBind owns denotes old b i t
    → HasRoom owns denotes old b i one e → IsPlaced e.levels.items i d.levels.items → IsNoted owns denotes one e.mentioned (denotes one t) two d.mentioned → d.terms.items ≡ with_term e.terms.items i t → IsBound owns denotes old b i t two d
is_bound owns denotes old one two k l b e d i t m h p n q =
    let s : PlainBindings = types_of denotes one e.terms.items in
    let r : PlainBindings = terms_of denotes one e in
    let u : Tree = denotes one t in
    let x : u ≡ denotes old t = k.same t m.own in
    let g = may_mention denotes two d.mentioned in
    let unbound : capture_at r i ≡ None = ap (λ z. capture_at z i) h.same ∙ m.unbound in
    let free : IsFree r u = subst (λ z. IsFree z u) (flip h.same) (subst (IsFree (terms_of denotes old b)) (flip x) m.free) in
    let closed : IsClosedAt 0 u = subst (IsClosedAt 0) (flip x) m.closed in
    let without : mentions_rule_variable i u ≡ false = ap (mentions_rule_variable i) x ∙ m.without in
    let put : types_of denotes two d.terms.items ≡ with_binding s i u = ap (types_of denotes two) q ∙ with_terms denotes two e.terms.items i t ∙ ap (λ z. with_binding z i (denotes two t)) (types_of_kept one two l e.terms.items h.own.own)
    ∙ ap (with_binding s i) (l.same t (k.own t m.own)) in
    record {
      same = ap (resolved (behind_first d.levels.items)) put ∙ further_same h.own.levels i u d.levels.items g p unbound free closed without h.above n.more n.kept ∙ ap (λ z. bound z i u) h.same ∙ ap (bound (terms_of denotes old b) i) x;
      own = record {
        own = subst (OwnsSomes owns two) (flip q) (with_owned owns two e.terms.items i t (owned_types_kept one two l e.terms.items h.own.own) (l.own t (k.own t m.own)));
        noted = n.own;
        levels = subst (AreLevelled g d.levels.items) (flip put) (levels_further h.own.levels i u d.levels.items g p unbound free closed without h.above n.more n.kept);
      };
    }

pub bound_where_put : {A E : Type 0} {R T : Type 0} (owns : R → T → Type 0) (denotes : R → T → Tree) (old one two : R) (k : Keeps owns denotes old one) (l : Keeps owns denotes one two) (b e d : Bindings T) (i : ℕ) (t : T) (o : Result A E)
    → MayBind owns denotes old b i t → HasRoom owns denotes old b i one e → IsPlaced e.levels.items i d.levels.items → IsNoted owns denotes one e.mentioned (denotes one t) two d.mentioned
    → OnOk o (d.terms.items ≡ with_term e.terms.items i t) → OnOk o (IsBound owns denotes old b i t two d)
bound_where_put owns denotes old one two k l b e d i t (Ok x) m h p n q = is_bound owns denotes old one two k l b e d i t m h p n q
bound_where_put owns denotes old one two k l b e d i t (Err x) m h p n q = q
