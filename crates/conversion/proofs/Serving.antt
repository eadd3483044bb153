-- What a reducer remembers stays right as its pool grows, and with one more entry.
use Rattle.std.proofs.Common.{List, ◌≡◌, ◌-◌, ◌<◌, ◌⊎◌, inl, inr, ℕ, Some, ap, subst, ◌∙◌, sym as flip, arith, length, get_or}
use Rattle.std.specs.Prelude.{Bool}
use Rattle.dk_model.specs.Trees.{Tree, star}
use Rattle.dk_model.specs.Signatures.{PlainSignature}
use Rattle.dk_model.specs.Taking.{Takes}
use Rattle.dk_model.specs.Evaluation.{whnf_of, comparison_of, normal_of}
use Rattle.dk_model.proofs.Counting.{whnf_takes, comparison_takes, normal_takes}
use Rattle.shared_term.specs.declared.id.TermId.{TermId}
use Rattle.shared_term.specs.Pools.{Node, term, terms, Extends}
use Rattle.conversion.specs.declared.table.Table.{Table}
use Rattle.conversion.specs.declared.state.Value.{Value}
use Rattle.conversion.specs.declared.state.Answer.{Answer}
use Rattle.conversion.specs.declared.state.PoolReducer.{PoolReducer}
use Rattle.conversion.specs.declared.state.Head.{Head}
use Rattle.conversion.specs.declared.state.Head.TheVariants.{Stands, Unfolds}
use Rattle.conversion.specs.Tables.{Remembers, IsBlank}
use Rattle.conversion.specs.Reducers.{unfolding_rule, IsLoaded, AreLoaded, IsHead, AreHeads, IsValue, AreValues, IsNormal, AreNormals, IsAnswer, AreAnswers, Serves}

-- a larger pool

pub loaded_grown : (S : PlainSignature) (old new : List Node) (t : Table TermId) → Extends old new → AreLoaded S old t → AreLoaded S new t
loaded_grown S old new t e h = record {
  each = λ k i d r. let l = h.each k i d r in record {
    there = omega (arith, e.longer, l.there);
    is = l.is ∙ ap (λ (u : Tree). Some u) (flip (e.keeps d.0 l.there));
  };
}

head_grown : (S : PlainSignature) (old new : List Node) (k : ℕ) (h : Head) → Extends old new → IsHead S old k h → IsHead S new k h
head_grown S old new k Stands e q = q
head_grown S old new k (Unfolds b) e q = (omega (arith, e.longer, q.0), q.1 ∙ ap (λ (t : Tree). Some (unfolding_rule k t)) (flip (e.keeps b.0 q.0)))

pub heads_grown : (S : PlainSignature) (old new : List Node) (t : Table Head) → Extends old new → AreHeads S old t → AreHeads S new t
heads_grown S old new t e h = record { each = λ k j d r. head_grown S old new k d e (h.each k j d r) }

value_grown : (S : PlainSignature) (old new : List Node) (i : ℕ) (v : Value) → Extends old new → IsValue S old i v → IsValue S new i v
value_grown S old new i v e h =
    let p = flip (e.keeps i h.of) in
    let q = flip (e.keeps v.id.0 h.gives) in
    record {
      of = omega (arith, e.longer, h.of);
      gives = omega (arith, e.longer, h.gives);
      takes = subst (λ (t : Tree). Takes (λ n. whnf_of S n t) (term new v.id) v.units) p
          (subst (λ (t : Tree). Takes (λ n. whnf_of S n (get_or (terms old) i star)) t v.units) q h.takes);
    }

pub values_grown : (S : PlainSignature) (old new : List Node) (t : Table Value) → Extends old new → AreValues S old t → AreValues S new t
values_grown S old new t e h = record { each = λ i j v r. value_grown S old new i v e (h.each i j v r) }

normal_grown : (S : PlainSignature) (old new : List Node) (i : ℕ) (v : Value) → Extends old new → IsNormal S old i v → IsNormal S new i v
normal_grown S old new i v e h =
    let p = flip (e.keeps i h.of) in
    let q = flip (e.keeps v.id.0 h.gives) in
    record {
      of = omega (arith, e.longer, h.of);
      gives = omega (arith, e.longer, h.gives);
      takes = subst (λ (t : Tree). Takes (λ n. normal_of S n t) (term new v.id) v.units) p
          (subst (λ (t : Tree). Takes (λ n. normal_of S n (get_or (terms old) i star)) t v.units) q h.takes);
    }

pub normals_grown : (S : PlainSignature) (old new : List Node) (t : Table Value) → Extends old new → AreNormals S old t → AreNormals S new t
normals_grown S old new t e h = record { each = λ i j v r. normal_grown S old new i v e (h.each i j v r) }

answer_grown : (S : PlainSignature) (old new : List Node) (i j : ℕ) (a : Answer) → Extends old new → IsAnswer S old i j a → IsAnswer S new i j a
answer_grown S old new i j a e h =
    let p = flip (e.keeps i h.of) in
    let q = flip (e.keeps j h.of_other) in
    record {
      of = omega (arith, e.longer, h.of);
      of_other = omega (arith, e.longer, h.of_other);
      takes = subst (λ (t : Tree). Takes (λ n. comparison_of S n t (get_or (terms new) j star)) a.alike a.units) p
          (subst (λ (t : Tree). Takes (λ n. comparison_of S n (get_or (terms old) i star) t) a.alike a.units) q h.takes);
    }

pub answers_grown : (S : PlainSignature) (old new : List Node) (t : Table Answer) → Extends old new → AreAnswers S old t → AreAnswers S new t
answers_grown S old new t e h = record { each = λ i j a r. answer_grown S old new i j a e (h.each i j a r) }

-- all of it, in a larger pool, and in one that is as it was

pub serves_grown : (S : PlainSignature) (r : PoolReducer) (ns : List Node) → Extends r.pool ns → Serves S r → Serves S (record r { pool = ns })
serves_grown S r ns e h = record {
  loaded = loaded_grown S r.pool ns r.loaded e h.loaded;
  heads = heads_grown S r.pool ns r.heads e h.heads;
  values = values_grown S r.pool ns r.values e h.values;
  normals = normals_grown S r.pool ns r.normals e h.normals;
  answers = answers_grown S r.pool ns r.answers e h.answers;
  trees = h.trees;
}

-- one more entry

pub loaded_put : (S : PlainSignature) (ns : List Node) (old new : Table TermId) (k i : ℕ) (d : TermId) → AreLoaded S ns old → IsLoaded S ns k i d
    → ((a b : ℕ) (v : TermId) → Remembers new a b v → ((a ≡ k) × (b ≡ i) × (v ≡ d)) ⊎ Remembers old a b v) → AreLoaded S ns new
loaded_put S ns old new k i d h l put = record {
  each = λ a b v r. elim (put a b v r) [
    | inl e ↦ subst (λ (x : TermId). IsLoaded S ns a b x) (flip e.2) (subst (λ (y : ℕ). IsLoaded S ns a y d) (flip e.1) (subst (λ (x : ℕ). IsLoaded S ns x i d) (flip e.0) l))
    | inr p ↦ h.each a b v p
  ];
}

pub heads_put : (S : PlainSignature) (ns : List Node) (old new : Table Head) (k j : ℕ) (d : Head) → AreHeads S ns old → IsHead S ns k d
    → ((a b : ℕ) (v : Head) → Remembers new a b v → ((a ≡ k) × (b ≡ j) × (v ≡ d)) ⊎ Remembers old a b v) → AreHeads S ns new
heads_put S ns old new k j d h l put = record {
  each = λ a b v r. elim (put a b v r) [
    | inl e ↦ subst (λ (x : Head). IsHead S ns a x) (flip e.2) (subst (λ (x : ℕ). IsHead S ns x d) (flip e.0) l)
    | inr p ↦ h.each a b v p
  ];
}

pub values_put : (S : PlainSignature) (ns : List Node) (old new : Table Value) (k j : ℕ) (i : Value) → AreValues S ns old → IsValue S ns k i
    → ((a b : ℕ) (v : Value) → Remembers new a b v → ((a ≡ k) × (b ≡ j) × (v ≡ i)) ⊎ Remembers old a b v) → AreValues S ns new
values_put S ns old new k j i h l put = record {
  each = λ a b v r. elim (put a b v r) [
    | inl e ↦ subst (λ (x : Value). IsValue S ns a x) (flip e.2) (subst (λ (x : ℕ). IsValue S ns x i) (flip e.0) l)
    | inr p ↦ h.each a b v p
  ];
}

pub normals_put : (S : PlainSignature) (ns : List Node) (old new : Table Value) (k j : ℕ) (i : Value) → AreNormals S ns old → IsNormal S ns k i
    → ((a b : ℕ) (v : Value) → Remembers new a b v → ((a ≡ k) × (b ≡ j) × (v ≡ i)) ⊎ Remembers old a b v) → AreNormals S ns new
normals_put S ns old new k j i h l put = record {
  each = λ a b v r. elim (put a b v r) [
    | inl e ↦ subst (λ (x : Value). IsNormal S ns a x) (flip e.2) (subst (λ (x : ℕ). IsNormal S ns x i) (flip e.0) l)
    | inr p ↦ h.each a b v p
  ];
}

pub answers_put : (S : PlainSignature) (ns : List Node) (old new : Table Answer) (k j : ℕ) (i : Answer) → AreAnswers S ns old → IsAnswer S ns k j i
    → ((a b : ℕ) (v : Answer) → Remembers new a b v → ((a ≡ k) × (b ≡ j) × (v ≡ i)) ⊎ Remembers old a b v) → AreAnswers S ns new
answers_put S ns old new k j i h l put = record {
  each = λ a b v r. elim (put a b v r) [
    | inl e ↦ subst (λ (x : Answer). IsAnswer S ns a b x) (flip e.2) (subst (λ (y : ℕ). IsAnswer S ns a y i) (flip e.1) (subst (λ (x : ℕ). IsAnswer S ns x j i) (flip e.0) l))
    | inr p ↦ h.each a b v p
  ];
}

-- none

pub loaded_blank : (S : PlainSignature) (ns : List Node) (t : Table TermId) → IsBlank t → AreLoaded S ns t
loaded_blank S ns t h = record { each = λ k i d r. absurd (h k i d r) }

pub heads_blank : (S : PlainSignature) (ns : List Node) (t : Table Head) → IsBlank t → AreHeads S ns t
heads_blank S ns t h = record { each = λ k j d r. absurd (h k j d r) }

pub values_blank : (S : PlainSignature) (ns : List Node) (t : Table Value) → IsBlank t → AreValues S ns t
values_blank S ns t h = record { each = λ k j i r. absurd (h k j i r) }

pub normals_blank : (S : PlainSignature) (ns : List Node) (t : Table Value) → IsBlank t → AreNormals S ns t
normals_blank S ns t h = record { each = λ k j i r. absurd (h k j i r) }

pub answers_blank : (S : PlainSignature) (ns : List Node) (t : Table Answer) → IsBlank t → AreAnswers S ns t
answers_blank S ns t h = record { each = λ k j i r. absurd (h k j i r) }

-- what a run took is what the answer takes: in the pool as it was, `n` units left `k`

pub value_made : (S : PlainSignature) (old new : List Node) (i : TermId) (v : Value) (n k : ℕ) → Extends old new → i.0 < length old → v.id.0 < length new
    → whnf_of S n (term old i) ≡ Some (term new v.id, k) → v.units ≡ n - k → IsValue S new i.0 v
value_made S old new i v n k e l g h u = record {
  of = omega (arith, e.longer, l);
  gives = g;
  takes = subst (λ (t : Tree). Takes (λ m. whnf_of S m t) (term new v.id) v.units) (flip (e.keeps i.0 l))
      (subst (λ (j : ℕ). Takes (λ m. whnf_of S m (term old i)) (term new v.id) j) (flip u) (whnf_takes S (term old i) (term new v.id) n k h));
}

pub normal_made : (S : PlainSignature) (old new : List Node) (i : TermId) (v : Value) (n k : ℕ) → Extends old new → i.0 < length old → v.id.0 < length new
    → normal_of S n (term old i) ≡ Some (term new v.id, k) → v.units ≡ n - k → IsNormal S new i.0 v
normal_made S old new i v n k e l g h u = record {
  of = omega (arith, e.longer, l);
  gives = g;
  takes = subst (λ (t : Tree). Takes (λ m. normal_of S m t) (term new v.id) v.units) (flip (e.keeps i.0 l))
      (subst (λ (j : ℕ). Takes (λ m. normal_of S m (term old i)) (term new v.id) j) (flip u) (normal_takes S (term old i) (term new v.id) n k h));
}

pub answer_made : (S : PlainSignature) (old new : List Node) (i j : TermId) (b : Bool) (u n k : ℕ) → Extends old new → i.0 < length old → j.0 < length old
    → comparison_of S n (term old i) (term old j) ≡ Some (b, k) → u ≡ n - k → IsAnswer S new i.0 j.0 (record { alike = b; units = u })
answer_made S old new i j b u n k e l m h q = record {
  of = omega (arith, e.longer, l);
  of_other = omega (arith, e.longer, m);
  takes = subst (λ (t : Tree). Takes (λ x. comparison_of S x t (term new j)) b u) (flip (e.keeps i.0 l))
      (subst (λ (t : Tree). Takes (λ x. comparison_of S x (term old i) t) b u) (flip (e.keeps j.0 m))
      (subst (λ (z : ℕ). Takes (λ x. comparison_of S x (term old i) (term old j)) b z) (flip q) (comparison_takes S (term old i) (term old j) b n k h)));
}
