-- Columns and captures as the pool grows.
use Rattle.std.proofs.Common.{List, [], ◌∷◌, ◌≡◌, ◌<◌, ℕ, zero, suc, Option, Some, None, refl, ap, sym as flip, subst, arith, length, take, drop, map, get_or}
use Rattle.std.specs.Prelude.{slice_get, slice_set, replicate}
use Rattle.dk_model.specs.Captures.{capture_at}
use Rattle.shared_term.specs.declared.id.TermId.{TermId}
use Rattle.shared_term.specs.Pools.{Node, term, Extends}
use Rattle.shared_term.specs.Changes.{AreCaptures, captured_terms, capture_id}
use Rattle.rule_match.specs.declared.value.Column.{Column}
use Rattle.rule_match.specs.Columns.{column, AreColumns}

-- columns

pub columns_grown : (old new : List Node) (cs : List Column) → Extends old new → AreColumns (length old) cs → map (column new) cs ≡ map (column old) cs
columns_grown old new [] e h = refl
columns_grown old new (c ∷ cs) e h = let p = e.keeps c.term.0 h.0 in let q = columns_grown old new cs e h.1 in λ i. record { depth = c.depth; term = p i } ∷ q i

pub columns_within : (old new : List Node) (cs : List Column) → Extends old new → AreColumns (length old) cs → AreColumns (length new) cs
columns_within old new [] e h = tt
columns_within old new (c ∷ cs) e h = (omega (arith, e.longer, h.0), columns_within old new cs e h.1)

pub columns_taken : (n i : ℕ) (cs : List Column) → AreColumns n cs → AreColumns n (take i cs)
columns_taken n zero cs h = tt
columns_taken n (suc i) [] h = tt
columns_taken n (suc i) (c ∷ cs) h = (h.0, columns_taken n i cs h.1)

pub columns_dropped : (n i : ℕ) (cs : List Column) → AreColumns n cs → AreColumns n (drop i cs)
columns_dropped n zero cs h = h
columns_dropped n (suc i) [] h = tt
columns_dropped n (suc i) (c ∷ cs) h = columns_dropped n i cs h.1

pub column_within : (n i : ℕ) (cs : List Column) (c : Column) → AreColumns n cs → slice_get cs i ≡ Some c → c.term.0 < n
column_within n i [] c h e = cc
column_within n zero (d ∷ cs) c h e = let q : d ≡ c = cc in subst (λ (x : Column). x.term.0 < n) q h.0
column_within n (suc i) (d ∷ cs) c h e = column_within n i cs c h.1 e

pub column_at : (n i : ℕ) (cs : List Column) (d : Column) → AreColumns n cs → i < length cs → (get_or cs i d).term.0 < n
column_at n i [] d h l = absurd (omega arith)
column_at n zero (c ∷ cs) d h l = h.0
column_at n (suc i) (c ∷ cs) d h l = column_at n i cs d h.1 (omega arith)

pub columns_set : (n i : ℕ) (cs : List Column) (c : Column) → AreColumns n cs → c.term.0 < n → AreColumns n (slice_set cs i c)
columns_set n i [] c h l = tt
columns_set n zero (d ∷ cs) c h l = (l, h.1)
columns_set n (suc i) (d ∷ cs) c h l = (h.0, columns_set n i cs c h.1 l)

-- captures

pub captures_grown : (old new : List Node) (cs : List (Option TermId)) → Extends old new → AreCaptures (length old) cs → captured_terms new cs ≡ captured_terms old cs
captures_grown old new [] e h = refl
captures_grown old new (None ∷ cs) e h = ap (λ l. None ∷ l) (captures_grown old new cs e h)
captures_grown old new (Some t ∷ cs) e h = let p = e.keeps t.0 h.0 in let q = captures_grown old new cs e h.1 in λ i. Some (p i) ∷ q i

pub captures_within : (old new : List Node) (cs : List (Option TermId)) → Extends old new → AreCaptures (length old) cs → AreCaptures (length new) cs
captures_within old new [] e h = tt
captures_within old new (None ∷ cs) e h = captures_within old new cs e h
captures_within old new (Some t ∷ cs) e h = (omega (arith, e.longer, h.0), captures_within old new cs e h.1)

pub captures_set : (n k : ℕ) (cs : List (Option TermId)) (t : TermId) → AreCaptures n cs → t.0 < n → AreCaptures n (slice_set cs k (Some t))
captures_set n k [] t h l = tt
captures_set n zero (None ∷ cs) t h l = (l, h)
captures_set n zero (Some u ∷ cs) t h l = (l, h.1)
captures_set n (suc k) (None ∷ cs) t h l = captures_set n k cs t h l
captures_set n (suc k) (Some u ∷ cs) t h l = (h.0, captures_set n k cs t h.1 l)

pub capture_within : (n k : ℕ) (cs : List (Option TermId)) (t : TermId) → AreCaptures n cs → capture_id cs k ≡ Some t → t.0 < n
capture_within n k [] t h e = cc
capture_within n zero (None ∷ cs) t h e = cc
capture_within n zero (Some u ∷ cs) t h e = let q : u ≡ t = cc in subst (λ (x : TermId). x.0 < n) q h.0
capture_within n (suc k) (None ∷ cs) t h e = capture_within n k cs t h e
capture_within n (suc k) (Some u ∷ cs) t h e = capture_within n k cs t h.1 e

pub capture_there : (ns : List Node) (k : ℕ) (cs : List (Option TermId)) (t : TermId) → capture_id cs k ≡ Some t → capture_at (captured_terms ns cs) k ≡ Some (term ns t)
capture_there ns k [] t e = cc
capture_there ns zero (None ∷ cs) t e = cc
capture_there ns zero (Some u ∷ cs) t e = let q : u ≡ t = cc in ap (λ (x : TermId). Some (term ns x)) q
capture_there ns (suc k) (None ∷ cs) t e = capture_there ns k cs t e
capture_there ns (suc k) (Some u ∷ cs) t e = capture_there ns k cs t e

pub capture_missing : (ns : List Node) (k : ℕ) (cs : List (Option TermId)) → capture_id cs k ≡ None → capture_at (captured_terms ns cs) k ≡ None
capture_missing ns k [] e = refl
capture_missing ns zero (None ∷ cs) e = refl
capture_missing ns zero (Some u ∷ cs) e = cc
capture_missing ns (suc k) (None ∷ cs) e = capture_missing ns k cs e
capture_missing ns (suc k) (Some u ∷ cs) e = capture_missing ns k cs e

pub terms_set : (ns : List Node) (k : ℕ) (cs : List (Option TermId)) (t : TermId) → captured_terms ns (slice_set cs k (Some t)) ≡ slice_set (captured_terms ns cs) k (Some (term ns t))
terms_set ns k [] t = refl
terms_set ns zero (None ∷ cs) t = refl
terms_set ns zero (Some u ∷ cs) t = refl
terms_set ns (suc k) (None ∷ cs) t = ap (λ l. None ∷ l) (terms_set ns k cs t)
terms_set ns (suc k) (Some u ∷ cs) t = ap (λ l. Some (term ns u) ∷ l) (terms_set ns k cs t)

pub terms_none : (ns : List Node) (n : ℕ) → captured_terms ns (replicate n None) ≡ replicate n None
terms_none ns zero = refl
terms_none ns (suc n) = ap (λ l. None ∷ l) (terms_none ns n)

pub none_captured : (k n : ℕ) → AreCaptures k (replicate n None)
none_captured k zero = tt
none_captured k (suc n) = none_captured k n

pub none_captured_here : (k n : ℕ) (cs : List (Option TermId)) → cs ≡ replicate n None → AreCaptures k cs
none_captured_here k n cs e = subst (λ (l : List (Option TermId)). AreCaptures k l) (flip e) (none_captured k n)
