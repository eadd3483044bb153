-- An application typed by parts, each with the whole budget, comes to what typing from left to right comes to.
use Rattle.std.proofs.Common.{List, [], ◌∷◌, ℕ, suc, ◌≡◌, ◌<◌, ◌≤◌, ◌+◌, ◌-◌, refl, ap, sym as flip, subst as along_path, ◌∙◌, arith}
use Rattle.dk_model.specs.Trees.{Tree, apply}
use Rattle.dk_model.specs.Substitution.{substitute}
use Rattle.dk_model.specs.Erasure.{erased}
use Rattle.dk_model.specs.Signatures.{PlainSignature}
use Rattle.dk_model.specs.declared.code.Code.{Code}
use Rattle.dk_model.specs.declared.code.Code.TheVariants.{E20}
use Rattle.dk_model.specs.Typing.{Judged, answer, refused, ended, next, as_product, application_type, inferred, checked, by_units}
use Rattle.split_parts.specs.Parts.{part, combined, combined_behind, ended_with}
use Rattle.split_parts.specs.Splitting.{applied, where_answered, argument_steps, application_steps, applied_typ, application_typ}
use Rattle.split_parts.specs.declared.part.PartResult.{PartResult}
use Rattle.split_parts.specs.declared.part.PartOut.TheVariants.{Fine, Refused}
use Rattle.split_parts.specs.declared.part.PartOut.TheVariants as out
use Rattle.dk_model.proofs.CountedTyping.{lowered, Within, Counts, too_few, enough, below_or_from, units_count}
use Rattle.dk_model.proofs.CountedTyping as counted
use Rattle.split_parts.proofs.Combining.{behind_none, behind_over, behind_fine, behind_ended, behind_fault, behind_nothing}

as_product_counts : (S : PlainSignature) (c : Code) (T : Tree) → Counts (as_product S c T)
as_product_counts S c T = counted.as_product_counts (by_units S) (units_count S) c T

inferred_counts : (S : PlainSignature) (V G : List Tree) (t : Tree) → Counts (inferred S V G t)
inferred_counts S V G t = counted.inferred_counts (by_units S) (units_count S) S V G t

checked_counts : (S : PlainSignature) (V G : List Tree) (t T : Tree) → Counts (checked S V G t T)
checked_counts S V G t T = counted.checked_counts (by_units S) (units_count S) S V G t T

-- a run with fewer units, from one with more
at_fewer : {A : Type 0} {F : ℕ → Judged A} (n B : ℕ) (y : Judged A) → Counts F → n ≤ B → F B ≡ y → F n ≡ lowered (B - n) y
at_fewer {A} {F} n B y c l e = c.lowers n (B - n) ∙ ap (λ k. lowered (B - n) (F k)) (let f : n + (B - n) ≡ B = omega arith in f) ∙ ap (lowered (B - n)) e

left_within : {A : Type 0} {F : ℕ → Judged A} (B : ℕ) (y : Judged A) → Counts F → F B ≡ y → Within (suc B) y
left_within B y c e = along_path (Within (suc B)) e (c.falls B)

-- one part in front of others
pub step : {A C : Type 0} {F : ℕ → Judged A} (B n s T : ℕ) (g : A → ℕ → Judged C) (rest : List PartResult) → Counts F → n ≤ B → n + s ≡ T
    → ((a : A) (m : ℕ) → F B ≡ answer a m → (i u : ℕ) → i ≤ n → i + u ≡ T → combined_behind u rest T ≡ part T (g a i))
    → combined_behind s (part B (F B) ∷ rest) T ≡ part T (next (F n) g)
step {A} {C} {F} B n s T g rest c le e k = by (F B) refl
  where
    by : (y : Judged A) → F B ≡ y → combined_behind s (part B y ∷ rest) T ≡ part T (next (F n) g)
    by (answer a m) is = let w : m < suc B = left_within B (answer a m) c is in below_or_from m (B - n) (combined_behind s (part {A = A} B (answer a m) ∷ rest) T ≡ part T (next (F n) g))
        (λ l. behind_over s T (part {A = A} B (answer a m)) rest (omega arith) (omega arith)
        ∙ flip (ap (λ x. part T (next x g)) (at_fewer n B (answer a m) c le is ∙ too_few m (B - n) ended (answer a (m - (B - n))) l)))
        (λ l. behind_fine s T (part {A = A} B (answer a m)) rest refl ∙ k a m is (m - (B - n)) (s + (B - m)) (omega arith) (omega arith)
        ∙ flip (ap (λ x. part T (next x g)) (at_fewer n B (answer a m) c le is ∙ enough m (B - n) ended (answer a (m - (B - n))) l)))
    by (refused x m) is = let w : m < suc B = left_within B (refused x m) c is in below_or_from m (B - n) (combined_behind s (part {A = A} B (refused x m) ∷ rest) T ≡ part T (next (F n) g))
        (λ l. behind_over s T (part {A = A} B (refused x m)) rest (omega arith) (omega arith)
        ∙ flip (ap (λ x. part T (next x g)) (at_fewer n B (refused x m) c le is ∙ too_few m (B - n) ended (refused x (m - (B - n))) l)))
        (λ l. behind_fault s T (part {A = A} B (refused x m)) rest (λ f. not_fine f) (λ f. not_ended f) (omega arith)
        ∙ ap (λ j. record { out = Refused x; units = j }) (let f : s + (B - m) ≡ T - (m - (B - n)) = omega arith in f)
        ∙ flip (ap (λ x. part T (next x g)) (at_fewer n B (refused x m) c le is ∙ enough m (B - n) ended (refused x (m - (B - n))) l)))
      where
        not_fine : Refused x ≡ Fine → ⊥
        not_fine f = cc

        not_ended : Refused x ≡ out.Ended → ⊥
        not_ended f = cc
    by ended is = behind_ended s T (ended_with B) rest refl ∙ flip (ap (λ x. part T (next x g)) (at_fewer n B ended c le is))

next_of_next : {A B C : Type 0} (x : Judged A) (g : A → ℕ → Judged B) (h : B → ℕ → Judged C) → next (next x g) h ≡ next x (λ a n. next (g a n) h)
next_of_next (answer a n) g h = refl
next_of_next (refused c n) g h = refl
next_of_next ended g h = refl

next_alike : {A B : Type 0} (x : Judged A) (g h : A → ℕ → Judged B) → ((a : A) (n : ℕ) → g a n ≡ h a n) → next x g ≡ next x h
next_alike (answer a n) g h e = e a n
next_alike (refused c n) g h e = refl
next_alike ended g h e = refl

pub next_answer : {A : Type 0} (x : Judged A) → next x (λ a n. answer a n) ≡ x
next_answer (answer a n) = refl
next_answer (refused c n) = refl
next_answer ended = refl

answered : {A B : Type 0} (x : Judged A) (g : A → ℕ → Judged B) (b : B) (m : ℕ) → next x g ≡ answer b m → (a : A) × (i : ℕ) × (x ≡ answer a i) × (g a i ≡ answer b m)
answered (answer a n) g b m e = (a, n, refl, e)
answered (refused c n) g b m e = cc
answered ended g b m e = cc

-- what answers with fewer units answers the same with more
raised : {A : Type 0} {F : ℕ → Judged A} (n B : ℕ) (a : A) (i : ℕ) → Counts F → n ≤ B → F n ≡ answer a i → (j : ℕ) × (F B ≡ answer a j)
raised {A} {F} n B a i c l e = by (F B) refl
  where
    by : (y : Judged A) → F B ≡ y → (j : ℕ) × (F B ≡ answer a j)
    by (answer b j) is = below_or_from j (B - n) ((j : ℕ) × (F B ≡ answer a j))
        (λ few. absurd (ended_answer (flip (at_fewer n B (answer b j) c l is ∙ too_few j (B - n) ended (answer b (j - (B - n))) few) ∙ e)))
        (λ m. (j, is ∙ ap (λ x. answer x j) (same_answer (flip (at_fewer n B (answer b j) c l is ∙ enough j (B - n) ended (answer b (j - (B - n))) m) ∙ e))))
      where
        ended_answer : ended ≡ answer a i → ⊥
        ended_answer f = cc

        same_answer : answer b (j - (B - n)) ≡ answer a i → b ≡ a
        same_answer f = cc
    by (refused x j) is = below_or_from j (B - n) ((j : ℕ) × (F B ≡ answer a j))
        (λ few. absurd (ended_answer (flip (at_fewer n B (refused x j) c l is ∙ too_few j (B - n) ended (refused x (j - (B - n))) few) ∙ e)))
        (λ m. absurd (refused_answer (flip (at_fewer n B (refused x j) c l is ∙ enough j (B - n) ended (refused x (j - (B - n))) m) ∙ e)))
      where
        ended_answer : ended ≡ answer a i → ⊥
        ended_answer f = cc

        refused_answer : refused x (j - (B - n)) ≡ answer a i → ⊥
        refused_answer f = cc
    by ended is = absurd (ended_answer (flip (at_fewer n B ended c l is) ∙ e))
      where
        ended_answer : ended ≡ answer a i → ⊥
        ended_answer f = cc

module _ (S : PlainSignature) (V G : List Tree) where
  -- the type of a head of type F with these arguments, from left to right
  abbrev along : List Tree → Tree → ℕ → Judged Tree
  along [] F n = answer F n
  along (a ∷ rest) F n = next (as_product S E20 F n) (λ p m. next (checked S V G a p.0 m) (λ u i. along rest (substitute 0 (erased a) p.1) i))

  along_applied : (a : Tree) (rest : List Tree) (F : Tree) (n : ℕ) → next (application_type S (checked S V G a) a F n) (along rest) ≡ along (a ∷ rest) F n
  along_applied a rest F n = next_of_next (as_product S E20 F n) _ (along rest)
      ∙ next_alike (as_product S E20 F n) _ _ (λ p m. next_of_next (checked S V G a p.0 m) _ (along rest))

  applied_along : (h : Tree) (rest : List Tree) (n : ℕ) → next (inferred S V G h n) (along rest) ≡ inferred S V G (applied h rest) n
  applied_along h [] n = next_answer (inferred S V G h n)
  applied_along h (a ∷ rest) n = flip (next_alike (inferred S V G h n) _ _ (λ F m. along_applied a rest F m))
      ∙ flip (next_of_next (inferred S V G h n) (application_type S (checked S V G a) a) (along rest)) ∙ applied_along (apply h a) rest n

  arguments_split : (B : ℕ) (rest : List Tree) (F : Tree) (n s T : ℕ) → n ≤ B → n + s ≡ T → combined_behind s (argument_steps S V G B rest F) T ≡ part T (along rest F n)
  arguments_split B [] F n s T l e = behind_none s T (omega arith) ∙ ap (λ j. record { out = Fine; units = j }) (let f : s ≡ T - n = omega arith in f)
  arguments_split B (a ∷ rest) F n s T l e = step B n s T (λ p m. next (checked S V G a p.0 m) (λ u i. along rest (substitute 0 (erased a) p.1) i))
      (where_answered (as_product S E20 F B) (λ p. part B (checked S V G a p.0 B) ∷ argument_steps S V G B rest (substitute 0 (erased a) p.1)) [])
      (as_product_counts S E20 F) l e (λ p m is i u il iu.
      ap (λ y. combined_behind u (where_answered y (λ p. part B (checked S V G a p.0 B) ∷ argument_steps S V G B rest (substitute 0 (erased a) p.1)) []) T) is
      ∙ step B i u T (λ v j. along rest (substitute 0 (erased a) p.1) j) (argument_steps S V G B rest (substitute 0 (erased a) p.1)) (checked_counts S V G a p.0) (omega arith) iu
      (λ v m2 is2 j w jl jw. arguments_split B rest (substitute 0 (erased a) p.1) j w T (omega arith) jw))

  pub application_split : (h : Tree) (rest : List Tree) (B n : ℕ) → n ≤ B → combined (application_steps S V G B h rest) n ≡ part n (inferred S V G (applied h rest) n)
  application_split h rest B n l = behind_nothing (application_steps S V G B h rest) n
      ∙ step B n 0 n (along rest) (where_answered (inferred S V G h B) (argument_steps S V G B rest) []) (inferred_counts S V G h) l (omega arith) (λ F m is i u il iu.
      ap (λ y. combined_behind u (where_answered y (argument_steps S V G B rest) []) n) is ∙ arguments_split B rest F i u n (omega arith) iu)
      ∙ ap (part n) (applied_along h rest n)

  typ_along : (B : ℕ) (rest : List Tree) (F : Tree) (n : ℕ) → n ≤ B → (T : Tree) (m : ℕ) → along rest F n ≡ answer T m → T ≡ applied_typ S V G B rest F
  typ_along B [] F n l T m e = cc
  typ_along B (a ∷ rest) F n l T m e =
      let (p, i, is, more) = answered (as_product S E20 F n) _ T m e in
      let (v, j, js, last) = answered (checked S V G a p.0 i) _ T m more in
      let (k, ks) = raised n B p i (as_product_counts S E20 F) l is in
      let il : i < suc n = along_path (Within (suc n)) is ((as_product_counts S E20 F).falls n) in
      let jl : j < suc i = along_path (Within (suc i)) js ((checked_counts S V G a p.0).falls i) in
      typ_along B rest (substitute 0 (erased a) p.1) j (omega arith) T m last
      ∙ flip (ap (λ y. where_answered y (λ q. applied_typ S V G B rest (substitute 0 (erased a) q.1)) F) ks)

  pub application_typed : (h : Tree) (rest : List Tree) (B n : ℕ) → n ≤ B → (T : Tree) (m : ℕ) → inferred S V G (applied h rest) n ≡ answer T m → T ≡ application_typ S V G B h rest
  application_typed h rest B n l T m e =
      let (F, i, is, more) = answered (inferred S V G h n) _ T m (applied_along h rest n ∙ e) in
      let (k, ks) = raised n B F i (inferred_counts S V G h) l is in
      let il : i < suc n = along_path (Within (suc n)) is ((inferred_counts S V G h).falls n) in
      typ_along B rest F i (omega arith) T m more ∙ flip (ap (λ y. where_answered y (applied_typ S V G B rest) h) ks)
