-- What a typing comes to by its steps, each done with the whole budget.
use Rattle.std.proofs.Common.{List, [], ◌∷◌, ◌++◌, ℕ, suc, ◌≡◌, ◌<◌, ◌≤◌, ◌+◌, ◌-◌, refl, ap, sym as flip, subst as along_path, ◌∙◌, arith, Some, None}
use Rattle.std.proofs.lemmas.Bool.Decides.{nat_tests}
use Rattle.dk_model.specs.Trees.{Tree, star, kind, symbol, variable, rule_variable, apply, bare, annotated, product}
use Rattle.dk_model.specs.Units.{Units}
use Rattle.dk_model.specs.TypingOver.{the_star, a_sort, after}
use Rattle.dk_model.specs.declared.code.Code.TheVariants.{E21, E22}
use Rattle.dk_model.proofs.Counting as evaluation
use Rattle.dk_model.proofs.Fuel as fuel
use Rattle.shared_term.proofs.Unchanged.{shifted_none}
use Rattle.dk_model.specs.Signatures.{PlainSignature}
use Rattle.dk_model.specs.declared.code.Code.{Code}
use Rattle.dk_model.specs.Typing.{Judged, answer, refused, ended, next, as_product, as_star, as_convertible, inferred, checked, sort_of, by_units}
use Rattle.dk_model.proofs.CountedTyping.{lowered, Within, Counts, too_few, enough, below_or_from, units_count, counts_next, counts_answer, counts_refused}
use Rattle.dk_model.proofs.CountedTyping as counted
use Rattle.split_parts.specs.Parts.{part, combined, combined_behind, ended_with}
use Rattle.split_parts.specs.declared.part.PartResult.{PartResult}
use Rattle.split_parts.specs.declared.part.PartOut.TheVariants.{Fine, Refused}
use Rattle.split_parts.specs.declared.part.PartOut.TheVariants as out
use Rattle.split_parts.proofs.Combining.{behind_none, behind_over, behind_fine, behind_ended, behind_fault, behind_nothing}
use Rattle.split_check.specs.Steps.{and_then, Onward, Stops}

assoc : (xs ys zs : List PartResult) → (xs ++ ys) ++ zs ≡ xs ++ (ys ++ zs)
assoc [] ys zs = refl
assoc (x ∷ xs) ys zs = ap (λ l. x ∷ l) (assoc xs ys zs)

none_behind : (xs : List PartResult) → xs ++ [] ≡ xs
none_behind [] = refl
none_behind (x ∷ xs) = ap (λ l. x ∷ l) (none_behind xs)

and_then_next : {A C : Type 0} (T : ℕ) (x : Judged A) (g : A → ℕ → Judged C) (k : C → ℕ → PartResult) → and_then T (next x g) k ≡ and_then T x (λ a i. and_then T (g a i) k)
and_then_next T (answer a n) g k = refl
and_then_next T (refused c n) g k = refl
and_then_next T ended g k = refl

module _ {A : Type 0} (B : ℕ) where
  pub onward_none : (F : ℕ → Judged A) → Onward F B [] F
  onward_none F k n s T rest l e go = go n s (omega arith) e

  pub onward_then : (F G H : ℕ → Judged A) (ds es : List PartResult) → Onward F B ds G → Onward G B es H → Onward F B (ds ++ es) H
  onward_then F G H ds es p q k n s T rest l e go = ap (λ xs. combined_behind s xs T) (assoc ds es rest)
      ∙ p k n s T (es ++ rest) l e (λ i u il iu. q k i u T rest (omega arith) iu (λ j w jl jw. go j w (omega arith) jw))

  pub onward_stops : (F G : ℕ → Judged A) (ds es : List PartResult) → Onward F B ds G → Stops G B es → Stops F B (ds ++ es)
  onward_stops F G ds es p q k n s T rest l e = ap (λ xs. combined_behind s xs T) (assoc ds es rest)
      ∙ p k n s T (es ++ rest) l e (λ i u il iu. q k i u T rest (omega arith) iu)

  pub onward_alike : (F E G H : ℕ → Judged A) (ds : List PartResult) → ((n : ℕ) → E n ≡ F n) → ((n : ℕ) → G n ≡ H n) → Onward F B ds G → Onward E B ds H
  onward_alike F E G H ds f g p k n s T rest l e go = p k n s T rest l e (λ i u il iu. go i u il iu ∙ ap (λ x. and_then T x k) (flip (g i))) ∙ ap (λ x. and_then T x k) (flip (f n))

  pub stops_alike : (F E : ℕ → Judged A) (ds : List PartResult) → ((n : ℕ) → E n ≡ F n) → Stops F B ds → Stops E B ds
  stops_alike F E ds f p k n s T rest l e = p k n s T rest l e ∙ ap (λ x. and_then T x k) (flip (f n))

  pub onward_next : {C : Type 0} (F G : ℕ → Judged A) (ds : List PartResult) (g : A → ℕ → Judged C) → Onward F B ds G → Onward (λ n. next (F n) g) B ds (λ n. next (G n) g)
  onward_next F G ds g p k n s T rest l e go = p (λ a i. and_then T (g a i) k) n s T rest l e (λ i u il iu. go i u il iu ∙ and_then_next T (G i) g k)
      ∙ flip (and_then_next T (F n) g k)

  pub stops_next : {C : Type 0} (F : ℕ → Judged A) (ds : List PartResult) (g : A → ℕ → Judged C) → Stops F B ds → Stops (λ n. next (F n) g) B ds
  stops_next F ds g p k n s T rest l e = p (λ a i. and_then T (g a i) k) n s T rest l e ∙ flip (and_then_next T (F n) g k)

-- a run with fewer units, from one with more
at_fewer : {A : Type 0} {F : ℕ → Judged A} (n B : ℕ) (y : Judged A) → Counts F → n ≤ B → F B ≡ y → F n ≡ lowered (B - n) y
at_fewer {A} {F} n B y c l e = c.lowers n (B - n) ∙ ap (λ k. lowered (B - n) (F k)) (let f : n + (B - n) ≡ B = omega arith in f) ∙ ap (lowered (B - n)) e

left_within : {A : Type 0} {F : ℕ → Judged A} (B : ℕ) (y : Judged A) → Counts F → F B ≡ y → Within (suc B) y
left_within B y c e = along_path (Within (suc B)) e (c.falls B)

-- one step, and what is behind its answer
step : {A : Type 0} {F : ℕ → Judged A} (B n s T : ℕ) (k : A → ℕ → PartResult) (rest : List PartResult) → Counts F → n ≤ B → n + s ≡ T
    → ((a : A) (m : ℕ) → F B ≡ answer a m → (i u : ℕ) → i ≤ n → i + u ≡ T → combined_behind u rest T ≡ k a i)
    → combined_behind s (part B (F B) ∷ rest) T ≡ and_then T (F n) k
step {A} {F} B n s T k rest c le e go = by (F B) refl
  where
    by : (y : Judged A) → F B ≡ y → combined_behind s (part B y ∷ rest) T ≡ and_then T (F n) k
    by (answer a m) is = let w : m < suc B = left_within B (answer a m) c is in below_or_from m (B - n) (combined_behind s (part {A = A} B (answer a m) ∷ rest) T ≡ and_then T (F n) k)
        (λ l. behind_over s T (part {A = A} B (answer a m)) rest (omega arith) (omega arith)
        ∙ flip (ap (λ x. and_then T x k) (at_fewer n B (answer a m) c le is ∙ too_few m (B - n) ended (answer a (m - (B - n))) l)))
        (λ l. behind_fine s T (part {A = A} B (answer a m)) rest refl ∙ go a m is (m - (B - n)) (s + (B - m)) (omega arith) (omega arith)
        ∙ flip (ap (λ x. and_then T x k) (at_fewer n B (answer a m) c le is ∙ enough m (B - n) ended (answer a (m - (B - n))) l)))
    by (refused x m) is = let w : m < suc B = left_within B (refused x m) c is in below_or_from m (B - n) (combined_behind s (part {A = A} B (refused x m) ∷ rest) T ≡ and_then T (F n) k)
        (λ l. behind_over s T (part {A = A} B (refused x m)) rest (omega arith) (omega arith)
        ∙ flip (ap (λ x. and_then T x k) (at_fewer n B (refused x m) c le is ∙ too_few m (B - n) ended (refused x (m - (B - n))) l)))
        (λ l. behind_fault s T (part {A = A} B (refused x m)) rest (λ f. not_fine f) (λ f. not_ended f) (omega arith)
        ∙ ap (λ j. record { out = Refused x; units = j }) (let f : s + (B - m) ≡ T - (m - (B - n)) = omega arith in f)
        ∙ flip (ap (λ x. and_then T x k) (at_fewer n B (refused x m) c le is ∙ enough m (B - n) ended (refused x (m - (B - n))) l)))
      where
        not_fine : Refused x ≡ Fine → ⊥
        not_fine f = cc

        not_ended : Refused x ≡ out.Ended → ⊥
        not_ended f = cc
    by ended is = behind_ended s T (ended_with B) rest refl ∙ flip (ap (λ x. and_then T x k) (at_fewer n B ended c le is))

module _ {A : Type 0} {F : ℕ → Judged A} (B : ℕ) (c : Counts F) where
  -- a step that has an answer
  pub one_fine : (a : A) (m : ℕ) → F B ≡ answer a m → Onward F B (part B (answer a m) ∷ []) (answer a)
  one_fine a m is k n s T rest l e go = ap (λ y. combined_behind s (part B y ∷ rest) T) (flip is)
      ∙ step B n s T k rest c l e (λ b j js i u il iu. go i u il iu ∙ ap (λ x. k x i) (same (flip is ∙ js)))
    where
      same : {b : A} {j : ℕ} → answer a m ≡ answer b j → a ≡ b
      same f = cc

  -- a step that has none
  pub one_fault : (y : Judged A) → F B ≡ y → ((a : A) (m : ℕ) → y ≡ answer a m → ⊥) → Stops F B (part B y ∷ [])
  one_fault y is none k n s T rest l e = ap (λ x. combined_behind s (part B x ∷ rest) T) (flip is)
      ∙ step B n s T k rest c l e (λ a m js i u il iu. absurd (none a m (flip is ∙ js)))

-- a check, whatever it comes to
pub one_check : {F : ℕ → Judged (Unit {0})} (B : ℕ) → Counts F → Onward F B (part B (F B) ∷ []) (answer tt)
one_check B c k n s T rest l e go = step B n s T k rest c l e (λ a m js i u il iu. go i u il iu)

-- all steps together, where nothing is behind them

module _ {A : Type 0} (F : ℕ → Judged A) (B : ℕ) (ds : List PartResult) where
  same_part : (x : Judged A) → and_then B x (λ a i. record { out = Fine; units = B - i }) ≡ part B x
  same_part (answer a n) = refl
  same_part (refused c n) = refl
  same_part ended = refl

  alone : combined ds B ≡ combined_behind 0 (ds ++ []) B
  alone = behind_nothing ds B ∙ ap (λ xs. combined_behind 0 xs B) (flip (none_behind ds))

  pub all_onward : (a : A) → Onward F B ds (answer a) → combined ds B ≡ part B (F B)
  all_onward a p = alone ∙ p (λ b i. record { out = Fine; units = B - i }) B 0 B [] (omega arith) (omega arith)
      (λ i u il iu. behind_none u B (omega arith) ∙ ap (λ j. record { out = Fine; units = j }) (let f : u ≡ B - i = omega arith in f))
      ∙ same_part (F B)

  pub all_stops : Stops F B ds → combined ds B ≡ part B (F B)
  all_stops p = alone ∙ p (λ b i. record { out = Fine; units = B - i }) B 0 B [] (omega arith) (omega arith) ∙ same_part (F B)

-- each step takes the same units whatever it is given

the_star_counts : (t : Tree) → Counts (the_star t)
the_star_counts star = counts_answer tt
the_star_counts kind = counts_refused E22
the_star_counts (symbol k) = counts_refused E22
the_star_counts (variable k) = counts_refused E22
the_star_counts (rule_variable k) = counts_refused E22
the_star_counts (apply f a) = counts_refused E22
the_star_counts (bare b) = counts_refused E22
the_star_counts (annotated d b) = counts_refused E22
the_star_counts (product d b) = counts_refused E22

a_sort_counts : (t : Tree) → Counts (a_sort t)
a_sort_counts star = counts_answer star
a_sort_counts kind = counts_answer kind
a_sort_counts (symbol k) = counts_refused E22
a_sort_counts (variable k) = counts_refused E22
a_sort_counts (rule_variable k) = counts_refused E22
a_sort_counts (apply f a) = counts_refused E22
a_sort_counts (bare b) = counts_refused E22
a_sort_counts (annotated d b) = counts_refused E22
a_sort_counts (product d b) = counts_refused E22

-- behind an evaluation with fewer units

judged_more : {A : Type 0} (b d : ℕ) (x : Judged A) → b ≤ d → Within b x → Within d x
judged_more b d (answer a n) le h = omega arith
judged_more b d (refused c n) le h = omega arith
judged_more b d ended le h = tt

judged_gone : {A : Type 0} (d : ℕ) (y : Judged A) → Within d y → lowered d y ≡ ended
judged_gone d (answer a n) w = too_few n d ended (answer a (n - d)) w
judged_gone d (refused c n) w = too_few n d ended (refused c (n - d)) w
judged_gone d ended w = refl

module _ {A B : Type 0} (f : A → ℕ → Judged B) (c : (a : A) → Counts (f a)) where
  after_lowered : (d : ℕ) (y : Units A) → after (evaluation.lowered d y) f ≡ lowered d (after y f)
  after_lowered d None = refl
  after_lowered d (Some p) = below_or_from p.1 d (after (evaluation.lowered d (Some p)) f ≡ lowered d (f p.0 p.1))
      (λ l. ap (λ y. after y f) (fewer p l) ∙ flip (judged_gone d (f p.0 p.1) (judged_more (suc p.1) d (f p.0 p.1) (omega arith) ((c p.0).falls p.1))))
      (λ l. ap (λ y. after y f) (more p l) ∙ (c p.0).lowers (p.1 - d) d ∙ ap (λ k. lowered d (f p.0 k)) (let e : p.1 - d + d ≡ p.1 = omega arith in e))
    where
      fewer : (p : A × ℕ) → p.1 < d → evaluation.lowered d (Some p) ≡ None
      fewer p l = grind (arith, nat_tests)

      more : (p : A × ℕ) → d ≤ p.1 → evaluation.lowered d (Some p) ≡ Some (p.0, p.1 - d)
      more p l = grind (arith, nat_tests)

  after_falls : (n : ℕ) (y : Units A) → fuel.Within (suc n) y → Within (suc n) (after y f)
  after_falls n None w = tt
  after_falls n (Some p) w = judged_more (suc p.1) (suc n) (f p.0 p.1) (omega arith) ((c p.0).falls p.1)

  counts_after : {F : ℕ → Units A} → evaluation.Counts F → Counts (λ n. after (F n) f)
  counts_after {F} h = record {
    lowers = λ n d. ap (λ y. after y f) (h.lowers n d) ∙ after_lowered d (F (n + d));
    falls = λ n. after_falls n (F n) (h.falls n);
  }

module _ (S : PlainSignature) where
  pub product_counts : (c : Code) (T : Tree) → Counts (as_product S c T)
  product_counts c T = counted.as_product_counts (by_units S) (units_count S) c T

  pub type_counts : (V G : List Tree) (t : Tree) → Counts (inferred S V G t)
  type_counts V G t = counted.inferred_counts (by_units S) (units_count S) S V G t

  pub fit_counts : (V G : List Tree) (t T : Tree) → Counts (checked S V G t T)
  fit_counts V G t T = counted.checked_counts (by_units S) (units_count S) S V G t T

  pub same_counts : (U T : Tree) → Counts (as_convertible S E21 U T)
  same_counts U T = along_path (λ (X : Tree). Counts (as_convertible S E21 X T)) (shifted_none 0 U) (fit_counts (U ∷ []) [] (rule_variable 0) T)

  pub star_counts : (T : Tree) → Counts (as_star S T)
  star_counts T = counts_after the_star the_star_counts (evaluation.whnf_counts S T)

  pub sort_counts : (V G : List Tree) (t : Tree) → Counts (sort_of S V G t)
  sort_counts V G t = counts_next (type_counts V G t) (λ s. counts_after a_sort a_sort_counts (evaluation.whnf_counts S s))
