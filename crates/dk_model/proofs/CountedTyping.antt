-- Typing takes the same units whatever it is given: with fewer it comes to the same, or they do not suffice. So it is over
-- any evaluation of which that holds.
use Rattle.std.specs.Prelude.{length}
use Rattle.std.proofs.Common.{List, [], ◌∷◌, ◌++◌, ℕ, zero, suc, ◌≡◌, ◌<◌, ◌≤◌, ◌+◌, ◌-◌, Bool, true, false, nat_lt, Option, Some, None, Result, Ok, Err, refl, ap, sym as flip, ◌∙◌, arith, if◌then◌else◌}
use Rattle.std.proofs.lemmas.Bool.Decides.{nat_tests}
use Rattle.dk_model.specs.Trees.{Tree}
use Rattle.dk_model.specs.Signatures.{PlainSignature}
use Rattle.dk_model.specs.Scoping.{PlainAsked, typed, alike, type_of, value_of, PlainFound, no, PlainCommand, query}
use Rattle.dk_model.specs.Units.{Units}
use Rattle.dk_model.specs.TypingOver.{Evaluator, answer, refused, ended, after, next, agreed, as_product, inferred, checked}
use Rattle.dk_model.specs.CommandTypingOver.{or_no, found_by, command_checked}
use Rattle.dk_model.specs.Typing.{Judged, by_units}
use Rattle.dk_model.specs.Verdicts.{verdict, verdict_of}
use Rattle.dk_model.specs.Bindings.{Bindings, under, bound}
use Rattle.dk_model.specs.Solving.{Solver, Equation, binds, parts, clash, nothing, equation_of, each_solved, equation_solved, heads_solved, unless_same, solved_with, solved}
use Rattle.dk_model.specs.declared.code.Code.{Code}
use Rattle.dk_model.specs.declared.code.Code.TheVariants.{E34}
use Rattle.dk_model.specs.declared.code.Verdict.{Verdict}
use Rattle.dk_model.specs.declared.code.Verdict.TheVariants.{Ended}
use Rattle.dk_model.proofs.Counting as evaluation
use Rattle.dk_model.proofs.Fuel as fuel
use Rattle.dk_model.proofs.Solving.{solved_alike}
use Rattle.dk_model.proofs.RelatedTyping.{IsRespected, as_product_related, inferred_related, checked_related, asked_related, command_related}

-- the same with `d` units fewer left, or the end where there are fewer
abbrev pub lowered : {A : Type 0} → ℕ → Judged A → Judged A
lowered d (answer a n) = if nat_lt n d then ended else answer a (n - d)
lowered d (refused c n) = if nat_lt n d then ended else refused c (n - d)
lowered d ended = ended

-- fewer than so many units are left
abbrev pub Within : {A : Type 0} → ℕ → Judged A → Type 0
Within b (answer a n) = n < b
Within b (refused c n) = n < b
Within b ended = Unit {0}

-- a computation that takes the same units whatever it is given, and leaves no more than that
pub record Counts {A : Type 0} (F : ℕ → Judged A) : Type 0 where
  pub lowers : (n d : ℕ) → F n ≡ lowered d (F (n + d))
  pub falls : (n : ℕ) → Within (suc n) (F n)

pub too_few : {A : Type 0} (a d : ℕ) (x y : Judged A) → a < d → (if nat_lt a d then x else y) ≡ x
too_few a d x y l = grind (arith, nat_tests)

pub enough : {A : Type 0} (a d : ℕ) (x y : Judged A) → d ≤ a → (if nat_lt a d then x else y) ≡ y
enough a d x y l = grind (arith, nat_tests)

gone : {A : Type 0} (d : ℕ) (y : Judged A) → Within d y → lowered d y ≡ ended
gone d (answer a n) w = too_few n d ended (answer a (n - d)) w
gone d (refused c n) w = too_few n d ended (refused c (n - d)) w
gone d ended w = refl

within_more : {A : Type 0} (b d : ℕ) (x : Judged A) → b ≤ d → Within b x → Within d x
within_more b d (answer a n) le h = omega arith
within_more b d (refused c n) le h = omega arith
within_more b d ended le h = tt

pub below_or_from : (a d : ℕ) (C : Type 0) → (a < d → C) → (d ≤ a → C) → C
below_or_from a d C f g = by (nat_lt a d) refl
  where
    by : (b : Bool) → nat_lt a d ≡ b → C
    by true e = f (grind (arith, nat_tests))
    by false e = g (grind (arith, nat_tests))

pub counts_answer : {A : Type 0} (a : A) → Counts {A = A} (λ n. answer a n)
counts_answer a = record {
  lowers = λ n d. ap (λ k. answer a k) (let e : n ≡ n + d - d = omega arith in e) ∙ flip (enough (n + d) d ended (answer a (n + d - d)) (omega arith));
  falls = λ n. omega arith;
}

pub counts_refused : {A : Type 0} (c : Code) → Counts {A = A} (λ n. refused c n)
counts_refused c = record {
  lowers = λ n d. ap (λ k. refused c k) (let e : n ≡ n + d - d = omega arith in e) ∙ flip (enough (n + d) d ended (refused c (n + d - d)) (omega arith));
  falls = λ n. omega arith;
}

counts_ended : {A : Type 0} → Counts {A = A} (λ n. ended)
counts_ended = record { lowers = λ n d. refl; falls = λ n. tt }

next_lowered : {A B : Type 0} (d : ℕ) (y : Judged A) (f : A → ℕ → Judged B) → ((a : A) → Counts (f a)) → next (lowered d y) f ≡ lowered d (next y f)
next_lowered d ended f c = refl
next_lowered {A} {B} d (refused x n) f c = below_or_from n d (next (lowered d (refused x n)) f ≡ lowered d (refused x n))
    (λ l. ap (λ y. next y f) (too_few n d ended (refused x (n - d)) l) ∙ flip (too_few n d ended (refused x (n - d)) l))
    (λ l. ap (λ y. next y f) (enough n d ended (refused x (n - d)) l) ∙ flip (enough n d ended (refused x (n - d)) l))
next_lowered {A} {B} d (answer a n) f c = below_or_from n d (next (lowered d (answer a n)) f ≡ lowered d (f a n))
    (λ l. ap (λ y. next y f) (too_few n d ended (answer a (n - d)) l) ∙ flip (gone d (f a n) (within_more (suc n) d (f a n) (omega arith) ((c a).falls n))))
    (λ l. ap (λ y. next y f) (enough n d ended (answer a (n - d)) l) ∙ (c a).lowers (n - d) d
    ∙ ap (λ k. lowered d (f a k)) (let e : n - d + d ≡ n = omega arith in e))

next_falls : {A B : Type 0} (n : ℕ) (y : Judged A) (f : A → ℕ → Judged B) → Within (suc n) y → ((a : A) → Counts (f a)) → Within (suc n) (next y f)
next_falls n ended f w c = tt
next_falls n (refused x m) f w c = w
next_falls n (answer a m) f w c = within_more (suc m) (suc n) (f a m) (omega arith) ((c a).falls m)

pub counts_next : {A B : Type 0} {F : ℕ → Judged A} {f : A → ℕ → Judged B} → Counts F → ((a : A) → Counts (f a)) → Counts (λ n. next (F n) f)
counts_next {A} {B} {F} {f} h c = record {
  lowers = λ n d. ap (λ y. next y f) (h.lowers n d) ∙ next_lowered d (F (n + d)) f c;
  falls = λ n. next_falls n (F n) f (h.falls n) c;
}

after_lowered : {A B : Type 0} (d : ℕ) (y : Units A) (f : A → ℕ → Judged B) → ((a : A) → Counts (f a)) → after (evaluation.lowered d y) f ≡ lowered d (after y f)
after_lowered d None f c = refl
after_lowered {A} {B} d (Some p) f c = below_or_from p.1 d (after (evaluation.lowered d (Some p)) f ≡ lowered d (f p.0 p.1))
    (λ l. ap (λ y. after y f) (fewer p l) ∙ flip (gone d (f p.0 p.1) (within_more (suc p.1) d (f p.0 p.1) (omega arith) ((c p.0).falls p.1))))
    (λ l. ap (λ y. after y f) (more p l) ∙ (c p.0).lowers (p.1 - d) d
    ∙ ap (λ k. lowered d (f p.0 k)) (let e : p.1 - d + d ≡ p.1 = omega arith in e))
  where
    fewer : (p : A × ℕ) → p.1 < d → evaluation.lowered d (Some p) ≡ None
    fewer p l = grind (arith, nat_tests)

    more : (p : A × ℕ) → d ≤ p.1 → evaluation.lowered d (Some p) ≡ Some (p.0, p.1 - d)
    more p l = grind (arith, nat_tests)

after_falls : {A B : Type 0} (n : ℕ) (y : Units A) (f : A → ℕ → Judged B) → fuel.Within (suc n) y → ((a : A) → Counts (f a)) → Within (suc n) (after y f)
after_falls n None f w c = tt
after_falls n (Some p) f w c = within_more (suc p.1) (suc n) (f p.0 p.1) (omega arith) ((c p.0).falls p.1)

counts_after : {A B : Type 0} {F : ℕ → Units A} {f : A → ℕ → Judged B} → evaluation.Counts F → ((a : A) → Counts (f a)) → Counts (λ n. after (F n) f)
counts_after {A} {B} {F} {f} h c = record {
  lowers = λ n d. ap (λ y. after y f) (h.lowers n d) ∙ after_lowered d (F (n + d)) f c;
  falls = λ n. after_falls n (F n) f (h.falls n) c;
}

agreed_counts : (c : Code) (b : Bool) → Counts (agreed c b)
agreed_counts c true = counts_answer tt
agreed_counts c false = counts_refused c

-- ---- queries: the answer no leaves as many units as the refusal

or_no_lowered : (d : ℕ) (y : Judged PlainFound) → or_no (lowered d y) ≡ lowered d (or_no y)
or_no_lowered d ended = refl
or_no_lowered d (answer f n) = below_or_from n d (or_no (lowered d (answer f n)) ≡ lowered d (answer f n))
    (λ l. ap or_no (too_few n d ended (answer f (n - d)) l) ∙ flip (too_few n d ended (answer f (n - d)) l))
    (λ l. ap or_no (enough n d ended (answer f (n - d)) l) ∙ flip (enough n d ended (answer f (n - d)) l))
or_no_lowered d (refused c n) = below_or_from n d (or_no (lowered d (refused c n)) ≡ lowered d (answer no n))
    (λ l. ap or_no (too_few n d ended (refused c (n - d)) l) ∙ flip (too_few n d ended (answer no (n - d)) l))
    (λ l. ap or_no (enough n d ended (refused c (n - d)) l) ∙ flip (enough n d ended (answer no (n - d)) l))

or_no_falls : (b : ℕ) (y : Judged PlainFound) → Within b y → Within b (or_no y)
or_no_falls b ended w = tt
or_no_falls b (answer f n) w = w
or_no_falls b (refused c n) w = w

or_no_counts : {F : ℕ → Judged PlainFound} → Counts F → Counts (λ n. or_no (F n))
or_no_counts {F} h = record {
  lowers = λ n d. ap or_no (h.lowers n d) ∙ or_no_lowered d (F (n + d));
  falls = λ n. or_no_falls (suc n) (F n) (h.falls n);
}

found_counts : {F : ℕ → Judged PlainFound} (demand : Bool) (a : PlainAsked) → Counts F → Counts (λ n. found_by demand a (F n))
found_counts true a h = h
found_counts false (typed t A) h = or_no_counts h
found_counts false (alike t u) h = or_no_counts h
found_counts false (type_of t) h = h
found_counts false (value_of t) h = h

-- ---- solving

abbrev SolverCounts : Solver → Type 0
SolverCounts Q = (s : Bindings) (t u : Tree) → Counts (Q s t u)

module _ (S : PlainSignature) where
  module _ (Q : Solver) (h : SolverCounts Q) where
    each_counts : (ps : List (Tree × Tree)) (s : Bindings) → Counts (each_solved Q ps s)
    each_counts [] s = counts_answer s
    each_counts (p ∷ ps) s = counts_next (h s p.0 p.1) (λ r. each_counts ps r)

    equation_counts : (s : Bindings) (e : Equation) → Counts (equation_solved Q s e)
    equation_counts s (binds k u) = counts_answer (bound s k u)
    equation_counts s (parts ps) = each_counts ps s
    equation_counts s clash = counts_refused E34
    equation_counts s nothing = counts_answer s

    heads_count : SolverCounts (heads_solved S Q)
    heads_count s t u = counts_after (evaluation.whnf_counts S (under s t)) (λ v. counts_after (evaluation.whnf_counts S (under s u)) (λ w. equation_counts s (equation_of S (under s v) (under s w))))

    unless_counts : (s : Bindings) (t u : Tree) (same : Bool) → Counts (λ n. unless_same (heads_solved S Q s t u n) s same n)
    unless_counts s t u true = counts_answer s
    unless_counts s t u false = heads_count s t u

  with_counts : (f : ℕ) → SolverCounts (solved_with f S)
  with_counts zero s t u = counts_ended
  with_counts (suc f) s t u = counts_after (evaluation.comparison_counts S (under s t) (under s u)) (unless_counts (solved_with f S) (with_counts f) s t u)

  solved_counts : SolverCounts (solved S)
  solved_counts s t u = record {
    lowers = λ n d. (solved_alike S n (n + d) n s t u (omega arith) (omega arith)).0 ∙ (with_counts (n + d) s t u).lowers n d;
    falls = λ n. (with_counts n s t u).falls n;
  }

-- an evaluation of which it holds
pub record EvaluatorCounts (E : Evaluator ℕ) : Type 0 where
  pub whnf : (t : Tree) → evaluation.Counts (λ n. E.whnf n t)
  pub same : (t u : Tree) → evaluation.Counts (λ n. E.same n t u)
  pub normal : (t : Tree) → evaluation.Counts (λ n. E.normal n t)
  pub solve : (s : Bindings) (t u : Tree) → Counts (λ n. E.solve n s t u)

abbrev OfFirst : (A : Type 0) → (ℕ → Judged A) → (ℕ → Judged A) → Type 0
OfFirst A f g = Counts f

module _ (E : Evaluator ℕ) (K : EvaluatorCounts E) where
  typing_counts : IsRespected OfFirst E E
  typing_counts = record {
    answers = λ A a. counts_answer a;
    refuses = λ A c. counts_refused c;
    goes_on = λ A B f g h k x y. counts_next x y;
    whnf = λ B t h k y. counts_after (K.whnf t) y;
    normal = λ B t h k y. counts_after (K.normal t) y;
    same = λ c t u. counts_after (K.same t u) (agreed_counts c);
  }

  pub as_product_counts : (c : Code) (T : Tree) → Counts (as_product E c T)
  as_product_counts c T = as_product_related OfFirst E E typing_counts c T

  pub inferred_counts : (S : PlainSignature) (V G : List Tree) (t : Tree) → Counts (inferred E S V G t)
  inferred_counts S V G t = inferred_related OfFirst E E typing_counts S V G t

  pub checked_counts : (S : PlainSignature) (V G : List Tree) (t T : Tree) → Counts (checked E S V G t T)
  checked_counts S V G t T = checked_related OfFirst E E typing_counts S V G t T

  query_counts : (S : PlainSignature) (demand : Bool) (a : PlainAsked) → Counts (command_checked E S (query demand a))
  query_counts S demand a = counts_next (found_counts demand a (asked_related OfFirst E E typing_counts S a)) (λ f. counts_answer tt)

  pub command_counts : (S : PlainSignature) (c : PlainCommand) → Counts (command_checked E S c)
  command_counts S c = command_related OfFirst E E typing_counts K.solve S (query_counts S) c

-- evaluation with units
pub units_count : (S : PlainSignature) → EvaluatorCounts (by_units S)
units_count S = record { whnf = evaluation.whnf_counts S; same = evaluation.comparison_counts S; normal = evaluation.normal_counts S; solve = solved_counts S }

abbrev of_judged : Judged (Unit {0}) → Verdict
of_judged x = verdict x

lowered_verdict : (d : ℕ) (y : Judged (Unit {0})) → ¬ (of_judged (lowered d y) ≡ Ended) → of_judged y ≡ of_judged (lowered d y)
lowered_verdict d ended k = refl
lowered_verdict d (answer a n) k = below_or_from n d (of_judged (answer a n) ≡ of_judged (lowered d (answer a n)))
    (λ l. absurd (k (ap of_judged (too_few n d ended (answer a (n - d)) l)))) (λ l. ap of_judged (flip (enough n d ended (answer a (n - d)) l)))
lowered_verdict d (refused c n) k = below_or_from n d (of_judged (refused c n) ≡ of_judged (lowered d (refused c n)))
    (λ l. absurd (k (ap of_judged (too_few n d ended (refused c (n - d)) l)))) (λ l. ap of_judged (flip (enough n d ended (refused c (n - d)) l)))

-- a verdict other than `Ended` is that of each larger budget too
pub larger_budget : (S : PlainSignature) (c : PlainCommand) (n m : ℕ) → n ≤ m → ¬ (verdict_of S c n ≡ Ended) → verdict_of S c m ≡ verdict_of S c n
larger_budget S c n m le k =
    let F : ℕ → Judged (Unit {0}) = command_checked (by_units S) S c in
    let e : F n ≡ lowered (m - n) (F m) = (command_counts (by_units S) (units_count S) S c).lowers n (m - n) ∙ ap (λ i. lowered (m - n) (F i)) (let f : n + (m - n) ≡ m = omega arith in f) in
    lowered_verdict (m - n) (F m) (λ h. k (ap of_judged e ∙ h)) ∙ ap of_judged (flip e)
