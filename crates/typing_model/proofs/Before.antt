-- What is accepted without binding a rule variable is accepted, with the same units: each comparison says yes.
use Rattle.std.proofs.Common.{Option, ℕ, ◌≡◌, ◌∙◌, Bool, true, false, refl, ap, sym as flip, None, Some}
use Rattle.dk_model.specs.Trees.{Tree}
use Rattle.dk_model.specs.Signatures.{PlainSignature}
use Rattle.dk_model.specs.Evaluation.{whnf_of, comparison_of, normal_of}
use Rattle.dk_model.specs.Bindings.{Bindings, under}
use Rattle.dk_model.specs.Scoping.{PlainAsked, PlainFound, query}
use Rattle.dk_model.specs.TypingOver.{agreed, answer, refused, ended, after, next}
use Rattle.dk_model.specs.CommandTypingOver.{found_by, command_checked}
use Rattle.dk_model.specs.Solving.{solved, heads_solved, unless_same}
use Rattle.dk_model.specs.Typing.{Judged, by_units}
use Rattle.dk_model.specs.declared.code.Code.TheVariants.{E34}
use Rattle.dk_model.proofs.Solving.{solved_is}
use Rattle.dk_model.proofs.RelatedTyping.{IsRespected, asked_related, command_related}
use Rattle.typing_model.specs.Laws.{by_conversion, StaysAccepted}
use Rattle.typing_model.proofs.Typing.{from_after, from_next}

-- what the one answers the other does
abbrev Answers : (A : Type 0) → (ℕ → Judged A) → (ℕ → Judged A) → Type 0
Answers A f g = (n m : ℕ) (a : A) → f n ≡ answer a m → g n ≡ answer a m

-- the same answers, refusals and ends
abbrev Same : (A : Type 0) → (ℕ → Judged A) → (ℕ → Judged A) → Type 0
Same A f g = (n : ℕ) → f n ≡ g n

next_same : {A B : Type 0} (h k : A → ℕ → Judged B) → ((a : A) → Same B (h a) (k a)) → (x : Judged A) → next x h ≡ next x k
next_same h k y (answer a n) = y a n
next_same h k y (refused c n) = refl
next_same h k y ended = refl

after_same : {A B : Type 0} (h k : A → ℕ → Judged B) → ((a : A) → Same B (h a) (k a)) → (o : Option (A × ℕ)) → after o h ≡ after o k
after_same h k y None = refl
after_same h k y (Some p) = y p.0 p.1

convertible_is : (b : Bool) (n m : ℕ) (u : Unit {0}) → agreed E34 b n ≡ answer u m → (b ≡ true) × (n ≡ m)
convertible_is true n m u e = (refl, cc)
convertible_is false n m u e = cc

unless_yes : (x : Judged Bindings) (s : Bindings) (b : Bool) (n m : ℕ) → b ≡ true → n ≡ m → unless_same x s b n ≡ answer s m
unless_yes x s b n m e q = ap (λ y. unless_same x s y n) e ∙ ap (answer s) q

module _ (S : PlainSignature) where
  solve_answers : (s : Bindings) (t u : Tree) → Answers Bindings (λ n. (by_conversion S).solve n s t u) (λ n. (by_units S).solve n s t u)
  solve_answers s t u n m r e = from_next (solved S s t u n ≡ answer r m) (after (comparison_of S n (under s t) (under s u)) (agreed E34)) (λ v i. answer s i) r m e (λ v i e1 h.
      from_after (solved S s t u n ≡ answer r m) (comparison_of S n (under s t) (under s u)) (agreed E34) v i e1 (λ p e2 h'.
      let y : (p.0 ≡ true) × (p.1 ≡ i) = convertible_is p.0 p.1 i v h' in
      solved_is S n s t u ∙ ap (λ x. after x (λ same j. unless_same (heads_solved S (solved S) s t u j) s same j)) e2
      ∙ unless_yes (heads_solved S (solved S) s t u p.1) s p.0 p.1 i y.0 y.1 ∙ h))

  typing_answers : IsRespected Answers (by_conversion S) (by_units S)
  typing_answers = record {
    answers = λ A a n m b e. e;
    refuses = λ A c n m b e. e;
    goes_on = λ A B f g h k x y n m b e. from_next (next (g n) k ≡ answer b m) (f n) h b m e (λ a i e1 e2. ap (λ z. next z k) (x n i a e1) ∙ y a i m b e2);
    whnf = λ B t h k y n m b e. from_after (after (whnf_of S n t) k ≡ answer b m) (whnf_of S n t) h b m e (λ p e1 e2. ap (λ z. after z k) e1 ∙ y p.0 p.1 m b e2);
    normal = λ B t h k y n m b e. from_after (after (normal_of S n t) k ≡ answer b m) (normal_of S n t) h b m e (λ p e1 e2. ap (λ z. after z k) e1 ∙ y p.0 p.1 m b e2);
    same = λ c t u n m b e. e;
  }

  same_typing : IsRespected Same (by_conversion S) (by_units S)
  same_typing = record {
    answers = λ A a n. refl;
    refuses = λ A c n. refl;
    goes_on = λ A B f g h k x y n. ap (λ z. next z h) (x n) ∙ next_same h k y (g n);
    whnf = λ B t h k y n. after_same h k y (whnf_of S n t);
    normal = λ B t h k y n. after_same h k y (normal_of S n t);
    same = λ c t u n. refl;
  }

  -- a query solves no equation, so it is the same
  query_answers : (demand : Bool) (a : PlainAsked) → Answers (Unit {0}) (command_checked (by_conversion S) S (query demand a)) (command_checked (by_units S) S (query demand a))
  query_answers demand a n m u e =
      ap (λ (x : Judged PlainFound). next (found_by demand a x) (λ f i. answer tt i)) (flip (asked_related Same (by_conversion S) (by_units S) same_typing S a n)) ∙ e

  pub stays_accepted : StaysAccepted S
  stays_accepted c n m u e = command_related Answers (by_conversion S) (by_units S) typing_answers solve_answers S query_answers c n m u e
