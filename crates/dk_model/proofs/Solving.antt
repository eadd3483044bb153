-- The rule of solving without fuel: each comparison takes a unit, so that no more fuel than units is asked for.
use Rattle.std.specs.Prelude.{Bool, true, false}
use Rattle.std.proofs.Common.{List, [], ◌∷◌, ℕ, zero, suc, ◌*◌, ◌≡◌, ◌<◌, ◌≤◌, Some, None, refl, ap, ◌∙◌, arith}
use Rattle.dk_model.specs.Trees.{Tree}
use Rattle.dk_model.specs.Signatures.{PlainSignature}
use Rattle.dk_model.specs.Units.{Units}
use Rattle.dk_model.specs.Evaluation.{whnf_of, comparison_of}
use Rattle.dk_model.specs.Bindings.{Bindings, under}
use Rattle.dk_model.specs.TypingOver.{answer, refused, ended, after, next}
use Rattle.dk_model.specs.Typing.{Judged}
use Rattle.dk_model.specs.Solving.{Solver, Equation, binds, parts, clash, nothing, equation_of, each_solved, equation_solved, heads_solved, unless_same, solved_with, solved}
use Rattle.dk_model.proofs.Fuel.{Within, agree}
use Rattle.dk_model.proofs.Turns.{whnf_falls}

-- no more units are left
abbrev pub Leaves : {A : Type 0} → ℕ → Judged A → Type 0
Leaves b (answer a m) = m ≤ b
Leaves b (refused c m) = m ≤ b
Leaves b ended = Unit {0}

abbrev Alike : {A : Type 0} → ℕ → Judged A → Judged A → Type 0
Alike b x y = (x ≡ y) × Leaves b x

next_alike : {A B : Type 0} (b : ℕ) (x y : Judged A) (g h : A → ℕ → Judged B) → Alike b x y → ((a : A) (m : ℕ) → m ≤ b → Alike b (g a m) (h a m)) → Alike b (next x g) (next y h)
next_alike b (answer a n) y g h s k = let i : Alike b (g a n) (h a n) = k a n s.1 in (i.0 ∙ ap (λ z. next z h) s.0, i.1)
next_alike b (refused e n) y g h s k = (ap (λ z. next z h) s.0, s.1)
next_alike b ended y g h s k = (ap (λ z. next z h) s.0, tt)

after_alike : {A B : Type 0} (b : ℕ) (x : Units A) (g h : A → ℕ → Judged B) → Within b x → ((a : A) (m : ℕ) → m < b → Alike b (g a m) (h a m)) → Alike b (after x g) (after x h)
after_alike b None g h s k = (refl, tt)
after_alike b (Some p) g h s k = k p.0 p.1 s

alike_more : {A : Type 0} (b c : ℕ) (x y : Judged A) → b ≤ c → Alike b x y → Alike c x y
alike_more b c (answer a m) y le s = (s.0, omega arith)
alike_more b c (refused e m) y le s = (s.0, omega arith)
alike_more b c ended y le s = s

-- the two solve alike with up to n units
abbrev AreAlike : ℕ → Solver → Solver → Type 0
AreAlike n Q P = (m : ℕ) (s : Bindings) (t u : Tree) → m ≤ n → Alike m (Q s t u m) (P s t u m)

module _ (S : PlainSignature) where
  pub comparison_falls : (n : ℕ) (t u : Tree) → Within n (comparison_of S n t u)
  comparison_falls n t u = ((agree S (2 * n) (2 * n)).on_comparison n t u (omega arith) (omega arith)).1

  module _ (n : ℕ) (Q P : Solver) (l : AreAlike n Q P) where
    each_alike : (ps : List (Tree × Tree)) (s : Bindings) (m : ℕ) → m ≤ n → Alike m (each_solved Q ps s m) (each_solved P ps s m)
    each_alike [] s m le = (refl, omega arith)
    each_alike (p ∷ ps) s m le = next_alike m (Q s p.0 p.1 m) (P s p.0 p.1 m) _ _ (l m s p.0 p.1 le)
        (λ r i lt. alike_more i m (each_solved Q ps r i) (each_solved P ps r i) lt (each_alike ps r i (omega arith)))

    equation_alike : (s : Bindings) (e : Equation) (m : ℕ) → m ≤ n → Alike m (equation_solved Q s e m) (equation_solved P s e m)
    equation_alike s (binds k u) m le = (refl, omega arith)
    equation_alike s (parts ps) m le = each_alike ps s m le
    equation_alike s clash m le = (refl, omega arith)
    equation_alike s nothing m le = (refl, omega arith)

    heads_alike : (s : Bindings) (t u : Tree) (m : ℕ) → m ≤ n → Alike m (heads_solved S Q s t u m) (heads_solved S P s t u m)
    heads_alike s t u m le = after_alike m (whnf_of S m (under s t)) _ _ (whnf_falls S m (under s t)) (λ v i lt.
        alike_more i m _ _ (omega arith) (after_alike i (whnf_of S i (under s u)) _ _ (whnf_falls S i (under s u)) (λ w j lt2.
        alike_more j i _ _ (omega arith) (equation_alike s (equation_of S (under s v) (under s w)) j (omega arith)))))

  unless_alike : (x y : Judged Bindings) (s : Bindings) (b : Bool) (m : ℕ) → Alike m x y → Alike m (unless_same x s b m) (unless_same y s b m)
  unless_alike x y s true m h = (refl, omega arith)
  unless_alike x y s false m h = h

  -- any two amounts of fuel that are enough give the same
  pub solved_alike : (f g n : ℕ) (s : Bindings) (t u : Tree) → n ≤ f → n ≤ g → Alike n (solved_with f S s t u n) (solved_with g S s t u n)
  solved_alike zero zero zero s t u p q = (refl, tt)
  solved_alike zero (suc g) zero s t u p q = (refl, tt)
  solved_alike (suc f) zero zero s t u p q = (refl, tt)
  solved_alike zero g (suc n) s t u p q = absurd (omega arith)
  solved_alike (suc f) zero (suc n) s t u p q = absurd (omega arith)
  solved_alike (suc f) (suc g) n s t u p q = after_alike n (comparison_of S n (under s t) (under s u)) _ _ (comparison_falls n (under s t) (under s u)) (λ b m lt.
      alike_more m n _ _ (omega arith) (unless_alike (heads_solved S (solved_with f S) s t u m) (heads_solved S (solved_with g S) s t u m) s b m
      (heads_alike m (solved_with f S) (solved_with g S) (λ i r v w le. solved_alike f g i r v w (omega arith) (omega arith)) s t u m (omega arith))))

  -- the rule of solving
  pub solved_is : (n : ℕ) (s : Bindings) (t u : Tree)
      → solved S s t u n ≡ after (comparison_of S n (under s t) (under s u)) (λ same m. unless_same (heads_solved S (solved S) s t u m) s same m)
  solved_is zero s t u = refl
  solved_is (suc f) s t u = (after_alike (suc f) (comparison_of S (suc f) (under s t) (under s u)) _ _ (comparison_falls (suc f) (under s t) (under s u)) (λ b m lt.
      alike_more m (suc f) _ _ (omega arith) (unless_alike (heads_solved S (solved_with f S) s t u m) (heads_solved S (solved S) s t u m) s b m
      (heads_alike m (solved_with f S) (solved S) (λ i r v w le. solved_alike f i i r v w (omega arith) (omega arith)) s t u m (omega arith))))).0

  pub solved_falls : (n : ℕ) (s : Bindings) (t u : Tree) → Leaves n (solved S s t u n)
  solved_falls n s t u = (solved_alike n n n s t u (omega arith) (omega arith)).1
