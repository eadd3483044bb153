-- An equation solved one after the other: with units, and by items.
use Rattle.std.specs.Prelude.{Bool, true, false, if◌then◌else◌}
use Rattle.std.proofs.Common.{List, [], ◌∷◌, ◌++◌, append-nil, append_assoc, ℕ, ◌≡◌, ◌<◌, Option, Some, None, refl, ap, ◌∙◌, sym as flip, subst as along, arith}
use Rattle.dk_model.specs.PlainTerms.{Tree}
use Rattle.dk_model.specs.PlainEntries.{PlainSignature}
use Rattle.dk_model.specs.Evaluation.{whnf_of, comparison_of}
use Rattle.dk_model.specs.Bindings.{Bindings, under, bound}
use Rattle.dk_model.specs.Solving.{Solver, Equation, binds, parts, clash, nothing, equation_of, each_solved, equation_solved, heads_solved, unless_same, solved}
use Rattle.dk_model.specs.TypingOver.{JudgedIn, answer, refused, ended, after, next}
use Rattle.dk_model.specs.declared.stop.TypeFault.{TypeFault}
use Rattle.dk_model.specs.declared.stop.TypeFault.TheVariants.{Refused, Ended, NoMemory}
use Rattle.dk_model.proofs.Fuel.{Within}
use Rattle.dk_model.proofs.Turns.{whnf_falls}
use Rattle.dk_model.proofs.Solving.{comparison_falls, solved_is}
use Rattle.checked_steps.specs.Items.{ItemWord, same_now, left_bound, right_bound, ItemSteps, Item, equation}
use Rattle.checked_steps.specs.Taken.{Solved, and_then, both_same, steps_taken, if_bound, is_left, word_taken, equation_taken}
use Rattle.checked_steps.specs.Checked.{solving_on, solutions_taken, next_solution}
use Rattle.checked_steps.proofs.Steps.{same_if}
use Rattle.checked_steps.proofs.Complete.{equal_itself}
use Rattle.tree_typing.specs.Given.{Fails}
use Rattle.told_items.specs.Equations.{replaced, by_heads, one_solved, sides_taken}

-- ---- computations behind one another

after_next : {X A B C : Type 0} (o : Option (A × X)) (g : A → X → JudgedIn X C) (h : A → X → JudgedIn X B) (k : B → X → JudgedIn X C)
    → ((a : A) (m : X) → g a m ≡ next (h a m) k) → after o g ≡ next (after o h) k
after_next None g h k e = refl
after_next (Some p) g h k e = e p.0 p.1

next_next : {X A B C : Type 0} (x : JudgedIn X A) (f : A → X → JudgedIn X B) (g : B → X → JudgedIn X C) → next (next x f) g ≡ next x (λ a m. next (f a m) g)
next_next (answer a n) f g = refl
next_next (refused c n) f g = refl
next_next ended f g = refl

next_alike : {X A B : Type 0} (x : JudgedIn X A) (f g : A → X → JudgedIn X B) → ((a : A) (m : X) → f a m ≡ g a m) → next x f ≡ next x g
next_alike (answer a n) f g e = e a n
next_alike (refused c n) f g e = refl
next_alike ended f g e = refl

answered_itself : {X A : Type 0} (x : JudgedIn X A) → next x (λ a m. answer a m) ≡ x
answered_itself (answer a n) = refl
answered_itself (refused c n) = refl
answered_itself ended = refl

fails_next : {X A B : Type 0} (f : TypeFault) (x : JudgedIn X A) (k : A → X → JudgedIn X B) (left : X) → Fails f x left → Fails f (next x k) left
fails_next (Refused c) x k left e = ap (λ y. next y k) e
fails_next Ended x k left e = ap (λ y. next y k) e
fails_next NoMemory x k left e = tt

-- ---- with units

each_append : (Q : Solver) (ps qs : List (Tree × Tree)) (s : Bindings) (n : ℕ) → each_solved Q (ps ++ qs) s n ≡ next (each_solved Q ps s n) (λ r m. each_solved Q qs r m)
each_append Q [] qs s n = refl
each_append Q (p ∷ ps) qs s n = next_alike (Q s p.0 p.1 n) _ _ (λ r m. each_append Q ps qs r m)
    ∙ flip (next_next (Q s p.0 p.1 n) (λ r m. each_solved Q ps r m) (λ r m. each_solved Q qs r m))

pub each_one : (Q : Solver) (s : Bindings) (t u : Tree) (n : ℕ) → each_solved Q ((t, u) ∷ []) s n ≡ Q s t u n
each_one Q s t u n = answered_itself (Q s t u n)

module _ (S : PlainSignature) where
  -- what is left of an equation once it is replaced
  abbrev rest_solved : Solved → ℕ → JudgedIn ℕ Bindings
  rest_solved q m = each_solved (solved S) q.1 q.0 m

  equation_one : (s : Bindings) (e : Equation) (n : ℕ) → equation_solved (solved S) s e n ≡ next (replaced s e n) rest_solved
  equation_one s (binds k u) n = refl
  equation_one s (parts ps) n = refl
  equation_one s clash n = refl
  equation_one s nothing n = refl

  heads_one : (s : Bindings) (t u : Tree) (n : ℕ) → heads_solved S (solved S) s t u n ≡ next (by_heads S s (under s t) (under s u) n) rest_solved
  heads_one s t u n = after_next (whnf_of S n (under s t)) _ _ rest_solved (λ v m. after_next (whnf_of S m (under s u)) _ _ rest_solved (λ w i. equation_one s (equation_of S (under s v) (under s w)) i))

  either_one : (s : Bindings) (t u : Tree) (same : Bool) (n : ℕ) → unless_same (heads_solved S (solved S) s t u n) s same n
      ≡ next (if same then answer (s, []) n else by_heads S s (under s t) (under s u) n) rest_solved
  either_one s t u true n = refl
  either_one s t u false n = heads_one s t u n

  solved_one : (s : Bindings) (t u : Tree) (n : ℕ) → solved S s t u n ≡ next (one_solved S s t u n) rest_solved
  solved_one s t u n = solved_is S n s t u ∙ after_next (comparison_of S n (under s t) (under s u)) _ _ rest_solved (λ same m. either_one s t u same m)

  each_next : (s : Bindings) (t u : Tree) (ps : List (Tree × Tree)) (n : ℕ)
      → each_solved (solved S) ((t, u) ∷ ps) s n ≡ next (one_solved S s t u n) (λ q m. each_solved (solved S) (q.1 ++ ps) q.0 m)
  each_next s t u ps n = ap (λ x. next x (λ r m. each_solved (solved S) ps r m)) (solved_one s t u n)
      ∙ next_next (one_solved S s t u n) rest_solved (λ r m. each_solved (solved S) ps r m)
      ∙ next_alike (one_solved S s t u n) _ _ (λ q m. flip (each_append (solved S) q.1 ps q.0 m))

  -- one equation is replaced, and the others stay
  pub each_goes : (s r : Bindings) (t u : Tree) (ps qs all : List (Tree × Tree)) (n m : ℕ) → one_solved S s t u n ≡ answer (r, qs) m → all ≡ qs ++ ps
      → each_solved (solved S) ((t, u) ∷ ps) s n ≡ each_solved (solved S) all r m
  each_goes s r t u ps qs all n m o e = each_next s t u ps n ∙ ap (λ y. next y (λ q i. each_solved (solved S) (q.1 ++ ps) q.0 i)) o
      ∙ ap (λ qs. each_solved (solved S) qs r m) (flip e)

  pub each_fails : (f : TypeFault) (s : Bindings) (t u : Tree) (ps : List (Tree × Tree)) (n m : ℕ) → Fails f (one_solved S s t u n) m → Fails f (each_solved (solved S) ((t, u) ∷ ps) s n) m
  each_fails f s t u ps n m o = along (λ (y : JudgedIn ℕ Bindings). Fails f y m) (flip (each_next s t u ps n))
      (fails_next f (one_solved S s t u n) (λ q i. each_solved (solved S) (q.1 ++ ps) q.0 i) m o)

  -- what is due, step by step
  pub all_begun : (s r : Bindings) (t u : Tree) (ps : List (Tree × Tree)) (n m : ℕ) → ps ≡ (t, u) ∷ [] → r ≡ s → n ≡ m → each_solved (solved S) ps r n ≡ solved S s t u m
  all_begun s r t u ps n m e f g = ap (λ z. each_solved (solved S) z r n) e ∙ ap (λ z. each_solved (solved S) ((t, u) ∷ []) z n) f ∙ ap (each_solved (solved S) ((t, u) ∷ []) s) g ∙ each_one (solved S) s t u m

  pub fails_further : (f : TypeFault) (x due : JudgedIn ℕ Bindings) (m : ℕ) → x ≡ due → Fails f x m → Fails f due m
  fails_further f x due m e = along (λ (y : JudgedIn ℕ Bindings). Fails f y m) e

  -- ---- fewer units are left

  abbrev LeavesFewer : {A : Type 0} → ℕ → JudgedIn ℕ A → Type 0
  LeavesFewer {A} n x = (a : A) (m : ℕ) → x ≡ answer a m → m < n

  after_fewer : {A B : Type 0} (n : ℕ) (o : Option (A × ℕ)) (g : A → ℕ → JudgedIn ℕ B) → Within n o → ((a : A) (m : ℕ) → m < n → LeavesFewer n (g a m)) → LeavesFewer n (after o g)
  after_fewer n None g w k a m e = cc
  after_fewer n (Some p) g w k a m e = k p.0 p.1 w a m e

  replaced_fewer : (s : Bindings) (e : Equation) (n i : ℕ) → i < n → LeavesFewer n (replaced s e i)
  replaced_fewer s (binds k u) n i l a m e = let q : i ≡ m = cc in omega arith
  replaced_fewer s (parts ps) n i l a m e = let q : i ≡ m = cc in omega arith
  replaced_fewer s clash n i l a m e = cc
  replaced_fewer s nothing n i l a m e = let q : i ≡ m = cc in omega arith

  heads_fewer : (s : Bindings) (t u : Tree) (n i : ℕ) → i < n → LeavesFewer n (by_heads S s t u i)
  heads_fewer s t u n i l a m e = let h : m < i = after_fewer i (whnf_of S i t) _ (whnf_falls S i t) (λ v j lt.
      (λ b k f. let g : k < j = after_fewer j (whnf_of S j u) _ (whnf_falls S j u) (λ w k2 lt2. replaced_fewer s (equation_of S (under s v) (under s w)) j k2 lt2) b k f in omega arith)) a m e in omega arith

  either_fewer : (s : Bindings) (t u : Tree) (same : Bool) (n i : ℕ) → i < n → LeavesFewer n (if same then answer (s, []) i else by_heads S s t u i)
  either_fewer s t u true n i l a m e = let q : i ≡ m = cc in omega arith
  either_fewer s t u false n i l a m e = heads_fewer s t u n i l a m e

  pub one_fewer : (s : Bindings) (t u : Tree) (q : Solved) (n m : ℕ) → one_solved S s t u n ≡ answer q m → m < n
  one_fewer s t u q n m e = after_fewer n (comparison_of S n (under s t) (under s u)) _ (comparison_falls S n (under s t) (under s u))
      (λ same i l. either_fewer s (under s t) (under s u) same n i l) q m e

  -- ---- by items

  pub bound_taken : (left : Bool) (s : Bindings) (v w : Tree) (k : ℕ) (x : Tree) → left ≡ is_left v w → binds k x ≡ equation_of S v w
      → word_taken S (if left then left_bound else right_bound) s v w ≡ Some (bound s k x, [])
  bound_taken true s v w k x l e = ap (λ b. if b then if_bound s (equation_of S v w) else None) (flip l) ∙ ap (if_bound s) (flip e)
  bound_taken false s v w k x l e = ap (λ b. if b then None else if_bound s (equation_of S v w)) (flip l) ∙ ap (if_bound s) (flip e)

  pub met_taken : (xs ys : ItemSteps) (s : Bindings) (t u : Tree) → both_same (steps_taken S xs (under s t)) (steps_taken S ys (under s u)) ≡ true
      → equation_taken S same_now xs ys s t u ≡ Some (s, [])
  met_taken xs ys s t u e = let i : (v : Tree) × (steps_taken S xs (under s t) ≡ Some v) × (steps_taken S ys (under s u) ≡ Some v) = same_if S (steps_taken S xs (under s t)) (steps_taken S ys (under s u)) e in
      ap (λ o. and_then o (λ a. and_then (steps_taken S ys (under s u)) (λ b. word_taken S same_now s (under s a) (under s b)))) i.1
      ∙ ap (λ o. and_then o (λ b. word_taken S same_now s (under s i.0) (under s b))) i.2
      ∙ ap (λ b. if b then Some (s, []) else None) (equal_itself (under s i.0))

  pub led_taken : (w : ItemWord) (xs ys : ItemSteps) (s : Bindings) (t u a b : Tree) (q : Solved) → steps_taken S xs t ≡ Some a → steps_taken S ys u ≡ Some b
      → word_taken S w s (under s a) (under s b) ≡ Some q → sides_taken S w xs ys s t u ≡ Some q
  led_taken w xs ys s t u a b q i j e = ap (λ o. and_then o (λ c. and_then (steps_taken S ys u) (λ d. word_taken S w s (under s c) (under s d)))) i
      ∙ ap (λ o. and_then o (λ d. word_taken S w s (under s a) (under s d))) j ∙ e

  -- one more item replaces one more equation
  pub items_go : (items new : List Item) (w : ItemWord) (xs ys : ItemSteps) (s r : Bindings) (t u : Tree) (ps qs all : List (Tree × Tree)) (due : List Item → JudgedIn (List Item) Bindings)
      → ((rest : List Item) → due (items ++ rest) ≡ solutions_taken S rest s ((t, u) ∷ ps))
      → new ≡ items ++ (equation w xs ys ∷ []) → equation_taken S w xs ys s t u ≡ Some (r, qs) → all ≡ qs ++ ps
      → (rest : List Item) → due (new ++ rest) ≡ solutions_taken S rest r all
  items_go items new w xs ys s r t u ps qs all due h e o a rest =
      ap (λ z. due (z ++ rest)) e ∙ ap due (append_assoc items (equation w xs ys ∷ []) rest) ∙ h (equation w xs ys ∷ rest)
      ∙ ap (λ z. solving_on z (λ b cs. solutions_taken S rest b (cs ++ ps))) o ∙ ap (solutions_taken S rest r) (flip a)

  pub items_begun : (items rest : List Item) (s r : Bindings) (t u : Tree) (ps : List (Tree × Tree)) → items ≡ [] → ps ≡ (t, u) ∷ [] → r ≡ s
      → next_solution S (items ++ rest) s t u ≡ solutions_taken S rest r ps
  items_begun items rest s r t u ps e f g = ap (λ z. next_solution S (z ++ rest) s t u) e ∙ ap (λ z. solutions_taken S rest z ((t, u) ∷ [])) (flip g) ∙ ap (solutions_taken S rest r) (flip f)

  pub items_end : (items : List Item) (s r : Bindings) (t u : Tree) (ps : List (Tree × Tree)) → ps ≡ [] → ((rest : List Item) → next_solution S (items ++ rest) s t u ≡ solutions_taken S rest r ps)
      → next_solution S items s t u ≡ answer r []
  items_end items s r t u ps e h = flip (ap (λ z. next_solution S z s t u) (append-nil items)) ∙ h [] ∙ ap (solutions_taken S [] r) e
