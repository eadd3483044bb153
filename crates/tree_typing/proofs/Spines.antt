-- Inference along a spine.
use Rattle.std.proofs.Common.{List, [], ◌∷◌, ◌++◌, ◌≡◌, ◌+◌, ◌≤◌, ℕ, ap, refl, ◌∙◌, sym as flip, subst, arith}
use Rattle.std.specs.Borrow.{Bor}
use Rattle.dk_model.specs.Trees.{Tree, tree}
use Rattle.dk_model.specs.Signatures.{PlainSignature}
use Rattle.dk_model.specs.Winding.{wound, behind_references, size, total_size}
use Rattle.dk_model.specs.TypingOver.{Evaluator, JudgedIn, answer, refused, ended, next, inferred}
use Rattle.dk_model.specs.declared.term.Term.{Term}
use Rattle.dk_model.specs.declared.stop.TypeFault.{TypeFault}
use Rattle.dk_model.specs.declared.stop.TypeFault.TheVariants.{Refused, Ended, NoMemory}
use Rattle.dk_model.proofs.Winding.{references_total}
use Rattle.tree_typing.specs.Given.{Fails}
use Rattle.tree_typing.specs.Steps.{along, argument_type}
use Rattle.tree_typing.proofs.Steps.{next_next}

next_answer : {X A : Type 0} (x : JudgedIn X A) → next x answer ≡ x
next_answer (answer a n) = refl
next_answer (refused c n) = refl
next_answer ended = refl

fails_next : {X A B : Type 0} (f : TypeFault) (m : X) (x : JudgedIn X A) (g : A → X → JudgedIn X B) → Fails f x m → Fails f (next x g) m
fails_next (Refused c) m x g q = ap (λ y. next y g) q
fails_next Ended m x g q = ap (λ y. next y g) q
fails_next NoMemory m x g q = tt

fails_is : {X A : Type 0} (f : TypeFault) (m : X) (x y : JudgedIn X A) → x ≡ y → Fails f y m → Fails f x m
fails_is f m x y e = subst (λ z. Fails f z m) (flip e)

references_last : (rs : List (Bor Term)) (r : Bor Term) → behind_references (rs ++ r ∷ []) ≡ behind_references rs ++ tree r.now ∷ []
references_last [] r = refl
references_last (x ∷ rs) r = ap (λ (l : List Tree). tree x.now ∷ l) (references_last rs r)

module _ {X : Type 0} (E : Evaluator X) (S : PlainSignature) (V G : List Tree) where
  inferred_wound : (h : Tree) (xs : List Tree) (n : X) → inferred E S V G (wound h xs) n ≡ next (inferred E S V G h n) (along E S V G xs)
  inferred_wound h [] n = flip (next_answer (inferred E S V G h n))
  inferred_wound h (x ∷ xs) n =
      ap (λ y. next y (argument_type E S V G x)) (inferred_wound h xs n) ∙ next_next (inferred E S V G h n) (along E S V G xs) (argument_type E S V G x)

  pub head_fails : (f : TypeFault) (m : X) (h t : Tree) (xs : List Tree) (n : X) → wound h xs ≡ t → Fails f (inferred E S V G h n) m → Fails f (inferred E S V G t n) m
  head_fails f m h t xs n e q = fails_is f m _ _ (ap (λ u. inferred E S V G u n) (flip e) ∙ inferred_wound h xs n) (fails_next f m (inferred E S V G h n) (along E S V G xs) q)

  pub head_given : (h t F : Tree) (xs : List Tree) (n m : X) → wound h xs ≡ t → inferred E S V G h n ≡ answer F m → along E S V G xs F m ≡ inferred E S V G t n
  head_given h t F xs n m e q = flip (ap (λ u. inferred E S V G u n) (flip e) ∙ inferred_wound h xs n ∙ ap (λ y. next y (along E S V G xs)) q)

  along_pushed : (xs : List Tree) (x F : Tree) (n : X) → along E S V G (xs ++ x ∷ []) F n ≡ next (argument_type E S V G x F n) (along E S V G xs)
  along_pushed [] x F n = flip (next_answer (argument_type E S V G x F n))
  along_pushed (y ∷ xs) x F n =
      ap (λ z. next z (argument_type E S V G y)) (along_pushed xs x F n) ∙ next_next (argument_type E S V G x F n) (along E S V G xs) (argument_type E S V G y)

  along_last : (rs : List (Bor Term)) (r : Bor Term) (F : Tree) (n : X)
      → along E S V G (behind_references (rs ++ r ∷ [])) F n ≡ next (argument_type E S V G (tree r.now) F n) (along E S V G (behind_references rs))
  along_last rs r F n = ap (λ xs. along E S V G xs F n) (references_last rs r) ∙ along_pushed (behind_references rs) (tree r.now) F n

  pub argument_fails : (f : TypeFault) (m : X) (all rs : List (Bor Term)) (r : Bor Term) (F t : Tree) (n l : X) → all ≡ rs ++ r ∷ []
      → along E S V G (behind_references all) F n ≡ inferred E S V G t l → Fails f (argument_type E S V G (tree r.now) F n) m → Fails f (inferred E S V G t l) m
  argument_fails f m all rs r F t n l e s q =
      fails_is f m _ _ (flip s ∙ ap (λ ts. along E S V G (behind_references ts) F n) e ∙ along_last rs r F n) (fails_next f m (argument_type E S V G (tree r.now) F n) (along E S V G (behind_references rs)) q)

  pub argument_given : (all rs : List (Bor Term)) (r : Bor Term) (F T t : Tree) (n m l : X) → all ≡ rs ++ r ∷ []
      → along E S V G (behind_references all) F n ≡ inferred E S V G t l → argument_type E S V G (tree r.now) F n ≡ answer T m → along E S V G (behind_references rs) T m ≡ inferred E S V G t l
  argument_given all rs r F T t n m l e s q =
      flip (ap (λ y. next y (along E S V G (behind_references rs))) q) ∙ flip (along_last rs r F n) ∙ flip (ap (λ ts. along E S V G (behind_references ts) F n) e) ∙ s

-- sizes, by which typing ends

module _ (all rs : List (Bor Term)) (r : Bor Term) (n : ℕ) (e : all ≡ rs ++ r ∷ []) (h : total_size (behind_references all) ≤ n) where
  total_last : total_size (behind_references all) ≡ total_size (behind_references rs) + size (tree r.now)
  total_last = ap (λ ts. total_size (behind_references ts)) e ∙ references_total rs r

  pub last_smaller : size (tree r.now) ≤ n
  last_smaller = let q = total_last in omega (arith, q, h)

  pub others_smaller : total_size (behind_references rs) ≤ n
  others_smaller = let q = total_last in omega (arith, q, h)
