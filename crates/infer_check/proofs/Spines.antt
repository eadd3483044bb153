-- Inference along a spine.
use Rattle.std.proofs.Common.{List, [], ◌∷◌, ◌++◌, ◌≡◌, ◌+◌, ◌<◌, ◌≤◌, ℕ, map, ap, refl, ◌∙◌, sym as flip, subst, arith}
use Rattle.dk_model.specs.Trees.{Tree, star, kind, symbol, variable, rule_variable, apply, bare, annotated, product}
use Rattle.dk_model.specs.Signatures.{PlainSignature}
use Rattle.dk_model.specs.Typing.{answer, next, inferred, checked, application_type}
use Rattle.dk_model.specs.declared.stop.TypeFault.{TypeFault}
use Rattle.infer_check.specs.Given.{Fails}
use Rattle.infer_check.specs.Spine.{wound, size, total_size, along, argument_type}
use Rattle.infer_check.proofs.Judging.{next_next, next_answer, fails_next, fails_is}

module _ (S : PlainSignature) (V G : List Tree) where
  inferred_wound : (h : Tree) (xs : List Tree) (n : ℕ) → inferred S V G (wound h xs) n ≡ next (inferred S V G h n) (along S V G xs)
  inferred_wound h [] n = flip (next_answer (inferred S V G h n))
  inferred_wound h (x ∷ xs) n =
      ap (λ y. next y (application_type S (checked S V G x) x)) (inferred_wound h xs n)
      ∙ next_next (inferred S V G h n) (along S V G xs) (application_type S (checked S V G x) x)

  pub head_fails : (f : TypeFault) (spare : ℕ) (h t : Tree) (xs : List Tree) (n : ℕ) → wound h xs ≡ t → Fails f spare (inferred S V G h n) → Fails f spare (inferred S V G t n)
  head_fails f spare h t xs n e q = fails_is f spare _ _ (ap (λ u. inferred S V G u n) (flip e) ∙ inferred_wound h xs n) (fails_next f spare (inferred S V G h n) (along S V G xs) q)

  pub head_given : (h t F : Tree) (xs : List Tree) (n m : ℕ) → wound h xs ≡ t → inferred S V G h n ≡ answer F m → along S V G xs F m ≡ inferred S V G t n
  head_given h t F xs n m e q = flip (ap (λ u. inferred S V G u n) (flip e) ∙ inferred_wound h xs n ∙ ap (λ y. next y (along S V G xs)) q)

  along_pushed : (xs : List Tree) (x F : Tree) (n : ℕ)
      → along S V G (xs ++ (x ∷ [])) F n ≡ next (argument_type S V G x F n) (along S V G xs)
  along_pushed [] x F n = flip (next_answer (argument_type S V G x F n))
  along_pushed (y ∷ xs) x F n =
      ap (λ z. next z (application_type S (checked S V G y) y)) (along_pushed xs x F n)
      ∙ next_next (argument_type S V G x F n) (along S V G xs) (application_type S (checked S V G y) y)

  pub argument_fails : (f : TypeFault) (spare : ℕ) (xs : List Tree) (x F : Tree) (n : ℕ) → Fails f spare (argument_type S V G x F n)
      → Fails f spare (along S V G (xs ++ (x ∷ [])) F n)
  argument_fails f spare xs x F n q = fails_is f spare _ _ (along_pushed xs x F n) (fails_next f spare (argument_type S V G x F n) (along S V G xs) q)

  pub argument_given : (xs : List Tree) (x F T : Tree) (n m : ℕ) → argument_type S V G x F n ≡ answer T m
      → along S V G (xs ++ (x ∷ [])) F n ≡ along S V G xs T m
  argument_given xs x F T n m q = along_pushed xs x F n ∙ ap (λ y. next y (along S V G xs)) q

-- sizes, by which typing ends

pub map_pushed : {T : Type 0} (f : T → Tree) (ts : List T) (t : T) → map f (ts ++ (t ∷ [])) ≡ map f ts ++ (f t ∷ [])
map_pushed f [] t = refl
map_pushed f (x ∷ ts) t = ap (λ (l : List Tree). f x ∷ l) (map_pushed f ts t)

pub size_positive : (t : Tree) → 0 < size t
size_positive (apply f a) = omega arith
size_positive (bare b) = omega arith
size_positive (annotated d b) = omega arith
size_positive (product d b) = omega arith
size_positive star = omega arith
size_positive kind = omega arith
size_positive (symbol k) = omega arith
size_positive (variable k) = omega arith
size_positive (rule_variable k) = omega arith

size_wound : (h : Tree) (xs : List Tree) → size h + total_size xs ≤ size (wound h xs)
size_wound h [] = omega arith
size_wound h (x ∷ xs) = let q : size h + total_size xs ≤ size (wound h xs) = size_wound h xs in omega (arith, q)

pub spine_size : (h t : Tree) (xs : List Tree) → wound h xs ≡ t → size h + total_size xs ≤ size t
spine_size h t xs e = let P : Tree → Type 0 = λ u. size h + total_size xs ≤ size u in subst P e (size_wound h xs)

pub arguments_smaller : (h t : Tree) (xs : List Tree) → wound h xs ≡ t → total_size xs < size t
arguments_smaller h t xs e = let p : 0 < size h = size_positive h in let q : size h + total_size xs ≤ size t = spine_size h t xs e in omega (arith, p, q)
