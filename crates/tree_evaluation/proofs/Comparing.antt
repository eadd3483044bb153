-- The comparison of two weak head forms part by part, and where the steps of two terms meet.
use Rattle.std.proofs.Common.{List, [], ◌∷◌, ◌++◌, ◌≡◌, ℕ, true, false, Bool, Option, Some, None, refl, ap, ◌∙◌, if◌then◌else◌, subst as along, sym as flip, IfSome}
use Rattle.dk_model.specs.Trees.{apply, product, bare}
use Rattle.dk_model.specs.Signatures.{PlainSignature}
use Rattle.dk_model.specs.Units.{Units, bind}
use Rattle.dk_model.specs.Spines.{pairs_of, body_of}
use Rattle.told_steps.proofs.Folding.{bare_is}
use Rattle.dk_model.specs.Parts.{each_same}
use Rattle.dk_model.specs.Evaluation.{comparison_of}
use Rattle.dk_model.specs.Equations.{heads_compared}
use Rattle.dk_model.specs.Substitution.{equal}
use Rattle.typing_model.proofs.Evaluation.{equal_trees}
use Rattle.told_steps.specs.Meetings.{MeetIn, AlwaysMeetIn, MeetAround, MeetTogether}
use Rattle.tree_evaluation.specs.Views.{Meeting, Tree}

module _ (S : PlainSignature) where
  -- the pair `a`, `b` behind others whose comparison gave `x`
  abbrev pub behind : Tree → Tree → Units Bool → Units Bool
  behind a b x = bind x (λ alike n. if alike then comparison_of S n a b else Some (false, n))

  alone : (x : Units Bool) → bind x (λ alike n. if alike then Some (true, n) else Some (false, n)) ≡ x
  alone None = refl
  alone (Some (true, m)) = refl
  alone (Some (false, m)) = refl

  pub bodies_due : (t u b c : Tree) (n : ℕ) → t ≡ bare b → u ≡ bare c → heads_compared S t u n ≡ comparison_of S n b c
  bodies_due t u b c n e q = ap (λ (x : Tree). heads_compared S x u n) e ∙ ap (λ (y : Tree). heads_compared S (bare b) y n) q ∙ alone (comparison_of S n b c)

  -- an abstraction without annotation, by its body
  pub with_body : (t b : Tree) → body_of t ≡ Some b → t ≡ bare b
  with_body t b e = bare_is t b e

  behind_more : (a b : Tree) (ps : List (Tree × Tree)) (x : Units Bool) → ((n : ℕ) → each_same (comparison_of S) (ps ++ ((a, b) ∷ [])) n ≡ behind a b (each_same (comparison_of S) ps n))
      → bind x (λ alike n. if alike then each_same (comparison_of S) (ps ++ ((a, b) ∷ [])) n else Some (false, n))
      ≡ behind a b (bind x (λ alike n. if alike then each_same (comparison_of S) ps n else Some (false, n)))
  behind_more a b ps None h = refl
  behind_more a b ps (Some (true, n)) h = h n
  behind_more a b ps (Some (false, n)) h = refl

  one_behind : (a b : Tree) (ps : List (Tree × Tree)) (n : ℕ) → each_same (comparison_of S) (ps ++ ((a, b) ∷ [])) n ≡ behind a b (each_same (comparison_of S) ps n)
  one_behind a b [] n = alone (comparison_of S n a b)
  one_behind a b (p ∷ ps) n = behind_more a b ps (comparison_of S n p.0 p.1) (one_behind a b ps)

  last_behind : (a b : Tree) (o : Option (List (Tree × Tree))) (n : ℕ)
      → elim (elim o as (λ _. Option (List (Tree × Tree))) [ None ↦ None | Some ps ↦ Some (ps ++ ((a, b) ∷ [])) ]) as (λ _. Units Bool) [ None ↦ Some (false, n) | Some ps ↦ each_same (comparison_of S) ps n ]
      ≡ behind a b (elim o as (λ _. Units Bool) [ None ↦ Some (false, n) | Some ps ↦ each_same (comparison_of S) ps n ])
  last_behind a b None n = refl
  last_behind a b (Some ps) n = one_behind a b ps n

  -- the last argument behind the others
  pub arguments_compared : (f g a b : Tree) (n : ℕ) → heads_compared S (apply f a) (apply g b) n ≡ behind a b (heads_compared S f g n)
  arguments_compared f g a b n = last_behind a b (pairs_of f g) n

  -- the codomain behind its domain
  pub products_compared : (a b c d : Tree) (n : ℕ) → heads_compared S (product a b) (product c d) n ≡ behind b d (comparison_of S n a c)
  products_compared a b c d n = one_behind b d ((a, c) ∷ []) n ∙ ap (behind b d) (alone (comparison_of S n a c))

-- ---- where steps meet

module _ (S : PlainSignature) where
  pub equal_meet : (t u : Tree) (met : Meeting) → equal t u ≡ true → AlwaysMeetIn t t met → MeetIn S t u met
  equal_meet t u met e h = along (λ (v : Tree). MeetIn S t v met) (equal_trees t u e) (h S)

  some_met : (t u : Tree) (o : Option Meeting) (part : Meeting) → o ≡ Some part → IfSome o (MeetIn S t u) → MeetIn S t u part
  some_met t u o part e h = along (λ (x : Option Meeting). IfSome x (MeetIn S t u)) e h

  -- two terms whose one part meets
  pub meet_around : (node : Tree → Tree) (t u b c : Tree) (o : Option Meeting) (part met : Meeting) → t ≡ node b → u ≡ node c
      → o ≡ Some part → IfSome o (MeetIn S b c) → MeetAround node part met → MeetIn S t u met
  meet_around node t u b c o part met e q i h m =
      along (λ (x : Tree). MeetIn S x u met) (flip e) (along (λ (y : Tree). MeetIn S (node b) y met) (flip q) (m S b c (some_met b c o part i h)))

  -- and whose two parts do
  pub meet_together : (node : Tree → Tree → Tree) (t u f a g b : Tree) (o p : Option Meeting) (first second met : Meeting) → t ≡ node f a → u ≡ node g b
      → o ≡ Some first → p ≡ Some second → IfSome o (MeetIn S f g) → IfSome p (MeetIn S a b) → MeetTogether node first second met → MeetIn S t u met
  meet_together node t u f a g b o p first second met e q i j h k m =
      along (λ (x : Tree). MeetIn S x u met) (flip e)
      (along (λ (y : Tree). MeetIn S (node f a) y met) (flip q) (m S f g a b (some_met f g o first i h) (some_met a b p second j k)))
