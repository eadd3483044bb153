-- Going through a term for the products that are written with a name.
use Rattle.std.proofs.Common.{List, [], ◌∷◌, ◌++◌, ℕ, suc, ◌≡◌, ◌<◌, ◌≤◌, ◌+◌, ◌-◌, Bool, true, false, ◌||◌, eqb, nat_lt, length, set, Option, Some, None, refl, ap, sym as flip, ◌∙◌, arith, append_assoc, length-append}
use Rattle.dk_model.specs.PlainTerms.{Tree, variable, apply, bare, annotated, product}
use Rattle.dk_model.specs.declared.node.NodeOf.{NodeOf}
use Rattle.dk_model.specs.declared.node.NodeOf.TheVariants.{Star, Kind, Sym, Var, Rvar, App, Abs, Prod}
use Rattle.term_print.specs.Named.{mentions}
use Rattle.term_print.specs.Nodes.{node_tree}
use Rattle.term_print.specs.Products.{Found, after, after_all, last_one, mentioned, named_last, front, size, step_weight, step_weights}
use Rattle.term_print.specs.declared.products.Step.{Step}
use Rattle.term_print.specs.declared.products.Step.TheVariants as step
use Rattle.std.proofs.lemmas.Bool.{eq-eqb, eqb-true}
use Rattle.std.proofs.lemmas.Bool.Decides.{nat_tests}
use Rattle.term_print.proofs.Spelt.{or_false, or_grouped}
use Rattle.term_print.proofs.Stacking.{append_nothing}
use Rattle.term_print.proofs.Walked.{size_some}

-- ---- the binders around

pub last_of : (xs : List Bool) (b : Bool) → last_one (xs ++ b ∷ []) ≡ b
last_of [] b = refl
last_of (x ∷ []) b = refl
last_of (x ∷ y ∷ ys) b = last_of (y ∷ ys) b

pub last_pushed : (around new : List Bool) (b : Bool) → around ≡ new ++ b ∷ [] → b ≡ last_one around
last_pushed around new b e = flip (ap last_one e ∙ last_of new b)

pub front_of : (xs : List Bool) (b : Bool) → front (xs ++ b ∷ []) ≡ xs
front_of [] b = refl
front_of (x ∷ []) b = refl
front_of (x ∷ y ∷ ys) b = ap (λ zs. x ∷ zs) (front_of (y ∷ ys) b)

pub front_pushed : (around new : List Bool) (b : Bool) → around ≡ new ++ b ∷ [] → new ≡ front around
front_pushed around new b e = flip (ap front e ∙ front_of new b)

as_many : (t : Tree) (ss : List Bool) → length (mentioned t ss) ≡ length ss
as_many t [] = refl
as_many t (s ∷ ss) = ap (λ n. suc n) (as_many t ss)

-- a term that mentions what both mention
mentioned_both : (t f a : Tree) (ss : List Bool) → ((k : ℕ) → mentions k t ≡ (mentions k f || mentions k a)) → mentioned t ss ≡ mentioned f (mentioned a ss)
mentioned_both t f a [] e = refl
mentioned_both t f a (s ∷ ss) e =
    ap (λ b. (b || s) ∷ mentioned t ss) (e (length ss))
    ∙ (ap (λ b. b ∷ mentioned t ss) (or_grouped (mentions (length ss) f) (mentions (length ss) a) s)
    ∙ (ap (λ n. (mentions n f || (mentions (length ss) a || s)) ∷ mentioned t ss) (flip (as_many a ss))
    ∙ ap (λ xs. (mentions (length (mentioned a ss)) f || (mentions (length ss) a || s)) ∷ xs) (mentioned_both t f a ss e)))

-- a term that mentions nothing
mentioned_none : (t : Tree) (ss : List Bool) → ((k : ℕ) → mentions k t ≡ false) → mentioned t ss ≡ ss
mentioned_none t [] e = refl
mentioned_none t (s ∷ ss) e = ap (λ b. (b || s) ∷ mentioned t ss) (e (length ss)) ∙ ap (λ xs. s ∷ xs) (mentioned_none t ss e)

-- under one binder more
mentioned_under : (u b : Tree) (ss : List Bool) → ((k : ℕ) → mentions k u ≡ mentions (k + 1) b) → mentioned b (ss ++ false ∷ []) ≡ mentioned u ss ++ mentions 0 b ∷ []
mentioned_under u b [] e = ap (λ c. c ∷ []) (or_false (mentions 0 b))
mentioned_under u b (s ∷ ss) e =
    ap (λ n. (mentions n b || s) ∷ mentioned b (ss ++ false ∷ [])) (length-append ss (false ∷ []))
    ∙ (ap (λ c. (c || s) ∷ mentioned b (ss ++ false ∷ [])) (flip (e (length ss))) ∙ ap (λ xs. (mentions (length ss) u || s) ∷ xs) (mentioned_under u b ss e))

other : (i k : ℕ) → i < k → eqb i k ≡ false
other i k l = by (eqb i k) refl
  where
    by : (b : Bool) → eqb i k ≡ b → eqb i k ≡ false
    by true e = let q : i ≡ k = eqb-true i k e in absurd (omega arith)
    by false e = e

above : (i k : ℕ) → k < i → eqb i k ≡ false
above i k l = by (eqb i k) refl
  where
    by : (b : Bool) → eqb i k ≡ b → eqb i k ≡ false
    by true e = let q : i ≡ k = eqb-true i k e in absurd (omega arith)
    by false e = e

-- ---- steps

module _ (denotes : ℕ → Tree) where
  pub after_pushed : (ss : List Step) (s : Step) (f : Found) → after_all denotes (ss ++ s ∷ []) f ≡ after_all denotes ss (after denotes s f)
  after_pushed [] s f = refl
  after_pushed (t ∷ ss) s f = ap (after denotes t) (after_pushed ss s f)

  pub steps_pushed : (ss : List Step) (s : Step) → step_weights denotes (ss ++ s ∷ []) ≡ step_weights denotes ss + step_weight denotes s
  steps_pushed [] s = omega arith
  steps_pushed (t ∷ ss) s = let e = steps_pushed ss s in omega arith

  abbrev Goes : List Step → Step → List Bool → List Bool → List Step → List Bool → List Bool → Type 0
  Goes old s around named new around_then named_then =
      after_all denotes old (after denotes s (record { around = around; named = named })) ≡ after_all denotes new (record { around = around_then; named = named_then })

  node_mentions : (t : ℕ) (n m : NodeOf ℕ) → denotes t ≡ node_tree denotes n → n ≡ m → denotes t ≡ node_tree denotes m
  node_mentions t n m s e = s ∙ ap (node_tree denotes) e

  -- two steps in the place of one
  two_steps : (old mid new : List Step) (first second : Step) (f : Found) → mid ≡ old ++ second ∷ [] → new ≡ mid ++ first ∷ [] → after_all denotes old (after denotes second (after denotes first f)) ≡ after_all denotes new f
  two_steps old mid new first second f m n =
      flip (ap (λ ss. after_all denotes ss f) n ∙ (after_pushed mid first f ∙ (ap (λ ss. after_all denotes ss (after denotes first f)) m ∙ after_pushed old second (after denotes first f))))

  three_steps : (old low mid new : List Step) (first second third : Step) (f : Found) → low ≡ old ++ third ∷ [] → mid ≡ low ++ second ∷ [] → new ≡ mid ++ first ∷ []
      → after_all denotes old (after denotes third (after denotes second (after denotes first f))) ≡ after_all denotes new f
  three_steps old low mid new first second third f l m n =
      flip (ap (λ ss. after_all denotes ss (after denotes second (after denotes first f))) l ∙ after_pushed old third (after denotes second (after denotes first f)))
      ∙ two_steps low mid new first second f m n

  same_found : (old : List Step) (around around_then named named_then : List Bool) → around ≡ around_then → named ≡ named_then
      → after_all denotes old (record { around = around; named = named }) ≡ after_all denotes old (record { around = around_then; named = named_then })
  same_found old around around_then named named_then a n =
      ap (λ xs. after_all denotes old (record { around = xs; named = named })) a ∙ ap (λ xs. after_all denotes old (record { around = around_then; named = xs })) n

  pub apply_step : (t f a : ℕ) (n : NodeOf ℕ) (old mid new : List Step) (around named : List Bool) → denotes t ≡ node_tree denotes n → n ≡ App f a → mid ≡ old ++ step.Term f ∷ [] → new ≡ mid ++ step.Term a ∷ []
      → Goes old (step.Term t) around named new around named
  apply_step t f a n old mid new around named s e m p =
      same_found old _ _ _ _
      (ap (λ u. mentioned u around) (node_mentions t n (App f a) s e) ∙ mentioned_both (apply (denotes f) (denotes a)) (denotes f) (denotes a) around (λ k. refl))
      (ap (λ u. named ++ named_last u) (node_mentions t n (App f a) s e) ∙ flip (append_assoc named (named_last (denotes a)) (named_last (denotes f))))
      ∙ two_steps old mid new (step.Term a) (step.Term f) (record { around = around; named = named }) m p

  under_step : (u : Tree) (b : ℕ) (around : List Bool) → ((k : ℕ) → mentions k u ≡ mentions (k + 1) (denotes b)) → mentioned u around ≡ front (mentioned (denotes b) (around ++ false ∷ []))
  under_step u b around e = flip (ap front (mentioned_under u (denotes b) around e) ∙ front_of (mentioned u around) (mentions 0 (denotes b)))

  pub bare_step : (t b : ℕ) (o : Option ℕ) (n : NodeOf ℕ) (old mid new : List Step) (around begun named : List Bool) → denotes t ≡ node_tree denotes n → n ≡ Abs o b → o ≡ None → begun ≡ around ++ false ∷ []
      → mid ≡ old ++ step.Leave ∷ [] → new ≡ mid ++ step.Term b ∷ [] → Goes old (step.Term t) around named new begun named
  bare_step t b o n old mid new around begun named s e q g m p =
      let is : denotes t ≡ bare (denotes b) = node_mentions t n (Abs o b) s e ∙ ap (λ x. node_tree denotes (Abs x b)) q in
      same_found old _ _ _ _
      (ap (λ u. mentioned u around) is ∙ (under_step (bare (denotes b)) b around (λ k. refl) ∙ ap (λ xs. front (mentioned (denotes b) xs)) (flip g)))
      (ap (λ u. named ++ named_last u) is)
      ∙ two_steps old mid new (step.Term b) step.Leave (record { around = begun; named = named }) m p

  pub annotated_step : (t d b : ℕ) (o : Option ℕ) (n : NodeOf ℕ) (old low mid new : List Step) (around begun named : List Bool) → denotes t ≡ node_tree denotes n → n ≡ Abs o b → o ≡ Some d → begun ≡ around ++ false ∷ []
      → low ≡ old ++ step.Term d ∷ [] → mid ≡ low ++ step.Leave ∷ [] → new ≡ mid ++ step.Term b ∷ [] → Goes old (step.Term t) around named new begun named
  annotated_step t d b o n old low mid new around begun named s e q g l m p =
      let is : denotes t ≡ annotated (denotes d) (denotes b) = node_mentions t n (Abs o b) s e ∙ ap (λ x. node_tree denotes (Abs x b)) q in
      same_found old _ _ _ _
      (ap (λ u. mentioned u around) is ∙ (mentioned_both (annotated (denotes d) (denotes b)) (denotes d) (bare (denotes b)) around (λ k. refl)
      ∙ ap (mentioned (denotes d)) (under_step (bare (denotes b)) b around (λ k. refl) ∙ ap (λ xs. front (mentioned (denotes b) xs)) (flip g))))
      (ap (λ u. named ++ named_last u) is ∙ flip (append_assoc named (named_last (denotes b)) (named_last (denotes d))))
      ∙ three_steps old low mid new (step.Term b) step.Leave (step.Term d) (record { around = begun; named = named }) l m p

  pub product_begins : (t a b : ℕ) (n : NodeOf ℕ) (old mid new : List Step) (around begun named : List Bool) → denotes t ≡ node_tree denotes n → n ≡ Prod a b → begun ≡ around ++ false ∷ []
      → mid ≡ old ++ step.Domain a ∷ [] → new ≡ mid ++ step.Term b ∷ [] → Goes old (step.Term t) around named new begun named
  product_begins t a b n old mid new around begun named s e g m p =
      let is : denotes t ≡ product (denotes a) (denotes b) = node_mentions t n (Prod a b) s e in
      let under : mentioned (denotes b) begun ≡ mentioned (bare (denotes b)) around ++ mentions 0 (denotes b) ∷ [] = ap (mentioned (denotes b)) g ∙ mentioned_under (bare (denotes b)) (denotes b) around (λ k. refl) in
      same_found old _ _ _ _
      (ap (λ u. mentioned u around) is ∙ (mentioned_both (product (denotes a) (denotes b)) (denotes a) (bare (denotes b)) around (λ k. refl)
      ∙ ap (mentioned (denotes a)) (under_step (bare (denotes b)) b around (λ k. refl) ∙ ap (λ xs. front (mentioned (denotes b) xs)) (flip g))))
      (ap (λ u. named ++ named_last u) is
      ∙ (ap (λ c. named ++ (named_last (denotes b) ++ (named_last (denotes a) ++ c ∷ []))) (last_pushed (mentioned (denotes b) begun) (mentioned (bare (denotes b)) around) (mentions 0 (denotes b)) under)
      ∙ flip (append_assoc named (named_last (denotes b)) (named_last (denotes a) ++ last_one (mentioned (denotes b) begun) ∷ []))))
      ∙ two_steps old mid new (step.Term b) (step.Domain a) (record { around = begun; named = named }) m p

  abbrev pub is_still : NodeOf ℕ → Bool
  is_still Star = true
  is_still Kind = true
  is_still (Sym k) = true
  is_still (Rvar k) = true
  is_still n = false

  still_mentions : (n : NodeOf ℕ) (k : ℕ) → is_still n ≡ true → mentions k (node_tree denotes n) ≡ false
  still_mentions Star k e = refl
  still_mentions Kind k e = refl
  still_mentions (Sym i) k e = refl
  still_mentions (Rvar i) k e = refl
  still_mentions (Var i) k e = cc
  still_mentions (App f a) k e = cc
  still_mentions (Abs o b) k e = cc
  still_mentions (Prod a b) k e = cc

  still_named : (n : NodeOf ℕ) → is_still n ≡ true → named_last (node_tree denotes n) ≡ []
  still_named Star e = refl
  still_named Kind e = refl
  still_named (Sym i) e = refl
  still_named (Rvar i) e = refl
  still_named (Var i) e = cc
  still_named (App f a) e = cc
  still_named (Abs o b) e = cc
  still_named (Prod a b) e = cc

  pub leaf_step : (t : ℕ) (n : NodeOf ℕ) (old : List Step) (around named : List Bool) → denotes t ≡ node_tree denotes n → is_still n ≡ true → Goes old (step.Term t) around named old around named
  leaf_step t n old around named s e = same_found old _ _ _ _
      (mentioned_none (denotes t) around (λ k. ap (mentions k) s ∙ still_mentions n k e))
      (ap (λ xs. named ++ xs) (ap named_last s ∙ still_named n e) ∙ append_nothing named)

  pub variable_step : (t k : ℕ) (n : NodeOf ℕ) (old : List Step) (around around_then named : List Bool) → denotes t ≡ node_tree denotes n → n ≡ Var k → around_then ≡ mentioned (variable k) around → Goes old (step.Term t) around named old around_then named
  variable_step t k n old around around_then named s e m = same_found old _ _ _ _
      (ap (λ u. mentioned u around) (node_mentions t n (Var k) s e) ∙ flip m)
      (ap (λ u. named ++ named_last u) (node_mentions t n (Var k) s e) ∙ append_nothing named)

  pub leave_step : (old : List Step) (around around_then named : List Bool) → around_then ≡ front around → Goes old step.Leave around named old around_then named
  leave_step old around around_then named o = same_found old _ _ _ _ (flip o) refl

  pub domain_step : (a : ℕ) (c : Bool) (old mid new : List Step) (around around_then named : List Bool) → c ≡ last_one around → around_then ≡ front around → mid ≡ old ++ step.Product c ∷ [] → new ≡ mid ++ step.Term a ∷ []
      → Goes old (step.Domain a) around named new around_then named
  domain_step a c old mid new around around_then named i o m p = same_found old _ _ _ _
      (ap (mentioned (denotes a)) (flip o))
      (ap (λ d. named ++ (named_last (denotes a) ++ d ∷ [])) (flip i) ∙ flip (append_assoc named (named_last (denotes a)) (c ∷ [])))
      ∙ two_steps old mid new (step.Term a) (step.Product c) (record { around = around_then; named = named }) m p

  pub product_step : (c : Bool) (old : List Step) (around named named_then : List Bool) → named_then ≡ named ++ c ∷ [] → Goes old (step.Product c) around named old around named_then
  product_step c old around named named_then e = same_found old _ _ _ _ refl (flip e)

  -- ---- weights

  two_weights : (old mid new : List Step) (first second : Step) → mid ≡ old ++ second ∷ [] → new ≡ mid ++ first ∷ [] → step_weights denotes new ≡ step_weights denotes old + step_weight denotes second + step_weight denotes first
  two_weights old mid new first second m n =
      let e : step_weights denotes new ≡ step_weights denotes (mid ++ first ∷ []) = ap (step_weights denotes) n in
      let f : step_weights denotes mid ≡ step_weights denotes (old ++ second ∷ []) = ap (step_weights denotes) m in
      let g = steps_pushed mid first in
      let h = steps_pushed old second in
      omega arith

  three_weights : (old low mid new : List Step) (first second third : Step) → low ≡ old ++ third ∷ [] → mid ≡ low ++ second ∷ [] → new ≡ mid ++ first ∷ []
      → step_weights denotes new ≡ step_weights denotes old + step_weight denotes third + step_weight denotes second + step_weight denotes first
  three_weights old low mid new first second third l m n =
      let e = two_weights low mid new first second m n in
      let f : step_weights denotes low ≡ step_weights denotes (old ++ third ∷ []) = ap (step_weights denotes) l in
      let g = steps_pushed old third in
      omega arith

  pub apply_less : (t f a : ℕ) (n : NodeOf ℕ) (old mid new : List Step) → denotes t ≡ node_tree denotes n → n ≡ App f a → mid ≡ old ++ step.Term f ∷ [] → new ≡ mid ++ step.Term a ∷ []
      → step_weights denotes new < step_weights denotes old + step_weight denotes (step.Term t)
  apply_less t f a n old mid new s e m p =
      let w = two_weights old mid new (step.Term a) (step.Term f) m p in
      let i : size (denotes t) ≡ size (denotes f) + size (denotes a) + 1 = ap size (node_mentions t n (App f a) s e) in
      omega arith

  pub product_less : (t a b : ℕ) (n : NodeOf ℕ) (old mid new : List Step) → denotes t ≡ node_tree denotes n → n ≡ Prod a b → mid ≡ old ++ step.Domain a ∷ [] → new ≡ mid ++ step.Term b ∷ []
      → step_weights denotes new < step_weights denotes old + step_weight denotes (step.Term t)
  product_less t a b n old mid new s e m p =
      let w = two_weights old mid new (step.Term b) (step.Domain a) m p in
      let i : size (denotes t) ≡ size (denotes a) + size (denotes b) + 1 = ap size (node_mentions t n (Prod a b) s e) in
      omega arith

  pub bare_less : (t b : ℕ) (o : Option ℕ) (n : NodeOf ℕ) (old mid new : List Step) → denotes t ≡ node_tree denotes n → n ≡ Abs o b → o ≡ None → mid ≡ old ++ step.Leave ∷ [] → new ≡ mid ++ step.Term b ∷ []
      → step_weights denotes new < step_weights denotes old + step_weight denotes (step.Term t)
  bare_less t b o n old mid new s e q m p =
      let w = two_weights old mid new (step.Term b) step.Leave m p in
      let i : size (denotes t) ≡ size (denotes b) + 1 = ap size (node_mentions t n (Abs o b) s e ∙ ap (λ x. node_tree denotes (Abs x b)) q) in
      omega arith

  pub annotated_less : (t d b : ℕ) (o : Option ℕ) (n : NodeOf ℕ) (old low mid new : List Step) → denotes t ≡ node_tree denotes n → n ≡ Abs o b → o ≡ Some d → low ≡ old ++ step.Term d ∷ [] → mid ≡ low ++ step.Leave ∷ [] → new ≡ mid ++ step.Term b ∷ []
      → step_weights denotes new < step_weights denotes old + step_weight denotes (step.Term t)
  annotated_less t d b o n old low mid new s e q l m p =
      let w = three_weights old low mid new (step.Term b) step.Leave (step.Term d) l m p in
      let i : size (denotes t) ≡ size (denotes d) + size (denotes b) + 1 = ap size (node_mentions t n (Abs o b) s e ∙ ap (λ x. node_tree denotes (Abs x b)) q) in
      omega arith

  pub leaf_less : (t : ℕ) (old : List Step) → step_weights denotes old < step_weights denotes old + step_weight denotes (step.Term t)
  leaf_less t old = let i = size_some (denotes t) in omega arith

  pub domain_less : (a : ℕ) (c : Bool) (old mid new : List Step) → mid ≡ old ++ step.Product c ∷ [] → new ≡ mid ++ step.Term a ∷ [] → step_weights denotes new < step_weights denotes old + step_weight denotes (step.Domain a)
  domain_less a c old mid new m p = let w = two_weights old mid new (step.Term a) (step.Product c) m p in omega arith

  -- ---- the whole survey

  abbrev pub Survey : List Step → List Bool → List Bool → ℕ → Type 0
  Survey steps around named whole = after_all denotes steps (record { around = around; named = named }) ≡ record { around = []; named = named_last (denotes whole) }

  pub survey_begins : (whole : ℕ) (steps : List Step) (around named : List Bool) → around ≡ [] → named ≡ [] → steps ≡ [] ++ step.Term whole ∷ [] → Survey steps around named whole
  survey_begins whole steps around named a n e =
      ap (λ ss. after_all denotes ss (record { around = around; named = named })) e
      ∙ (ap (λ xs. after_all denotes (step.Term whole ∷ []) (record { around = xs; named = named })) a
      ∙ ap (λ xs. after_all denotes (step.Term whole ∷ []) (record { around = []; named = xs })) n)

  pub step_popped : (whole : ℕ) (steps old new : List Step) (s : Step) (around named around_then named_then : List Bool) → Survey steps around named whole → steps ≡ old ++ s ∷ [] → Goes old s around named new around_then named_then
      → Survey new around_then named_then whole
  step_popped whole steps old new s around named around_then named_then v p g =
      flip g ∙ (flip (ap (λ ss. after_all denotes ss (record { around = around; named = named })) p ∙ after_pushed old s (record { around = around; named = named })) ∙ v)

  pub survey_ends : (whole : ℕ) (steps : List Step) (around named : List Bool) → Survey steps around named whole → steps ≡ [] → named ≡ named_last (denotes whole)
  survey_ends whole steps around named v e = ap (λ f. f.named) (flip (ap (λ ss. after_all denotes ss (record { around = around; named = named })) e) ∙ v)

-- ---- variables

pub variable_free : (k : ℕ) (ss : List Bool) → length ss ≤ k → ss ≡ mentioned (variable k) ss
variable_free k [] l = refl
variable_free k (s ∷ ss) l = flip (ap (λ b. (b || s) ∷ mentioned (variable k) ss) (other (length ss) k (omega arith)) ∙ ap (λ xs. s ∷ xs) (flip (variable_free k ss (omega arith))))

set_is : (k : ℕ) (ss : List Bool) → k < length ss → set ss (length ss - k - 1) true ≡ mentioned (variable k) ss
set_is k [] l = absurd (omega arith)
set_is k (s ∷ ss) l = by (set_is k ss) (nat_lt k (length ss)) refl
  where
    by : (k < length ss → set ss (length ss - k - 1) true ≡ mentioned (variable k) ss) → (b : Bool) → nat_lt k (length ss) ≡ b → set (s ∷ ss) (suc (length ss) - k - 1) true ≡ (eqb (length ss) k || s) ∷ mentioned (variable k) ss
    by more true e =
        let below : k < length ss = grind (arith, nat_tests) in
        ap (λ i. set (s ∷ ss) i true) (let z : suc (length ss) - k - 1 ≡ suc (length ss - k - 1) = omega arith in z)
        ∙ (ap (λ xs. s ∷ xs) (more below) ∙ ap (λ b. (b || s) ∷ mentioned (variable k) ss) (flip (above (length ss) k below)))
    by more false e =
        let least : length ss ≤ k = grind (arith, nat_tests) in
        let same : length ss ≡ k = omega arith in
        ap (λ i. set (s ∷ ss) i true) (let z : suc (length ss) - k - 1 ≡ 0 = omega arith in z)
        ∙ (ap (λ xs. true ∷ xs) (variable_free k ss least) ∙ ap (λ b. (b || s) ∷ mentioned (variable k) ss) (flip (eq-eqb (length ss) k same)))

pub variable_mentioned : (k depth at : ℕ) (ss new : List Bool) → depth ≡ length ss → at ≡ depth - k - 1 → k < depth → new ≡ set ss at true → new ≡ mentioned (variable k) ss
variable_mentioned k depth at ss new d a l n = n ∙ (ap (λ i. set ss i true) (a ∙ ap (λ i. i - k - 1) d) ∙ set_is k ss (omega arith))
