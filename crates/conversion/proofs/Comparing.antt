-- The comparison by a stack of steps.
use Rattle.std.proofs.Common.{List, [], ◌∷◌, ◌++◌, ◌≡◌, ◌+◌, ◌-◌, ◌<◌, ◌≤◌, ℕ, zero, suc, Bool, true, false, Option, Some, None, refl, ap, subst, ◌∙◌, sym as flip, arith, length, if◌then◌else◌, append_assoc}
use Rattle.std.proofs.lemmas.Bool.Decides.{nat_tests}
use Rattle.std.specs.Prelude.{eqb, ◌&&◌}
use Rattle.dk_model.specs.Trees.{Tree, star, kind, symbol, variable, rule_variable, apply, bare, annotated, product}
use Rattle.dk_model.specs.Substitution.{equal}
use Rattle.dk_model.specs.Signatures.{PlainSignature}
use Rattle.dk_model.specs.Units.{Units, bind}
use Rattle.dk_model.specs.Taking.{Takes}
use Rattle.dk_model.specs.Spines.{pairs_of}
use Rattle.dk_model.specs.Evaluation.{whnf_of, comparison_of}
use Rattle.dk_model.proofs.Turns.{comparison_is}
use Rattle.shared_term.specs.declared.id.TermId.{TermId}
use Rattle.dk_model.specs.declared.NodeOf.TheVariants.{Star, Kind, Sym, Var, Rvar, App, Abs, Prod}
use Rattle.shared_term.specs.Pools.{Node, term, denoted, Extends}
use Rattle.conversion.proofs.Winding.{extends_more}
use Rattle.conversion.specs.declared.compare.Step.{Step}
use Rattle.conversion.specs.declared.compare.Step.TheVariants.{Pair, Conclude}
use Rattle.conversion.specs.declared.compare.Look.{Look}
use Rattle.conversion.specs.declared.compare.Look.TheVariants.{At, Behind}
use Rattle.conversion.specs.declared.compare.OpenPair.{OpenPair}
use Rattle.conversion.specs.Pending.{pending, AreSteps, comparisons, pair_compared, rest_compared, parts_compared, AreOpen, IsUnderWay, IsOpenPair, look_made, look_due}

-- a stack of steps

pending_pair : (ns : List Node) (steps : List Step) (t u : TermId) → pending ns (steps ++ (Pair t u ∷ [])) ≡ (term ns t, term ns u) ∷ pending ns steps
pending_pair ns [] t u = refl
pending_pair ns (Pair x y ∷ steps) t u = ap (λ (l : List (Tree × Tree)). l ++ ((term ns x, term ns y) ∷ [])) (pending_pair ns steps t u)
pending_pair ns (Conclude x y b ∷ steps) t u = pending_pair ns steps t u

pending_conclude : (ns : List Node) (steps : List Step) (t u : TermId) (b : ℕ) → pending ns (steps ++ (Conclude t u b ∷ [])) ≡ pending ns steps
pending_conclude ns [] t u b = refl
pending_conclude ns (Pair x y ∷ steps) t u b = ap (λ (l : List (Tree × Tree)). l ++ ((term ns x, term ns y) ∷ [])) (pending_conclude ns steps t u b)
pending_conclude ns (Conclude x y c ∷ steps) t u b = pending_conclude ns steps t u b

steps_pair : (n : ℕ) (steps : List Step) (t u : TermId) → AreSteps n steps → t.0 < n → u.0 < n → AreSteps n (steps ++ (Pair t u ∷ []))
steps_pair n [] t u h l m = (l, m, tt)
steps_pair n (Pair x y ∷ steps) t u h l m = (h.0, h.1, steps_pair n steps t u h.2 l m)
steps_pair n (Conclude x y c ∷ steps) t u h l m = (h.0, h.1, steps_pair n steps t u h.2 l m)

steps_conclude : (n : ℕ) (steps : List Step) (t u : TermId) (b : ℕ) → AreSteps n steps → t.0 < n → u.0 < n → AreSteps n (steps ++ (Conclude t u b ∷ []))
steps_conclude n [] t u b h l m = (l, m, tt)
steps_conclude n (Pair x y ∷ steps) t u b h l m = (h.0, h.1, steps_conclude n steps t u b h.2 l m)
steps_conclude n (Conclude x y c ∷ steps) t u b h l m = (h.0, h.1, steps_conclude n steps t u b h.2 l m)

pub steps_popped : (n : ℕ) (steps : List Step) (s : Step) → AreSteps n (steps ++ (s ∷ [])) → AreSteps n steps
steps_popped n [] s h = tt
steps_popped n (Pair x y ∷ steps) s h = (h.0, h.1, steps_popped n steps s h.2)
steps_popped n (Conclude x y c ∷ steps) s h = (h.0, h.1, steps_popped n steps s h.2)

pub pair_within : (n : ℕ) (steps : List Step) (t u : TermId) → AreSteps n (steps ++ (Pair t u ∷ [])) → (t.0 < n) × (u.0 < n)
pair_within n [] t u h = (h.0, h.1)
pair_within n (Pair x y ∷ steps) t u h = pair_within n steps t u h.2
pair_within n (Conclude x y c ∷ steps) t u h = pair_within n steps t u h.2

pub concluded_within : (n : ℕ) (steps : List Step) (t u : TermId) (b : ℕ) → AreSteps n (steps ++ (Conclude t u b ∷ [])) → (t.0 < n) × (u.0 < n)
concluded_within n [] t u b h = (h.0, h.1)
concluded_within n (Pair x y ∷ steps) t u b h = concluded_within n steps t u b h.2
concluded_within n (Conclude x y c ∷ steps) t u b h = concluded_within n steps t u b h.2

steps_grown : (old new : List Node) (steps : List Step) → Extends old new → AreSteps (length old) steps → AreSteps (length new) steps
steps_grown old new [] e h = tt
steps_grown old new (Pair x y ∷ steps) e h = (omega (arith, e.longer, h.0), omega (arith, e.longer, h.1), steps_grown old new steps e h.2)
steps_grown old new (Conclude x y c ∷ steps) e h = (omega (arith, e.longer, h.0), omega (arith, e.longer, h.1), steps_grown old new steps e h.2)

pending_grown : (old new : List Node) (steps : List Step) → Extends old new → AreSteps (length old) steps → pending new steps ≡ pending old steps
pending_grown old new [] e h = refl
pending_grown old new (Pair x y ∷ steps) e h =
    let q = e.keeps x.0 h.0 in let r = e.keeps y.0 h.1 in let s = pending_grown old new steps e h.2 in λ i. s i ++ ((q i, r i) ∷ [])
pending_grown old new (Conclude x y c ∷ steps) e h = pending_grown old new steps e h.2

-- an application and a node that is none

pub application_differs : (ts : List Tree) (x f a : Tree) (n : Node) → x ≡ apply f a → ((g b : TermId) → n ≡ App g b → ⊥) → pairs_of x (denoted ts n) ≡ None
application_differs ts x f a n e d = ap (λ (y : Tree). pairs_of y (denoted ts n)) e ∙ by n d
  where
    by : (m : Node) → ((g b : TermId) → m ≡ App g b → ⊥) → pairs_of (apply f a) (denoted ts m) ≡ None
    by Star h = refl
    by Kind h = refl
    by (Sym k) h = refl
    by (Var k) h = refl
    by (Rvar k) h = refl
    by (App g b) h = absurd (h g b refl)
    by (Abs None b) h = refl
    by (Abs (Some t) b) h = refl
    by (Prod t b) h = refl

module _ (S : PlainSignature) where
  -- comparisons that are still to be concluded

  open_popped : (ns : List Node) (made : List (Tree × Tree) → Units Bool) (left : ℕ) (steps : List Step) (t u : TermId)
      → AreOpen S ns made left (steps ++ (Pair t u ∷ [])) → AreOpen S ns (λ rest. made ((term ns t, term ns u) ∷ rest)) left steps
  open_popped ns made left [] t u h = tt
  open_popped ns made left (Pair x y ∷ steps) t u h = open_popped ns made left steps t u h
  open_popped ns made left (Conclude x y b ∷ steps) t u h = (h.0 ∙ ap made (pending_pair ns steps t u), h.1, open_popped ns made left steps t u h.2)

  open_pushed : (ns : List Node) (made : List (Tree × Tree) → Units Bool) (left : ℕ) (steps : List Step) (t u : TermId)
      → AreOpen S ns (λ rest. made ((term ns t, term ns u) ∷ rest)) left steps → AreOpen S ns made left (steps ++ (Pair t u ∷ []))
  open_pushed ns made left [] t u h = tt
  open_pushed ns made left (Pair x y ∷ steps) t u h = open_pushed ns made left steps t u h
  open_pushed ns made left (Conclude x y b ∷ steps) t u h = (h.0 ∙ flip (ap made (pending_pair ns steps t u)), h.1, open_pushed ns made left steps t u h.2)

  open_before : (ns : List Node) (made : List (Tree × Tree) → Units Bool) (left : ℕ) (steps : List Step) (t u : TermId) (b : ℕ)
      → AreOpen S ns made left (steps ++ (Conclude t u b ∷ [])) → AreOpen S ns made left steps
  open_before ns made left [] t u b h = tt
  open_before ns made left (Pair x y ∷ steps) t u b h = open_before ns made left steps t u b h
  open_before ns made left (Conclude x y c ∷ steps) t u b h = (h.0 ∙ ap made (pending_conclude ns steps t u b), h.1, open_before ns made left steps t u b h.2)

  open_last : (ns : List Node) (made : List (Tree × Tree) → Units Bool) (left : ℕ) (steps : List Step) (t u : TermId) (b : ℕ)
      → AreOpen S ns made left (steps ++ (Conclude t u b ∷ [])) → (comparison_of S b (term ns t) (term ns u) ≡ made []) × (left ≤ b)
  open_last ns made left [] t u b h = (h.0, h.1)
  open_last ns made left (Pair x y ∷ steps) t u b h = open_last ns made left steps t u b h
  open_last ns made left (Conclude x y c ∷ steps) t u b h = open_last ns made left steps t u b h.2

  open_concluding : (ns : List Node) (made : List (Tree × Tree) → Units Bool) (left : ℕ) (steps : List Step) (t u : TermId) (b : ℕ)
      → comparison_of S b (term ns t) (term ns u) ≡ made [] → left ≤ b → AreOpen S ns made left steps → AreOpen S ns made left (steps ++ (Conclude t u b ∷ []))
  open_concluding ns made left [] t u b e l h = (e, l, tt)
  open_concluding ns made left (Pair x y ∷ steps) t u b e l h = open_concluding ns made left steps t u b e l h
  open_concluding ns made left (Conclude x y c ∷ steps) t u b e l h =
      (h.0 ∙ flip (ap made (pending_conclude ns steps t u b)), h.1, open_concluding ns made left steps t u b e l h.2)

  open_made : (ns : List Node) (made made' : List (Tree × Tree) → Units Bool) (left left' : ℕ) (steps : List Step)
      → ((rest : List (Tree × Tree)) → made rest ≡ made' rest) → left' ≤ left → AreOpen S ns made left steps → AreOpen S ns made' left' steps
  open_made ns made made' left left' [] e l h = tt
  open_made ns made made' left left' (Pair x y ∷ steps) e l h = open_made ns made made' left left' steps e l h
  open_made ns made made' left left' (Conclude x y c ∷ steps) e l h = (h.0 ∙ e (pending ns steps), omega (arith, l, h.1), open_made ns made made' left left' steps e l h.2)

  open_grown : (old new : List Node) (made : List (Tree × Tree) → Units Bool) (left : ℕ) (steps : List Step) → Extends old new → AreSteps (length old) steps
      → AreOpen S old made left steps → AreOpen S new made left steps
  open_grown old new made left [] e s h = tt
  open_grown old new made left (Pair x y ∷ steps) e s h = open_grown old new made left steps e s.2 h
  open_grown old new made left (Conclude x y c ∷ steps) e s h =
      let p = e.keeps x.0 s.0 in let q = e.keeps y.0 s.1 in
      ((λ i. comparison_of S c (p i) (q i)) ∙ h.0 ∙ flip (ap made (pending_grown old new steps e s.2)), h.1, open_grown old new made left steps e s.2 h.2)

  -- pairs behind one

  abbrev rest_of : List (Tree × Tree) → Units Bool → Units Bool
  rest_of ps x = bind x (λ alike n. if alike then comparisons S ps n else Some (false, n))

  abbrev of_heads : Tree → Tree → ℕ → Units Bool
  of_heads t u n = elim (pairs_of t u) [ None ↦ Some (false, n) | Some ps ↦ comparisons S ps n ]

  behind_more : (ps rest : List (Tree × Tree)) (x : Units Bool) → ((n : ℕ) → comparisons S (ps ++ rest) n ≡ rest_of rest (comparisons S ps n))
      → rest_of (ps ++ rest) x ≡ rest_of rest (rest_of ps x)
  behind_more ps rest None h = refl
  behind_more ps rest (Some (true, n)) h = h n
  behind_more ps rest (Some (false, n)) h = refl

  comparisons_append : (ps rest : List (Tree × Tree)) (n : ℕ) → comparisons S (ps ++ rest) n ≡ rest_of rest (comparisons S ps n)
  comparisons_append [] rest n = refl
  comparisons_append (p ∷ ps) rest n = behind_more ps rest (comparison_of S n p.0 p.1) (comparisons_append ps rest)

  alone : (x : Units Bool) → rest_of [] x ≡ x
  alone None = refl
  alone (Some (true, m)) = refl
  alone (Some (false, m)) = refl

  pub pair_alone : (n : ℕ) (t u : Tree) → pair_compared S t u n [] ≡ comparison_of S n t u
  pair_alone n t u = alone (comparison_of S n t u)

  pub pair_out : (t u : Tree) (rest : List (Tree × Tree)) → pair_compared S t u 0 rest ≡ None
  pair_out t u rest = refl

  -- letter by letter

  both_true : (a b : Bool) → (a && b) ≡ true → (a ≡ true) × (b ≡ true)
  both_true true b e = (refl, e)
  both_true false b e = cc

  eqb_same : (a b : ℕ) → eqb a b ≡ true → a ≡ b
  eqb_same a b e = grind (arith, nat_tests)

  eqb_self : (a : ℕ) → eqb a a ≡ true
  eqb_self a = grind (arith, nat_tests)

  equal_self : (t : Tree) → equal t t ≡ true
  equal_self star = refl
  equal_self kind = refl
  equal_self (symbol k) = eqb_self k
  equal_self (variable k) = eqb_self k
  equal_self (rule_variable k) = eqb_self k
  equal_self (apply f a) = rw (equal_self f, equal_self a) refl
  equal_self (bare b) = equal_self b
  equal_self (annotated n b) = rw (equal_self n, equal_self b) refl
  equal_self (product a b) = rw (equal_self a, equal_self b) refl

  equal_exact : (t u : Tree) → equal t u ≡ true → t ≡ u
  equal_exact star star e = refl
  equal_exact kind kind e = refl
  equal_exact (symbol a) (symbol b) e = ap symbol (eqb_same a b e)
  equal_exact (variable a) (variable b) e = ap variable (eqb_same a b e)
  equal_exact (rule_variable a) (rule_variable b) e = ap rule_variable (eqb_same a b e)
  equal_exact (apply f a) (apply g b) e = let h = both_true (equal f g) (equal a b) e in let p = equal_exact f g h.0 in let q = equal_exact a b h.1 in λ i. apply (p i) (q i)
  equal_exact (bare b) (bare c) e = ap bare (equal_exact b c e)
  equal_exact (annotated f a) (annotated g b) e = let h = both_true (equal f g) (equal a b) e in let p = equal_exact f g h.0 in let q = equal_exact a b h.1 in λ i. annotated (p i) (q i)
  equal_exact (product f a) (product g b) e = let h = both_true (equal f g) (equal a b) e in let p = equal_exact f g h.0 in let q = equal_exact a b h.1 in λ i. product (p i) (q i)
  equal_exact t u e = cc

  not_equal : (t u : Tree) → (t ≡ u → ⊥) → equal t u ≡ false
  not_equal t u d = by (equal t u) refl
    where
      by : (b : Bool) → equal t u ≡ b → equal t u ≡ false
      by true e = absurd (d (equal_exact t u e))
      by false e = e

  -- a pair of equal terms

  equal_pair : (n : ℕ) (t u : Tree) (rest : List (Tree × Tree)) → 0 < n → equal t u ≡ true → pair_compared S t u n rest ≡ rest_compared S true (n - 1) rest
  equal_pair zero t u rest h e = absurd (omega arith)
  equal_pair (suc n) t u rest h e =
      (let q : comparison_of S (suc n) t u ≡ Some (true, n) = comparison_is S n t u ∙ simp e refl in ap (rest_of rest) q) ∙ ap (comparisons S rest) (omega arith)

  pub one_term : (n : ℕ) (t u : Tree) (rest : List (Tree × Tree)) → 0 < n → t ≡ u → pair_compared S t u n rest ≡ rest_compared S true (n - 1) rest
  one_term n t u rest l e = equal_pair n t u rest l (subst (λ x. equal t x ≡ true) e (equal_self t))

  -- a pair whose comparison is remembered

  pub known : (n k : ℕ) (b : Bool) (t u : Tree) (rest : List (Tree × Tree)) → Takes (λ m. comparison_of S m t u) b k → k ≤ n → pair_compared S t u n rest ≡ rest_compared S b (n - k) rest
  known n k b t u rest h l = ap (rest_of rest) (h.suffices n l)

  pub known_too_few : (n k : ℕ) (b : Bool) (t u : Tree) (rest : List (Tree × Tree)) → Takes (λ m. comparison_of S m t u) b k → n < k → pair_compared S t u n rest ≡ None
  known_too_few n k b t u rest h l = ap (rest_of rest) (h.ends n l)

  pub comparison_costs : (k : ℕ) (b : Bool) (t u : Tree) → Takes (λ m. comparison_of S m t u) b k → 0 < k
  comparison_costs zero b t u h = absurd (none_some (h.suffices 0 (omega arith)))
    where
      none_some : {x : Bool × ℕ} → None ≡ Some x → ⊥
      none_some e = cc
  comparison_costs (suc k) b t u h = omega arith

  -- a pair of terms that differ: their weak head forms, and the parts of these

  unequal : (n : ℕ) (t u : Tree) → 0 < n → equal t u ≡ false
      → comparison_of S n t u ≡ bind (whnf_of S (n - 1) t) (λ t' n1. bind (whnf_of S n1 u) (λ u' n2. of_heads t' u' n2))
  unequal zero t u h e = absurd (omega arith)
  unequal (suc n) t u h e = comparison_is S n t u ∙ simp e (ap (λ m. bind (whnf_of S m t) (λ t' n1. bind (whnf_of S n1 u) (λ u' n2. of_heads t' u' n2))) (omega arith))

  first_ends : (n : ℕ) (t u : Tree) (rest : List (Tree × Tree)) → 0 < n → (t ≡ u → ⊥) → whnf_of S (n - 1) t ≡ None → pair_compared S t u n rest ≡ None
  first_ends n t u rest l d q =
      ap (rest_of rest) (unequal n t u l (not_equal t u d) ∙ ap (λ x. bind x (λ t' n1. bind (whnf_of S n1 u) (λ u' n2. of_heads t' u' n2))) q)

  both_compared : (n n1 n2 : ℕ) (t u t' u' : Tree) → 0 < n → (t ≡ u → ⊥) → whnf_of S (n - 1) t ≡ Some (t', n1) → whnf_of S n1 u ≡ Some (u', n2)
      → comparison_of S n t u ≡ of_heads t' u' n2
  both_compared n n1 n2 t u t' u' l d q r = unequal n t u l (not_equal t u d) ∙ ap (λ x. bind x (λ t' n1. bind (whnf_of S n1 u) (λ u' n2. of_heads t' u' n2))) q
      ∙ ap (λ x. bind x (λ u' n2. of_heads t' u' n2)) r

  second_ends : (n n1 : ℕ) (t u t' : Tree) (rest : List (Tree × Tree)) → 0 < n → (t ≡ u → ⊥) → whnf_of S (n - 1) t ≡ Some (t', n1) → whnf_of S n1 u ≡ None
      → pair_compared S t u n rest ≡ None
  second_ends n n1 t u t' rest l d q r = ap (rest_of rest) (unequal n t u l (not_equal t u d) ∙ ap (λ x. bind x (λ t' n1. bind (whnf_of S n1 u) (λ u' n2. of_heads t' u' n2))) q
      ∙ ap (λ x. bind x (λ u' n2. of_heads t' u' n2)) r)

  parts_behind : (o : Option (List (Tree × Tree))) (rest : List (Tree × Tree)) (n : ℕ)
      → rest_of rest (elim o as (λ _. Units Bool) [ None ↦ Some (false, n) | Some ps ↦ comparisons S ps n ])
      ≡ elim o as (λ _. Units Bool) [ None ↦ Some (false, n) | Some ps ↦ comparisons S (ps ++ rest) n ]
  parts_behind None rest n = refl
  parts_behind (Some ps) rest n = flip (comparisons_append ps rest n)

  by_parts : (n n1 n2 : ℕ) (t u t' u' : Tree) (rest : List (Tree × Tree)) → 0 < n → (t ≡ u → ⊥) → whnf_of S (n - 1) t ≡ Some (t', n1) → whnf_of S n1 u ≡ Some (u', n2)
      → pair_compared S t u n rest ≡ parts_compared S t' u' n2 rest
  by_parts n n1 n2 t u t' u' rest l d q r = ap (rest_of rest) (both_compared n n1 n2 t u t' u' l d q r) ∙ parts_behind (pairs_of t' u') rest n2

  -- what is under way

  pub way_made : (ns : List Node) (due : Units Bool) (made made' : List (Tree × Tree) → Units Bool) (left left' : ℕ) (steps : List Step)
      → ((rest : List (Tree × Tree)) → made rest ≡ made' rest) → left' ≤ left → IsUnderWay S ns due made left steps → IsUnderWay S ns due made' left' steps
  way_made ns due made made' left left' steps e l h =
      record { within = h.within; comes = h.comes ∙ e (pending ns steps); opened = open_made ns made made' left left' steps e l h.opened }

  pub way_pushed : (ns : List Node) (due : Units Bool) (made : List (Tree × Tree) → Units Bool) (left : ℕ) (steps : List Step) (t u : TermId) → t.0 < length ns → u.0 < length ns
      → IsUnderWay S ns due (λ rest. made ((term ns t, term ns u) ∷ rest)) left steps → IsUnderWay S ns due made left (steps ++ (Pair t u ∷ []))
  way_pushed ns due made left steps t u l m h = record {
    within = steps_pair (length ns) steps t u h.within l m;
    comes = h.comes ∙ flip (ap made (pending_pair ns steps t u));
    opened = open_pushed ns made left steps t u h.opened;
  }

  parts_deeper : (o : Option (List (Tree × Tree))) (p : Tree × Tree) (rest : List (Tree × Tree)) (n : ℕ)
      → elim (elim o as (λ _. Option (List (Tree × Tree))) [ None ↦ None | Some ps ↦ Some (ps ++ (p ∷ [])) ]) as (λ _. Units Bool) [ None ↦ Some (false, n) | Some ps ↦ comparisons S (ps ++ rest) n ]
      ≡ elim o as (λ _. Units Bool) [ None ↦ Some (false, n) | Some ps ↦ comparisons S (ps ++ (p ∷ rest)) n ]
  parts_deeper None p rest n = refl
  parts_deeper (Some ps) p rest n = ap (λ l. comparisons S l n) (append_assoc ps (p ∷ []) rest)

  -- the arguments of two applications go onto the stack
  pub way_deeper : (ns : List Node) (due : Units Bool) (left : ℕ) (steps : List Step) (x y : Tree) (f g a b : TermId) → x ≡ apply (term ns f) (term ns a) → y ≡ apply (term ns g) (term ns b)
      → a.0 < length ns → b.0 < length ns
      → IsUnderWay S ns due (parts_compared S x y left) left steps → IsUnderWay S ns due (parts_compared S (term ns f) (term ns g) left) left (steps ++ (Pair a b ∷ []))
  way_deeper ns due left steps x y f g a b e e' l m h = way_pushed ns due (parts_compared S (term ns f) (term ns g) left) left steps a b l m
      (way_made ns due (parts_compared S x y left) _ left left steps
      (λ rest. (λ i. parts_compared S (e i) (e' i) left rest) ∙ parts_deeper (pairs_of (term ns f) (term ns g)) (term ns a, term ns b) rest left) (omega arith) h)

  -- heads that differ, or are alike and have these parts

  parts_known : (x y : Tree) (o : Option (List (Tree × Tree))) (left : ℕ) (rest : List (Tree × Tree)) → pairs_of x y ≡ o
      → parts_compared S x y left rest ≡ elim o as (λ _. Units Bool) [ None ↦ Some (false, left) | Some ps ↦ comparisons S (ps ++ rest) left ]
  parts_known x y o left rest e = ap (λ (p : Option (List (Tree × Tree))). elim p as (λ _. Units Bool) [ None ↦ Some (false, left) | Some ps ↦ comparisons S (ps ++ rest) left ]) e

  pub way_differs : (ns : List Node) (due : Units Bool) (left : ℕ) (steps : List Step) (x y : Tree) → pairs_of x y ≡ None
      → IsUnderWay S ns due (parts_compared S x y left) left steps → IsUnderWay S ns due (rest_compared S false left) left steps
  way_differs ns due left steps x y e h = way_made ns due (parts_compared S x y left) (rest_compared S false left) left left steps
      (λ rest. parts_known x y None left rest e) (omega arith) h

  pub way_alike : (ns : List Node) (due : Units Bool) (left : ℕ) (steps : List Step) (x y : Tree) → pairs_of x y ≡ Some []
      → IsUnderWay S ns due (parts_compared S x y left) left steps → IsUnderWay S ns due (rest_compared S true left) left steps
  way_alike ns due left steps x y e h = way_made ns due (parts_compared S x y left) (rest_compared S true left) left left steps
      (λ rest. parts_known x y (Some []) left rest e) (omega arith) h

  pub way_bodies : (ns : List Node) (due : Units Bool) (left : ℕ) (steps : List Step) (x y : Tree) (b c : TermId) → pairs_of x y ≡ Some ((term ns b, term ns c) ∷ [])
      → b.0 < length ns → c.0 < length ns
      → IsUnderWay S ns due (parts_compared S x y left) left steps → IsUnderWay S ns due (rest_compared S true left) left (steps ++ (Pair b c ∷ []))
  way_bodies ns due left steps x y b c e l m h = way_pushed ns due (rest_compared S true left) left steps b c l m
      (way_made ns due (parts_compared S x y left) _ left left steps (λ rest. parts_known x y (Some ((term ns b, term ns c) ∷ [])) left rest e) (omega arith) h)

  pub way_products : (ns : List Node) (due : Units Bool) (left : ℕ) (steps : List Step) (x y : Tree) (a b c d : TermId)
      → pairs_of x y ≡ Some ((term ns a, term ns c) ∷ (term ns b, term ns d) ∷ []) → a.0 < length ns → b.0 < length ns → c.0 < length ns → d.0 < length ns
      → IsUnderWay S ns due (parts_compared S x y left) left steps → IsUnderWay S ns due (rest_compared S true left) left ((steps ++ (Pair b d ∷ [])) ++ (Pair a c ∷ []))
  way_products ns due left steps x y a b c d e l1 l2 l3 l4 h = way_pushed ns due (rest_compared S true left) left (steps ++ (Pair b d ∷ [])) a c l1 l3
      (way_pushed ns due (λ rest. rest_compared S true left ((term ns a, term ns c) ∷ rest)) left steps b d l2 l4
      (way_made ns due (parts_compared S x y left) _ left left steps (λ rest. parts_known x y (Some ((term ns a, term ns c) ∷ (term ns b, term ns d) ∷ [])) left rest e) (omega arith) h))

  pub way_grown : (old new : List Node) (due : Units Bool) (made : List (Tree × Tree) → Units Bool) (left : ℕ) (steps : List Step) → Extends old new
      → IsUnderWay S old due made left steps → IsUnderWay S new due made left steps
  way_grown old new due made left steps e h = record {
    within = steps_grown old new steps e h.within;
    comes = h.comes ∙ flip (ap made (pending_grown old new steps e h.within));
    opened = open_grown old new made left steps e h.within h.opened;
  }

  pub pair_first_ends : (ns : List Node) (n : ℕ) (t u : TermId) (rest : List (Tree × Tree)) → 0 < n → (term ns t ≡ term ns u → ⊥) → whnf_of S (n - 1) (term ns t) ≡ None
      → pair_compared S (term ns t) (term ns u) n rest ≡ None
  pair_first_ends ns n t u rest l d q = first_ends n (term ns t) (term ns u) rest l d q

  pub pair_second_ends : (p0 p1 : List Node) (n n1 : ℕ) (t u x : TermId) (rest : List (Tree × Tree)) → 0 < n → (term p0 t ≡ term p0 u → ⊥) → u.0 < length p0 → Extends p0 p1
      → whnf_of S (n - 1) (term p0 t) ≡ Some (term p1 x, n1) → whnf_of S n1 (term p1 u) ≡ None → pair_compared S (term p0 t) (term p0 u) n rest ≡ None
  pair_second_ends p0 p1 n n1 t u x rest l d w e q r = second_ends n n1 (term p0 t) (term p0 u) (term p1 x) rest l d q (ap (whnf_of S n1) (flip (e.keeps u.0 w)) ∙ r)

  -- the weak head forms of a pair are there
  pub pair_opens : (p0 p1 p2 : List Node) (due : Units Bool) (n1 n2 : ℕ) (p : OpenPair) (x y : TermId) (steps : List Step) → IsOpenPair S p0 due steps p → n2 ≤ p.before
      → Extends p0 p1 → Extends p1 p2 → x.0 < length p1
      → whnf_of S (p.before - 1) (term p0 p.first) ≡ Some (term p1 x, n1) → whnf_of S n1 (term p1 p.second) ≡ Some (term p2 y, n2)
      → IsUnderWay S p2 due (parts_compared S (term p2 x) (term p2 y) n2) n2 (steps ++ (Conclude p.first p.second p.before ∷ []))
  pair_opens p0 p1 p2 due n1 n2 p x y steps h le e e' wx q r = record {
    within = steps_conclude (length p2) steps p.first p.second p.before way.within (omega (arith, e''.longer, h.first)) (omega (arith, e''.longer, h.second));
    comes = way.comes ∙ flip (ap (parts_compared S (term p2 x) (term p2 y) n2) (pending_conclude p2 steps p.first p.second p.before));
    opened = open_concluding p2 (parts_compared S (term p2 x) (term p2 y) n2) n2 steps p.first p.second p.before
        ((let a = e''.keeps p.first.0 h.first in let b = e''.keeps p.second.0 h.second in λ i. comparison_of S p.before (a i) (b i)) ∙ flip (pair_alone p.before (term p0 p.first) (term p0 p.second)) ∙ goes []) le way.opened;
  }
    where
      e'' : Extends p0 p2
      e'' = extends_more p0 p1 p2 e e'

      x' : term p1 x ≡ term p2 x
      x' = flip (e'.keeps x.0 wx)

      goes : (rest : List (Tree × Tree)) → pair_compared S (term p0 p.first) (term p0 p.second) p.before rest ≡ parts_compared S (term p2 x) (term p2 y) n2 rest
      goes rest = by_parts p.before n1 n2 (term p0 p.first) (term p0 p.second) (term p2 x) (term p2 y) rest h.some h.differ (q ∙ ap (λ (v : Tree). Some (v, n1)) x') (ap (whnf_of S n1) (flip (e.keeps p.second.0 h.second)) ∙ r)

      way : IsUnderWay S p2 due (parts_compared S (term p2 x) (term p2 y) n2) n2 steps
      way = way_made p2 due (pair_compared S (term p0 p.first) (term p0 p.second) p.before) (parts_compared S (term p2 x) (term p2 y) n2) p.before n2 steps goes le
          (way_grown p0 p2 due (pair_compared S (term p0 p.first) (term p0 p.second) p.before) p.before steps e'' h.way)

  pub open_pair_due : (ns : List Node) (due due' : Units Bool) (steps : List Step) (p : OpenPair) → due ≡ due' → IsOpenPair S ns due' steps p → IsOpenPair S ns due steps p
  open_pair_due ns due due' steps p e h = record {
    way = record { within = h.way.within; comes = e ∙ h.way.comes; opened = h.way.opened };
    first = h.first;
    second = h.second;
    differ = h.differ;
    some = h.some;
  }

  -- what is done next

  -- it comes to what is made of the pairs behind it
  pub look_open : (ns : List Node) (due : Units Bool) (look : Look) (left : ℕ) (steps : List Step) → IsUnderWay S ns due (look_made S ns look left) left steps
      → IsUnderWay S ns (look_due S ns look left steps) (look_made S ns look left) left steps
  look_open ns due look left steps h = record { within = h.within; comes = refl; opened = h.opened }

  pub look_begins : (ns : List Node) (n : ℕ) (t u : TermId) → IsUnderWay S ns (comparison_of S n (term ns t) (term ns u)) (look_made S ns (At t u) n) n []
  look_begins ns n t u = record { within = tt; comes = flip (pair_alone n (term ns t) (term ns u)); opened = tt }

  -- a pair that is told at once
  pub look_told : (ns : List Node) (due : Units Bool) (t u : TermId) (n left : ℕ) (alike : Bool) (steps : List Step)
      → ((rest : List (Tree × Tree)) → pair_compared S (term ns t) (term ns u) n rest ≡ rest_compared S alike left rest) → left ≤ n
      → IsUnderWay S ns due (look_made S ns (At t u) n) n steps → IsUnderWay S ns due (look_made S ns (Behind alike) left) left steps
  look_told ns due t u n left alike steps e l h = way_made ns due (pair_compared S (term ns t) (term ns u) n) (rest_compared S alike left) n left steps e l h

  pub look_opens : (ns : List Node) (due : Units Bool) (t u : TermId) (n left : ℕ) (steps : List Step) → t.0 < length ns → u.0 < length ns → left + 1 ≡ n → (term ns t ≡ term ns u → ⊥)
      → IsUnderWay S ns due (look_made S ns (At t u) n) n steps → IsOpenPair S ns due steps (record { first = t; second = u; before = n })
  look_opens ns due t u n left steps l m e d h = record { way = h; first = l; second = m; differ = d; some = omega (arith, e) }

  -- the next pair
  pub look_at : (ns : List Node) (due : Units Bool) (left : ℕ) (alike : Bool) (steps : List Step) (t u : TermId) → alike ≡ true
      → IsUnderWay S ns due (look_made S ns (Behind alike) left) left (steps ++ (Pair t u ∷ [])) → IsUnderWay S ns due (look_made S ns (At t u) left) left steps
  look_at ns due left alike steps t u e h = record {
    within = steps_popped (length ns) steps (Pair t u) h.within;
    comes = h.comes ∙ ap (λ b. rest_compared S b left (pending ns (steps ++ (Pair t u ∷ [])))) e ∙ ap (rest_compared S true left) (pending_pair ns steps t u);
    opened = open_popped ns (rest_compared S true left) left steps t u (subst (λ (b : Bool). AreOpen S ns (rest_compared S b left) left (steps ++ (Pair t u ∷ []))) e h.opened);
  }

  -- a pair behind one that wasn't alike
  pub way_skips : (ns : List Node) (due : Units Bool) (left : ℕ) (alike : Bool) (steps : List Step) (t u : TermId) → alike ≡ false
      → IsUnderWay S ns due (rest_compared S alike left) left (steps ++ (Pair t u ∷ [])) → IsUnderWay S ns due (rest_compared S alike left) left steps
  way_skips ns due left alike steps t u e h = record {
    within = steps_popped (length ns) steps (Pair t u) h.within;
    comes = h.comes ∙ same (pending ns (steps ++ (Pair t u ∷ []))) (pending ns steps);
    opened = open_made ns (λ rest. rest_compared S alike left ((term ns t, term ns u) ∷ rest)) (rest_compared S alike left) left left steps
        (λ rest. same ((term ns t, term ns u) ∷ rest) rest) (omega arith) (open_popped ns (rest_compared S alike left) left steps t u h.opened);
  }
    where
      same : (ps qs : List (Tree × Tree)) → rest_compared S alike left ps ≡ rest_compared S alike left qs
      same ps qs = ap (λ b. rest_compared S b left ps) e ∙ flip (ap (λ b. rest_compared S b left qs) e)

  -- a comparison that is concluded
  pub way_concludes : (ns : List Node) (due : Units Bool) (left : ℕ) (alike : Bool) (steps : List Step) (t u : TermId) (b : ℕ)
      → IsUnderWay S ns due (rest_compared S alike left) left (steps ++ (Conclude t u b ∷ [])) → IsUnderWay S ns due (rest_compared S alike left) left steps
  way_concludes ns due left alike steps t u b h = record {
    within = steps_popped (length ns) steps (Conclude t u b) h.within;
    comes = h.comes ∙ ap (rest_compared S alike left) (pending_conclude ns steps t u b);
    opened = open_before ns (rest_compared S alike left) left steps t u b h.opened;
  }

  none_left : (left : ℕ) (alike : Bool) → rest_compared S alike left [] ≡ Some (alike, left)
  none_left left true = refl
  none_left left false = refl

  pub concluded_gives : (ns : List Node) (due : Units Bool) (left : ℕ) (alike : Bool) (steps : List Step) (t u : TermId) (b : ℕ)
      → IsUnderWay S ns due (rest_compared S alike left) left (steps ++ (Conclude t u b ∷ [])) → comparison_of S b (term ns t) (term ns u) ≡ Some (alike, left)
  concluded_gives ns due left alike steps t u b h = (open_last ns (rest_compared S alike left) left steps t u b h.opened).0 ∙ none_left left alike

  pub concluded_units : (ns : List Node) (due : Units Bool) (left : ℕ) (alike : Bool) (steps : List Step) (t u : TermId) (b : ℕ)
      → IsUnderWay S ns due (rest_compared S alike left) left (steps ++ (Conclude t u b ∷ [])) → left ≤ b
  concluded_units ns due left alike steps t u b h = (open_last ns (rest_compared S alike left) left steps t u b h.opened).1

  pub way_ends : (ns : List Node) (due : Units Bool) (left : ℕ) (alike : Bool) (steps : List Step) → steps ≡ []
      → IsUnderWay S ns due (rest_compared S alike left) left steps → due ≡ Some (alike, left)
  way_ends ns due left alike steps e h = h.comes ∙ ap (λ (l : List Step). rest_compared S alike left (pending ns l)) e ∙ none_left left alike
