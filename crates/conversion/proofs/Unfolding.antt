-- A symbol with a body: its first row takes any arguments, and takes no unit. So the rules behind it are never reached.
use Rattle.std.proofs.Common.{List, [], ◌∷◌, ◌++◌, ◌≡◌, ◌+◌, ◌-◌, ◌<◌, ℕ, zero, suc, Bool, true, false, nat_lt, Option, Some, None, refl, ap, ◌∙◌, arith, drop, if◌then◌else◌}
use Rattle.std.proofs.lemmas.Bool.Decides.{nat_tests}
use Rattle.std.specs.Prelude.{slice_get, replicate}
use Rattle.dk_model.specs.Trees.{Tree, star, kind, symbol, variable, rule_variable, apply, bare, annotated, product}
use Rattle.dk_model.specs.Signatures.{PlainRule, PlainSignature}
use Rattle.dk_model.specs.Units.{Units, bind}
use Rattle.dk_model.specs.Spines.{arguments, applied}
use Rattle.dk_model.specs.SymbolRules.{rules_of}
use Rattle.dk_model.specs.Matrix.{blank, Column, Row, rigid_at, rows_for}
use Rattle.dk_model.specs.Captures.{filled, Captures}
use Rattle.dk_model.specs.Selection.{Selected, captures_of_row, guards_hold, row_taken, select_from}
use Rattle.dk_model.specs.Evaluation.{whnf_of, comparison_of, normal_of, columns, rewritten}
use Rattle.dk_model.specs.Equations.{selection_of, after_selection}
use Rattle.dk_model.proofs.Turns.{selection_is}
use Rattle.conversion.specs.Machine.{wound}
use Rattle.conversion.specs.Reducers.{unfolding_rule}
use Rattle.conversion.specs.Turning.{rule_due}

-- no captures

filled_nothing : (u : ℕ) (t : Tree) → filled [] u t ≡ t
filled_nothing u star = refl
filled_nothing u kind = refl
filled_nothing u (symbol k) = refl
filled_nothing u (variable k) = refl
filled_nothing u (rule_variable k) = refl
filled_nothing u (apply f a) = let p = filled_nothing u f in let q = filled_nothing u a in λ i. apply (p i) (q i)
filled_nothing u (bare b) = let q = filled_nothing (u + 1) b in λ i. bare (q i)
filled_nothing u (annotated n b) = let p = filled_nothing u n in let q = filled_nothing (u + 1) b in λ i. annotated (p i) (q i)
filled_nothing u (product a b) = let p = filled_nothing u a in let q = filled_nothing (u + 1) b in λ i. product (p i) (q i)

-- a row of blanks

rigid_blanks : (w : ℕ) → rigid_at (replicate w blank) ≡ None
rigid_blanks zero = refl
rigid_blanks (suc w) = rw (rigid_blanks w) refl

module _ (N : ℕ → Tree → Units Tree) (C : ℕ → Tree → Tree → Units Bool) where
  through_blanks : (w : ℕ) (cols : List Column) (n : ℕ) (cs : Captures) → captures_of_row N C (replicate w blank) cols n cs ≡ Some (record { captures = Some cs; columns = cols }, n)
  through_blanks zero cols n cs = refl
  through_blanks (suc w) [] n cs = refl
  through_blanks (suc w) (col ∷ cols) n cs = rw (through_blanks w cols n cs) refl

  guarded_blanks : (w : ℕ) (cols : List Column) (n : ℕ) (cs : Captures) → guards_hold C (replicate w blank) cols n cs ≡ Some (true, n)
  guarded_blanks zero cols n cs = refl
  guarded_blanks (suc w) [] n cs = refl
  guarded_blanks (suc w) (col ∷ cols) n cs = guarded_blanks w cols n cs

  tried_blanks : (w k : ℕ) (b : Tree) (cols : List Column) (n : ℕ)
      → row_taken N C (record { cells = replicate w blank; rule = unfolding_rule k b }) cols n ≡ Some (record { captures = Some []; columns = cols }, n)
  tried_blanks w k b cols n = rw (through_blanks w cols n [], guarded_blanks w cols n []) refl

  module _ (W : ℕ → Tree → Units Tree) (A : ℕ → List Column → List Row → Units (Option Selected)) where
    first_taken : (w k : ℕ) (b : Tree) (rs : List Row) (cols : List Column) (n : ℕ)
        → select_from N C W A (record { cells = replicate w blank; rule = unfolding_rule k b } ∷ rs) cols n ≡ Some (Some (record { captures = []; rule = unfolding_rule k b }), n)
    first_taken w k b rs cols n = rw (rigid_blanks w, tried_blanks w k b cols n, select_from) refl

none_fewer : {A : Type 0} (n : ℕ) (x y : A) → (if nat_lt n 0 then x else y) ≡ y
none_fewer n x y = by (nat_lt n 0) refl
  where
    by : (b : Bool) → nat_lt n 0 ≡ b → (if b then x else y) ≡ y
    by true e = absurd (let l : n < 0 = grind (arith, nat_tests) in omega (arith, l))
    by false e = refl

rows_first : (n w k : ℕ) (b : Tree) (rs : List PlainRule) → rows_for n w (unfolding_rule k b ∷ rs) ≡ record { cells = replicate (w - 0) blank; rule = unfolding_rule k b } ∷ rows_for n w rs
rows_first n w k b rs = none_fewer n (rows_for n w rs) (record { cells = replicate (w - 0) blank; rule = unfolding_rule k b } ∷ rows_for n w rs)

-- the body before the arguments

applied_more : (t : Tree) (xs : List Tree) (a : Tree) → applied t (xs ++ (a ∷ [])) ≡ apply (applied t xs) a
applied_more t [] a = refl
applied_more t (x ∷ xs) a = applied_more (apply t x) xs a

applied_arguments : (k : ℕ) (b : Tree) (xs : List Tree) → applied b (arguments (wound (symbol k) xs)) ≡ wound b xs
applied_arguments k b [] = refl
applied_arguments k b (x ∷ xs) = applied_more b (arguments (wound (symbol k) xs)) x ∙ ap (λ (u : Tree). apply u x) (applied_arguments k b xs)

rewritten_body : (k : ℕ) (b : Tree) (xs : List Tree) → rewritten (wound (symbol k) xs) (record { captures = []; rule = unfolding_rule k b }) ≡ wound b xs
rewritten_body k b xs = ap (λ (u : Tree). applied u (arguments (wound (symbol k) xs))) (filled_nothing 0 b) ∙ applied_arguments k b xs

first_of : (rules : List PlainRule) (r : PlainRule) → slice_get rules 0 ≡ Some r → rules ≡ r ∷ drop 1 rules
first_of [] r e = cc
first_of (x ∷ rules) r e = let q : x ≡ r = cc in ap (λ (y : PlainRule). y ∷ rules) q

none_of : (rules : List PlainRule) → slice_get rules 0 ≡ None → rules ≡ []
none_of [] e = refl
none_of (x ∷ rules) e = cc

module _ (S : PlainSignature) where
  -- the body is taken at once
  body_selected : (m n w k : ℕ) (b : Tree) (cols : List Column) → slice_get (rules_of S k) 0 ≡ Some (unfolding_rule k b)
      → selection_of S m cols (rows_for n w (rules_of S k)) ≡ Some (Some (record { captures = []; rule = unfolding_rule k b }), m)
  body_selected m n w k b cols e =
      ap (λ rs. selection_of S m cols (rows_for n w rs)) (first_of (rules_of S k) (unfolding_rule k b) e)
      ∙ ap (selection_of S m cols) (rows_first n w k b (drop 1 (rules_of S k)))
      ∙ selection_is S m cols _
      ∙ first_taken (normal_of S) (comparison_of S) (whnf_of S) (selection_of S) (w - 0) k b (rows_for n w (drop 1 (rules_of S k))) cols m

  -- nothing is taken where there are no rules
  none_selected : (m n w k : ℕ) (cols : List Column) → slice_get (rules_of S k) 0 ≡ None → selection_of S m cols (rows_for n w (rules_of S k)) ≡ Some (None, m)
  none_selected m n w k cols e = ap (λ rs. selection_of S m cols (rows_for n w rs)) (none_of (rules_of S k) e) ∙ selection_is S m cols []

  pub rule_unfolds : (n k : ℕ) (b : Tree) (xs : List Tree) → slice_get (rules_of S k) 0 ≡ Some (unfolding_rule k b) → rule_due S k xs n ≡ whnf_of S n (wound b xs)
  rule_unfolds n k b xs e =
      ap (λ x. bind x (after_selection S (wound (symbol k) xs))) (body_selected n _ _ k b (columns S k (wound (symbol k) xs)) e)
      ∙ ap (whnf_of S n) (rewritten_body k b xs)

  pub rule_stands : (n k : ℕ) (xs : List Tree) → slice_get (rules_of S k) 0 ≡ None → rule_due S k xs n ≡ Some (wound (symbol k) xs, n)
  rule_stands n k xs e = ap (λ x. bind x (after_selection S (wound (symbol k) xs))) (none_selected n _ _ k (columns S k (wound (symbol k) xs)) e)
