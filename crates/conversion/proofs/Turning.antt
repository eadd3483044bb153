-- The turns of the weak head form.
use Rattle.std.proofs.Common.{List, [], ◌∷◌, ◌++◌, ◌≡◌, ◌-◌, ◌<◌, ℕ, zero, suc, true, false, Some, None, Result, refl, ap, ◌∙◌, sym as flip, subst, arith, length}
use Rattle.std.specs.Prelude.{slice_get}
use Rattle.dk_model.specs.Trees.{Tree, symbol, apply, bare}
use Rattle.dk_model.specs.Substitution.{substitute}
use Rattle.dk_model.specs.Signatures.{PlainRule, PlainSignature}
use Rattle.dk_model.specs.SymbolRules.{rules_of}
use Rattle.dk_model.specs.Units.{Units, bind}
use Rattle.dk_model.specs.Spines.{contraction, head_symbol, body_of}
use Rattle.dk_model.specs.Evaluation.{whnf_of, columns, rows}
use Rattle.dk_model.specs.Equations.{selection_of, after_selection}
use Rattle.dk_model.specs.declared.stop.Stop.{Stop}
use Rattle.dk_model.proofs.Turns.{whnf_contracts, whnf_stands, whnf_selects}
use Rattle.shared_term.specs.declared.id.TermId.{TermId}
use Rattle.shared_term.specs.Pools.{Node, term, Extends}
use Rattle.rule_match.specs.declared.matcher.Answer.{Answer}
use Rattle.rule_match.specs.Selecting.{IsMatcher, Fits, Stands, left_with}
use Rattle.conversion.specs.declared.selection.Selection.{Selection}
use Rattle.conversion.specs.declared.turn.Turn.{Turn}
use Rattle.conversion.specs.Machine.{behind, AreWithin, wound, is_application, is_stuck}
use Rattle.conversion.specs.Pausing.{IsSelection, StartsOver, selected, rewritten_by}
use Rattle.conversion.specs.Turning.{TurnsTo, rule_due}
use Rattle.dk_model.proofs.Winding.{wound_pushed as wound_tree}
use Rattle.shared_term.proofs.Winding.{behind_pushed, behind_grown}
use Rattle.conversion.specs.Reducers.{unfolding_rule}
use Rattle.conversion.proofs.Unfolding.{rule_unfolds, rule_stands}

-- a head and its arguments

head_wound : (t : Tree) (xs : List Tree) → head_symbol (wound t xs) ≡ head_symbol t
head_wound t [] = refl
head_wound t (x ∷ xs) = head_wound t xs

body_wound : (t : Tree) (xs : List Tree) → body_of t ≡ None → body_of (wound t xs) ≡ None
body_wound t [] e = e
body_wound t (x ∷ xs) e = refl

contraction_alone : (t : Tree) → is_application t ≡ false → contraction t ≡ None
contraction_alone (apply f a) e = cc
contraction_alone t e = refl

contraction_wound : (t : Tree) (xs : List Tree) → is_application t ≡ false → body_of t ≡ None → contraction (wound t xs) ≡ None
contraction_wound t [] e q = contraction_alone t e
contraction_wound t (x ∷ xs) e q = rw (body_wound t xs q, contraction_wound t xs e q, contraction) refl

contraction_bare : (b : Tree) (xs : List Tree) (a : Tree) → contraction (wound (apply (bare b) a) xs) ≡ Some (wound (substitute 0 a b) xs)
contraction_bare b [] a = refl
contraction_bare b (x ∷ xs) a = rw (body_wound (apply (bare b) a) xs refl, contraction_bare b xs a, contraction) refl

stuck_alone : (t : Tree) → is_stuck t ≡ true → is_application t ≡ false
stuck_alone (apply f a) e = cc
stuck_alone t e = refl

stuck_body : (t : Tree) → is_stuck t ≡ true → body_of t ≡ None
stuck_body (bare b) e = cc
stuck_body t e = refl

stuck_head : (t : Tree) → is_stuck t ≡ true → head_symbol t ≡ None
stuck_head (apply f a) e = cc
stuck_head (symbol k) e = cc
stuck_head t e = refl

-- one turn of a tree, which takes a unit

module _ (S : PlainSignature) where
  contracts : (n : ℕ) (t t' : Tree) → 0 < n → contraction t ≡ Some t' → whnf_of S n t ≡ whnf_of S (n - 1) t'
  contracts zero t t' l e = absurd (omega arith)
  contracts (suc n) t t' l e = whnf_contracts S n t t' e ∙ ap (λ m. whnf_of S m t') (omega arith)

  pub stands : (n : ℕ) (t : Tree) → 0 < n → contraction t ≡ None → head_symbol t ≡ None → whnf_of S n t ≡ Some (t, n - 1)
  stands zero t l e q = absurd (omega arith)
  stands (suc n) t l e q = whnf_stands S n t e q ∙ ap (λ (m : ℕ). Some (t, m)) (omega arith)

  selects : (n k : ℕ) (t : Tree) → 0 < n → contraction t ≡ None → head_symbol t ≡ Some k
      → whnf_of S n t ≡ bind (selection_of S (n - 1) (columns S k t) (rows S k t)) (after_selection S t)
  selects zero k t l e q = absurd (omega arith)
  selects (suc n) k t l e q =
      whnf_selects S n t k e q ∙ ap (λ m. bind (selection_of S m (columns S k t) (rows S k t)) (after_selection S t)) (omega arith)

  pub symbol_selects : (n k : ℕ) (xs : List Tree) → 0 < n → whnf_of S n (wound (symbol k) xs) ≡ rule_due S k xs (n - 1)
  symbol_selects n k xs l = selects n k (wound (symbol k) xs) l (contraction_wound (symbol k) xs refl refl) (head_wound (symbol k) xs)

  tree_contracts : (n : ℕ) (b : Tree) (xs : List Tree) (a : Tree) → 0 < n → whnf_of S n (wound (bare b) (xs ++ (a ∷ []))) ≡ whnf_of S (n - 1) (wound (substitute 0 a b) xs)
  tree_contracts n b xs a l =
      ap (whnf_of S n) (wound_tree (bare b) xs a) ∙ contracts n (wound (apply (bare b) a) xs) (wound (substitute 0 a b) xs) l (contraction_bare b xs a)

  pub tree_stuck : (n : ℕ) (t : Tree) (xs : List Tree) → 0 < n → is_stuck t ≡ true → whnf_of S n (wound t xs) ≡ Some (wound t xs, n - 1)
  tree_stuck n t xs l e = stands n (wound t xs) l (contraction_wound t xs (stuck_alone t e) (stuck_body t e)) (head_wound t xs ∙ stuck_head t e)

-- one turn of a term of a pool

module _ (S : PlainSignature) where
  pub turn_out : (t : Tree) → whnf_of S 0 t ≡ None
  turn_out t = refl

  pub turn_contracts : (n : ℕ) (old new : List Node) (ids ids' : List TermId) (head body next a : TermId) → 0 < n → term old head ≡ bare (term old body)
      → wound (term new next) (behind new ids') ≡ wound (substitute 0 (term old a) (term old body)) (behind old ids)
      → whnf_of S n (wound (term old head) (behind old (ids ++ (a ∷ [])))) ≡ whnf_of S (n - 1) (wound (term new next) (behind new ids'))
  turn_contracts n old new ids ids' head body next a l e q =
      ap (λ t. whnf_of S n (wound t (behind old (ids ++ (a ∷ []))))) e
      ∙ ap (λ xs. whnf_of S n (wound (bare (term old body)) xs)) (behind_pushed old ids a)
      ∙ tree_contracts S n (term old body) (behind old ids) (term old a) l
      ∙ ap (whnf_of S (n - 1)) (flip q)

  pub turn_bare : (n : ℕ) (ns : List Node) (ids ids' : List TermId) (head : TermId) (b : Tree) → 0 < n → term ns head ≡ bare b → ids ≡ [] → ids' ≡ []
      → whnf_of S n (wound (term ns head) (behind ns ids)) ≡ Some (wound (term ns head) (behind ns ids'), n - 1)
  turn_bare n ns ids ids' head b l e p q =
      ap (λ (x : List TermId). whnf_of S n (wound (term ns head) (behind ns x))) p
      ∙ ap (whnf_of S n) e ∙ stands S n (bare b) l refl refl ∙ ap (λ (t : Tree). Some (t, n - 1)) (flip e)
      ∙ ap (λ (x : List TermId). Some (wound (term ns head) (behind ns x), n - 1)) (flip q)

  pub turn_stuck : (n : ℕ) (ns : List Node) (ids : List TermId) (head : TermId) (t : Tree) → 0 < n → term ns head ≡ t → is_stuck t ≡ true
      → whnf_of S n (wound (term ns head) (behind ns ids)) ≡ Some (wound (term ns head) (behind ns ids), n - 1)
  turn_stuck n ns ids head t l e q = tree_stuck S n (term ns head) (behind ns ids) l (ap is_stuck e ∙ q)

  -- the turn of a symbol, once its unit is taken
  pub turn_symbol : (n k : ℕ) (old new : List Node) (ids ids' : List TermId) (head : TermId) (result : Result Turn Stop) → 0 < n → term old head ≡ symbol k
      → TurnsTo S (rule_due S k (behind old ids) (n - 1)) new result ids' (n - 1) → TurnsTo S (whnf_of S n (wound (term old head) (behind old ids))) new result ids' (n - 1)
  turn_symbol n k old new ids ids' head result l e h =
      let q : rule_due S k (behind old ids) (n - 1) ≡ whnf_of S n (wound (term old head) (behind old ids)) =
      flip (ap (λ t. whnf_of S n (wound t (behind old ids))) e ∙ symbol_selects S n k (behind old ids) l) in
      subst (λ (due : Units Tree). TurnsTo S due new result ids' (n - 1)) q h

  pub symbol_stands : (n k : ℕ) (ns : List Node) (ids : List TermId) (head : TermId) → term ns head ≡ symbol k → slice_get (rules_of S k) 0 ≡ None
      → rule_due S k (behind ns ids) n ≡ Some (wound (term ns head) (behind ns ids), n)
  symbol_stands n k ns ids head e q = rule_stands S n k (behind ns ids) q ∙ ap (λ (t : Tree). Some (wound t (behind ns ids), n)) (flip e)

  pub symbol_unfolds : (n k : ℕ) (old new : List Node) (ids : List TermId) (b : Tree) (id : TermId) → slice_get (rules_of S k) 0 ≡ Some (unfolding_rule k b) → b ≡ term new id
      → Extends old new → AreWithin (length old) ids → rule_due S k (behind old ids) n ≡ whnf_of S n (wound (term new id) (behind new ids))
  symbol_unfolds n k old new ids b id e q x w =
      rule_unfolds S n k b (behind old ids) e ∙ ap (λ t. whnf_of S n (wound t (behind old ids))) q
      ∙ ap (λ xs. whnf_of S n (wound (term new id) xs)) (flip (behind_grown old new ids x w))

-- the selection of a symbol at its start

module _ (S : PlainSignature) (ns : List Node) (ids : List TermId) (k : ℕ) (rules : List PlainRule) (s : Selection) (is : rules ≡ rules_of S k) (b : StartsOver rules k ids s) where
  named : rules ≡ rules_of S s.symbol
  named = is ∙ ap (rules_of S) (flip b.named)

  begins : (n : ℕ) → selected S ns s n ≡ selection_of S n (columns S k (wound (symbol k) (behind ns ids))) (rows S k (wound (symbol k) (behind ns ids)))
  begins n = (λ i. left_with S (flip named i) ns s.matcher (b.answer i) n) ∙ b.starts.begins S k ns is n

  pub symbol_selects_from : (n : ℕ) → rule_due S k (behind ns ids) n ≡ rewritten_by S ns s ids n
  symbol_selects_from n = flip (λ i. bind (begins n i) (after_selection S (wound (symbol (b.named i)) (behind ns ids))))

  pub selection_within : AreWithin (length ns) ids → ((n : ℕ) → AreWithin n ids → IsMatcher n s.matcher) → IsSelection S (length ns) s
  selection_within w h = record {
    matcher = h (length ns) w;
    answer = subst (λ (a : Answer). Fits (length ns) s.matcher a) (flip b.answer) (b.starts.fits (length ns));
    stands = subst (λ (l : List PlainRule). Stands l s.matcher) named b.starts.stands;
  }
