-- The turn of a symbol, by what its selection comes to.
use Rattle.std.proofs.Common.{List, [], ◌∷◌, ◌≡◌, ◌-◌, ◌<◌, ℕ, zero, suc, Bool, Option, Some, None, refl, ap, ◌∙◌, sym as flip, arith, length, take, drop, if◌then◌else◌}
use Rattle.std.specs.Prelude.{slice_get}
use Rattle.std.proofs.lemmas.List.{length-map, take-map}
use Rattle.dk_model.specs.Trees.{Tree, symbol}
use Rattle.dk_model.specs.Signatures.{PlainRule, PlainSignature}
use Rattle.dk_model.specs.SymbolRules.{rules_of}
use Rattle.dk_model.specs.Units.{Units, bind}
use Rattle.dk_model.specs.Spines.{applied}
use Rattle.dk_model.specs.Captures.{filled, Captures}
use Rattle.dk_model.specs.Evaluation.{whnf_of}
use Rattle.dk_model.specs.Equations.{after_selection}
use Rattle.shared_term.specs.declared.id.TermId.{TermId}
use Rattle.shared_term.specs.Pools.{Node, term, Extends}
use Rattle.shared_term.specs.Changes.{captured_terms}
use Rattle.rule_match.specs.declared.matcher.Answer.{Answer}
use Rattle.rule_match.specs.declared.matcher.Answer.TheVariants.{Yes, No}
use Rattle.rule_match.specs.declared.matcher.Matcher.{Matcher}
use Rattle.rule_match.specs.Rows.{rule_at}
use Rattle.rule_match.specs.Selecting.{left_with, GoesOnWith as MatcherGoesOn, GoesOnWhether as MatcherGoesOnWhether}
use Rattle.rule_match.proofs.Opening.{arguments_wound}
use Rattle.conversion.specs.declared.selection.Selection.{Selection}
use Rattle.conversion.specs.declared.pauses.Waiter.{Waiter}
use Rattle.conversion.specs.declared.state.Value.{Value}
use Rattle.conversion.specs.Machine.{behind, AreWithin, wound, from_top}
use Rattle.conversion.specs.Pausing.{selected, rewritten_by, GoesOnWith, GoesOnWhether}
use Rattle.conversion.specs.Reducers.{right_at, IsLoaded, IsValue}
use Rattle.shared_term.proofs.Winding.{behind_grown}
use Rattle.conversion.proofs.Winding.{extends_more}
use Rattle.conversion.proofs.Opening.{put_before}

-- what is left of a selection, and what it makes of the weak head form

module _ (S : PlainSignature) (s : Selection) (n : ℕ) (old new : List Node) (ids : List TermId) (x : Extends old new) (w : AreWithin (length old) ids) where
  abbrev redex : Tree
  redex = wound (symbol s.symbol) (behind old ids)

  pub selection_ends : selected S old s n ≡ None → rewritten_by S old s ids n ≡ None
  selection_ends e = ap (λ z. bind z (after_selection S redex)) e

  pub selection_stands : (last : List Node) (head : TermId) → Extends new last → selected S old s n ≡ Some (None, n) → term last head ≡ symbol s.symbol
      → rewritten_by S old s ids n ≡ Some (wound (term last head) (behind last ids), n)
  selection_stands last head y e q =
      let grown : behind last ids ≡ behind old ids = behind_grown old last ids (record { longer = omega (arith, x.longer, y.longer); keeps = λ i l. y.keeps i (omega (arith, x.longer)) ∙ x.keeps i l }) w in
      ap (λ z. bind z (after_selection S redex)) e ∙ flip (λ i. Some (wound (q i) (grown i), n))

  pub selection_takes : (cs : Captures) (r : PlainRule) (u : Tree) → selected S old s n ≡ Some (Some (record { captures = cs; rule = r }), n)
      → u ≡ applied (filled cs 0 r.right) (drop (length r.pats) (from_top (behind new ids))) → rewritten_by S old s ids n ≡ whnf_of S n u
  selection_takes cs r u e q =
      ap (λ z. bind z (after_selection S redex)) e
      ∙ ap (whnf_of S n) (ap (λ (l : List Tree). applied (filled cs 0 r.right) (drop (length r.pats) l))
      (arguments_wound (symbol s.symbol) (behind old ids) refl ∙ ap from_top (flip (behind_grown old new ids x w))) ∙ flip q)

  -- it goes on with an answer
  pub selection_goes : (last : List Node) (m : Matcher) (a : Answer) (k : ℕ) → Extends new last → selected S old s n ≡ left_with S (rules_of S s.symbol) last m a k
      → rewritten_by S old s ids n ≡ rewritten_by S last (record { symbol = s.symbol; matcher = m; answer = a }) ids k
  selection_goes last m a k y e =
      let grown : behind last ids ≡ behind old ids = behind_grown old last ids (extends_more old new last x y) w in
      ap (λ z. bind z (after_selection S redex)) e
      ∙ flip (λ i. bind (left_with S (rules_of S s.symbol) last m a k) (after_selection S (wound (symbol s.symbol) (grown i))))

  -- it goes on with what it asks for, once that is there

  pub selection_waits : (m : Matcher) (w : Waiter) (told : TermId → Answer) (asked : ℕ → Units Tree) → w.symbol ≡ s.symbol → w.matcher ≡ m → w.stack.items ≡ ids
      → MatcherGoesOn S (rules_of S s.symbol) new m told asked (selected S old s) → GoesOnWith S new w told (asked n) (rewritten_by S old s ids n)
  selection_waits m w' told asked k e q c = record {
    ends = λ f. selection_ends (c.ends n f);
    goes = λ last v j y f.
        selection_goes last m (told v) j y (c.goes n j last v y f)
        ∙ flip (λ i. rewritten_by S last (record { symbol = k i; matcher = e i; answer = told v }) (q i) j);
  }

  pub selection_compares : (m : Matcher) (w : Waiter) (asked : ℕ → Units Bool) → w.symbol ≡ s.symbol → w.matcher ≡ m → w.stack.items ≡ ids
      → MatcherGoesOnWhether S (rules_of S s.symbol) new m asked (selected S old s) → GoesOnWhether S new w (asked n) (rewritten_by S old s ids n)
  selection_compares m w' asked k e q c = record {
    ends = λ f. selection_ends (c.ends n f);
    goes = λ last alike j y f.
        selection_goes last m (if alike then Yes else No) j y (c.goes n j last alike y f)
        ∙ flip (λ i. rewritten_by S last (record { symbol = k i; matcher = e i; answer = if alike then Yes else No }) (q i) j);
  }

-- a value that is remembered

module _ (S : PlainSignature) (ns : List Node) (t : TermId) (v : Value) (h : IsValue S ns t.0 v) where
  -- it takes a unit
  pub value_takes : 0 < v.units
  value_takes = by v.units refl
    where
      no : (p q : Units Tree) → p ≡ None → q ≡ Some (term ns v.id, 0) → p ≡ q → ⊥
      no p q e f g = cc

      by : (u : ℕ) → v.units ≡ u → 0 < v.units
      by zero e =
          let f : whnf_of S 0 (term ns t) ≡ Some (term ns v.id, 0) = h.takes.suffices 0 (omega (arith, e)) ∙ ap (λ (j : ℕ). Some (term ns v.id, j)) (omega arith) in
          absurd (no (whnf_of S 0 (term ns t)) (whnf_of S 0 (term ns t)) refl f refl)
      by (suc u) e = omega (arith, e)

-- the right side of a rule that was taken

pub same_some : (a b : Tree) → Some a ≡ Some b → a ≡ b
same_some a b e = cc

pub right_is : (S : PlainSignature) (k at : ℕ) (r : PlainRule) → slice_get (rules_of S k) at ≡ Some r → right_at S k at ≡ Some r.right
right_is S k at r e = ap right_side e
  where
    right_side : Option PlainRule → Option Tree
    right_side o = elim o [ None ↦ None | Some rule ↦ Some rule.right ]

pub right_put : (S : PlainSignature) (k : ℕ) (old mid new : List Node) (cs : List (Option TermId)) (r : PlainRule) (at : ℕ) (ids kept ids' : List TermId) (right t : TermId)
    → IsLoaded S mid k at right → slice_get (rules_of S k) at ≡ Some r → Extends old mid → captured_terms mid cs ≡ captured_terms old cs
    → wound (term new t) (behind new ids') ≡ wound (filled (captured_terms mid cs) 0 (term mid right)) (behind mid kept) → AreWithin (length old) ids → kept ≡ take (length ids - length r.pats) ids
    → wound (term new t) (behind new ids') ≡ applied (filled (captured_terms old cs) 0 r.right) (drop (length r.pats) (from_top (behind old ids)))
right_put S k old mid new cs r at ids kept ids' right t l e x c put w q =
    let is : right_at S k at ≡ Some r.right = right_is S k at r e in
    let same : term mid right ≡ r.right = same_some (term mid right) r.right (flip l.is ∙ is) in
    let grown : behind mid ids ≡ behind old ids = behind_grown old mid ids x w in
    let count : length (behind old ids) ≡ length ids = length-map ids (term old) in
    let taken : behind mid kept ≡ take (length (behind old ids) - length r.pats) (behind old ids) =
    ap (behind mid) q ∙ flip (take-map (term mid) (length ids - length r.pats) ids) ∙ (λ i. take (flip count i - length r.pats) (grown i)) in
    put ∙ (λ i. wound (filled (c i) 0 (same i)) (taken i)) ∙ put_before (filled (captured_terms old cs) 0 r.right) (behind old ids) (length r.pats)

pub rule_there : (rules : List PlainRule) (i : ℕ) (r : PlainRule) → slice_get rules i ≡ Some r → rule_at rules i ≡ r
rule_there [] i r e = cc
rule_there (x ∷ rules) zero r e = cc
rule_there (x ∷ rules) (suc i) r e = rule_there rules i r e
