-- What takes the place of a variable, as a number and as a term.
use Rattle.std.proofs.Common.{◌≡◌, ℕ, ◌+◌, ◌-◌, ◌<◌, ◌≤◌, eqb, List, [], ◌∷◌, length, map, Option, Some, None, Bool, true, false, Result, Ok, Err, refl, ap, sym, subst, ◌∙◌, arith, if◌then◌else◌}
use Rattle.std.specs.Prelude.{IfOk}
use Rattle.dk_model.specs.Trees.{Tree, variable}
use Rattle.dk_model.specs.declared.memory.NoMemory.{NoMemory}
use Rattle.shared_term.specs.declared.id.TermId.{TermId}
use Rattle.shared_term.specs.declared.change.Change.{Change}
use Rattle.shared_term.specs.declared.change.Change.TheVariants.{Shift, SubstituteAll}
use Rattle.shared_term.specs.declared.change.Goal.{Goal}
use Rattle.shared_term.specs.declared.change.Given.{Given}
use Rattle.shared_term.specs.declared.entering.Step.{Step}
use Rattle.shared_term.specs.declared.entering.Step.TheVariants.{Answer, Instead, Inside, Parts}
use Rattle.shared_term.specs.Pools.{Node, term}
use Rattle.shared_term.specs.Changes.{AreTerms, from_last, substitute_all, changed, wanted, IsKnown, IsAsked}
use Rattle.shared_term.specs.Walks.{weight, terms_weight, goal_weight, more, IsStep, IsPlaced}
use Rattle.shared_term.proofs.Together.{all_above, found_at}

same_some : (x y : TermId) → Some x ≡ Some y → x ≡ y
same_some x y e = cc

length_terms : (ns : List Node) (us : List TermId) → length (map (term ns) us) ≡ length us
length_terms ns [] = refl
length_terms ns (u ∷ us) = let q : length (map (term ns) us) ≡ length us = length_terms ns us in omega (arith, q)

abbrev pub term_of : List Node → Option TermId → Option Tree
term_of ns None = None
term_of ns (Some x) = Some (term ns x)

either : (ns : List Node) (b : Bool) (u : TermId) (o : Option TermId) → (if b then Some (term ns u) else term_of ns o) ≡ term_of ns (if b then Some u else o)
either ns true u o = refl
either ns false u o = refl

last_term : (ns : List Node) (us : List TermId) (k : ℕ) → from_last (map (term ns) us) k ≡ term_of ns (from_last us k)
last_term ns [] k = refl
last_term ns (u ∷ us) k =
    ap (λ n. if eqb k n then Some (term ns u) else from_last (map (term ns) us) k) (length_terms ns us)
    ∙ ap (λ (o : Option Tree). if eqb k (length us) then Some (term ns u) else o) (last_term ns us k)
    ∙ either ns (eqb k (length us)) u (from_last us k)

module _ (ns : List Node) (g : Given) where
  abbrev Known : List TermId → TermId → Type 0
  Known us x = (x.0 < length ns) × (weight ns g 0 (term ns x) ≤ terms_weight ns g us)

  term_known : (us : List TermId) (k : ℕ) (x : TermId) → AreTerms (length ns) us → from_last us k ≡ Some x → Known us x
  term_known [] k x h e = cc
  term_known (u ∷ us) k x h e = by (eqb k (length us)) e (term_known us k x h.1)
    where
      by : (b : Bool) → (if b then Some u else from_last us k) ≡ Some x → (from_last us k ≡ Some x → Known us x) → Known (u ∷ us) x
      by true q rest = let P : TermId → Type 0 = λ z. Known (u ∷ us) z in subst P (same_some u x q) (h.0, omega arith)
      by false q rest = let r = rest q in (r.0, omega (arith, r.1))

  -- the tree that the goal asks for at a variable
  pub all_at : (goal : Goal) (k : ℕ) (o : Option TermId) → goal.change ≡ SubstituteAll → term ns goal.id ≡ variable k → goal.depth ≤ k
      → from_last g.terms.now (k - goal.depth) ≡ o → wanted ns g goal ≡ found_at goal.depth (k - length g.terms.now) (term_of ns o)
  all_at goal k o e is l f =
      ap (λ c. changed ns g c goal.depth (term ns goal.id)) e ∙ ap (substitute_all goal.depth (map (term ns) g.terms.now)) is
      ∙ all_above goal.depth (map (term ns) g.terms.now) k l
      ∙ ap (λ n. found_at goal.depth (k - n) (from_last (map (term ns) g.terms.now) (k - goal.depth))) (length_terms ns g.terms.now)
      ∙ ap (found_at goal.depth (k - length g.terms.now)) (last_term ns g.terms.now (k - goal.depth) ∙ ap (term_of ns) f)

  pub all_found : (goal : Goal) (k : ℕ) (x : TermId) → goal.change ≡ SubstituteAll → IsAsked (length ns) g goal → term ns goal.id ≡ variable k → goal.depth ≤ k
      → from_last g.terms.now (k - goal.depth) ≡ Some x → IsStep ns g goal (Instead (record { change = Shift goal.depth; id = x; depth = 0 }))
  all_found goal k x e asked is l f =
      let known = subst (λ (c : Change). IsKnown (length ns) g c) e asked.1 in
      let r = term_known g.terms.now (k - goal.depth) x known f in
      let w : goal_weight ns g goal ≡ terms_weight ns g g.terms.now + 1 = (λ i. weight ns g (more ns g (e i)) (is i)) in
      ((r.0, tt), all_at goal k (Some x) e is l f, omega (arith, r.1, w))

  -- a variable past those that terms take the place of
  pub all_placed : (goal : Goal) (k : ℕ) (r : Result Step NoMemory) → goal.change ≡ SubstituteAll → term ns goal.id ≡ variable k → goal.depth ≤ k
      → from_last g.terms.now (k - goal.depth) ≡ None → IfOk r (IsPlaced ns (k - length g.terms.now)) → IfOk r (IsStep ns g goal)
  all_placed goal k (Ok (Answer id)) e is l f h = (h.0, h.1 ∙ sym (all_at goal k None e is l f))
  all_placed goal k (Ok (Instead other)) e is l f h = absurd h
  all_placed goal k (Ok (Inside body)) e is l f h = absurd h
  all_placed goal k (Ok (Parts pair x y)) e is l f h = absurd h
  all_placed goal k (Err x) e is l f h = tt
