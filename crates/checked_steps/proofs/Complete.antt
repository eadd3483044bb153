-- Each reduction has its steps, each joining its two, each equation its items: so an accepted command has a checked derivation.
use Rattle.dk_model.specs.declared.code.Code.{Code}
use Rattle.std.specs.Prelude.{Result, slice_get, Contains, nat_lt, Bool, true, false, if◌then◌else◌}
use Rattle.std.proofs.Common.{List, [], ◌∷◌, ◌++◌, append-nil, append_assoc, ℕ, zero, suc, ◌+◌, ◌-◌, ◌<◌, ◌≤◌, ◌≡◌, Option, Some, None, refl, ap, ◌∙◌, sym as flip, subst as along, arith}
use Rattle.std.proofs.lemmas.Bool.{eq-eqb, lt-ltb, le-ltb, ltb-true, ltb-false}
use Rattle.dk_model.specs.Trees.{Tree, star, kind, symbol, variable, rule_variable, apply, bare, annotated, product}
use Rattle.dk_model.specs.Substitution.{equal}
use Rattle.dk_model.specs.Signatures.{Pattern, PlainRule, PlainSignature}
use Rattle.dk_model.specs.Spines.{head, arguments, applied, head_symbol}
use Rattle.dk_model.specs.SymbolRules.{rules_of}
use Rattle.dk_model.specs.Matrix.{heads_same}
use Rattle.dk_model.specs.RuleTypingOver.{patterns_of}
use Rattle.dk_model.specs.Bindings.{Bindings, under, bound}
use Rattle.dk_model.specs.Solving.{Equation, binds, parts, clash, nothing, equation_of, each_solved, equation_solved, heads_solved, unless_same, solved_with}
use Rattle.dk_model.specs.ByUnits.{by_units}
use Rattle.dk_model.specs.CommandTypingOver.{declaration_checked, body_type, rules_checked}
use Rattle.dk_model.specs.Shapes.{shapes_of}
use Rattle.dk_model.specs.Evaluation.{whnf_of, comparison_of}
use Rattle.dk_model.specs.TypingOver.{JudgedIn, answer, refused, ended}
use Rattle.dk_model.specs.Scoping.{PlainCommand, declare, rule_command, query}
use Rattle.dk_model.specs.Verdicts.{verdict, verdict_of}
use Rattle.dk_model.specs.declared.code.Verdict.TheVariants.{Accepted}
use Rattle.typing_model.specs.Steps.{Part, variable_part, guard_part, IsInstance, at_wildcard, at_guard, at_rule_variable, at_symbol, at_variable, at_abstraction, AreInstances, no_arguments, one_argument, capture, instantiated, later_occurrence, conditions_behind, conditions, beta, by_rule, by_binding, in_function, in_argument, in_abstraction, in_annotation, in_annotated_body, in_domain, in_codomain, no_step, one_step, no_condition, one_condition, ReducesTo, AreJoinable}
use Rattle.typing_model.specs.PlainSteps.{Step, Steps, AreMet}
use Rattle.typing_model.specs.Laws.{WhnfReduces, NormalReduces, ComparisonJoins}
use Rattle.typing_model.proofs.Typing.{from_after, from_next}
use Rattle.typing_model.proofs.Lefts.{listed_back}
use Rattle.checked_steps.specs.Matching.{both_parts, matched, all_matched, laters, guards, to_join, nodes, within, at_place}
use Rattle.checked_steps.specs.Items.{ItemStep, beta_step, rule_step, ItemSteps, no_steps, more_steps, ItemJoins, no_joins, more_joins, ItemWord, same_now, left_bound, right_bound, in_parts, let_go, Item, reduction, joining, equation}
use Rattle.checked_steps.specs.Taken.{Solved, contracted, and_then, both_same, fired_with, fired, step_taken, steps_taken, all_joined, if_bound, if_parts, if_nothing, is_left, word_taken, equation_taken}
use Rattle.checked_steps.specs.Checked.{with_rest, next_reduction, next_joining, solving_on, solutions_taken, by_items, IsChecked}
use Rattle.checked_steps.proofs.Follow.{Follows, Followed, body_type_follows, declaration_follows, shaped_follow}

-- ---- terms

pub head_of : (t : Tree) (ts : List Tree) → head (applied t ts) ≡ head t
head_of t [] = refl
head_of t (a ∷ ts) = head_of (apply t a) ts

pub joined_lists : (xs : List Tree) (a : Tree) (ts : List Tree) → (xs ++ (a ∷ [])) ++ ts ≡ xs ++ (a ∷ ts)
joined_lists [] a ts = refl
joined_lists (x ∷ xs) a ts = ap (λ ys. x ∷ ys) (joined_lists xs a ts)

pub arguments_of : (t : Tree) (ts : List Tree) → arguments (applied t ts) ≡ arguments t ++ ts
arguments_of t [] = flip (append-nil (arguments t))
arguments_of t (a ∷ ts) = arguments_of (apply t a) ts ∙ joined_lists (arguments t) a ts

pub symbol_of : (t : Tree) (ts : List Tree) → head_symbol (applied t ts) ≡ head_symbol t
symbol_of t [] = refl
symbol_of t (a ∷ ts) = symbol_of (apply t a) ts

pub equal_itself : (t : Tree) → equal t t ≡ true
equal_itself star = refl
equal_itself kind = refl
equal_itself (symbol k) = eq-eqb k k refl
equal_itself (variable k) = eq-eqb k k refl
equal_itself (rule_variable k) = eq-eqb k k refl
equal_itself (apply f a) = rw (equal_itself f, equal_itself a) refl
equal_itself (bare b) = equal_itself b
equal_itself (annotated n b) = rw (equal_itself n, equal_itself b) refl
equal_itself (product a b) = rw (equal_itself a, equal_itself b) refl

-- ---- instances

mutual
  pub instance_matched : {depth : ℕ} {p : Pattern} {t : Tree} {ps : List Part} → IsInstance depth p t ps → matched depth p t ≡ Some ps
  instance_matched at_wildcard = refl
  instance_matched at_guard = refl
  instance_matched (at_rule_variable {depth} {k} {xs} {t} e) = rw e refl
  instance_matched (at_symbol {depth} {k} {ps} {ts} {parts} i) =
      ap (λ x. if heads_same x (symbol k) then all_matched depth ps (arguments (applied (symbol k) ts)) else None) (head_of (symbol k) ts)
      ∙ ap (λ b. if b then all_matched depth ps (arguments (applied (symbol k) ts)) else None) (eq-eqb k k refl)
      ∙ ap (all_matched depth ps) (arguments_of (symbol k) ts) ∙ ap (λ qs. all_matched depth qs ts) (flip (listed_back ps)) ∙ instances_matched i
  instance_matched (at_variable {depth} {k} {ps} {ts} {parts} i) =
      ap (λ x. if heads_same x (variable k) then all_matched depth ps (arguments (applied (variable k) ts)) else None) (head_of (variable k) ts)
      ∙ ap (λ b. if b then all_matched depth ps (arguments (applied (variable k) ts)) else None) (eq-eqb k k refl)
      ∙ ap (all_matched depth ps) (arguments_of (variable k) ts) ∙ ap (λ qs. all_matched depth qs ts) (flip (listed_back ps)) ∙ instances_matched i
  instance_matched (at_abstraction i) = instance_matched i

  pub instances_matched : {depth : ℕ} {qs : List Pattern} {ts : List Tree} {ps : List Part} → AreInstances depth qs ts ps → all_matched depth (patterns_of qs) ts ≡ Some ps
  instances_matched no_arguments = refl
  instances_matched (one_argument {depth} {p} {ps = qs} {t} {ts} {parts = xs} {rest = ys} i is) = ap (λ o. both_parts o (all_matched depth (patterns_of qs) ts)) (instance_matched i) ∙ ap (both_parts (Some xs)) (instances_matched is)

-- ---- places

pub some_nodes : (t : Tree) → 0 < nodes t
some_nodes star = omega arith
some_nodes kind = omega arith
some_nodes (symbol k) = omega arith
some_nodes (variable k) = omega arith
some_nodes (rule_variable k) = omega arith
some_nodes (apply f a) = omega arith
some_nodes (bare b) = omega arith
some_nodes (annotated n b) = omega arith
some_nodes (product a b) = omega arith

pub from_within : (P : Type 0) (c : Tree → Tree) (o : Option Tree) (u : Tree) → within c o ≡ Some u → ((t : Tree) → o ≡ Some t → P) → P
from_within P c None u e k = cc
from_within P c (Some t) u e k = k t refl

pub two_below : (F : Tree → Option Tree) (c d : Tree → Tree) (p : ℕ) (f a u : Tree) (b : Bool) → nat_lt p (nodes f) ≡ b → ((v : Tree) → at_place F p f ≡ Some v → p < nodes f)
    → ((v : Tree) → at_place F (p - nodes f) a ≡ Some v → p - nodes f < nodes a) → (if b then within c (at_place F p f) else within d (at_place F (p - nodes f) a)) ≡ Some u → suc p < 1 + nodes f + nodes a
two_below F c d p f a u true q h k e = let l : p < nodes f = ltb-true p (nodes f) q in omega arith
two_below F c d p f a u false q h k e = let g : nodes f ≤ p = ltb-false p (nodes f) q in
    from_within (suc p < 1 + nodes f + nodes a) d (at_place F (p - nodes f) a) u e (λ v i. let l : p - nodes f < nodes a = k v i in omega arith)

pub place_below : (F : Tree → Option Tree) (p : ℕ) (t u : Tree) → at_place F p t ≡ Some u → p < nodes t
place_below F zero t u e = some_nodes t
place_below F (suc p) (apply f a) u e = two_below F (λ g. apply g a) (apply f) p f a u (nat_lt p (nodes f)) refl (λ v. place_below F p f v) (λ v. place_below F (p - nodes f) a v) e
place_below F (suc p) (bare b) u e = from_within (suc p < 1 + nodes b) bare (at_place F p b) u e (λ v i. let l : p < nodes b = place_below F p b v i in omega arith)
place_below F (suc p) (annotated n b) u e = two_below F (λ m. annotated m b) (annotated n) p n b u (nat_lt p (nodes n)) refl (λ v. place_below F p n v) (λ v. place_below F (p - nodes n) b v) e
place_below F (suc p) (product a b) u e = two_below F (λ c. product c b) (product a) p a b u (nat_lt p (nodes a)) refl (λ v. place_below F p a v) (λ v. place_below F (p - nodes a) b v) e
place_below F (suc p) star u e = cc
place_below F (suc p) kind u e = cc
place_below F (suc p) (symbol k) u e = cc
place_below F (suc p) (variable k) u e = cc
place_below F (suc p) (rule_variable k) u e = cc

module _ (S : PlainSignature) where
  -- steps to one term for each pair
  abbrev pub HaveJoins : List (Tree × Tree) → Type 0
  HaveJoins [] = Unit {0}
  HaveJoins (c ∷ cs) = ((xs : ItemSteps) × (ys : ItemSteps) × (both_same (steps_taken S xs c.0) (steps_taken S ys c.1) ≡ true)) × HaveJoins cs

  pub have_append : (cs ds : List (Tree × Tree)) → HaveJoins cs → HaveJoins ds → HaveJoins (cs ++ ds)
  have_append [] ds i j = j
  have_append (c ∷ cs) ds i j = (i.0, have_append cs ds i.1 j)

  pub have_before : (cs ds : List (Tree × Tree)) → HaveJoins (cs ++ ds) → HaveJoins cs
  have_before [] ds i = tt
  have_before (c ∷ cs) ds i = (i.0, have_before cs ds i.1)

  pub have_behind : (cs ds : List (Tree × Tree)) → HaveJoins (cs ++ ds) → HaveJoins ds
  have_behind [] ds i = i
  have_behind (c ∷ cs) ds i = have_behind cs ds i.1

  pub laters_have : (s : ℕ → Option Tree) (before ps : List Part) → HaveJoins (conditions_behind s before ps) → HaveJoins (laters before ps)
  laters_have s before [] h = tt
  laters_have s before (variable_part k t ∷ ps) h = let o : List (Tree × Tree) = later_occurrence (capture before k) t in
      let rest : List (Tree × Tree) = conditions_behind s (before ++ (variable_part k t ∷ [])) ps in
      have_append o _ (have_before o rest h) (laters_have s (before ++ (variable_part k t ∷ [])) ps (have_behind o rest h))
  laters_have s before (guard_part d g t ∷ ps) h = laters_have s (before ++ (guard_part d g t ∷ [])) ps h.1

  pub guards_have : (s : ℕ → Option Tree) (before ps : List Part) → HaveJoins (conditions_behind s before ps) → HaveJoins (guards s ps)
  guards_have s before [] h = tt
  guards_have s before (variable_part k t ∷ ps) h = let o : List (Tree × Tree) = later_occurrence (capture before k) t in
      guards_have s (before ++ (variable_part k t ∷ [])) ps (have_behind o (conditions_behind s (before ++ (variable_part k t ∷ [])) ps) h)
  guards_have s before (guard_part d g t ∷ ps) h = (h.0, guards_have s (before ++ (guard_part d g t ∷ [])) ps h.1)

  pub each_ordered : (ps : List Part) → HaveJoins (conditions ps) → HaveJoins (to_join ps)
  each_ordered ps h = have_append (laters [] ps) (guards (capture ps) ps) (laters_have (capture ps) [] ps h) (guards_have (capture ps) [] ps h)

  pub all_have : (cs : List (Tree × Tree)) → HaveJoins cs → (js : ItemJoins) × (all_joined S js cs ≡ true)
  all_have [] h = (no_joins, refl)
  all_have (c ∷ cs) h = let r : (js : ItemJoins) × (all_joined S js cs ≡ true) = all_have cs h.1 in (more_joins h.0.0 h.0.1 r.0, (rw h.0.2 r.1))

  -- an item's step from t to u, at a place
  record Taken (t u : Tree) : Type 0 where
    make : ℕ → ItemStep
    act : Tree → Option Tree
    same : (p : ℕ) (x : Tree) → step_taken S (make p) x ≡ at_place act p x
    place : ℕ
    takes : at_place act place t ≡ Some u

  -- in the first or the second part of a node
  pub first_taken : (F : Tree → Option Tree) (c d : Tree → Tree) (p : ℕ) (f a g : Tree) → at_place F p f ≡ Some g
      → (if nat_lt p (nodes f) then within c (at_place F p f) else within d (at_place F (p - nodes f) a)) ≡ Some (c g)
  first_taken F c d p f a g e = ap (λ b. if b then within c (at_place F p f) else within d (at_place F (p - nodes f) a)) (lt-ltb p (nodes f) (place_below F p f g e)) ∙ ap (within c) e

  pub second_taken : (F : Tree → Option Tree) (c d : Tree → Tree) (p : ℕ) (f a b : Tree) → at_place F p a ≡ Some b
      → (if nat_lt (p + nodes f) (nodes f) then within c (at_place F (p + nodes f) f) else within d (at_place F ((p + nodes f) - nodes f) a)) ≡ Some (d b)
  second_taken F c d p f a b e = ap (λ x. if x then within c (at_place F (p + nodes f) f) else within d (at_place F ((p + nodes f) - nodes f) a)) (le-ltb (p + nodes f) (nodes f) (omega arith))
      ∙ ap (λ x. within d (at_place F x a)) (let q : (p + nodes f) - nodes f ≡ p = omega arith in q) ∙ ap (within d) e

  pub contained_at : (rs : List PlainRule) (r : PlainRule) → Contains rs r → (n : ℕ) × (slice_get rs n ≡ Some r)
  contained_at [] r c = absurd (let l : c.0 < 0 = c.1 in omega arith)
  contained_at (x ∷ rs) r (zero, l, e) = (0, (let q : x ≡ r = e in ap Some q))
  contained_at (x ∷ rs) r (suc k, l, e) = let h : (n : ℕ) × (slice_get rs n ≡ Some r) = contained_at rs r (k, omega arith, e) in (suc h.0, h.1)

  pub rule_fired : (k number : ℕ) (r : PlainRule) (ts : List Tree) (ps : List Part) (met : List (Tree × Tree) → Bool) → slice_get (rules_of S k) number ≡ Some r → AreInstances 0 r.pats ts ps → met (to_join ps) ≡ true
      → fired S number met (applied (symbol k) ts) ≡ Some (instantiated (capture ps) 0 r.right)
  rule_fired k number r ts ps met e i m =
      ap (λ o. and_then o (λ j. and_then (slice_get (rules_of S j) number) (λ q. and_then (all_matched 0 (patterns_of q.pats) (arguments (applied (symbol k) ts))) (fired_with met q)))) (symbol_of (symbol k) ts)
      ∙ ap (λ o. and_then o (λ q. and_then (all_matched 0 (patterns_of q.pats) (arguments (applied (symbol k) ts))) (fired_with met q))) e
      ∙ ap (λ x. and_then (all_matched 0 (patterns_of r.pats) x) (fired_with met r)) (arguments_of (symbol k) ts)
      ∙ ap (λ o. and_then o (fired_with met r)) (instances_matched i)
      ∙ ap (λ b. if b then Some (instantiated (capture ps) 0 r.right) else None) m

  mutual
    step_items : {h : ℕ} {t u : Tree} → Step S h t u → Taken t u
    step_items beta = record { make = beta_step; act = contracted; same = λ p x. refl; place = 0; takes = refl }
    step_items (by_rule k r ts ps c i m) =
        let n : (n : ℕ) × (slice_get (rules_of S k) n ≡ Some r) = contained_at (rules_of S k) r c in
        let j : (js : ItemJoins) × (all_joined S js (to_join ps) ≡ true) = all_have (to_join ps) (each_ordered ps (met_items m)) in
        record { make = λ p. rule_step p n.0 j.0; act = fired S n.0 (all_joined S j.0); same = λ p x. refl; place = 0; takes = rule_fired k n.0 r ts ps (all_joined S j.0) n.1 i j.1 }
    step_items (by_binding k e) = cc
    step_items (in_function {h} {f} {g} {a} x) = let t : Taken f g = step_items x in
        record { make = t.make; act = t.act; same = t.same; place = suc t.place; takes = first_taken t.act (λ y. apply y a) (apply f) t.place f a g t.takes }
    step_items (in_argument {h} {f} {a} {b} x) = let t : Taken a b = step_items x in
        record { make = t.make; act = t.act; same = t.same; place = suc (t.place + nodes f); takes = second_taken t.act (λ y. apply y a) (apply f) t.place f a b t.takes }
    step_items (in_abstraction {h} {a} {b} x) = let t : Taken a b = step_items x in
        record { make = t.make; act = t.act; same = t.same; place = suc t.place; takes = ap (within bare) t.takes }
    step_items (in_annotation {h} {a} {b} {c} x) = let t : Taken a b = step_items x in
        record { make = t.make; act = t.act; same = t.same; place = suc t.place; takes = first_taken t.act (λ y. annotated y c) (annotated a) t.place a c b t.takes }
    step_items (in_annotated_body {h} {a} {b} {c} x) = let t : Taken b c = step_items x in
        record { make = t.make; act = t.act; same = t.same; place = suc (t.place + nodes a); takes = second_taken t.act (λ y. annotated y b) (annotated a) t.place a b c t.takes }
    step_items (in_domain {h} {a} {b} {c} x) = let t : Taken a b = step_items x in
        record { make = t.make; act = t.act; same = t.same; place = suc t.place; takes = first_taken t.act (λ y. product y c) (product a) t.place a c b t.takes }
    step_items (in_codomain {h} {a} {b} {c} x) = let t : Taken b c = step_items x in
        record { make = t.make; act = t.act; same = t.same; place = suc (t.place + nodes a); takes = second_taken t.act (λ y. product y b) (product a) t.place a b c t.takes }

    steps_items : {h : ℕ} {t u : Tree} → Steps S h t u → (xs : ItemSteps) × (steps_taken S xs t ≡ Some u)
    steps_items no_step = (no_steps, refl)
    steps_items (one_step {h} {t} {u} {v} x rest) = let y : Taken t u = step_items x in let z : (xs : ItemSteps) × (steps_taken S xs u ≡ Some v) = steps_items rest in
        (more_steps (y.make y.place) z.0, ap (λ o. and_then o (steps_taken S z.0)) (y.same y.place t ∙ y.takes) ∙ z.1)

    met_items : {h : ℕ} {cs : List (Tree × Tree)} → AreMet S h cs → HaveJoins cs
    met_items no_condition = tt
    met_items (one_condition {h} {below} {t} {u} {v} {rest} l x y m) =
        let a : (xs : ItemSteps) × (steps_taken S xs t ≡ Some v) = steps_items x in
        let b : (xs : ItemSteps) × (steps_taken S xs u ≡ Some v) = steps_items y in
        ((a.0, b.0, (rw a.1 (rw b.1 (equal_itself v)))), met_items m)

  -- ---- what evaluation answers has its items

  pub reduced_items : (t u : Tree) → ReducesTo S t u → (ys : List Item) × ((rest : List Item) → next_reduction S (ys ++ rest) t ≡ Some (u, rest))
  reduced_items t u r = let x : (xs : ItemSteps) × (steps_taken S xs t ≡ Some u) = steps_items r.1 in (reduction x.0 ∷ [], λ rest. ap (with_rest rest) x.1)

  pub both_steps : (t u : Tree) → AreJoinable S t u → (xs : ItemSteps) × (ys : ItemSteps) × (v : Tree) × (steps_taken S xs t ≡ Some v) × (steps_taken S ys u ≡ Some v)
  both_steps t u j = let a : (xs : ItemSteps) × (steps_taken S xs t ≡ Some j.1.0) = steps_items j.1.1 in let b : (xs : ItemSteps) × (steps_taken S xs u ≡ Some j.1.0) = steps_items j.1.2 in
      (a.0, b.0, j.1.0, a.1, b.1)

  pub joined_items : (t u : Tree) → AreJoinable S t u → (ys : List Item) × ((rest : List Item) → next_joining S (ys ++ rest) t u ≡ Some (true, rest))
  joined_items t u j = let x : _ = both_steps t u j in
      (joining x.0 x.1 ∷ [], λ rest. ap (λ b. if b then Some (true, rest) else None) (ap (λ o. both_same o (steps_taken S x.1 u)) x.3 ∙ ap (both_same (Some x.2)) x.4 ∙ equal_itself x.2))

  module _ (W : WhnfReduces S) (N : NormalReduces S) (C : ComparisonJoins S) where
    abbrev pub EquationStep : Type 0
    EquationStep = Bindings → Tree → Tree → ℕ → JudgedIn ℕ Bindings

    -- these items solve these equations, which stand before any others
    abbrev pub Solve : List Item → Bindings → List (Tree × Tree) → Bindings → Type 0
    Solve ys s qs r = (ps : List (Tree × Tree)) (rest : List Item) → solutions_taken S (ys ++ rest) s (qs ++ ps) ≡ solutions_taken S rest r ps

    abbrev pub HaveItems : Bindings → List (Tree × Tree) → Bindings → Type 0
    HaveItems s qs r = (ys : List Item) × Solve ys s qs r

    abbrev pub HasItem : Bindings → Tree → Tree → Bindings → Type 0
    HasItem s t u r = HaveItems s ((t, u) ∷ []) r

    -- the sides of an equation reach these
    pub sides_are : (x : ItemWord) (xs ys : ItemSteps) (s : Bindings) (t u v w : Tree) (o : Option Solved) → steps_taken S xs (under s t) ≡ Some v → steps_taken S ys (under s u) ≡ Some w
        → word_taken S x s (under s v) (under s w) ≡ o → equation_taken S x xs ys s t u ≡ o
    sides_are x xs ys s t u v w o a b e = ap (λ q. and_then q (λ c. and_then (steps_taken S ys (under s u)) (λ d. word_taken S x s (under s c) (under s d)))) a
        ∙ ap (λ q. and_then q (λ d. word_taken S x s (under s v) (under s d))) b ∙ e

    -- one item, and those of the equations that it leaves
    pub item_solves : (x : ItemWord) (xs ys : ItemSteps) (s q r : Bindings) (t u : Tree) (qs : List (Tree × Tree)) → equation_taken S x xs ys s t u ≡ Some (q, qs)
        → HaveItems q qs r → HasItem s t u r
    item_solves x xs ys s q r t u qs e h = (
      equation x xs ys ∷ h.0,
      λ ps rest.
          ap (λ o. solving_on o (λ z zs. solutions_taken S (h.0 ++ rest) z (zs ++ ps))) e ∙ h.1 ps rest,
    )

    pub none_left : (s r : Bindings) (n m : ℕ) → ◌≡◌ {A = JudgedIn ℕ Bindings} (answer s n) (answer r m) → HaveItems s [] r
    none_left s r n m e = let q : s ≡ r = cc in ([], λ ps rest. ap (λ z. solutions_taken S rest z ps) q)

    pub same_item : (s r : Bindings) (t u : Tree) (n m : ℕ) → AreJoinable S (under s t) (under s u) → ◌≡◌ {A = JudgedIn ℕ Bindings} (answer s n) (answer r m) → HasItem s t u r
    same_item s r t u n m j e = let x : _ = both_steps (under s t) (under s u) j in
        item_solves same_now x.0 x.1 s s r t u [] (sides_are same_now x.0 x.1 s t u x.2 x.2 (Some (s, [])) x.3 x.4 (ap (λ b. if b then Some (s, []) else None) (equal_itself (under s x.2)))) (none_left s r n m e)

    module _ (s r : Bindings) (t u v w : Tree) (xs ys : ItemSteps) (a : steps_taken S xs (under s t) ≡ Some v) (b : steps_taken S ys (under s u) ≡ Some w) where
      pub bound_item : (k : ℕ) (x : Tree) (c : Bool) → is_left (under s v) (under s w) ≡ c → equation_of S (under s v) (under s w) ≡ binds k x → HaveItems (bound s k x) [] r → HasItem s t u r
      bound_item k x true q e h = item_solves left_bound xs ys s (bound s k x) r t u [] (sides_are left_bound xs ys s t u v w (Some (bound s k x, [])) a b
          (ap (λ c. if c then if_bound s (equation_of S (under s v) (under s w)) else None) q ∙ ap (if_bound s) e)) h
      bound_item k x false q e h = item_solves right_bound xs ys s (bound s k x) r t u [] (sides_are right_bound xs ys s t u v w (Some (bound s k x, [])) a b
          (ap (λ c. if c then None else if_bound s (equation_of S (under s v) (under s w))) q ∙ ap (if_bound s) e)) h

      pub parts_item : (ps : List (Tree × Tree)) → equation_of S (under s v) (under s w) ≡ parts ps → HaveItems s ps r → HasItem s t u r
      parts_item ps q h = item_solves in_parts xs ys s s r t u ps (sides_are in_parts xs ys s t u v w (Some (s, ps)) a b (ap (if_parts s) q)) h

      pub dropped_item : equation_of S (under s v) (under s w) ≡ nothing → HaveItems s [] r → HasItem s t u r
      dropped_item q h = item_solves let_go xs ys s s r t u [] (sides_are let_go xs ys s t u v w (Some (s, [])) a b (ap (if_nothing s) q)) h

      pub equation_item : (Q : EquationStep) (n m : ℕ) → ((ps : List (Tree × Tree)) → each_solved Q ps s n ≡ answer r m → HaveItems s ps r)
          → (e : Equation) → equation_of S (under s v) (under s w) ≡ e → equation_solved Q s e n ≡ answer r m → HasItem s t u r
      equation_item Q n m h (binds k x) q e = bound_item k x (is_left (under s v) (under s w)) refl q (none_left (bound s k x) r n m e)
      equation_item Q n m h (parts ps) q e = parts_item ps q (h ps e)
      equation_item Q n m h clash q e = cc
      equation_item Q n m h nothing q e = dropped_item q (none_left s r n m e)

    -- the items of one equation, and those of the others behind it
    pub items_append : (s q r : Bindings) (p : Tree × Tree) (qs : List (Tree × Tree)) → HasItem s p.0 p.1 q → HaveItems q qs r → HaveItems s (p ∷ qs) r
    items_append s q r p qs x y = (x.0 ++ y.0, λ ps rest. ap (λ z. solutions_taken S z s (p ∷ (qs ++ ps))) (append_assoc x.0 y.0 rest) ∙ x.1 (qs ++ ps) (y.0 ++ rest) ∙ y.1 ps rest)

    pub each_items : (Q : EquationStep) → ((s : Bindings) (t u : Tree) (n m : ℕ) (r : Bindings) → Q s t u n ≡ answer r m → HasItem s t u r)
        → (ps : List (Tree × Tree)) (s r : Bindings) (n m : ℕ) → each_solved Q ps s n ≡ answer r m → HaveItems s ps r
    each_items Q h [] s r n m e = none_left s r n m e
    each_items Q h (p ∷ ps) s r n m e = from_next (HaveItems s (p ∷ ps) r) (Q s p.0 p.1 n) _ r m e (λ q i e1 g. items_append s q r p ps (h s p.0 p.1 n i q e1) (each_items Q h ps q r i m g))

    pub by_word : (Q : EquationStep) → ((s : Bindings) (t u : Tree) (n m : ℕ) (r : Bindings) → Q s t u n ≡ answer r m → HasItem s t u r)
        → (s : Bindings) (t u : Tree) (n m : ℕ) (r : Bindings) (b : Bool) (i : ℕ) → ◌≡◌ {A = Option (Bool × ℕ)} (comparison_of S n (under s t) (under s u)) (Some (b, i))
        → unless_same (heads_solved S Q s t u i) s b i ≡ answer r m → HasItem s t u r
    by_word Q h s t u n m r true i e1 g = same_item s r t u i m (C n i (under s t) (under s u) e1) g
    by_word Q h s t u n m r false i e1 g = from_after (HasItem s t u r) (whnf_of S i (under s t)) _ r m g (λ v e2 g2.
        from_after (HasItem s t u r) (whnf_of S v.1 (under s u)) _ r m g2 (λ w e3 g3.
        let a : (xs : ItemSteps) × (steps_taken S xs (under s t) ≡ Some v.0) = steps_items (W i v.1 (under s t) v.0 e2).1 in
        let b : (ys : ItemSteps) × (steps_taken S ys (under s u) ≡ Some w.0) = steps_items (W v.1 w.1 (under s u) w.0 e3).1 in
        equation_item s r t u v.0 w.0 a.0 b.0 a.1 b.1 Q w.1 m (λ ps q. each_items Q h ps s r w.1 m q) (equation_of S (under s v.0) (under s w.0)) refl g3))

    pub solved_item : (f : ℕ) (s : Bindings) (t u : Tree) (n m : ℕ) (r : Bindings) → solved_with f S s t u n ≡ answer r m → HasItem s t u r
    solved_item zero s t u n m r e = cc
    solved_item (suc f) s t u n m r e = from_after (HasItem s t u r) (comparison_of S n (under s t) (under s u)) _ r m e (λ p e1 g.
        by_word (solved_with f S) (solved_item f) s t u n m r p.0 p.1 e1 g)

    pub evaluation_followed : Followed {X = ℕ} {Y = Item} (by_units S) (by_items S)
    evaluation_followed = record {
      whnf = λ t n m u e. reduced_items t u (W n m t u e);
      same = λ t u n m e. joined_items t u (C n m t u e);
      normal = λ t n m u e. reduced_items t u (N n m t u e);
      solve = λ s t u n m r e. let x : HasItem s t u r = solved_item n s t u n m r e in (x.0, λ rest. x.1 [] rest);
    }

    pub all_items : (g : List Item → JudgedIn (List Item) (Unit {0})) (f : ℕ → JudgedIn ℕ (Unit {0})) → Follows f g → (n m : ℕ) (u : Unit {0}) → f n ≡ answer u m → (items : List Item) × (g items ≡ answer tt [])
    all_items g f h n m u e = let x : (ys : List Item) × ((rest : List Item) → g (ys ++ rest) ≡ answer u rest) = h n m u e in
        (x.0, along (λ ys. ◌≡◌ {A = JudgedIn (List Item) (Unit {0})} (g ys) (answer tt [])) (append-nil x.0) (x.1 []))

    pub declaration_items : (A b : Option Tree) (n m : ℕ) (u : Unit {0}) → declaration_checked (by_units S) S A b n ≡ answer u m
        → (items : List Item) × (declaration_checked (by_items S) S A b items ≡ answer tt [])
    declaration_items A b = all_items (declaration_checked (by_items S) S A b) (declaration_checked (by_units S) S A b) (declaration_follows (by_units S) (by_items S) evaluation_followed S A b)

    pub rules_items : (o : Result (List PlainRule) Code) (n m : ℕ) (u : Unit {0}) → rules_checked (by_units S) S o n ≡ answer u m
        → (items : List Item) × (rules_checked (by_items S) S o items ≡ answer tt [])
    rules_items o = all_items (rules_checked (by_items S) S o) (rules_checked (by_units S) S o) (shaped_follow (by_units S) (by_items S) evaluation_followed S o)

    -- the type that is inferred for a definition without one has items too
    pub type_items : (b T : Tree) (n m : ℕ) → body_type (by_units S) S b n ≡ answer T m → (items : List Item) × (body_type (by_items S) S b items ≡ answer T [])
    type_items b T n m e = let x : (ys : List Item) × ((rest : List Item) → body_type (by_items S) S b (ys ++ rest) ≡ answer T rest) = body_type_follows (by_units S) (by_items S) evaluation_followed S b n m T e in
        (x.0, along (λ ys. ◌≡◌ {A = JudgedIn (List Item) Tree} (body_type (by_items S) S b ys) (answer T [])) (append-nil x.0) (x.1 []))

    pub from_accepted : {A : Type 0} (Q : Type 0) (x : JudgedIn ℕ A) → verdict x ≡ Accepted → ((a : A) (m : ℕ) → x ≡ answer a m → Q) → Q
    from_accepted Q (answer a m) e k = k a m refl
    from_accepted Q (refused c n) e k = cc
    from_accepted Q ended e k = cc

    -- an accepted command has a checked derivation
    pub accepted_items : (c : PlainCommand) (budget : ℕ) → verdict_of S c budget ≡ Accepted → (items : List Item) × IsChecked S c items
    accepted_items (declare s A b) budget e = from_accepted ((items : List Item) × IsChecked S (declare s A b) items) (declaration_checked (by_units S) S A b budget) e (λ u m h. declaration_items A b budget m u h)
    accepted_items (rule_command rs) budget e = from_accepted ((items : List Item) × IsChecked S (rule_command rs) items) (rules_checked (by_units S) S (shapes_of S rs) budget) e (λ u m h. rules_items (shapes_of S rs) budget m u h)
    accepted_items (query demand a) budget e = ([], refl)
