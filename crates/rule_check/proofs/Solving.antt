-- What solving gives, from what its steps gave.
use Rattle.std.specs.Prelude.{Vec, OnOk, Bool, true, false, if◌then◌else◌}
use Rattle.std.specs.declared.alloc.Global.{Global}
use Rattle.std.proofs.Common.{List, [], ◌∷◌, ◌++◌, append_assoc, append-nil, ◌≡◌, ◌<◌, ℕ, Option, Some, None, Result, Ok, Err, refl, ap, ◌∙◌, sym as flip, subst}
use Rattle.dk_model.specs.Trees.{Tree, star, kind, symbol, variable, rule_variable, apply, bare, annotated, product}
use Rattle.dk_model.specs.Signatures.{PlainSignature}
use Rattle.dk_model.specs.Spines.{head, pairs_of}
use Rattle.dk_model.specs.Bounds.{IsClosedAt}
use Rattle.dk_model.specs.Captures.{capture_at}
use Rattle.dk_model.specs.Bindings.{Bindings as PlainBindings, under, bound, mentions_rule_variable, may_bind}
use Rattle.dk_model.specs.Evaluation.{whnf_of, comparison_of}
use Rattle.dk_model.specs.Typing.{Judged, answer, refused, ended, after, next}
use Rattle.dk_model.specs.RuleTyping.{Posed, later_type}
use Rattle.dk_model.specs.Solving.{Solver, Equation as PlainEquation, binds, clash, binder_of, binds_or, equation_of, each_solved, equation_solved, heads_solved, unless_same, solved, has_parts, rigid_parts, parts_or}
use Rattle.dk_model.specs.declared.code.Code.{Code}
use Rattle.dk_model.specs.declared.code.Code.TheVariants.{E34}
use Rattle.dk_model.specs.declared.stop.TypeFault.{TypeFault}
use Rattle.dk_model.specs.declared.stop.TypeFault.TheVariants.{Refused, Ended, NoMemory}
use Rattle.dk_model.specs.declared.node.NodeOf.{NodeOf}
use Rattle.dk_model.specs.declared.node.NodeOf.TheVariants.{Star, Kind, Sym, Var, Rvar, App, Abs, Prod}
use Rattle.dk_model.proofs.Fuel.{Within}
use Rattle.dk_model.proofs.Solving.{solved_is, comparison_falls}
use Rattle.dk_model.proofs.Unders.{may_bind_is}
use Rattle.signature_log.specs.Reducers.{Keeps, OwnsParts, built}
use Rattle.signature_log.proofs.Keeping.{keeps_further}
use Rattle.infer_check.specs.Spine.{is_application}
use Rattle.infer_check.specs.Given.{Fails}
use Rattle.infer_check.proofs.Judging.{fails_next, fails_is}
use Rattle.rule_check.specs.declared.equation.Equation.{Equation}
use Rattle.rule_check.specs.declared.found.Bindings.{Bindings}
use Rattle.rule_check.specs.Founds.{terms_of, OwnsBindings}
use Rattle.rule_check.specs.Given.{GivesBindings}
use Rattle.rule_check.specs.Steps.{later_fits}
use Rattle.rule_check.specs.Levels.{IsFree}
use Rattle.rule_check.specs.Bindings.{MayBind, IsBound}
use Rattle.rule_check.proofs.Founds.{terms_kept, bindings_kept}
use Rattle.rule_check.specs.Equations.{same_due, pair_of, pending, OwnsEquation, OwnsEquations, behind, set_apart, divided, heads_due, Divides, StepsTo, GivesEquations}

pub solved_same : (S : PlainSignature) {s r : PlainBindings} {t u A B : Tree} (n : ℕ) → s ≡ r → t ≡ u → A ≡ B → solved S s t A n ≡ solved S r u B n
solved_same S {s} {r} {t} {u} {A} {B} n e f g = ap (λ x. solved S x t A n) e ∙ ap (λ x. solved S r x A n) f ∙ ap (λ x. solved S r u x n) g

pub bindings_is : {R T : Type 0} (owns : R → T → Type 0) (denotes : R → T → Tree) {x y : Judged PlainBindings} (r : R) (b : Bindings T) (o : Result Unit TypeFault) (n : ℕ) → y ≡ x
    → GivesBindings owns denotes y r b o n → GivesBindings owns denotes x r b o n
bindings_is owns denotes r b o n e h = subst (λ (z : Judged PlainBindings). GivesBindings owns denotes z r b o n) e h

pub later_goes_on : (S : PlainSignature) (G : List Tree) (xs : List ℕ) (F A : Tree) (s : PlainBindings) (p : Posed) (n m : ℕ) → later_type S G xs F s n ≡ answer p m → later_fits S G xs F A s n ≡ solved S p.bindings p.typ A m
later_goes_on S G xs F A s p n m e = ap (λ x. next x (λ T i. solved S T.bindings T.typ A i)) e

-- ---- pending equations

pub pending_append : {R T : Type 0} (denotes : R → T → Tree) (r : R) (es ds : List (Equation T)) → pending denotes r (es ++ ds) ≡ pending denotes r ds ++ pending denotes r es
pending_append denotes r [] ds = flip (append-nil (pending denotes r ds))
pending_append denotes r (e ∷ es) ds = ap (λ (ps : List (Tree × Tree)). ps ++ pair_of denotes r e ∷ []) (pending_append denotes r es ds) ∙ append_assoc (pending denotes r ds) (pending denotes r es) (pair_of denotes r e ∷ [])

pub pending_pushed : {R T : Type 0} (denotes : R → T → Tree) (r : R) (es : List (Equation T)) (e : Equation T) → pending denotes r (es ++ e ∷ []) ≡ pair_of denotes r e ∷ pending denotes r es
pending_pushed denotes r es e = pending_append denotes r es (e ∷ [])

module _ {R T : Type 0} {owns : R → T → Type 0} {denotes : R → T → Tree} (old new : R) (k : Keeps owns denotes old new) where
  pub equation_kept : (e : Equation T) → OwnsEquation owns old e → OwnsEquation owns new e
  equation_kept e h = record { one = k.own e.one h.one; other = k.own e.other h.other }

  pub equations_kept : (es : List (Equation T)) → OwnsEquations owns old es → OwnsEquations owns new es
  equations_kept [] h = tt
  equations_kept (e ∷ es) h = (equation_kept e h.0, equations_kept es h.1)

  same_pair : {a b c d : Tree} → a ≡ b → c ≡ d → (let p : Tree × Tree = (a, c) in p) ≡ (b, d)
  same_pair {a} {b} {c} {d} e f = ap (λ (x : Tree). (let p : Tree × Tree = (x, c) in p)) e ∙ ap (λ (x : Tree). (let p : Tree × Tree = (b, x) in p)) f

  pub pending_kept : (es : List (Equation T)) → OwnsEquations owns old es → pending denotes new es ≡ pending denotes old es
  pending_kept [] h = refl
  pending_kept (e ∷ es) h = ap (λ (ps : List (Tree × Tree)). ps ++ pair_of denotes new e ∷ []) (pending_kept es h.1)
      ∙ ap (λ (p : Tree × Tree). pending denotes old es ++ p ∷ []) (same_pair (k.same e.one h.0.one) (k.same e.other h.0.other))

pub equations_appended : {R T : Type 0} (owns : R → T → Type 0) (r : R) (es ds : List (Equation T)) → OwnsEquations owns r es → OwnsEquations owns r ds → OwnsEquations owns r (es ++ ds)
equations_appended owns r [] ds h g = g
equations_appended owns r (e ∷ es) ds h g = (h.0, equations_appended owns r es ds h.1 g)

pub equations_front : {R T : Type 0} (owns : R → T → Type 0) (r : R) (es ds : List (Equation T)) → OwnsEquations owns r (es ++ ds) → OwnsEquations owns r es
equations_front owns r [] ds h = tt
equations_front owns r (e ∷ es) ds h = (h.0, equations_front owns r es ds h.1)

pub equations_last : {R T : Type 0} (owns : R → T → Type 0) (r : R) (es : List (Equation T)) (e : Equation T) → OwnsEquations owns r (es ++ e ∷ []) → OwnsEquation owns r e
equations_last owns r [] e h = h.0
equations_last owns r (x ∷ es) e h = equations_last owns r es e h.1

-- ---- one after another

appended_first : (Q : Solver) (ps qs : List (Tree × Tree)) (x : Judged PlainBindings) → ((r : PlainBindings) (m : ℕ) → each_solved Q (ps ++ qs) r m ≡ next (each_solved Q ps r m) (λ z i. each_solved Q qs z i))
    → next x (λ r m. each_solved Q (ps ++ qs) r m) ≡ next (next x (λ r m. each_solved Q ps r m)) (λ r m. each_solved Q qs r m)
appended_first Q ps qs (answer r m) h = h r m
appended_first Q ps qs (refused c m) h = refl
appended_first Q ps qs ended h = refl

pub each_append : (Q : Solver) (ps qs : List (Tree × Tree)) (s : PlainBindings) (n : ℕ) → each_solved Q (ps ++ qs) s n ≡ next (each_solved Q ps s n) (λ r m. each_solved Q qs r m)
each_append Q [] qs s n = refl
each_append Q (p ∷ ps) qs s n = appended_first Q ps qs (Q s p.0 p.1 n) (λ r m. each_append Q ps qs r m)

-- a step on the last equation of those that are pending
pub pending_step : {R T : Type 0} (denotes : R → T → Tree) (S : PlainSignature) (old new : R) (es ds pushed : List (Equation T)) (e : Equation T) (s r : PlainBindings) (n m : ℕ)
    → solved S s (denotes old e.one) (denotes old e.other) n ≡ each_solved (solved S) (pending denotes new ds) r m → pending denotes new es ≡ pending denotes old es → pushed ≡ es ++ ds
    → each_solved (solved S) (pending denotes new pushed) r m ≡ each_solved (solved S) (pair_of denotes old e ∷ pending denotes old es) s n
pending_step denotes S old new es ds pushed e s r n m h k q =
    ap (λ l. each_solved (solved S) l r m) (ap (pending denotes new) q ∙ pending_append denotes new es ds)
    ∙ each_append (solved S) (pending denotes new ds) (pending denotes new es) r m
    ∙ ap (λ l. next (each_solved (solved S) (pending denotes new ds) r m) (λ z i. each_solved (solved S) l z i)) k
    ∙ flip (ap (λ x. next x (λ z i. each_solved (solved S) (pending denotes old es) z i)) h)

-- ---- one equation

by_due : (S : PlainSignature) (s : PlainBindings) (t u : Tree) (n : ℕ) → solved S s t u n ≡ next (same_due S (under s t) (under s u) n) (λ b m. unless_same (heads_solved S (solved S) s t u m) s b m)
by_due S s t u n = solved_is S n s t u ∙ by_case (comparison_of S n (under s t) (under s u))
  where
    by_case : (o : Option (Bool × ℕ)) → after o (λ b m. unless_same (heads_solved S (solved S) s t u m) s b m) ≡ next (after o (λ b m. answer b m)) (λ b m. unless_same (heads_solved S (solved S) s t u m) s b m)
    by_case None = refl
    by_case (Some p) = refl

-- a comparison takes a unit
pub fewer_left : (S : PlainSignature) (t u : Tree) (b : Bool) (n m : ℕ) → same_due S t u n ≡ answer b m → m < n
fewer_left S t u b n m e = by_case (comparison_of S n t u) (comparison_falls S n t u) e
  where
    by_case : (o : Option (Bool × ℕ)) → Within n o → after o (λ b m. answer b m) ≡ answer b m → m < n
    by_case None w q = cc
    by_case (Some p) w q = let i : p.1 ≡ m = cc in subst (λ z. z < n) i w

by_heads : (S : PlainSignature) (Q : Solver) (s : PlainBindings) (t u : Tree) (n : ℕ) → heads_solved S Q s t u n ≡ next (heads_due S s (under s t) (under s u) n) (λ p i. equation_solved Q s (equation_of S p.0 p.1) i)
by_heads S Q s t u n = by_first (whnf_of S n (under s t))
  where
    by_second : (v : Tree) (o : Option (Tree × ℕ)) → after o (λ w i. equation_solved Q s (equation_of S (under s v) (under s w)) i)
        ≡ next (after o (λ w i. answer (let p : Tree × Tree = (under s v, under s w) in p) i)) (λ p i. equation_solved Q s (equation_of S p.0 p.1) i)
    by_second v None = refl
    by_second v (Some p) = refl

    by_first : (o : Option (Tree × ℕ)) → after o (λ v m. after (whnf_of S m (under s u)) (λ w i. equation_solved Q s (equation_of S (under s v) (under s w)) i))
        ≡ next (after o (λ v m. after (whnf_of S m (under s u)) (λ w i. answer (let p : Tree × Tree = (under s v, under s w) in p) i))) (λ p i. equation_solved Q s (equation_of S p.0 p.1) i)
    by_first None = refl
    by_first (Some p) = by_second p.0 (whnf_of S p.1 (under s u))

pub heads_fail : (S : PlainSignature) (f : TypeFault) (spare : ℕ) (s : PlainBindings) (t u : Tree) (n : ℕ) → Fails f spare (heads_due S s (under s t) (under s u) n) → Fails f spare (heads_solved S (solved S) s t u n)
heads_fail S f spare s t u n h = fails_is f spare _ _ (by_heads S (solved S) s t u n) (fails_next f spare (heads_due S s (under s t) (under s u) n) _ h)

pub heads_give : (S : PlainSignature) (s : PlainBindings) (t u v w : Tree) (n m : ℕ) → heads_due S s (under s t) (under s u) n ≡ answer (v, w) m → heads_solved S (solved S) s t u n ≡ equation_solved (solved S) s (equation_of S v w) m
heads_give S s t u v w n m e = by_heads S (solved S) s t u n ∙ ap (λ x. next x (λ p i. equation_solved (solved S) s (equation_of S p.0 p.1) i)) e

-- ---- parts

none_behind : (o : Option (List (Tree × Tree))) → behind [] o ≡ o
none_behind None = refl
none_behind (Some ps) = ap (λ (qs : List (Tree × Tree)). Some qs) (append-nil ps)

pub divided_none : (S : PlainSignature) (t u : Tree) → divided S t u [] ≡ parts_or (set_apart S t u) (rigid_parts S t u)
divided_none S t u = ap (parts_or (set_apart S t u)) (none_behind (rigid_parts S t u))

one_more : (b : Bool) (o : Option (List (Tree × Tree))) (p : Tree × Tree) (done : List (Tree × Tree))
    → behind done (if b then (elim o as (λ _. Option (List (Tree × Tree))) [ None ↦ None | Some ps ↦ Some (ps ++ p ∷ []) ]) else None) ≡ behind (p ∷ done) (if b then o else None)
one_more true None p done = refl
one_more true (Some ps) p done = ap (λ (qs : List (Tree × Tree)). Some qs) (append_assoc ps (p ∷ []) done)
one_more false o p done = refl

pub divided_applied : (S : PlainSignature) (f a g b : Tree) (done : List (Tree × Tree)) → divided S (apply f a) (apply g b) done ≡ divided S f g ((a, b) ∷ done)
divided_applied S f a g b done = ap (parts_or (set_apart S f g)) (one_more (has_parts S (head f)) (pairs_of f g) (a, b) done)

-- ---- an application and what is none have no parts

pairs_none : (t u : Tree) → is_application t ≡ true → is_application u ≡ false → pairs_of t u ≡ None
pairs_none (apply f a) (apply g b) e h = cc
pairs_none (apply f a) star e h = refl
pairs_none (apply f a) kind e h = refl
pairs_none (apply f a) (symbol j) e h = refl
pairs_none (apply f a) (variable j) e h = refl
pairs_none (apply f a) (rule_variable j) e h = refl
pairs_none (apply f a) (bare c) e h = refl
pairs_none (apply f a) (annotated m c) e h = refl
pairs_none (apply f a) (product d c) e h = refl
pairs_none star u e h = cc
pairs_none kind u e h = cc
pairs_none (symbol j) u e h = cc
pairs_none (variable j) u e h = cc
pairs_none (rule_variable j) u e h = cc
pairs_none (bare c) u e h = cc
pairs_none (annotated m c) u e h = cc
pairs_none (product d c) u e h = cc

if_none : (b : Bool) → (if b then None else None) ≡ (let o : Option (List (Tree × Tree)) = None in o)
if_none true = refl
if_none false = refl

pub divided_apart : (S : PlainSignature) (t u : Tree) (done : List (Tree × Tree)) → is_application t ≡ true → is_application u ≡ false → divided S t u done ≡ set_apart S t u
divided_apart S t u done e h = ap (λ o. parts_or (set_apart S t u) (behind done o)) (ap (λ o. if has_parts S (head t) then o else None) (pairs_none t u e h) ∙ if_none (has_parts S (head t)))

-- ---- an equation, step by step

module _ (S : PlainSignature) (s : PlainBindings) (t u v w : Tree) (n : ℕ) (one : v ≡ under s t) (other : w ≡ under s u) where
  compared : same_due S v w n ≡ same_due S (under s t) (under s u) n
  compared = ap (λ x. same_due S x w n) one ∙ ap (λ x. same_due S (under s t) x n) other

  pub one_fails : (f : TypeFault) (spare : ℕ) → Fails f spare (same_due S v w n) → Fails f spare (solved S s t u n)
  one_fails f spare h = fails_is f spare _ _ (by_due S s t u n) (fails_next f spare (same_due S (under s t) (under s u) n) _ (fails_is f spare _ _ (flip compared) h))

  goes_on : (b : Bool) (m : ℕ) → same_due S v w n ≡ answer b m → solved S s t u n ≡ unless_same (heads_solved S (solved S) s t u m) s b m
  goes_on b m e = by_due S s t u n ∙ ap (λ x. next x (λ c i. unless_same (heads_solved S (solved S) s t u i) s c i)) (flip compared ∙ e)

  pub one_same : (b : Bool) (m : ℕ) → b ≡ true → same_due S v w n ≡ answer b m → solved S s t u n ≡ answer s m
  one_same b m q e = goes_on b m e ∙ ap (λ x. unless_same (heads_solved S (solved S) s t u m) s x m) q

  one_differs : (b : Bool) (m : ℕ) → b ≡ false → same_due S v w n ≡ answer b m → solved S s t u n ≡ heads_solved S (solved S) s t u m
  one_differs b m q e = goes_on b m e ∙ ap (λ x. unless_same (heads_solved S (solved S) s t u m) s x m) q

  module _ (z : PlainBindings) (v' w' : Tree) (b : Bool) (m : ℕ) (differs : b ≡ false) (e : same_due S v w n ≡ answer b m) (zs : z ≡ s) (vs : v' ≡ v) (ws : w' ≡ w) where
    heads_same : heads_due S s (under s t) (under s u) m ≡ heads_due S z v' w' m
    heads_same = flip (ap (λ x. heads_due S x v' w' m) zs ∙ ap (λ x. heads_due S s x w' m) (vs ∙ one) ∙ ap (λ x. heads_due S s (under s t) x m) (ws ∙ other))

    pub one_heads_fail : (f : TypeFault) (spare : ℕ) → Fails f spare (heads_due S z v' w' m) → Fails f spare (solved S s t u n)
    one_heads_fail f spare h = fails_is f spare _ _ (one_differs b m differs e) (heads_fail S f spare s t u m (fails_is f spare _ _ heads_same h))

    pub one_heads : (x y : Tree) (i : ℕ) (q : PlainBindings) → heads_due S z v' w' m ≡ answer (x, y) i → q ≡ s → solved S s t u n ≡ equation_solved (solved S) q (equation_of S x y) i
    one_heads x y i q h r = one_differs b m differs e ∙ heads_give S s t u x y m i (heads_same ∙ h) ∙ ap (λ a. equation_solved (solved S) a (equation_of S x y) i) (flip r)

-- the sides are convertible: nothing is left
pub ends_here : {R T : Type 0} (owns : R → T → Type 0) (denotes : R → T → Tree) (S : PlainSignature) (old new : R) (k : Keeps owns denotes old new) (b : Bindings T) (due : Judged PlainBindings) (n : ℕ) (es : Vec (Equation T) Global)
    → OwnsBindings owns denotes old b → due ≡ answer (terms_of denotes old b) n → es.items ≡ [] → GivesEquations owns denotes S due new b (Ok es) n
ends_here owns denotes S old new k b due n es w e q = (
  e ∙ ap (λ z. answer z n) (flip (terms_kept old new k b w)) ∙ flip (ap (λ z. each_solved (solved S) (pending denotes new z) (terms_of denotes new b) n) q),
  subst (OwnsEquations owns new) (flip q) tt,
  bindings_kept old new k b w,
)

pub on_ok : {A E P : Type 0} (o : Result A E) → P → OnOk o P
on_ok (Ok a) p = p
on_ok (Err e) p = tt

-- a step whose heads clash
pub clash_fails : (c : Code) (n : ℕ) (x : Judged PlainBindings) (Q : Solver) (s : PlainBindings) (due : PlainEquation) → x ≡ equation_solved Q s due n → due ≡ clash → c ≡ E34 → x ≡ refused c n
clash_fails c n x Q s due e f g = e ∙ ap (λ d. equation_solved Q s d n) f ∙ ap (λ k. refused k n) (flip g)

pub heads_pair : (S : PlainSignature) (s : PlainBindings) (t u u' v w : Tree) {x y : Tree} (n m i : ℕ) → whnf_of S n t ≡ Some (v, m) → whnf_of S m u' ≡ Some (w, i) → u' ≡ u → under s v ≡ x → under s w ≡ y
    → heads_due S s t u n ≡ answer (let p : Tree × Tree = (x, y) in p) i
heads_pair S s t u u' v w {x} {y} n m i e f g p q =
    ap (λ o. after o (λ v m. after (whnf_of S m u) (λ w i. answer (let p : Tree × Tree = (under s v, under s w) in p) i))) e
    ∙ ap (λ z. after (whnf_of S m z) (λ w i. answer (let p : Tree × Tree = (under s v, under s w) in p) i)) (flip g)
    ∙ ap (λ o. after o (λ w i. answer (let p : Tree × Tree = (under s v, under s w) in p) i)) f
    ∙ ap (λ z. answer (let r : Tree × Tree = (z, under s w) in r) i) p ∙ ap (λ z. answer (let r : Tree × Tree = (x, z) in r) i) q

-- ---- nodes

pub node_kept : {R T : Type 0} {owns : R → T → Type 0} {denotes : R → T → Tree} (old new : R) (k : Keeps owns denotes old new) (n : NodeOf T) → OwnsParts owns old n → built denotes new n ≡ built denotes old n
node_kept old new k Star h = refl
node_kept old new k Kind h = refl
node_kept old new k (Sym j) h = refl
node_kept old new k (Var j) h = refl
node_kept old new k (Rvar j) h = refl
node_kept {denotes = D} old new k (App f a) h = ap (λ x. apply x (D new a)) (k.same f h.0) ∙ ap (apply (D old f)) (k.same a h.1)
node_kept old new k (Abs None b) h = ap bare (k.same b h)
node_kept {denotes = D} old new k (Abs (Some n) b) h = ap (λ x. annotated x (D new b)) (k.same n h.0) ∙ ap (annotated (D old n)) (k.same b h.1)
node_kept {denotes = D} old new k (Prod a b) h = ap (λ x. product x (D new b)) (k.same a h.0) ∙ ap (product (D old a)) (k.same b h.1)

abbrev Divided : {R T : Type 0} (owns : R → T → Type 0) (denotes : R → T → Tree) (r : R) → PlainEquation → List (Equation T) → Type 0
Divided owns denotes r due es = ((Q : Solver) (s : PlainBindings) (n : ℕ) → equation_solved Q s due n ≡ each_solved Q (pending denotes r es) s n) × OwnsEquations owns r es

pub bare_parts : {R T : Type 0} (owns : R → T → Type 0) (denotes : R → T → Tree) (r : R) (S : PlainSignature) (one other : NodeOf T) (x y : Option T) (b c : T) (arguments pushed : List (Equation T))
    → one ≡ Abs x b → x ≡ None → other ≡ Abs y c → y ≡ None → OwnsParts owns r one → OwnsParts owns r other → OwnsEquations owns r arguments → pushed ≡ arguments ++ (record { one = b; other = c }) ∷ []
    → Divided owns denotes r (divided S (built denotes r one) (built denotes r other) (pending denotes r arguments)) pushed
bare_parts {T = T} owns denotes r S one other x y b c arguments pushed e f g h o p q i =
    let is : one ≡ Abs None b = e ∙ ap (λ z. Abs z b) f in
    let js : other ≡ Abs None c = g ∙ ap (λ z. Abs z c) h in (
      λ Q s n. ap (λ z. equation_solved Q s (divided S (built denotes r z) (built denotes r other) (pending denotes r arguments)) n) is
          ∙ ap (λ z. equation_solved Q s (divided S (bare (denotes r b)) (built denotes r z) (pending denotes r arguments)) n) js
          ∙ flip (ap (λ l. each_solved Q l s n) (ap (pending denotes r) i ∙ pending_pushed denotes r arguments (record { one = b; other = c }))),
      subst (OwnsEquations owns r) (flip i) (equations_appended owns r arguments ((record { one = b; other = c }) ∷ []) q (record { one = subst (OwnsParts owns r) is o; other = subst (OwnsParts owns r) js p }, tt)),
    )

pub product_parts : {R T : Type 0} (owns : R → T → Type 0) (denotes : R → T → Tree) (r : R) (S : PlainSignature) (one other : NodeOf T) (a b c d : T) (arguments first pushed : List (Equation T))
    → one ≡ Prod a b → other ≡ Prod c d → OwnsParts owns r one → OwnsParts owns r other → OwnsEquations owns r arguments → first ≡ arguments ++ (record { one = b; other = d }) ∷ []
    → pushed ≡ first ++ (record { one = a; other = c }) ∷ [] → Divided owns denotes r (divided S (built denotes r one) (built denotes r other) (pending denotes r arguments)) pushed
product_parts owns denotes r S one other a b c d arguments first pushed e g o p q i j =
    let m = subst (OwnsParts owns r) e o in
    let l = subst (OwnsParts owns r) g p in (
      λ Q s n. ap (λ z. equation_solved Q s (divided S (built denotes r z) (built denotes r other) (pending denotes r arguments)) n) e
          ∙ ap (λ z. equation_solved Q s (divided S (product (denotes r a) (denotes r b)) (built denotes r z) (pending denotes r arguments)) n) g
          ∙ flip (ap (λ l. each_solved Q l s n) (ap (pending denotes r) j ∙ pending_pushed denotes r first (record { one = a; other = c })
          ∙ ap (λ ps. (let x : Tree × Tree = (denotes r a, denotes r c) in x) ∷ ps) (ap (pending denotes r) i ∙ pending_pushed denotes r arguments (record { one = b; other = d })))),
      subst (OwnsEquations owns r) (flip j) (equations_appended owns r first ((record { one = a; other = c }) ∷ [])
          (subst (OwnsEquations owns r) (flip i) (equations_appended owns r arguments ((record { one = b; other = d }) ∷ []) q (record { one = m.1; other = l.1 }, tt)))
          (record { one = m.0; other = l.0 }, tt)),
    )

-- the arguments of two applications
pub applied_step : {R T : Type 0} {owns : R → T → Type 0} {denotes : R → T → Tree} (S : PlainSignature) (at mid new : R) (k : Keeps owns denotes at mid) (l : Keeps owns denotes mid new) (one other one' other' : NodeOf T) (f a g b : T) (arguments pushed : List (Equation T))
    → one ≡ App f a → other ≡ App g b → OwnsParts owns at one → OwnsParts owns at other → OwnsEquations owns at arguments → pushed ≡ arguments ++ (record { one = a; other = b }) ∷ []
    → denotes at f ≡ built denotes mid one' → OwnsParts owns mid one' → denotes mid g ≡ built denotes new other'
    → divided S (built denotes new one') (built denotes new other') (pending denotes new pushed) ≡ divided S (built denotes at one) (built denotes at other) (pending denotes at arguments)
applied_step {owns = owns} {denotes = D} S at mid new k l one other one' other' f a g b arguments pushed e i o p q j m n w =
    let kl : Keeps owns D at new = keeps_further at mid new k l in
    let x = subst (OwnsParts owns at) e o in
    let y = subst (OwnsParts owns at) i p in
    let first : built D new one' ≡ D at f = node_kept mid new l one' n ∙ flip m in
    let second : built D new other' ≡ D at g = flip w ∙ k.same g y.0 in
    let rest : pending D new pushed ≡ (let z : Tree × Tree = (D at a, D at b) in z) ∷ pending D at arguments = ap (pending D new) j ∙ pending_pushed D new arguments (record { one = a; other = b })
    ∙ ap (λ z. z ∷ pending D new arguments) (same_pair at new kl (kl.same a x.1) (kl.same b y.1)) ∙ ap (λ ps. (let z : Tree × Tree = (D at a, D at b) in z) ∷ ps) (pending_kept at new kl arguments q) in
    ap (λ z. divided S z (built D new other') (pending D new pushed)) first ∙ ap (λ z. divided S (D at f) z (pending D new pushed)) second ∙ ap (divided S (D at f) (D at g)) rest
    ∙ flip (divided_applied S (D at f) (D at a) (D at g) (D at b) (pending D at arguments))
    ∙ flip (ap (λ z. divided S (built D at z) (built D at other) (pending D at arguments)) e ∙ ap (λ z. divided S (apply (D at f) (D at a)) (built D at z) (pending D at arguments)) i)

-- ---- a binding, or parts

may_is : (b : Bool) (j k : ℕ) (u : Tree) → may_bind j u ≡ b → Some k ≡ (if b then Some j else None) → (j ≡ k) × (mentions_rule_variable k u ≡ false) × IsClosedAt 0 u
may_is true j k u e q = let i = may_bind_is j u e in let x : j ≡ k = cc in (x, subst (λ l. mentions_rule_variable l u ≡ false) x i.0, i.1)
may_is false j k u e q = cc

-- the rule variable that may be bound to a term is the other one, doesn't stand in it, and the term is closed
pub binder_is : (t u : Tree) (k : ℕ) → Some k ≡ binder_of t u → (t ≡ rule_variable k) × (mentions_rule_variable k u ≡ false) × IsClosedAt 0 u
binder_is star u k e = cc
binder_is kind u k e = cc
binder_is (symbol j) u k e = cc
binder_is (variable j) u k e = cc
binder_is (rule_variable j) u k e = let i = may_is (may_bind j u) j k u refl e in (ap rule_variable i.0, i.1, i.2)
binder_is (apply f a) u k e = cc
binder_is (bare b) u k e = cc
binder_is (annotated n b) u k e = cc
binder_is (product a b) u k e = cc

pub may_be_bound : {R T : Type 0} (owns : R → T → Type 0) (denotes : R → T → Tree) (old new : R) (k : Keeps owns denotes old new) (b : Bindings T) (i : ℕ) (t u : T) → OwnsBindings owns denotes old b → owns old u → IsFree (terms_of denotes old b) (denotes old t)
    → IsFree (terms_of denotes old b) (denotes old u) → Some i ≡ binder_of (denotes old t) (denotes old u) → MayBind owns denotes new b i u
may_be_bound owns denotes old new k b i t u w o f g e =
    let s = terms_of denotes old b in
    let h = binder_is (denotes old t) (denotes old u) i e in
    let kept = terms_kept old new k b w in
    let same : denotes new u ≡ denotes old u = k.same u o in
    let unbound : capture_at s i ≡ None = subst (IsFree s) h.0 f in
    record {
      own = k.own u o;
      closed = subst (IsClosedAt 0) (flip same) h.2;
      free = subst (λ z. IsFree z (denotes new u)) (flip kept) (subst (IsFree s) (flip same) g);
      unbound = ap (λ z. capture_at z i) kept ∙ unbound;
      without = ap (mentions_rule_variable i) same ∙ h.1;
    }

abbrev rest_of : PlainSignature → Tree → Tree → PlainEquation
rest_of S t u = parts_or (set_apart S t u) (rigid_parts S t u)

pub first_binds : (S : PlainSignature) (t u : Tree) (k : ℕ) → Some k ≡ binder_of t u → equation_of S t u ≡ binds k u
first_binds S t u k e = ap (binds_or (binds_or (rest_of S t u) t (binder_of u t)) u) (flip e)

pub second_binds : (S : PlainSignature) (t u : Tree) (k : ℕ) → None ≡ binder_of t u → Some k ≡ binder_of u t → equation_of S t u ≡ binds k t
second_binds S t u k n e = ap (binds_or (binds_or (rest_of S t u) t (binder_of u t)) u) (flip n) ∙ ap (binds_or (rest_of S t u) t) (flip e)

pub no_binds : (S : PlainSignature) (t u : Tree) → None ≡ binder_of t u → None ≡ binder_of u t → equation_of S t u ≡ divided S t u []
no_binds S t u n e = ap (binds_or (binds_or (rest_of S t u) t (binder_of u t)) u) (flip n) ∙ ap (binds_or (rest_of S t u) t) (flip e) ∙ flip (divided_none S t u)

pub binders_same : {t u t' u' : Tree} (o : Option ℕ) → o ≡ binder_of t' u' → t' ≡ t → u' ≡ u → o ≡ binder_of t u
binders_same {u = u} {t' = t'} o e f g = e ∙ ap (binder_of t') g ∙ ap (λ z. binder_of z u) f

-- a rule variable is bound, and nothing is left to solve
pub step_binds : {R T : Type 0} (owns : R → T → Type 0) (denotes : R → T → Tree) (old at new : R) (k : Keeps owns denotes old at) (b d : Bindings T) (due : PlainEquation) (v : T) (i : ℕ) (es : Vec (Equation T) Global)
    → OwnsBindings owns denotes old b → owns old v → due ≡ binds i (denotes old v) → IsBound owns denotes at b i v new d → es.items ≡ [] → StepsTo owns denotes (terms_of denotes old b) due new d (Ok es)
step_binds owns denotes old at new k b d due v i es w o e h q =
    let s = terms_of denotes old b in
    let same = h.same ∙ ap (λ z. bound z i (denotes at v)) (terms_kept old at k b w) ∙ ap (bound s i) (k.same v o) in (
      λ Q n. ap (λ z. equation_solved Q s z n) e ∙ ap (λ z. answer z n) (flip same) ∙ flip (ap (λ z. each_solved Q (pending denotes new z) (terms_of denotes new d) n) q),
      subst (OwnsEquations owns new) (flip q) tt,
      h.own,
    )

pub step_parts : {R T : Type 0} (owns : R → T → Type 0) (denotes : R → T → Tree) (new : R) (b : Bindings T) (s : PlainBindings) (due x : PlainEquation) (o : Result (Vec (Equation T) Global) TypeFault)
    → Divides owns denotes x new o → due ≡ x → terms_of denotes new b ≡ s → OwnsBindings owns denotes new b → StepsTo owns denotes s due new b o
step_parts owns denotes new b s due x (Ok es) h e q w = (λ Q n. ap (λ z. equation_solved Q s z n) e ∙ h.0 Q s n ∙ ap (λ z. each_solved Q (pending denotes new es.items) z n) (flip q), h.1, w)
step_parts owns denotes new b s due x (Err (Refused c)) h e q w = (e ∙ h.0, h.1)
step_parts owns denotes new b s due x (Err Ended) h e q w = h
step_parts owns denotes new b s due x (Err NoMemory) h e q w = tt

pub divides_is : {R T : Type 0} (owns : R → T → Type 0) (denotes : R → T → Tree) (new : R) (due x : PlainEquation) (o : Result (Vec (Equation T) Global) TypeFault) → x ≡ due → Divides owns denotes x new o → Divides owns denotes due new o
divides_is owns denotes new due x o e h = subst (λ z. Divides owns denotes z new o) e h

-- what a step gives, of the equation that came to it
pub one_steps : {R T : Type 0} (owns : R → T → Type 0) (denotes : R → T → Tree) (S : PlainSignature) (new : R) (d : Bindings T) (s : PlainBindings) (x : Judged PlainBindings) (due : PlainEquation) (n : ℕ) (o : Result (Vec (Equation T) Global) TypeFault)
    → x ≡ equation_solved (solved S) s due n → StepsTo owns denotes s due new d o → GivesEquations owns denotes S x new d o n
one_steps owns denotes S new d s x due n (Ok es) e h = (e ∙ h.0 (solved S) n, h.1, h.2)
one_steps owns denotes S new d s x due n (Err (Refused c)) e h = clash_fails c n x (solved S) s due e h.0 h.1
one_steps owns denotes S new d s x due n (Err Ended) e h = absurd h
one_steps owns denotes S new d s x due n (Err NoMemory) e h = tt

-- nothing is pending any more
pub none_pending : {R T : Type 0} (owns : R → T → Type 0) (denotes : R → T → Tree) (S : PlainSignature) (r : R) (b : Bindings T) (es : List (Equation T)) (due : Judged PlainBindings) (n : ℕ)
    → each_solved (solved S) (pending denotes r es) (terms_of denotes r b) n ≡ due → es ≡ [] → due ≡ answer (terms_of denotes r b) n
none_pending owns denotes S r b es due n e q = flip e ∙ ap (λ z. each_solved (solved S) (pending denotes r z) (terms_of denotes r b) n) q

-- the last of those pending fails
pub last_fails : {R T : Type 0} (denotes : R → T → Tree) (S : PlainSignature) (r : R) (es front : List (Equation T)) (e : Equation T) (s : PlainBindings) (n : ℕ) (f : TypeFault) (spare : ℕ) (due : Judged PlainBindings)
    → each_solved (solved S) (pending denotes r es) s n ≡ due → es ≡ front ++ e ∷ [] → Fails f spare (solved S s (denotes r e.one) (denotes r e.other) n) → Fails f spare due
last_fails denotes S r es front e s n f spare due h q x =
    fails_is f spare due (next (solved S s (denotes r e.one) (denotes r e.other) n) (λ z i. each_solved (solved S) (pending denotes r front) z i))
    (flip h ∙ ap (λ l. each_solved (solved S) l s n) (ap (pending denotes r) q ∙ pending_pushed denotes r front e))
    (fails_next f spare (solved S s (denotes r e.one) (denotes r e.other) n) _ x)

pub parts_apart : {R T : Type 0} (owns : R → T → Type 0) (denotes : R → T → Tree) (r : R) (S : PlainSignature) (one other node : NodeOf T) (f a : T) (done : List (Tree × Tree)) → one ≡ App f a → node ≡ other → is_application (built denotes r node) ≡ false
    → set_apart S (built denotes r (App f a)) (built denotes r node) ≡ divided S (built denotes r one) (built denotes r other) done
parts_apart owns denotes r S one other node f a done e q h = flip (divided_apart S (apply (denotes r f) (denotes r a)) (built denotes r node) done refl h)
    ∙ ap (λ z. divided S (built denotes r z) (built denotes r node) done) (flip e) ∙ ap (λ z. divided S (built denotes r one) (built denotes r z) done) q
