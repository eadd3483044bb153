-- Evaluation takes the same units whatever it is given: with fewer the answer is the same, or they do not suffice.
use Rattle.std.proofs.Common.{List, [], ◌∷◌, ℕ, zero, suc, ◌≡◌, ◌<◌, ◌≤◌, ◌+◌, ◌-◌, ◌*◌, Bool, true, false, nat_lt, Option, Some, None, refl, ap, sym, subst, ◌∙◌, arith, if◌then◌else◌}
use Rattle.std.proofs.lemmas.Bool.Decides.{nat_tests}
use Rattle.std.specs.Prelude.{slice_get, slice_set, replicate, not}
use Rattle.dk_model.specs.Trees.{Tree, apply, bare, annotated, product}
use Rattle.dk_model.specs.Substitution.{shift, equal}
use Rattle.dk_model.specs.Signatures.{rule_variable_pattern, guard_pattern, PlainSignature}
use Rattle.dk_model.specs.Units.{Units, bind}
use Rattle.dk_model.specs.Taking.{Takes}
use Rattle.dk_model.specs.Spines.{head_symbol, contraction, pairs_of}
use Rattle.dk_model.specs.Matrix.{Cell, cell, Column, Row, rigid_at}
use Rattle.dk_model.specs.Captures.{filled, mentions_others, captured, Captures, capture_at}
use Rattle.dk_model.specs.Selection.{part_at, recorded, cell_captures, captures_of_row, guards_hold, row_taken, select_from, PartTrial, Selected}
use Rattle.dk_model.specs.Parts.{each_same, each_normal}
use Rattle.dk_model.specs.Evaluation.{whnf_with, selection_with, comparison_with, normal_with, whnf_of, comparison_of, normal_of, columns, rows, rewritten}
use Rattle.dk_model.proofs.Fuel.{Within, agree}

-- the same answer with `d` units fewer left, or None where there are fewer
abbrev pub lowered : {A : Type 0} → ℕ → Units A → Units A
lowered d None = None
lowered d (Some p) = if nat_lt p.1 d then None else Some (p.0, p.1 - d)

-- a computation that takes the same units whatever it is given, and leaves no more than that
pub record Counts {A : Type 0} (F : ℕ → Units A) : Type 0 where
  pub lowers : (n d : ℕ) → F n ≡ lowered d (F (n + d))
  pub falls : (n : ℕ) → Within (suc n) (F n)

too_few : {A : Type 0} (a d : ℕ) (x y : Units A) → a < d → (if nat_lt a d then x else y) ≡ x
too_few a d x y l = grind (arith, nat_tests)

enough : {A : Type 0} (a d : ℕ) (x y : Units A) → d ≤ a → (if nat_lt a d then x else y) ≡ y
enough a d x y l = grind (arith, nat_tests)

gone : {A : Type 0} (d : ℕ) (y : Units A) → Within d y → lowered d y ≡ None
gone d None w = refl
gone d (Some p) w = too_few p.1 d None (Some (p.0, p.1 - d)) w

within_more : {A : Type 0} (b d : ℕ) (x : Units A) → b ≤ d → Within b x → Within d x
within_more b d None le h = tt
within_more b d (Some p) le h = omega arith

below_or_from : (a d : ℕ) (C : Type 0) → (a < d → C) → (d ≤ a → C) → C
below_or_from a d C f g = by (nat_lt a d) refl
  where
    by : (b : Bool) → nat_lt a d ≡ b → C
    by true e = f (grind (arith, nat_tests))
    by false e = g (grind (arith, nat_tests))

counts_some : {A : Type 0} (a : A) → Counts {A = A} (λ n. Some (a, n))
counts_some a = record {
  lowers = λ n d. (λ i. Some (a, (let e : n ≡ n + d - d = omega arith in e) i)) ∙ sym (enough (n + d) d None (Some (a, n + d - d)) (omega arith));
  falls = λ n. omega arith;
}

counts_none : {A : Type 0} → Counts {A = A} (λ n. None)
counts_none = record { lowers = λ n d. refl; falls = λ n. tt }

bind_lowered : {A B : Type 0} (d : ℕ) (y : Units A) (f : A → ℕ → Units B) → ((a : A) → Counts (f a)) → bind (lowered d y) f ≡ lowered d (bind y f)
bind_lowered d None f c = refl
bind_lowered {A} {B} d (Some p) f c = below_or_from p.1 d (bind (lowered d (Some p)) f ≡ lowered d (f p.0 p.1))
    (λ l. ap (λ y. bind y f) (too_few p.1 d None (Some (p.0, p.1 - d)) l) ∙ sym (gone d (f p.0 p.1) (within_more (suc p.1) d (f p.0 p.1) (omega arith) ((c p.0).falls p.1))))
    (λ l. ap (λ y. bind y f) (enough p.1 d None (Some (p.0, p.1 - d)) l) ∙ (c p.0).lowers (p.1 - d) d
    ∙ ap (λ k. lowered d (f p.0 k)) (let e : p.1 - d + d ≡ p.1 = omega arith in e))

bind_falls : {A B : Type 0} (n : ℕ) (y : Units A) (f : A → ℕ → Units B) → Within (suc n) y → ((a : A) → Counts (f a)) → Within (suc n) (bind y f)
bind_falls n None f w c = tt
bind_falls n (Some p) f w c = within_more (suc p.1) (suc n) (f p.0 p.1) (omega arith) ((c p.0).falls p.1)

counts_bind : {A B : Type 0} {F : ℕ → Units A} {f : A → ℕ → Units B} → Counts F → ((a : A) → Counts (f a)) → Counts (λ n. bind (F n) f)
counts_bind {A} {B} {F} {f} h c = record {
  lowers = λ n d. ap (λ y. bind y f) (h.lowers n d) ∙ bind_lowered d (F (n + d)) f c;
  falls = λ n. bind_falls n (F n) f (h.falls n) c;
}

counts_if : {A : Type 0} (b : Bool) {F G : ℕ → Units A} → Counts F → Counts G → Counts (λ n. if b then F n else G n)
counts_if true h k = record { lowers = h.lowers; falls = h.falls }
counts_if false h k = record { lowers = k.lowers; falls = k.falls }

counts_option : {A B : Type 0} (o : Option A) {F : ℕ → Units B} {G : A → ℕ → Units B} → Counts F → ((a : A) → Counts (G a))
    → Counts (λ n. elim o as (λ _. Units B) [ None ↦ F n | Some a ↦ G a n ])
counts_option None h k = record { lowers = h.lowers; falls = h.falls }
counts_option (Some a) h k = record { lowers = (k a).lowers; falls = (k a).falls }

-- one unit first
counts_turn : {A : Type 0} (F G : ℕ → Units A) → G 0 ≡ None → ((n : ℕ) → G (suc n) ≡ F n) → Counts F → Counts G
counts_turn {A} F G none some h = record { lowers = lowers; falls = falls }
  where
    lowers : (n d : ℕ) → G n ≡ lowered d (G (n + d))
    lowers zero zero = none ∙ ap (lowered 0) (sym none)
    lowers zero (suc d) = none ∙ sym (gone (suc d) (F d) (h.falls d)) ∙ ap (lowered (suc d)) (sym (some d)) ∙ ap (λ k. lowered (suc d) (G k)) (let e : suc d ≡ 0 + suc d = omega arith in e)
    lowers (suc n) d = some n ∙ h.lowers n d ∙ ap (lowered d) (sym (some (n + d))) ∙ ap (λ k. lowered d (G k)) (let e : suc (n + d) ≡ suc n + d = omega arith in e)

    falls : (n : ℕ) → Within (suc n) (G n)
    falls zero = subst (λ (y : Units A). Within 1 y) (sym none) tt
    falls (suc n) = subst (λ (y : Units A). Within (suc (suc n)) y) (sym (some n)) (within_more (suc n) (suc (suc n)) (F n) (omega arith) (h.falls n))

module _ (N : ℕ → Tree → Units Tree) (C : ℕ → Tree → Tree → Units Bool) (cn : (t : Tree) → Counts (λ n. N n t)) (cc' : (t u : Tree) → Counts (λ n. C n t u)) where
  part_at_counts : (k : ℕ) (xs : List ℕ) (t : Tree) → Counts (λ n. part_at N n k xs t)
  part_at_counts k xs t = counts_if (mentions_others 0 k xs t) (counts_bind (cn t) (λ u. counts_some (record { term = u; fits = not (mentions_others 0 k xs u) }))) (counts_some (record { term = t; fits = true }))

  recorded_counts : (cs : Captures) (k : ℕ) (t : Tree) → Counts (λ n. recorded C n cs k t)
  recorded_counts cs k t = counts_option (capture_at cs k) (counts_some (Some (slice_set cs k (Some t))))
      (λ u. counts_bind (cc' u t) (λ alike. counts_some (if alike then Some cs else None)))

  cell_captures_counts : (x : Cell) (col : Column) (cs : Captures) → Counts (λ n. cell_captures N C x col n cs)
  cell_captures_counts (cell (rule_variable_pattern k xs)) col cs = counts_bind (part_at_counts col.depth xs col.term) (λ part.
      counts_if part.fits (counts_bind (recorded_counts cs k (captured col.depth xs part.term)) (λ o. counts_some (record { captures = o; column = record { depth = col.depth; term = part.term } }))) (counts_some (record { captures = None; column = record { depth = col.depth; term = part.term } })))
  cell_captures_counts x col cs = counts_some (record { captures = Some cs; column = col })

  captures_of_row_counts : (cells : List Cell) (cols : List Column) (cs : Captures) → Counts (λ n. captures_of_row N C cells cols n cs)
  captures_of_row_counts [] cols cs = counts_some (record { captures = Some cs; columns = cols })
  captures_of_row_counts (x ∷ rest) [] cs = counts_some (record { captures = Some cs; columns = [] })
  captures_of_row_counts (x ∷ rest) (col ∷ cols) cs = counts_bind (cell_captures_counts x col cs) (λ o.
      counts_option o.captures (counts_some (record { captures = None; columns = o.column ∷ cols })) (λ cs'. counts_bind (captures_of_row_counts rest cols cs') (λ r. counts_some (record { captures = r.captures; columns = o.column ∷ r.columns }))))

  guards_hold_counts : (cells : List Cell) (cols : List Column) (cs : Captures) → Counts (λ n. guards_hold C cells cols n cs)
  guards_hold_counts [] cols cs = counts_some true
  guards_hold_counts (x ∷ rest) [] cs = counts_some true
  guards_hold_counts (cell (guard_pattern g) ∷ rest) (col ∷ cols) cs = counts_bind (cc' col.term (shift 0 col.depth (filled cs 0 g))) (λ alike.
      counts_if alike (guards_hold_counts rest cols cs) (counts_some false))
  guards_hold_counts (x ∷ rest) (col ∷ cols) cs = guards_hold_counts rest cols cs

  row_taken_counts : (r : Row) (cols : List Column) → Counts (λ n. row_taken N C r cols n)
  row_taken_counts r cols = counts_bind (captures_of_row_counts r.cells cols (replicate r.rule.vars None)) (λ o.
      counts_option o.captures (counts_some (record { captures = None; columns = o.columns })) (λ cs. counts_bind (guards_hold_counts r.cells o.columns cs) (λ alike. counts_some (record { captures = if alike then Some cs else None; columns = o.columns }))))

  each_same_counts : (ps : List (Tree × Tree)) → Counts (λ n. each_same C ps n)
  each_same_counts [] = counts_some true
  each_same_counts (p ∷ ps) = counts_bind (cc' p.0 p.1) (λ alike. counts_if alike (each_same_counts ps) (counts_some false))

  each_normal_counts : (t : Tree) → Counts (λ n. each_normal N t n)
  each_normal_counts (apply f a) = counts_bind (each_normal_counts f) (λ g. counts_bind (cn a) (λ b. counts_some (apply g b)))
  each_normal_counts (bare b) = counts_bind (cn b) (λ u. counts_some (bare u))
  each_normal_counts (annotated a b) = counts_bind (cn a) (λ t. counts_bind (cn b) (λ u. counts_some (annotated t u)))
  each_normal_counts (product a b) = counts_bind (cn a) (λ t. counts_bind (cn b) (λ u. counts_some (product t u)))
  each_normal_counts t = counts_some t

  module _ (W : ℕ → Tree → Units Tree) (A : ℕ → List Column → List Row → Units (Option Selected))
      (cw : (t : Tree) → Counts (λ n. W n t)) (ca : (cols : List Column) (rs : List Row) → Counts (λ n. A n cols rs)) where
    select_counts : (rs : List Row) (cols : List Column) → Counts (λ n. select_from N C W A rs cols n)
    select_counts [] cols = counts_some None
    select_counts (r ∷ rs) cols = counts_option (rigid_at r.cells)
        (counts_bind (row_taken_counts r cols) (λ o. counts_option o.captures (select_counts rs o.columns) (λ cs. counts_some (Some (record { captures = cs; rule = r.rule })))))
        (λ i. counts_option (slice_get cols i) (counts_some None) (λ col. counts_bind (cw col.term) (λ v. ca _ _)))

-- the four count, with the fuel `f`
pub record AllCount (f : ℕ) (S : PlainSignature) : Type 0 where
  pub on_whnf : (t : Tree) → Counts (λ n. whnf_with f S n t)
  pub on_comparison : (t u : Tree) → Counts (λ n. comparison_with f S n t u)
  pub on_normal : (t : Tree) → Counts (λ n. normal_with f S n t)
  pub on_selection : (cols : List Column) (rs : List Row) → Counts (λ n. selection_with f S n cols rs)

module _ (S : PlainSignature) where
  whnf_turn : (f : ℕ) → AllCount f S → (t : Tree) → Counts (λ n. whnf_with (suc f) S n t)
  whnf_turn f K t = counts_turn _ (λ n. whnf_with (suc f) S n t) refl (λ n. refl)
      (counts_option (contraction t)
      (counts_option (head_symbol t) (counts_some t) (λ k. counts_bind (K.on_selection (columns S k t) (rows S k t)) (λ o.
      counts_option o (counts_some t) (λ p. K.on_whnf (rewritten t p)))))
      (λ t'. K.on_whnf t'))

  comparison_turn : (f : ℕ) → AllCount f S → (t u : Tree) → Counts (λ n. comparison_with (suc f) S n t u)
  comparison_turn f K t u = counts_turn _ (λ n. comparison_with (suc f) S n t u) refl (λ n. refl)
      (counts_if (equal t u) (counts_some true)
      (counts_bind (K.on_whnf t) (λ t'. counts_bind (K.on_whnf u) (λ u'.
      counts_option (pairs_of t' u') (counts_some false) (λ ps. each_same_counts (normal_with f S) (comparison_with f S) K.on_normal K.on_comparison ps)))))

  normal_turn : (f : ℕ) → AllCount f S → (t : Tree) → Counts (λ n. normal_with (suc f) S n t)
  normal_turn f K t = counts_turn _ (λ n. normal_with (suc f) S n t) refl (λ n. refl)
      (counts_bind (K.on_whnf t) (λ t'. each_normal_counts (normal_with f S) (comparison_with f S) K.on_normal K.on_comparison t'))

  pub all_count : (f : ℕ) → AllCount f S
  all_count zero = record { on_whnf = λ t. counts_none; on_comparison = λ t u. counts_none; on_normal = λ t. counts_none; on_selection = λ cols rs. counts_none }
  all_count (suc f) = let K : AllCount f S = all_count f in record {
    on_whnf = whnf_turn f K;
    on_comparison = comparison_turn f K;
    on_normal = normal_turn f K;
    on_selection = λ cols rs. select_counts (normal_with f S) (comparison_with f S) K.on_normal K.on_comparison (whnf_with f S) (selection_with f S) K.on_whnf K.on_selection rs cols;
  }

  -- without fuel
  pub whnf_counts : (t : Tree) → Counts (λ n. whnf_of S n t)
  whnf_counts t = record {
    lowers = λ n d. ((agree S (2 * n) (2 * (n + d))).on_whnf n t (omega arith) (omega arith)).0 ∙ ((all_count (2 * (n + d))).on_whnf t).lowers n d;
    falls = λ n. ((all_count (2 * n)).on_whnf t).falls n;
  }

  pub comparison_counts : (t u : Tree) → Counts (λ n. comparison_of S n t u)
  comparison_counts t u = record {
    lowers = λ n d. ((agree S (2 * n) (2 * (n + d))).on_comparison n t u (omega arith) (omega arith)).0 ∙ ((all_count (2 * (n + d))).on_comparison t u).lowers n d;
    falls = λ n. ((all_count (2 * n)).on_comparison t u).falls n;
  }

  pub normal_counts : (t : Tree) → Counts (λ n. normal_of S n t)
  normal_counts t = record {
    lowers = λ n d. ((agree S (2 * n) (2 * (n + d))).on_normal n t (omega arith) (omega arith)).0 ∙ ((all_count (2 * (n + d))).on_normal t).lowers n d;
    falls = λ n. ((all_count (2 * n)).on_normal t).falls n;
  }

lowered-some : {A : Type 0} (d : ℕ) (a : A) (k : ℕ) → d ≤ k → lowered d (Some (a, k)) ≡ Some (a, k - d)
lowered-some d a k l = enough k d None (Some (a, k - d)) l

lowered-none : {A : Type 0} (d : ℕ) (a : A) (k : ℕ) → k < d → lowered d (Some (a, k)) ≡ None
lowered-none d a k l = too_few k d None (Some (a, k - d)) l

-- where a value is given back by `lowered`, it had as many units more
raised_back : {A : Type 0} (d : ℕ) (y : Units A) (a : A) (k : ℕ) → Some (a, k) ≡ lowered d y → y ≡ Some (a, k + d)
raised_back d None a k e = cc
raised_back {A} d (Some p) a k e = below_or_from p.1 d (Some p ≡ Some (a, k + d))
    (λ l. absurd (some_none (e ∙ lowered-none d p.0 p.1 l)))
    (λ l. let f = e ∙ lowered-some d p.0 p.1 l in
    let q = same_pair f in
    let g : k ≡ p.1 - d = ap (λ (x : A × ℕ). x.1) q in
    let h : p.0 ≡ a = sym (ap (λ (x : A × ℕ). x.0) q) in
    let j : p.1 ≡ k + d = omega arith in
    λ i. Some (h i, j i))
  where
    some_none : {x : A × ℕ} → Some x ≡ None → ⊥
    some_none s = cc

    same_pair : {x y : A × ℕ} → Some x ≡ Some y → x ≡ y
    same_pair s = cc

-- what one run took is what each run takes: so a remembered answer is exact, with any number of units left
pub takes : {A : Type 0} (F : ℕ → Units A) (v : A) (n k : ℕ) → Counts F → F n ≡ Some (v, k) → Takes F v (n - k)
takes {A} F v n k c e = record { suffices = suffices; ends = ends }
  where
    falls : k ≤ n
    falls = subst (λ (y : Units A). Within (suc n) y → k ≤ n) (sym e) (λ w. omega arith) (c.falls n)

    at-more : (m : ℕ) → n ≤ m → F m ≡ Some (v, k + (m - n))
    at-more m l = raised_back (m - n) (F m) v k
        (sym e ∙ c.lowers n (m - n) ∙ ap (λ j. lowered (m - n) (F j)) (let f : n + (m - n) ≡ m = omega arith in f))

    at-fewer : (m : ℕ) → m ≤ n → F m ≡ lowered (n - m) (Some (v, k))
    at-fewer m l = c.lowers m (n - m) ∙ ap (λ j. lowered (n - m) (F j)) (let f : m + (n - m) ≡ n = omega arith in f) ∙ ap (lowered (n - m)) e

    suffices : (m : ℕ) → n - k ≤ m → F m ≡ Some (v, m - (n - k))
    suffices m l = below_or_from m n (F m ≡ Some (v, m - (n - k)))
        (λ b. at-fewer m (omega arith) ∙ lowered-some (n - m) v k (omega arith) ∙ ap (λ j. Some (v, j)) (let f : k - (n - m) ≡ m - (n - k) = omega (arith, falls) in f))
        (λ b. at-more m b ∙ ap (λ j. Some (v, j)) (let f : k + (m - n) ≡ m - (n - k) = omega (arith, falls) in f))

    ends : (m : ℕ) → m < n - k → F m ≡ None
    ends m l = at-fewer m (omega arith) ∙ lowered-none (n - m) v k (omega arith)

-- the weak head form, the comparison and the normal form
pub whnf_takes : (S : PlainSignature) (t v : Tree) (n k : ℕ) → whnf_of S n t ≡ Some (v, k) → Takes (λ m. whnf_of S m t) v (n - k)
whnf_takes S t v n k e = takes (λ m. whnf_of S m t) v n k (whnf_counts S t) e

pub comparison_takes : (S : PlainSignature) (t u : Tree) (b : Bool) (n k : ℕ) → comparison_of S n t u ≡ Some (b, k) → Takes (λ m. comparison_of S m t u) b (n - k)
comparison_takes S t u b n k e = takes (λ m. comparison_of S m t u) b n k (comparison_counts S t u) e

pub normal_takes : (S : PlainSignature) (t v : Tree) (n k : ℕ) → normal_of S n t ≡ Some (v, k) → Takes (λ m. normal_of S m t) v (n - k)
normal_takes S t v n k e = takes (λ m. normal_of S m t) v n k (normal_counts S t) e

-- what the first gives the second gives too, with `d` units more left
abbrev pub Raised : {A : Type 0} → ℕ → Units A → Units A → Type 0
Raised d None y = Unit {0}
Raised d (Some p) y = y ≡ Some (p.0, p.1 + d)

raised : {A : Type 0} (d : ℕ) (x y : Units A) → x ≡ lowered d y → Raised d x y
raised d None y e = tt
raised d (Some p) y e = raised_back d y p.0 p.1 e

pub whnf_raised : (d : ℕ) (S : PlainSignature) (n m : ℕ) (t : Tree) → m ≡ n + d → Raised d (whnf_of S n t) (whnf_of S m t)
whnf_raised d S n m t e = raised d (whnf_of S n t) (whnf_of S m t) ((whnf_counts S t).lowers n d ∙ ap (λ k. lowered d (whnf_of S k t)) (sym e))

pub comparison_raised : (d : ℕ) (S : PlainSignature) (n m : ℕ) (t u : Tree) → m ≡ n + d → Raised d (comparison_of S n t u) (comparison_of S m t u)
comparison_raised d S n m t u e = raised d (comparison_of S n t u) (comparison_of S m t u)
    ((comparison_counts S t u).lowers n d ∙ ap (λ k. lowered d (comparison_of S k t u)) (sym e))

pub normal_raised : (d : ℕ) (S : PlainSignature) (n m : ℕ) (t : Tree) → m ≡ n + d → Raised d (normal_of S n t) (normal_of S m t)
normal_raised d S n m t e = raised d (normal_of S n t) (normal_of S m t) ((normal_counts S t).lowers n d ∙ ap (λ k. lowered d (normal_of S k t)) (sym e))

pub part_at_raised : (d : ℕ) (S : PlainSignature) (n m k : ℕ) (xs : List ℕ) (t : Tree) → m ≡ n + d
    → Raised d (part_at (normal_of S) n k xs t) (part_at (normal_of S) m k xs t)
part_at_raised d S n m k xs t e =
    let F : ℕ → Units PartTrial = λ i. part_at (normal_of S) i k xs t in
    raised d (F n) (F m) ((part_at_counts (normal_of S) (comparison_of S) (normal_counts S) (comparison_counts S) k xs t).lowers n d ∙ ap (λ i. lowered d (F i)) (sym e))
