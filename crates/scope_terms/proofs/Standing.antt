-- The operations of a written term, made one by one.
use Rattle.std.proofs.Common.{◌≡◌, ◌+◌, ◌<◌, ◌≤◌, ℕ, zero, suc, List, [], ◌∷◌, get_or, length, ap, sym, subst, ◌∙◌, refl, arith}
use Rattle.std.specs.Prelude.{Option, Some, None, drop, slice_get, take}
use Rattle.std.proofs.Math.Seq.{drop-nil}
use Rattle.std.proofs.lemmas.List.{drop_more}
use Rattle.std.proofs.lemmas.Option.{get_or_from_slice_get, slice_get_read, slice_get_within}
use Rattle.dk_model.specs.Trees.{Tree, annotated, apply, bare, product}
use Rattle.dk_model.specs.declared.code.Code.{Code}
use Rattle.dk_model.specs.declared.code.Fault.{Fault}
use Rattle.dk_model.specs.declared.code.Fault.TheVariants.{Refused, NoMemory}
use Rattle.dk_parser.specs.RawViews.{written}
use Rattle.dk_parser.specs.Written.{Written, written_name, written_qualified, written_star, written_wild}
use Rattle.dk_terms.specs.Makes.{Makes, MakesTerm, made_already, makes_then, makes_name, makes_qualified, makes_star, makes_wild, makes_application, makes_scope, makes_product, makes_bare, makes_annotated}
use Rattle.dk_terms.specs.Postfix.{Begun, Item, begun_at, begun_binder, by_arrow, by_binder, item_scope, item_term, product_by, spelling}
use Rattle.dk_terms.specs.declared.operation.RawOperation.{RawOperation}
use Rattle.dk_terms.specs.declared.operation.RawOperation.TheVariants as operation
use Rattle.dk_terms.specs.declared.operation.Opening.{Opening}
use Rattle.dk_terms.specs.declared.operation.Wrap.{Wrap}
use Rattle.dk_terms.specs.declared.raw.RawTerm.{RawTerm}
use Rattle.dk_terms.proofs.Whole.{whole_makes}
use Rattle.scope_terms.specs.Answers.{IsFaultOf}
use Rattle.scope_terms.specs.Binding.{binders}
use Rattle.scope_terms.specs.Placing.{Pushes}
use Rattle.scope_terms.specs.Scopes.{Binder, Scoping, both, one, refused, scoped}
use Rattle.scope_terms.specs.Standing.{IsAtEnd, Stands, binders_over, on_top, one_on_top, trees_over, two_on_top, under_binders, wrap_made, wrap_of, wrap_parts}
use Rattle.scope_terms.specs.declared.binders.Binders.{Binders}
use Rattle.scope_terms.specs.declared.meaning.Scope.{Scope}
use Rattle.scope_terms.proofs.Stages.{both_scoped, both_second}

-- ---- scopings of stacks

scoped_same : (xs ys : List Tree) → scoped xs ≡ scoped ys → xs ≡ ys
scoped_same xs ys e = cc

two_made : (f : Tree → Tree → Tree) (s : Scoping (List Tree)) (a b : Scoping Tree) (ts : List Tree) → both on_top (both on_top s a) b ≡ scoped ts → both on_top s (both f a b) ≡ scoped (two_on_top f ts)
two_made f (scoped r) (scoped x) (scoped y) ts e = ap (λ us. scoped (two_on_top f us)) (scoped_same (y ∷ x ∷ r) ts e)
two_made f s a b ts e = absurd cc

two_there : (s : Scoping (List Tree)) (a b : Scoping Tree) (ts : List Tree) → both on_top (both on_top s a) b ≡ scoped ts → 2 ≤ length ts
two_there (scoped r) (scoped x) (scoped y) ts e = subst (λ (us : List Tree). 2 ≤ length us) (scoped_same (y ∷ x ∷ r) ts e) (omega arith)
two_there s a b ts e = absurd cc

two_refused : (f : Tree → Tree → Tree) (s : Scoping (List Tree)) (a b : Scoping Tree) (c : Code) → both on_top (both on_top s a) b ≡ refused c → both on_top s (both f a b) ≡ refused c
two_refused f (scoped r) (scoped x) (scoped y) c e = absurd cc
two_refused f (refused d) a b c e = e
two_refused f (scoped r) (refused d) b c e = e
two_refused f (scoped r) (scoped x) (refused d) c e = e

one_made : (f : Tree → Tree) (s : Scoping (List Tree)) (a : Scoping Tree) (ts : List Tree) → both on_top s a ≡ scoped ts → both on_top s (one f a) ≡ scoped (one_on_top f ts)
one_made f (scoped r) (scoped x) ts e = ap (λ us. scoped (one_on_top f us)) (scoped_same (x ∷ r) ts e)
one_made f s a ts e = absurd cc

one_there : (s : Scoping (List Tree)) (a : Scoping Tree) (ts : List Tree) → both on_top s a ≡ scoped ts → 1 ≤ length ts
one_there (scoped r) (scoped x) ts e = subst (λ (us : List Tree). 1 ≤ length us) (scoped_same (x ∷ r) ts e) (omega arith)
one_there s a ts e = absurd cc

one_refused : (f : Tree → Tree) (s : Scoping (List Tree)) (a : Scoping Tree) (c : Code) → both on_top s a ≡ refused c → both on_top s (one f a) ≡ refused c
one_refused f (scoped r) (scoped x) c e = absurd cc
one_refused f (refused d) a c e = e
one_refused f (scoped r) (refused d) c e = e

-- the last one is the only one
last_refused : (below : List Tree) (a : Scoping Tree) (c : Code) → both on_top (scoped below) a ≡ refused c → a ≡ refused c
last_refused below (scoped x) c e = absurd cc
last_refused below (refused d) c e = let same : d ≡ c = cc in ap refused same

last_pushed : (below : List Tree) (a : Scoping Tree) (ts : List Tree) → both on_top (scoped below) a ≡ scoped ts → Pushes a below ts
last_pushed below (scoped x) ts e = record { term = x; is = refl; made = sym (scoped_same (x ∷ below) ts e) }
last_pushed below (refused d) ts e = absurd cc

-- ---- what a Making joins

pub two_joined : (f : Tree → Tree → Tree) (old new : List Tree) → 2 ≤ length old → ((x y : Tree) (rest : List Tree) → old ≡ y ∷ x ∷ rest → new ≡ f x y ∷ rest) → new ≡ two_on_top f old
two_joined f (y ∷ x ∷ rest) new there join = join x y rest refl
two_joined f [] new there join = absurd (let q : 2 ≤ 0 = there in omega (arith, q))
two_joined f (y ∷ []) new there join = absurd (let q : 2 ≤ 1 = there in omega (arith, q))

pub one_joined : (f : Tree → Tree) (old new : List Tree) → 1 ≤ length old → ((x : Tree) (rest : List Tree) → old ≡ x ∷ rest → new ≡ f x ∷ rest) → new ≡ one_on_top f old
one_joined f (x ∷ rest) new there under = under x rest refl
one_joined f [] new there under = absurd (let q : 1 ≤ 0 = there in omega (arith, q))

-- ---- the operation of a place

pub there_is : (all xs : List RawOperation) (at : ℕ) (x y : RawOperation) → xs ≡ all → at < length xs → x ≡ get_or xs at x → x ≡ y → slice_get all at ≡ Some y
there_is all xs at x y same within is e = subst (λ (ys : List RawOperation). slice_get ys at ≡ Some y) same (slice_get_read xs (length xs) at x refl within is ∙ ap Some e)

pub wrap_is : (x : Option RawOperation) (w : Wrap) → wrap_of x ≡ Some w → x ≡ Some (operation.Wrap w)
wrap_is (Some (operation.Wrap v)) w e = ap (λ u. Some (operation.Wrap u)) (wrap_same v w e)
  where
    wrap_same : (v w : Wrap) → Some v ≡ Some w → v ≡ w
    wrap_same v w e = cc
wrap_is x w e = absurd cc

pub ends_there : (x : Option RawOperation) → IsAtEnd x → wrap_of x ≡ None → x ≡ None
ends_there None at_end e = refl
ends_there (Some (operation.Wrap w)) at_end e = absurd cc
ends_there (Some x) at_end e = absurd at_end

pub dropped : {A : Type 0} (xs : List A) (at : ℕ) (x : A) → slice_get xs at ≡ Some x → drop at xs ≡ x ∷ drop (at + 1) xs
dropped xs at x e = drop_more xs at x (slice_get_within xs at x e) ∙ ap (λ y. y ∷ drop (at + 1) xs) (get_or_from_slice_get xs at x x e)

-- what an operation leaves of a list to be made
record Goes (letters : List ℕ) (t : Written) (x : RawOperation) (xs : List RawOperation) (items : List Item) : Type 0 where
  pub later : List Item
  pub step : Makes letters x items later
  pub rest : MakesTerm letters t xs later

goes : (letters : List ℕ) (t : Written) (x : RawOperation) (xs : List RawOperation) (items : List Item) → MakesTerm letters t (x ∷ xs) items → Goes letters t x xs items
goes letters t x xs items (makes_then {later = later} step rest) = record { later = later; step = step; rest = rest }

scope_made : (letters : List ℕ) (o : Opening) (items later : List Item) → Makes letters (operation.Begin o) items later → later ≡ item_scope (begun_at letters o) ∷ items
scope_made letters o items later makes_scope = refl

tail_same : (x y : Binder) (xs ys : List Binder) → x ∷ xs ≡ y ∷ ys → xs ≡ ys
tail_same x y xs ys e = cc

dropped_past : {A : Type 0} (xs : List A) (at : ℕ) → slice_get xs at ≡ None → drop at xs ≡ []
dropped_past [] at e = drop-nil at
dropped_past (x ∷ xs) zero e = absurd cc
dropped_past (x ∷ xs) (suc at) e = dropped_past xs at e

-- nothing is left
ended : (letters : List ℕ) (t : Written) (items : List Item) → MakesTerm letters t [] items → items ≡ item_term t ∷ []
ended letters t items made_already = refl

-- ---- atoms

abbrev pub leaf : List ℕ → RawOperation → Option Written
leaf letters (operation.Name s) = Some (written_name (spelling letters s))
leaf letters (operation.Qualified s k) = Some (written_qualified (take k (spelling letters s)) (drop k (spelling letters s)))
leaf letters operation.Star = Some written_star
leaf letters operation.Wild = Some written_wild
leaf letters x = None

some_same : (u w : Written) → Some u ≡ Some w → u ≡ w
some_same u w e = cc

leaf_made : (letters : List ℕ) (x : RawOperation) (items later : List Item) (w : Written) → leaf letters x ≡ Some w → Makes letters x items later → later ≡ item_term w ∷ items
leaf_made letters x items later w e makes_name = ap (λ u. item_term u ∷ items) (some_same _ w e)
leaf_made letters x items later w e makes_qualified = ap (λ u. item_term u ∷ items) (some_same _ w e)
leaf_made letters x items later w e makes_star = ap (λ u. item_term u ∷ items) (some_same _ w e)
leaf_made letters x items later w e makes_wild = ap (λ u. item_term u ∷ items) (some_same _ w e)
leaf_made letters x items later w e step = absurd cc

-- ---- what the items of a term stand for, step by step

module _ (scope : Scope) (outside : List Binder) (below : List Tree) where
  abbrev over : List Item → List Binder
  over items = binders_over outside items

  abbrev trees : List Item → Scoping (List Tree)
  trees items = trees_over scope outside below items

  abbrev sense : List Item → Written → Scoping Tree
  sense items t = under_binders scope (over items) t

  product_sense : (bs : List Binder) (o : Begun) (a b : Written) → under_binders scope bs (product_by o a b) ≡ both product (under_binders scope bs a) (under_binders scope (begun_binder o ∷ bs) b)
  product_sense bs by_arrow a b = refl
  product_sense bs (by_binder v) a b = refl

  -- a fault stays
  further_refused : (letters : List ℕ) (x : RawOperation) (items later : List Item) (c : Code) → Makes letters x items later → trees items ≡ refused c → trees later ≡ refused c
  further_refused letters x items later c (makes_name {s}) e = ap (λ r. both on_top r (sense items (written_name (spelling letters s)))) e
  further_refused letters x items later c (makes_qualified {s} {k}) e = ap (λ r. both on_top r (sense items (written_qualified (take k (spelling letters s)) (drop k (spelling letters s))))) e
  further_refused letters x items later c makes_star e = ap (λ r. both on_top r (sense items written_star)) e
  further_refused letters x items later c makes_wild e = ap (λ r. both on_top r (sense items written_wild)) e
  further_refused letters x items later c (makes_application {f} {a} {items = rest}) e = two_refused apply (trees rest) (sense rest f) (sense rest a) c e
  further_refused letters x items later c makes_scope e = e
  further_refused letters x items later c (makes_product {o} {a} {b} {items = rest}) e =
      ap (both on_top (trees rest)) (product_sense (over rest) o a b) ∙ two_refused product (trees rest) (sense rest a) (under_binders scope (begun_binder o ∷ over rest) b) c e
  further_refused letters x items later c (makes_bare {o} {b} {items = rest}) e = one_refused bare (trees rest) (under_binders scope (begun_binder o ∷ over rest) b) c e
  further_refused letters x items later c (makes_annotated {o} {a} {b} {items = rest}) e = two_refused annotated (trees rest) (sense rest a) (under_binders scope (begun_binder o ∷ over rest) b) c e

  ends_refused : (letters : List ℕ) (t : Written) (xs : List RawOperation) (items : List Item) (c : Code) → MakesTerm letters t xs items → trees items ≡ refused c → under_binders scope outside t ≡ refused c
  ends_refused letters t xs items c made_already e = last_refused below (under_binders scope outside t) c e
  ends_refused letters t xs items c (makes_then {x} {xs = more} {items = its} {later} step rest) e = ends_refused letters t more later c rest (further_refused letters x items later c step e)

  -- an application
  applied_there : (letters : List ℕ) (items later : List Item) (ts : List Tree) → Makes letters operation.Apply items later → trees items ≡ scoped ts → 2 ≤ length ts
  applied_there letters items later ts (makes_application {f} {a} {items = rest}) e = two_there (trees rest) (sense rest f) (sense rest a) ts e

  applied_made : (letters : List ℕ) (items later : List Item) (ts : List Tree) → Makes letters operation.Apply items later → trees items ≡ scoped ts → trees later ≡ scoped (two_on_top apply ts)
  applied_made letters items later ts (makes_application {f} {a} {items = rest}) e = two_made apply (trees rest) (sense rest f) (sense rest a) ts e

  applied_over : (letters : List ℕ) (items later : List Item) → Makes letters operation.Apply items later → over later ≡ over items
  applied_over letters items later (makes_application {f} {a} {items = rest}) = refl

  -- a wrap
  wrapped_there : (letters : List ℕ) (w : Wrap) (items later : List Item) (ts : List Tree) → Makes letters (operation.Wrap w) items later → trees items ≡ scoped ts → wrap_parts w ≤ length ts
  wrapped_there letters w items later ts (makes_product {o} {a} {b} {items = rest}) e = two_there (trees rest) (sense rest a) (under_binders scope (begun_binder o ∷ over rest) b) ts e
  wrapped_there letters w items later ts (makes_bare {o} {b} {items = rest}) e = one_there (trees rest) (under_binders scope (begun_binder o ∷ over rest) b) ts e
  wrapped_there letters w items later ts (makes_annotated {o} {a} {b} {items = rest}) e = two_there (trees rest) (sense rest a) (under_binders scope (begun_binder o ∷ over rest) b) ts e

  wrapped_trees : (letters : List ℕ) (w : Wrap) (items later : List Item) (ts : List Tree) → Makes letters (operation.Wrap w) items later → trees items ≡ scoped ts → trees later ≡ scoped (wrap_made w ts)
  wrapped_trees letters w items later ts (makes_product {o} {a} {b} {items = rest}) e =
      ap (both on_top (trees rest)) (product_sense (over rest) o a b) ∙ two_made product (trees rest) (sense rest a) (under_binders scope (begun_binder o ∷ over rest) b) ts e
  wrapped_trees letters w items later ts (makes_bare {o} {b} {items = rest}) e = one_made bare (trees rest) (under_binders scope (begun_binder o ∷ over rest) b) ts e
  wrapped_trees letters w items later ts (makes_annotated {o} {a} {b} {items = rest}) e = two_made annotated (trees rest) (sense rest a) (under_binders scope (begun_binder o ∷ over rest) b) ts e

  -- the binder that goes out of scope
  record Leaves (items later : List Item) : Type 0 where
    pub binder : Binder
    pub is : over items ≡ binder ∷ over later

  wrapped_over : (letters : List ℕ) (w : Wrap) (items later : List Item) → Makes letters (operation.Wrap w) items later → Leaves items later
  wrapped_over letters w items later (makes_product {o} {a} {b} {items = rest}) = record { binder = begun_binder o; is = refl }
  wrapped_over letters w items later (makes_bare {o} {b} {items = rest}) = record { binder = begun_binder o; is = refl }
  wrapped_over letters w items later (makes_annotated {o} {a} {b} {items = rest}) = record { binder = begun_binder o; is = refl }

  -- there are as many binders as outside, or more
  over_longer : (items : List Item) → length outside ≤ length (over items)
  over_longer [] = omega arith
  over_longer (item_term t ∷ items) = over_longer items
  over_longer (item_scope o ∷ items) = let q = over_longer items in omega (arith, q)

-- ---- the state of the loop

module _ (scope : Scope) (term : RawTerm) (outside : List Binder) (below : List Tree) where
  abbrev StandsAt : ℕ → Binders → List Tree → Type 0
  StandsAt at bound ts = Stands scope term outside below at bound ts

  abbrev meant : Scoping Tree
  meant = under_binders scope outside (written term)

  behind : (at : ℕ) (bound : Binders) (ts : List Tree) (x : RawOperation) → slice_get term.operations at ≡ Some x → (s : StandsAt at bound ts) → Goes term.letters (written term) x (drop (at + 1) term.operations) s.items
  behind at bound ts x there s =
      goes term.letters (written term) x (drop (at + 1) term.operations) s.items
      (subst (λ (xs : List RawOperation). MakesTerm term.letters (written term) xs s.items) (dropped term.operations at x there) s.makes)

  -- at the front
  pub begins : (bound : Binders) → outside ≡ binders bound → StandsAt 0 bound below
  begins bound e = record { items = []; makes = whole_makes term.letters term.operations term.whole; under = e; made = refl }

  pub atom_stands : (at : ℕ) (bound : Binders) (x : RawOperation) (w : Written) (old new : List Tree) → slice_get term.operations at ≡ Some x → leaf term.letters x ≡ Some w
      → Pushes (under_binders scope (binders bound) w) old new → StandsAt at bound old → StandsAt (at + 1) bound new
  atom_stands at bound x w old new there is p s =
      let g = behind at bound old x there s in
      record {
        items = item_term w ∷ s.items;
        makes = subst (λ (items : List Item). MakesTerm term.letters (written term) (drop (at + 1) term.operations) items) (leaf_made term.letters x s.items g.later w is g.step) g.rest;
        under = s.under;
        made = both_scoped on_top (trees_over scope outside below s.items) (under_binders scope (binders_over outside s.items) w) old p.term new s.made
            (ap (λ bs. under_binders scope bs w) s.under ∙ p.is) p.made;
      }

  pub atom_fault : (at : ℕ) (bound : Binders) (x : RawOperation) (w : Written) (old : List Tree) (e : Fault) → slice_get term.operations at ≡ Some x → leaf term.letters x ≡ Some w
      → IsFaultOf (under_binders scope (binders bound) w) e → StandsAt at bound old → IsFaultOf meant e
  atom_fault at bound x w old NoMemory there is f s = tt
  atom_fault at bound x w old (Refused c) there is f s =
      let g = behind at bound old x there s in
      let made = leaf_made term.letters x s.items g.later w is g.step in
      let t : under_binders scope (binders_over outside s.items) w ≡ refused c = ap (λ bs. under_binders scope bs w) s.under ∙ f in
      ends_refused scope outside below term.letters (written term) (drop (at + 1) term.operations) g.later c g.rest
      (ap (trees_over scope outside below) made
      ∙ both_second on_top (trees_over scope outside below s.items) (under_binders scope (binders_over outside s.items) w) old (Refused c) s.made t)

  pub application_there : (at : ℕ) (bound : Binders) (ts : List Tree) → slice_get term.operations at ≡ Some operation.Apply → StandsAt at bound ts → 2 ≤ length ts
  application_there at bound ts there s =
      let g = behind at bound ts operation.Apply there s in applied_there scope outside below term.letters s.items g.later ts g.step s.made

  pub application_stands : (at : ℕ) (bound : Binders) (ts new : List Tree) → slice_get term.operations at ≡ Some operation.Apply → new ≡ two_on_top apply ts → StandsAt at bound ts → StandsAt (at + 1) bound new
  application_stands at bound ts new there e s =
      let g = behind at bound ts operation.Apply there s in
      record {
        items = g.later;
        makes = g.rest;
        under = applied_over scope outside below term.letters s.items g.later g.step ∙ s.under;
        made = applied_made scope outside below term.letters s.items g.later ts g.step s.made ∙ ap scoped (sym e);
      }

  -- a scope begins
  pub scope_stands : (at : ℕ) (bound inner : Binders) (o : Opening) (ts : List Tree) → slice_get term.operations at ≡ Some (operation.Begin o)
      → binders inner ≡ begun_binder (begun_at term.letters o) ∷ binders bound → StandsAt at bound ts → StandsAt (at + 1) inner ts
  scope_stands at bound inner o ts there e s =
      let g = behind at bound ts (operation.Begin o) there s in
      let made = scope_made term.letters o s.items g.later g.step in
      record {
        items = item_scope (begun_at term.letters o) ∷ s.items;
        makes = subst (λ (items : List Item). MakesTerm term.letters (written term) (drop (at + 1) term.operations) items) made g.rest;
        under = ap (λ bs. begun_binder (begun_at term.letters o) ∷ bs) s.under ∙ sym e;
        made = s.made;
      }

  -- it ends
  pub wrap_there : (at : ℕ) (bound : Binders) (w : Wrap) (ts : List Tree) → slice_get term.operations at ≡ Some (operation.Wrap w) → StandsAt at bound ts → wrap_parts w ≤ length ts
  wrap_there at bound w ts there s =
      let g = behind at bound ts (operation.Wrap w) there s in wrapped_there scope outside below term.letters w s.items g.later ts g.step s.made

  pub wrap_stands : (at : ℕ) (bound inner : Binders) (o : Opening) (w : Wrap) (ts new : List Tree) → slice_get term.operations at ≡ Some (operation.Wrap w)
      → binders inner ≡ begun_binder (begun_at term.letters o) ∷ binders bound → new ≡ wrap_made w ts → StandsAt at inner ts → StandsAt (at + 1) bound new
  wrap_stands at bound inner o w ts new there e made s =
      let g = behind at inner ts (operation.Wrap w) there s in
      let leaves = wrapped_over scope outside below term.letters w s.items g.later g.step in
      record {
        items = g.later;
        makes = g.rest;
        under = tail_same leaves.binder _ (binders_over outside g.later) (binders bound) (sym leaves.is ∙ s.under ∙ e);
        made = wrapped_trees scope outside below term.letters w s.items g.later ts g.step s.made ∙ ap scoped (sym made);
      }

  -- a scope doesn't end with the list
  pub not_past : (at end : ℕ) (bound inner : Binders) (o : Opening) (old ts : List Tree) → slice_get term.operations end ≡ None
      → binders inner ≡ begun_binder (begun_at term.letters o) ∷ binders bound → StandsAt at bound old → StandsAt end inner ts → ⊥
  not_past at end bound inner o old ts past e before s =
      let items = ended term.letters (written term) s.items (subst (λ (xs : List RawOperation). MakesTerm term.letters (written term) xs s.items) (dropped_past term.operations end past) s.makes) in
      let outer = subst (λ (bs : List Binder). length outside ≤ length bs) before.under (over_longer scope outside below before.items) in
      let same : outside ≡ begun_binder (begun_at term.letters o) ∷ binders bound = ap (binders_over outside) (sym items) ∙ s.under ∙ e in
      let longer = ap length same in
      omega (arith, outer, longer)

  -- no scope ends outside of all
  not_outside : (at : ℕ) (bound : Binders) (w : Wrap) (ts : List Tree) → slice_get term.operations at ≡ Some (operation.Wrap w) → outside ≡ binders bound → StandsAt at bound ts → ⊥
  not_outside at bound w ts there outer s =
      let g = behind at bound ts (operation.Wrap w) there s in
      let leaves = wrapped_over scope outside below term.letters w s.items g.later g.step in
      let inner = over_longer scope outside below g.later in
      let same : leaves.binder ∷ binders_over outside g.later ≡ outside = sym leaves.is ∙ s.under ∙ sym outer in
      let longer = ap length same in
      omega (arith, inner, longer)

  whole_made : (at : ℕ) (bound : Binders) (ts : List Tree) → slice_get term.operations at ≡ None → StandsAt at bound ts → Pushes meant below ts
  whole_made at bound ts past s =
      let items = ended term.letters (written term) s.items (subst (λ (xs : List RawOperation). MakesTerm term.letters (written term) xs s.items) (dropped_past term.operations at past) s.makes) in
      last_pushed below meant ts (ap (trees_over scope outside below) (sym items) ∙ s.made)

  comes_by : (x : Option RawOperation) (at : ℕ) (bound : Binders) (ts : List Tree) → slice_get term.operations at ≡ x → IsAtEnd x → outside ≡ binders bound → StandsAt at bound ts → Pushes meant below ts
  comes_by None at bound ts e at_end outer s = whole_made at bound ts e s
  comes_by (Some (operation.Wrap w)) at bound ts e at_end outer s = absurd (not_outside at bound w ts e outer s)
  comes_by (Some x) at bound ts e at_end outer s = absurd at_end

  -- the whole term is made
  pub comes : (at : ℕ) (bound : Binders) (ts : List Tree) → IsAtEnd (slice_get term.operations at) → outside ≡ binders bound → StandsAt at bound ts → Pushes meant below ts
  comes at bound ts at_end outer s = comes_by (slice_get term.operations at) at bound ts refl at_end outer s
