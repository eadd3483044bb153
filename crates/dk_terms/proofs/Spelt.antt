-- Postfix lists that grow, and letters that are added to those of their names.
use Rattle.std.proofs.Common.{◌≡◌, ◌≤◌, ◌<◌, ℕ, List, [], ◌∷◌, ◌++◌, length, refl, sym, ap, subst, ◌∙◌, append_assoc, arith}
use Rattle.std.specs.Prelude.{All, Bool, true, false, Option, Some, None, drop, take}
use Rattle.std.proofs.Math.Seq.{drop-append_seam, take-append_seam, take-length}
use Rattle.std.proofs.lemmas.List.{length-append, take-append-le}
use Rattle.std.proofs.lemmas.List.Elements.{All-head, All-pop, All-push, All-tail, All-weaker}
use Rattle.dk_terms.specs.declared.operation.Span.{Span}
use Rattle.dk_terms.specs.declared.operation.Opening.TheVariants as opening
use Rattle.dk_terms.specs.declared.operation.RawOperation.{RawOperation}
use Rattle.dk_terms.specs.declared.operation.RawOperation.TheVariants as operation
use Rattle.dk_terms.specs.Parts.{Parts, after, is_lone, maybe_applied, parts_of, shape_before, waits, with_scope, with_term, with_waiting, with_wrap}
use Rattle.dk_terms.specs.Postfix.{Begun, Item, below, binder_at, binder_end, by_arrow, by_binder, item_scope, item_term, items_behind, items_from, operation_end, product_by, shape_behind, shape_from, span_of, spelling, top_begun, top_term, with_kind}
use Rattle.dk_terms.specs.Written.{Written, written_name, written_qualified}
use Rattle.dk_terms.specs.Stacks.{stacked_on}
use Rattle.dk_terms.specs.declared.operation.Wrap.{Wrap}
use Rattle.dk_terms.specs.declared.operation.Wrap.TheVariants as wrap
use Rattle.dk_terms.proofs.Stacked.{pushed}

-- ---- one operation more

pub items_more : (letters : List ℕ) (xs : List RawOperation) (x : RawOperation) (items : List Item) → items_from letters (xs ++ x ∷ []) items ≡ items_behind letters x (items_from letters xs items)
items_more letters [] x items = refl
items_more letters (y ∷ xs) x items = items_more letters xs x (items_behind letters y items)

pub shape_more : (xs : List RawOperation) (x : RawOperation) (shape : Option (List Bool)) → shape_from (xs ++ x ∷ []) shape ≡ shape_behind x (shape_from xs shape)
shape_more [] x shape = refl
shape_more (y ∷ xs) x shape = shape_more xs x (shape_behind y shape)

-- ---- more letters

module _ (letters more : List ℕ) where
  spelling_grown : (s : Span) → s.to ≤ length letters → spelling (letters ++ more) s ≡ spelling letters s
  spelling_grown s within = ap (drop s.from) (take-append-le s.to letters more within)

  binder_grown : (v : Option Span) → binder_end v ≤ length letters → binder_at (letters ++ more) v ≡ binder_at letters v
  binder_grown None within = refl
  binder_grown (Some s) within = ap Some (spelling_grown s within)

  behind_grown : (x : RawOperation) (items : List Item) → operation_end x ≤ length letters → items_behind (letters ++ more) x items ≡ items_behind letters x items
  behind_grown (operation.Name s) items within = ap (λ n. item_term (written_name n) ∷ items) (spelling_grown s within)
  behind_grown (operation.Qualified s k) items within = ap (λ n. item_term (written_qualified (take k n) (drop k n)) ∷ items) (spelling_grown s within)
  behind_grown (operation.Begin (opening.Binder v)) items within = ap (λ b. item_scope (by_binder b) ∷ items) (binder_grown v within)
  behind_grown (operation.Begin opening.Arrow) items within = refl
  behind_grown x items within = refl

  abbrev IsWithin : RawOperation → Type 0
  IsWithin x = operation_end x ≤ length letters

  abbrev BinderIsWithin : Option Span → Type 0
  BinderIsWithin v = binder_end v ≤ length letters

  pub items_grown : (xs : List RawOperation) (items : List Item) → All IsWithin xs → items_from (letters ++ more) xs items ≡ items_from letters xs items
  items_grown [] items within = refl
  items_grown (x ∷ xs) items within =
      ap (items_from (letters ++ more) xs) (behind_grown x items (All-head IsWithin x xs within))
      ∙ items_grown xs (items_behind letters x items) (All-tail IsWithin x xs within)

  pub waiting_grown : (vs : List (Option Span)) (bs : List (Option (List ℕ))) → All BinderIsWithin vs → stacked_on (binder_at (letters ++ more)) bs vs ≡ stacked_on (binder_at letters) bs vs
  waiting_grown [] bs within = refl
  waiting_grown (v ∷ vs) bs within =
      ap (λ b. stacked_on (binder_at (letters ++ more)) (b ∷ bs) vs) (binder_grown v (All-head BinderIsWithin v vs within))
      ∙ waiting_grown vs (binder_at letters v ∷ bs) (All-tail BinderIsWithin v vs within)

-- letters alone are added
pub parts_grown : (letters more later : List ℕ) (xs : List RawOperation) (vs : List (Option Span)) → later ≡ letters ++ more → All (IsWithin letters []) xs → All (BinderIsWithin letters []) vs
    → parts_of later xs vs ≡ parts_of letters xs vs
parts_grown letters more later xs vs e within waiting =
    ap (λ ls. parts_of ls xs vs) e ∙ grown
  where
    grown : parts_of (letters ++ more) xs vs ≡ parts_of letters xs vs
    grown = ap (λ items. record { items = items; shape = shape_from xs (Some []); waiting = stacked_on (binder_at (letters ++ more)) [] vs }) (items_grown letters more xs [] within)
        ∙ ap (λ bs. record { items = items_from letters xs []; shape = shape_from xs (Some []); waiting = bs }) (waiting_grown letters more vs [] waiting)

-- ---- what a function of the parts comes to

-- one operation more
pub parts_put : (letters : List ℕ) (old new : List RawOperation) (vs : List (Option Span)) (x : RawOperation) → new ≡ old ++ x ∷ [] → parts_of letters new vs ≡ after letters x (parts_of letters old vs)
parts_put letters old new vs x e =
    ap (λ xs. parts_of letters xs vs) e
    ∙ ap (λ items. record { items = items; shape = shape_from (old ++ x ∷ []) (Some []); waiting = stacked_on (binder_at letters) [] vs }) (items_more letters old x [])
    ∙ ap (λ shape. record { items = items_behind letters x (items_from letters old []); shape = shape; waiting = stacked_on (binder_at letters) [] vs }) (shape_more old x (Some []))

pub put_arrow : (letters : List ℕ) (old new : List RawOperation) (vs : List (Option Span)) → new ≡ old ++ operation.Begin opening.Arrow ∷ [] → parts_of letters new vs ≡ with_scope by_arrow (parts_of letters old vs)
put_arrow letters old new vs e = parts_put letters old new vs (operation.Begin opening.Arrow) e

pub put_wrap : (letters : List ℕ) (old new : List RawOperation) (vs : List (Option Span)) (w : Wrap) → new ≡ old ++ operation.Wrap w ∷ [] → parts_of letters new vs ≡ with_wrap w (parts_of letters old vs)
put_wrap letters old new vs w e = parts_put letters old new vs (operation.Wrap w) e

pub put_apply : (letters : List ℕ) (old new : List RawOperation) (vs : List (Option Span)) (applied : Bool) → new ≡ old ++ operation.Apply ∷ [] → applied ≡ true → parts_of letters new vs ≡ maybe_applied applied (parts_of letters old vs)
put_apply letters old new vs applied e is = parts_put letters old new vs operation.Apply e ∙ ap (λ b. maybe_applied b (parts_of letters old vs)) (sym is)

pub put_applied : (letters : List ℕ) (old mid new : List RawOperation) (vs : List (Option Span)) (x : RawOperation) (applied : Bool) → mid ≡ old ++ x ∷ [] → new ≡ mid ++ operation.Apply ∷ [] → applied ≡ true
    → parts_of letters new vs ≡ maybe_applied applied (after letters x (parts_of letters old vs))
put_applied letters old mid new vs x applied e f is = put_apply letters mid new vs applied f is ∙ ap (maybe_applied applied) (parts_put letters old mid vs x e)

-- what ends within so many letters
pub put_within : {A : Type 0} (far : A → ℕ) (n : ℕ) (old new : List A) (x : A) → new ≡ old ++ x ∷ [] → far x ≤ n → All (λ x. far x ≤ n) old → All (λ x. far x ≤ n) new
put_within far n old new x e there within = subst (All (λ x. far x ≤ n)) (sym e) (All-push (λ x. far x ≤ n) old x within there)

pub still_within : {A : Type 0} (far : A → ℕ) (letters more later : List ℕ) (xs : List A) → later ≡ letters ++ more → All (λ x. far x ≤ length letters) xs → All (λ x. far x ≤ length later) xs
still_within far letters more later xs e within =
    All-weaker (λ x. far x ≤ length letters) (λ x. far x ≤ length later) (λ x le. let longer = ap length e ∙ length-append letters more in omega (arith, longer, le)) xs within

-- the letters that were added last
pub spelt_now : (letters name later : List ℕ) (s : Span) → later ≡ letters ++ name → s.from ≡ length letters → s.to ≡ length later → spelling later s ≡ name
spelt_now letters name later s e from to =
    ap (λ n. drop s.from (take n later)) to ∙ ap (drop s.from) (take-length later) ∙ ap (λ n. drop n later) from ∙ ap (drop (length letters)) e ∙ drop-append_seam letters name

-- ---- binders that wait

product_not_lone : (o : Begun) (a b : Written) → is_lone (product_by o a b) ≡ false
product_not_lone by_arrow a b = refl
product_not_lone (by_binder v) a b = refl

kind_off : (kind : Bool) (shape : Option (List Bool)) → shape_before (with_kind kind shape) ≡ shape
kind_off kind None = refl
kind_off kind (Some kinds) = refl

-- the last operation, of a name or a wildcard, is taken off
taken_off : (letters : List ℕ) (x : RawOperation) (items : List Item) (shape : Option (List Bool)) (waiting : List (Option (List ℕ))) → is_lone (top_term (items_behind letters x items)) ≡ true
    → record { items = items; shape = shape; waiting = binder_at letters (span_of x) ∷ waiting } ≡ waits (after letters x (record { items = items; shape = shape; waiting = waiting }))
taken_off letters (operation.Name s) items shape waiting e = ap (λ o. record { items = items; shape = o; waiting = Some (spelling letters s) ∷ waiting }) (sym (kind_off true shape))
taken_off letters operation.Wild items shape waiting e = ap (λ o. record { items = items; shape = o; waiting = None ∷ waiting }) (sym (kind_off true shape))
taken_off letters (operation.Wrap wrap.Product) items shape waiting e =
    absurd (let no = product_not_lone (top_begun (below items)) (top_term (below (below items))) (top_term items) in cc)
taken_off letters (operation.Wrap w) items shape waiting e = absurd cc
taken_off letters x items shape waiting e = absurd cc

pub waited : (letters : List ℕ) (old new : List RawOperation) (x : RawOperation) (vs us : List (Option Span)) → old ≡ new ++ x ∷ [] → us ≡ vs ++ span_of x ∷ []
    → is_lone (top_term (items_from letters old [])) ≡ true → parts_of letters new us ≡ waits (parts_of letters old vs)
waited letters old new x vs us e more lone =
    ap (λ bs. record { items = items_from letters new []; shape = shape_from new (Some []); waiting = bs }) (pushed (binder_at letters) vs us (span_of x) more)
    ∙ taken_off letters x (items_from letters new []) (shape_from new (Some [])) (stacked_on (binder_at letters) [] vs) (ap (λ items. is_lone (top_term items)) (sym (ap (λ xs. items_from letters xs []) e ∙ items_more letters new x [])) ∙ lone)
    ∙ ap waits (sym (parts_put letters new old vs x e))

-- the scope of the last one begins
pub begun_waiting : (letters : List ℕ) (old new : List RawOperation) (vs us : List (Option Span)) (v : Option Span) → new ≡ old ++ operation.Begin (opening.Binder v) ∷ [] → vs ≡ us ++ v ∷ []
    → parts_of letters new us ≡ with_waiting (parts_of letters old vs)
begun_waiting letters old new vs us v e less =
    parts_put letters old new us (operation.Begin (opening.Binder v)) e
    ∙ ap (λ bs. with_waiting (record { items = items_from letters old []; shape = shape_from old (Some []); waiting = bs })) (sym (pushed (binder_at letters) us vs v less))

pub begun_none : (letters : List ℕ) (old new : List RawOperation) (vs us : List (Option Span)) → new ≡ old ++ operation.Begin (opening.Binder None) ∷ [] → vs ≡ us → us ≡ []
    → parts_of letters new us ≡ with_waiting (parts_of letters old vs)
begun_none letters old new vs us e same none =
    parts_put letters old new us (operation.Begin (opening.Binder None)) e
    ∙ ap (λ ws. after letters (operation.Begin (opening.Binder None)) (parts_of letters old ws)) none
    ∙ ap (λ ws. with_waiting (parts_of letters old ws)) (sym (same ∙ none))

-- a name or a wildcard was made by an operation
pub lone_there : (letters : List ℕ) (xs : List RawOperation) → is_lone (top_term (items_from letters xs [])) ≡ true → 0 < length xs
lone_there letters [] lone = absurd cc
lone_there letters (x ∷ xs) lone = omega arith

pub less_within : {A : Type 0} (far : A → ℕ) (n : ℕ) (old new : List A) (x : A) → old ≡ new ++ x ∷ [] → All (λ x. far x ≤ n) old → All (λ x. far x ≤ n) new
less_within far n old new x e within = (All-pop (λ x. far x ≤ n) old new (Some x) e within).0

pub last_within : {A : Type 0} (far : A → ℕ) (n : ℕ) (old new : List A) (x : A) → old ≡ new ++ x ∷ [] → All (λ x. far x ≤ n) old → far x ≤ n
last_within far n old new x e within = (All-pop (λ x. far x ≤ n) old new (Some x) e within).1

pub span_within : (n : ℕ) (x : RawOperation) → operation_end x ≤ n → binder_end (span_of x) ≤ n
span_within n (operation.Name s) le = le
span_within n x le = omega arith

-- a module and a name in it
pub qualified_put : (letters mid later m n : List ℕ) (s : Span) (k : ℕ) (old now : Parts) → mid ≡ letters ++ m → later ≡ mid ++ n → s.from ≡ length letters → s.to ≡ length later → k ≡ length m → now ≡ old
    → after later (operation.Qualified s k) now ≡ with_term (written_qualified m n) old
qualified_put letters mid later m n s k old now e f from to is same =
    ap (after later (operation.Qualified s k)) same
    ∙ ap (λ w. with_term (written_qualified (take k w) (drop k w)) old) (spelt_now letters (m ++ n) later s (f ∙ ap (λ ls. ls ++ n) e ∙ append_assoc letters m n) from to)
    ∙ ap (λ i. with_term (written_qualified (take i (m ++ n)) (drop i (m ++ n))) old) is
    ∙ ap (λ w. with_term (written_qualified w (drop (length m) (m ++ n))) old) (take-append_seam m n)
    ∙ ap (λ w. with_term (written_qualified m w) old) (drop-append_seam m n)
