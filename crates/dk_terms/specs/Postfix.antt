-- For proofs: postfix lists: what their operations come to, on a stack of terms and of what began scopes.
use Rattle.std.specs.Prelude.{ℕ, Bool, true, false, List, [], ◌∷◌, Option, Some, None, drop, take}
use Rattle.std.specs.Option.{option_map}
use Rattle.dk_terms.specs.declared.operation.Span.{Span}
use Rattle.dk_terms.specs.declared.operation.Opening.{Opening}
use Rattle.dk_terms.specs.declared.operation.Opening.TheVariants as opening
use Rattle.dk_terms.specs.declared.operation.Wrap.{Wrap}
use Rattle.dk_terms.specs.declared.operation.Wrap.TheVariants as wrap
use Rattle.dk_terms.specs.declared.operation.RawOperation.{RawOperation}
use Rattle.dk_terms.specs.declared.operation.RawOperation.TheVariants as operation
use Rattle.dk_terms.specs.Written.{Written, written_name, written_qualified, written_star, written_wild, written_apply, written_arrow, written_product, written_bare, written_annotated}

-- the letters of a span
abbrev pub spelling : List ℕ → Span → List ℕ
spelling letters s = drop s.from (take s.to letters)

abbrev pub binder_at : List ℕ → Option Span → Option (List ℕ)
binder_at letters v = option_map (spelling letters) v

-- what begins a scope: an arrow, or a binder
pub data Begun : Type 0 where
  by_arrow : Begun
  by_binder : Option (List ℕ) → Begun

abbrev pub begun_binder : Begun → Option (List ℕ)
begun_binder by_arrow = None
begun_binder (by_binder v) = v

abbrev pub begun_at : List ℕ → Opening → Begun
begun_at letters opening.Arrow = by_arrow
begun_at letters (opening.Binder v) = by_binder (binder_at letters v)

abbrev pub product_by : Begun → Written → Written → Written
product_by by_arrow a b = written_arrow a b
product_by (by_binder v) a b = written_product v a b

-- a term, or what began a scope that hasn't ended
pub data Item : Type 0 where
  item_term : Written → Item
  item_scope : Begun → Item

-- the item on top as a term, as what began a scope; where it is none, anything
abbrev pub top_term : List Item → Written
top_term (item_term t ∷ items) = t
top_term items = written_star

abbrev pub top_begun : List Item → Begun
top_begun (item_scope o ∷ items) = o
top_begun items = by_arrow

abbrev pub below : List Item → List Item
below [] = []
below (x ∷ items) = items

-- the items behind an operation
abbrev pub applied_items : List Item → List Item
applied_items items = item_term (written_apply (top_term (below items)) (top_term items)) ∷ below (below items)

abbrev pub wrapped_items : Wrap → List Item → List Item
wrapped_items wrap.Product items =
    item_term (product_by (top_begun (below items)) (top_term (below (below items))) (top_term items)) ∷ below (below (below items))
wrapped_items wrap.Bare items = item_term (written_bare (begun_binder (top_begun (below items))) (top_term items)) ∷ below (below items)
wrapped_items wrap.Annotated items =
    item_term (written_annotated (begun_binder (top_begun (below items))) (top_term (below (below items))) (top_term items)) ∷ below (below (below items))

abbrev pub items_behind : List ℕ → RawOperation → List Item → List Item
items_behind letters (operation.Name s) items = item_term (written_name (spelling letters s)) ∷ items
items_behind letters (operation.Qualified s k) items = item_term (written_qualified (take k (spelling letters s)) (drop k (spelling letters s))) ∷ items
items_behind letters operation.Star items = item_term written_star ∷ items
items_behind letters operation.Wild items = item_term written_wild ∷ items
items_behind letters operation.Apply items = applied_items items
items_behind letters (operation.Begin o) items = item_scope (begun_at letters o) ∷ items
items_behind letters (operation.Wrap w) items = wrapped_items w items

abbrev pub items_from : List ℕ → List RawOperation → List Item → List Item
items_from letters [] items = items
items_from letters (x ∷ xs) items = items_from letters xs (items_behind letters x items)

-- the term that a whole list makes
abbrev pub term_made : List ℕ → List RawOperation → Written
term_made letters xs = top_term (items_from letters xs [])

-- ---- which lists make items: for each item of the stack whether it is a term; None where an operation found other items

abbrev pub wrapped_shape : Wrap → Option (List Bool) → Option (List Bool)
wrapped_shape wrap.Bare (Some (true ∷ false ∷ kinds)) = Some (true ∷ kinds)
wrapped_shape wrap.Bare shape = None
wrapped_shape w (Some (true ∷ false ∷ true ∷ kinds)) = Some (true ∷ kinds)
wrapped_shape w shape = None

abbrev pub applied_shape : Option (List Bool) → Option (List Bool)
applied_shape (Some (true ∷ true ∷ kinds)) = Some (true ∷ kinds)
applied_shape shape = None

abbrev pub with_kind : Bool → Option (List Bool) → Option (List Bool)
with_kind kind None = None
with_kind kind (Some kinds) = Some (kind ∷ kinds)

abbrev pub shape_behind : RawOperation → Option (List Bool) → Option (List Bool)
shape_behind (operation.Name s) shape = with_kind true shape
shape_behind (operation.Qualified s k) shape = with_kind true shape
shape_behind operation.Star shape = with_kind true shape
shape_behind operation.Wild shape = with_kind true shape
shape_behind operation.Apply shape = applied_shape shape
shape_behind (operation.Begin o) shape = with_kind false shape
shape_behind (operation.Wrap w) shape = wrapped_shape w shape

abbrev pub shape_from : List RawOperation → Option (List Bool) → Option (List Bool)
shape_from [] shape = shape
shape_from (x ∷ xs) shape = shape_from xs (shape_behind x shape)

-- the shape of one term
abbrev pub one_term : Option (List Bool)
one_term = Some (true ∷ [])

-- the letters of a name that an operation makes
abbrev pub span_of : RawOperation → Option Span
span_of (operation.Name s) = Some s
span_of x = None

-- ---- how far the letters of an operation go

abbrev pub binder_end : Option Span → ℕ
binder_end None = 0
binder_end (Some s) = s.to

abbrev pub opening_end : Opening → ℕ
opening_end opening.Arrow = 0
opening_end (opening.Binder v) = binder_end v

abbrev pub operation_end : RawOperation → ℕ
operation_end (operation.Name s) = s.to
operation_end (operation.Qualified s k) = s.to
operation_end (operation.Begin o) = opening_end o
operation_end x = 0
