-- For proofs: how the operations of a list make its term, each from the items before it.
use Rattle.std.specs.Prelude.{ℕ, List, [], ◌∷◌, drop, take}
use Rattle.dk_terms.specs.declared.operation.Span.{Span}
use Rattle.dk_terms.specs.declared.operation.Opening.{Opening}
use Rattle.dk_terms.specs.declared.operation.Wrap.TheVariants as wrap
use Rattle.dk_terms.specs.declared.operation.RawOperation.{RawOperation}
use Rattle.dk_terms.specs.declared.operation.RawOperation.TheVariants as operation
use Rattle.dk_terms.specs.Postfix.{Begun, Item, begun_at, begun_binder, item_scope, item_term, product_by, spelling}
use Rattle.dk_terms.specs.Written.{Written, written_name, written_qualified, written_star, written_wild, written_apply, written_bare, written_annotated}

-- the operation makes these items of those
pub data Makes (letters : List ℕ) : RawOperation → List Item → List Item → Type 0 where
  makes_name : {s : Span} {items : List Item} → Makes letters (operation.Name s) items (item_term (written_name (spelling letters s)) ∷ items)
  makes_qualified : {s : Span} {k : ℕ} {items : List Item} → Makes letters (operation.Qualified s k) items (item_term (written_qualified (take k (spelling letters s)) (drop k (spelling letters s))) ∷ items)
  makes_star : {items : List Item} → Makes letters operation.Star items (item_term written_star ∷ items)
  makes_wild : {items : List Item} → Makes letters operation.Wild items (item_term written_wild ∷ items)
  makes_application : {f a : Written} {items : List Item} → Makes letters operation.Apply (item_term a ∷ item_term f ∷ items) (item_term (written_apply f a) ∷ items)
  makes_scope : {o : Opening} {items : List Item} → Makes letters (operation.Begin o) items (item_scope (begun_at letters o) ∷ items)
  makes_product : {o : Begun} {a b : Written} {items : List Item} → Makes letters (operation.Wrap wrap.Product) (item_term b ∷ item_scope o ∷ item_term a ∷ items) (item_term (product_by o a b) ∷ items)
  makes_bare : {o : Begun} {b : Written} {items : List Item} → Makes letters (operation.Wrap wrap.Bare) (item_term b ∷ item_scope o ∷ items) (item_term (written_bare (begun_binder o) b) ∷ items)
  makes_annotated : {o : Begun} {a b : Written} {items : List Item} → Makes letters (operation.Wrap wrap.Annotated) (item_term b ∷ item_scope o ∷ item_term a ∷ items) (item_term (written_annotated (begun_binder o) a b) ∷ items)

-- the operations make a term of these items, one after the other
pub data MakesTerm (letters : List ℕ) (t : Written) : List RawOperation → List Item → Type 0 where
  made_already : MakesTerm letters t [] (item_term t ∷ [])
  makes_then : {x : RawOperation} {xs : List RawOperation} {items later : List Item} → Makes letters x items later → MakesTerm letters t xs later → MakesTerm letters t (x ∷ xs) items
