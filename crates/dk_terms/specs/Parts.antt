-- For proofs: the parts of a term so far as plain data.
use Rattle.std.specs.Prelude.{◌<◌, ℕ, Bool, true, false, List, [], ◌∷◌, Option, Some, None}
use Rattle.std.specs.Vec.{vec_capacity, vec_len}
use Rattle.dk_terms.specs.declared.operation.RawOperation.{RawOperation}
use Rattle.dk_terms.specs.declared.operation.Span.{Span}
use Rattle.dk_terms.specs.declared.operation.Wrap.{Wrap}
use Rattle.dk_terms.specs.declared.parts_so_far.Atom.{Atom}
use Rattle.dk_terms.specs.declared.parts_so_far.Atom.TheVariants as atom
use Rattle.dk_terms.specs.declared.parts_so_far.PartsSoFar.{PartsSoFar}
use Rattle.dk_terms.specs.Postfix.{Begun, Item, applied_items, applied_shape, below, binder_at, by_binder, item_scope, item_term, items_behind, items_from, shape_behind, shape_from, top_term, with_kind, wrapped_items, wrapped_shape}
use Rattle.dk_terms.specs.Stacks.{stacked_on}
use Rattle.dk_terms.specs.Written.{Written, written_name, written_qualified, written_star, written_wild}

-- the items, the last one on top, with their shape, and the binders that wait
pub record Parts : Type 0 where
  pub items : List Item
  pub shape : Option (List Bool)
  pub waiting : List (Option (List ℕ))

abbrev pub no_parts : Parts
no_parts = record { items = []; shape = Some []; waiting = [] }

abbrev pub parts_of : List ℕ → List RawOperation → List (Option Span) → Parts
parts_of letters xs vs = record {
  items = items_from letters xs [];
  shape = shape_from xs (Some []);
  waiting = stacked_on (binder_at letters) [] vs;
}

abbrev pub parts : PartsSoFar → Parts
parts p = parts_of p.letters.items p.operations.items p.waiting.items

-- there is room for an operation
abbrev pub HasRoom : PartsSoFar → Type 0
HasRoom p = vec_len p.operations < vec_capacity p.operations

-- ---- the parts behind an operation

abbrev pub after : List ℕ → RawOperation → Parts → Parts
after letters x p = record { items = items_behind letters x p.items; shape = shape_behind x p.shape; waiting = p.waiting }

abbrev pub with_term : Written → Parts → Parts
with_term t p = record { items = item_term t ∷ p.items; shape = with_kind true p.shape; waiting = p.waiting }

abbrev pub maybe_applied : Bool → Parts → Parts
maybe_applied false p = p
maybe_applied true p = record { items = applied_items p.items; shape = applied_shape p.shape; waiting = p.waiting }

abbrev pub written_atom : Atom → Written
written_atom (atom.Name n) = written_name n.now
written_atom (atom.Qualified m n) = written_qualified m.now n.now
written_atom atom.Star = written_star
written_atom atom.Wild = written_wild

abbrev pub with_scope : Begun → Parts → Parts
with_scope o p = record { items = item_scope o ∷ p.items; shape = with_kind false p.shape; waiting = p.waiting }

abbrev pub with_wrap : Wrap → Parts → Parts
with_wrap w p = record { items = wrapped_items w p.items; shape = wrapped_shape w p.shape; waiting = p.waiting }

-- ---- binders

-- the binder that a name or a wildcard is read as
abbrev pub binder_in : Written → Option (List ℕ)
binder_in (written_name n) = Some n
binder_in t = None

-- a name or a wildcard
abbrev pub is_lone : Written → Bool
is_lone (written_name n) = true
is_lone written_wild = true
is_lone t = false

-- the binder that waits last, and those before it
abbrev pub last_waiting : List (Option (List ℕ)) → Option (List ℕ)
last_waiting [] = None
last_waiting (v ∷ vs) = v

abbrev pub before_waiting : List (Option (List ℕ)) → List (Option (List ℕ))
before_waiting [] = []
before_waiting (v ∷ vs) = vs

abbrev pub shape_before : Option (List Bool) → Option (List Bool)
shape_before (Some (kind ∷ kinds)) = Some kinds
shape_before shape = None

-- the last term, a name or a wildcard, waits as a binder
abbrev pub waits : Parts → Parts
waits p = record { items = below p.items; shape = shape_before p.shape; waiting = binder_in (top_term p.items) ∷ p.waiting }

-- the scope of the binder that waits last begins
abbrev pub with_waiting : Parts → Parts
with_waiting p = record { items = item_scope (by_binder (last_waiting p.waiting)) ∷ p.items; shape = with_kind false p.shape; waiting = before_waiting p.waiting }
