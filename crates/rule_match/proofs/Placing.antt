-- The rows that are left have the places of rules.
use Rattle.std.proofs.Common.{List, [], ◌∷◌, ◌≡◌, ◌<◌, ℕ, zero, suc, Option, Some, Bool, true, false, refl, ap, ◌∙◌, sym as flip, subst, arith, map, drop, length, get_or}
use Rattle.std.specs.Prelude.{slice_get, nat_lt, if◌then◌else◌, IfOk, Result, Ok, Err}
use Rattle.dk_model.specs.declared.memory.NoMemory.{NoMemory}
use Rattle.std.specs.Borrow.{Bor}
use Rattle.std.specs.Option.{option_map}
use Rattle.std.specs.declared.vec.Vec.{Vec}
use Rattle.std.specs.declared.alloc.Global.{Global}
use Rattle.dk_model.specs.Trees.{star}
use Rattle.dk_model.specs.Signatures.{PlainRule}
use Rattle.dk_model.specs.Matrix.{rows_for, first_cells, width, cell_at}
use Rattle.dk_model.specs.Matrix.{Row as PlainRow}
use Rattle.rule_match.specs.declared.cell.Row.{Row}
use Rattle.rule_match.specs.declared.key.Key.{Key}
use Rattle.rule_match.specs.declared.left.Left.{Left}
use Rattle.rule_match.specs.declared.left.Source.{Source}
use Rattle.rule_match.specs.declared.left.Source.TheVariants.{Tree as InTree, Sides}
use Rattle.rule_match.specs.declared.side.Side.{Side}
use Rattle.rule_match.specs.declared.tree.Tree.{Tree as Compiled}
use Rattle.rule_match.specs.declared.walk.LeftSide.{LeftSide}
use Rattle.rule_match.specs.Keys.{is_kept, rows_by, parts, cells_when_kept}
use Rattle.rule_match.specs.Remaining.{rows_left, IsLeft, IsSource, IsLeftOf, GoesOn, WalksFrom, rule_count, AreOfNamed, ArePlaced, HasVariables}
use Rattle.rule_match.specs.Rows.{row, rule_at, stored_pattern, AreNamed}
use Rattle.rule_match.specs.Sides.{AreSides, AreLeftSides}
use Rattle.rule_match.specs.Trees.{HasNodes, IsPlaced, IsTree}
use Rattle.rule_match.proofs.Siding.{beside}
use Rattle.rule_match.proofs.Walking.{as_many, left_side}

-- a rule that is not what stands where there is none is there
named_there : (rules : List PlainRule) (i : ℕ) → 0 < (rule_at rules i).head → i < length rules
named_there [] i l = absurd (omega (arith, l))
named_there (r ∷ rules) zero l = omega arith
named_there (r ∷ rules) (suc i) l = let h : i < length rules = named_there rules i l in omega (arith, h)

as_many_sides : (rules : List PlainRule) (ss : List Side) → AreSides rules ss → length ss ≡ length rules
as_many_sides [] [] h = refl
as_many_sides [] (s ∷ ss) h = absurd h
as_many_sides (r ∷ rules) [] h = absurd h
as_many_sides (r ∷ rules) (s ∷ ss) h = ap suc (as_many_sides rules ss h.1)

counted : (rules : List PlainRule) (s : Source) → IsSource rules s → rule_count s ≡ length rules
counted rules (InTree t) h = as_many_sides rules t.now.sides.items h.nodes.sides
counted rules (Sides v) h = as_many rules v.items h

pub place_there : (rules : List PlainRule) (s : Source) → IsSource rules s → (at : ℕ) → at < rule_count s → at < length rules
place_there rules s h at l = let many : rule_count s ≡ length rules = counted rules s h in omega (arith, many, l)

pub has_variables : (rules : List PlainRule) (ss : List Side) (i : ℕ) (s : Side) → AreSides rules ss → i < length ss → s ≡ get_or ss i s → HasVariables rules i s.vars
has_variables rules ss i s a l e =
    let q : length ss ≡ length rules = as_many_sides rules ss a in record { there = omega (arith, q, l); is = (beside rules ss i s a l e).side.vars }

-- rows of such rules

either_named : (b : Bool) (xs ys : List PlainRow) → AreOfNamed xs → AreOfNamed ys → AreOfNamed (if b then xs else ys)
either_named true xs ys h k = h
either_named false xs ys h k = k

rows_named : (count w : ℕ) (rules : List PlainRule) → AreNamed rules → AreOfNamed (rows_for count w rules)
rows_named count w [] h = tt
rows_named count w (r ∷ rules) h = either_named (nat_lt count (length r.pats)) (rows_for count w rules) (record { cells = first_cells w r; rule = r } ∷ rows_for count w rules)
    (rows_named count w rules h.1) (h.0, rows_named count w rules h.1)

dropped_named : (n : ℕ) (rows : List PlainRow) → AreOfNamed rows → AreOfNamed (drop n rows)
dropped_named zero rows h = h
dropped_named (suc n) [] h = tt
dropped_named (suc n) (r ∷ rows) h = dropped_named n rows h.1

kept_named : (key : Key) (i : ℕ) (rows : List PlainRow) → AreOfNamed rows → AreOfNamed (rows_by key i rows)
kept_named key i [] h = tt
kept_named key i (r ∷ rows) h = either_named (is_kept key (cell_at r.cells i)) (record { cells = cells_when_kept (parts key) i r.cells; rule = r.rule } ∷ rows_by key i rows) (rows_by key i rows)
    (h.0, kept_named key i rows h.1) (kept_named key i rows h.1)

found_named : (rows : List PlainRow) (i : ℕ) (r : PlainRow) → AreOfNamed rows → slice_get rows i ≡ Some r → 0 < r.rule.head
found_named [] i r h e = cc
found_named (x ∷ rows) zero r h e = let q : x ≡ r = cc in subst (λ (y : PlainRow). 0 < y.rule.head) q h.0
found_named (x ∷ rows) (suc i) r h e = found_named rows i r h.1 e

-- the row that is found has the place of a rule
pub row_placed : (s : Source) (left : Left) (at : ℕ) (r : Row) (o : Option Row) → ArePlaced s left → o ≡ Some r
    → ((rules : List PlainRule) → IsSource rules s → IsLeftOf rules s left → option_map (row rules) o ≡ slice_get (rows_left rules left) at) → r.at < rule_count s
row_placed s left at r o p e f =
    let found : slice_get (rows_left p.rules left) at ≡ Some (row p.rules r) = flip (f p.rules p.source p.left) ∙ ap (option_map (row p.rules)) e in
    let there : r.at < length p.rules = named_there p.rules r.at (found_named (rows_left p.rules left) at (row p.rules r) p.named found) in
    let many : rule_count s ≡ length p.rules = counted p.rules s p.source in omega (arith, there, many)

-- those that are kept for a head have them too
pub next_placed : (s : Source) (old new : Left) (tried : ℕ) (key : Key) (at : ℕ) → ArePlaced s old
    → ((rules : List PlainRule) → IsSource rules s → IsLeftOf rules s old → GoesOn rules s old tried key at new) → ArePlaced s new
next_placed s old new tried key at p f =
    let g : GoesOn p.rules s old tried key at new = f p.rules p.source p.left in record {
      rules = p.rules;
      source = p.source;
      left = g.is;
      named = subst AreOfNamed (flip g.rows) (kept_named key at (drop tried (rows_left p.rules old)) (dropped_named tried (rows_left p.rules old) p.named));
    }

-- rules of left sides

abbrev side_rule : LeftSide → PlainRule
side_rule s = record { head = 1; vars = s.vars; pats = map stored_pattern s.patterns.now; notes = []; right = star }

abbrev side_rules : List LeftSide → List PlainRule
side_rules ss = map side_rule ss

sides_are : (ss : List LeftSide) → AreLeftSides (side_rules ss) ss
sides_are [] = tt
sides_are (s ∷ ss) = (left_side (side_rule s) s refl refl, sides_are ss)

sides_named : (ss : List LeftSide) → AreNamed (side_rules ss)
sides_named [] = tt
sides_named (s ∷ ss) = (omega arith, sides_named ss)

-- a tree that has the nodes of all rules with these left sides
tree_placed : (ss : List LeftSide) (t : Compiled) → ((rules : List PlainRule) → AreLeftSides rules ss → HasNodes rules t) → IsPlaced t
tree_placed ss t f = record { rules = side_rules ss; named = sides_named ss; nodes = f (side_rules ss) (sides_are ss) }

nodes_tree : (rules : List PlainRule) (t : Compiled) → HasNodes rules t → IsPlaced t → IsTree rules t
nodes_tree rules t h p = record { nodes = h; placed = p }

pub nodes_are_tree : (ss : List LeftSide) (result : Result Compiled NoMemory) → IfOk result (λ t. (rules : List PlainRule) → AreLeftSides rules ss → HasNodes rules t)
    → IfOk result (λ t. (rules : List PlainRule) → AreLeftSides rules ss → IsTree rules t)
nodes_are_tree ss (Ok t) h = λ rules a. nodes_tree rules t (h rules a) (tree_placed ss t h)
nodes_are_tree ss (Err stop) h = tt

pub nodes_placed : (ss : List LeftSide) (result : Result Compiled NoMemory) → IfOk result (λ t. (rules : List PlainRule) → AreLeftSides rules ss → HasNodes rules t) → IfOk result IsPlaced
nodes_placed ss (Ok t) h = tree_placed ss t h
nodes_placed ss (Err stop) h = tt

-- the rows that a selection begins with

pub tree_rows_placed : (t : Bor Compiled) (count w : ℕ) (left : Left) → IsPlaced t.now → ((rules : List PlainRule) → IsTree rules t.now → w ≡ width count rules)
    → ((rules : List PlainRule) → IsTree rules t.now → w ≡ width count rules → rows_left rules left ≡ rows_for count w rules) → ((rules : List PlainRule) → IsTree rules t.now → IsLeft rules t.now left)
    → ArePlaced (InTree t) left
tree_rows_placed t count w left p wide rows is =
    let h : IsTree p.rules t.now = nodes_tree p.rules t.now p.nodes p in record {
      rules = p.rules;
      source = h;
      left = is p.rules h;
      named = subst AreOfNamed (flip (rows p.rules h (wide p.rules h))) (rows_named count w p.rules p.named);
    }

pub side_rows_placed : (v : Vec LeftSide Global) (count w : ℕ) (left : Left) → ((rules : List PlainRule) → AreLeftSides rules v.items → WalksFrom rules count w left) → ArePlaced (Sides v) left
side_rows_placed v count w left f =
    let rules : List PlainRule = side_rules v.items in
    let h : WalksFrom rules count w left = f rules (sides_are v.items) in record {
      rules = rules;
      source = sides_are v.items;
      left = h.room;
      named = subst AreOfNamed (flip h.rows) (rows_named count w rules (sides_named v.items));
    }
