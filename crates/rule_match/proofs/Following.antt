-- A test gone through: the next node has the rows that are left.
use Rattle.std.proofs.Common.{List, [], ◌∷◌, ◌++◌, ◌≡◌, ◌≤◌, ◌+◌, ℕ, zero, suc, max, nat_lt, Option, Some, None, Bool, true, false, refl, ap, ◌∙◌, sym as flip, subst, arith, map, drop, take, length, append_assoc}
use Rattle.std.specs.Prelude.{slice_get, IfSome, IfOk, Result, Ok, Err, if◌then◌else◌}
use Rattle.dk_model.specs.declared.memory.NoMemory.{NoMemory}
use Rattle.std.specs.Borrow.{Bor}
use Rattle.std.specs.Option.{option_copied}
use Rattle.std.proofs.lemmas.List.{drop-map, take-map, map-append, take-take}
use Rattle.std.proofs.lemmas.Bool.{ltb-false}
use Rattle.dk_model.specs.Signatures.{PlainRule, PlainSignature}
use Rattle.dk_model.specs.Matrix.{rows_for, width, opened_columns}
use Rattle.dk_model.specs.Matrix.{Row as PlainRow, Column as PlainColumn}
use Rattle.dk_model.specs.Equations.{selection_of}
use Rattle.shared_term.specs.declared.id.TermId.{TermId}
use Rattle.shared_term.specs.Pools.{Node as PoolNode, term}
use Rattle.rule_match.specs.declared.key.Key.{Key}
use Rattle.rule_match.specs.declared.branch.Branch.{Branch}
use Rattle.rule_match.specs.declared.branch.Node.{Node}
use Rattle.rule_match.specs.declared.cell.Row.{Row}
use Rattle.rule_match.specs.declared.tree.Tree.{Tree as Compiled}
use Rattle.rule_match.specs.declared.value.Column.{Column}
use Rattle.rule_match.specs.declared.left.Left.{Left}
use Rattle.rule_match.specs.Keys.{key_of, rows_by}
use Rattle.rule_match.specs.Rows.{row, kept_row}
use Rattle.rule_match.specs.declared.walk.LeftSide.{LeftSide}
use Rattle.rule_match.specs.Sides.{AreLeftSides, widest}
use Rattle.rule_match.specs.Branches.{HasBranch, HasRows, AreBranches, IsNode, AreNodes}
use Rattle.rule_match.specs.Trees.{IsTree}
use Rattle.rule_match.specs.Columns.{plain, column}
use Rattle.rule_match.specs.Trying.{column_at}
use Rattle.rule_match.specs.Standing.{with_value}
use Rattle.rule_match.specs.declared.left.Source.{Source}
use Rattle.rule_match.specs.declared.left.Source.TheVariants.{Tree as InTree, Sides}
use Rattle.rule_match.specs.declared.left.Left.TheVariants.{Kept, Whole, Walked}
use Rattle.std.specs.declared.vec.Vec.{Vec}
use Rattle.std.specs.declared.alloc.Global.{Global}
use Rattle.rule_match.specs.Remaining.{rows_left, IsLeftOf, IsSource, Follows, GoesOn, IsRoot}
use Rattle.rule_match.specs.Columns.{depth_at, value_put}
use Rattle.rule_match.proofs.Keying.{rows_by_head}
use Rattle.rule_match.proofs.Siding.{width_full, rows_full}

branch_at : (rules : List PlainRule) (nodes : List Node) (at : ℕ) (rows : List PlainRow) (bs : List Branch) (i : ℕ) (b : Branch) → AreBranches rules nodes at rows bs → slice_get bs i ≡ Some b
    → HasRows rules nodes b.node (rows_by b.key at rows)
branch_at rules nodes at rows [] i b h e = cc
branch_at rules nodes at rows (x ∷ bs) zero b h e = let q : x ≡ b = cc in subst (λ (y : Branch). HasRows rules nodes y.node (rows_by y.key at rows)) q h.0
branch_at rules nodes at rows (x ∷ bs) (suc i) b h e = branch_at rules nodes at rows bs i b h.1 e

node_at : (rules : List PlainRule) (nodes ns : List Node) (i : ℕ) (n : Node) → AreNodes rules nodes ns → slice_get ns i ≡ Some n → IsNode rules nodes n
node_at rules nodes [] i n h e = cc
node_at rules nodes (x ∷ ns) zero n h e = let q : x ≡ n = cc in subst (λ (y : Node). IsNode rules nodes y) q h.0
node_at rules nodes (x ∷ ns) (suc i) n h e = node_at rules nodes ns i n h.1 e

one_node : (a b : Node) (o : Option Node) → o ≡ Some a → o ≡ Some b → a ≡ b
one_node a b o e q = cc

pub branch_follows : (rules : List PlainRule) (t : Compiled) (n child : Node) (tried : ℕ) (key : Key) (at place : ℕ) → IsTree rules t → IsNode rules t.nodes.items n → HasBranch n.branches.items key place
    → slice_get t.nodes.items place ≡ Some child → n.tried ≡ tried → n.column ≡ at → Follows rules t n tried key at child
branch_follows rules t n child tried key at place it is b e p q =
    let h = branch_at rules t.nodes.items n.column (drop n.tried (map (kept_row rules) n.rows.items)) n.branches.items b.place b.branch is b.there in
    let same : h.node ≡ child = one_node h.node child (slice_get t.nodes.items place) (ap (slice_get t.nodes.items) (flip b.node_is) ∙ h.there) e in record {
      rows = ap (λ (x : Node). map (kept_row rules) x.rows.items) (flip same) ∙ h.rows_are ∙ (λ i. rows_by (b.key_is i) (q i) (drop (p i) (map (kept_row rules) n.rows.items)));
      is = node_at rules t.nodes.items t.nodes.items place child it.nodes.tests e;
    }

pub root_follows : (rules : List PlainRule) (t : Compiled) (n : Node) (place : ℕ) → IsTree rules t → t.root ≡ Some place → slice_get t.nodes.items place ≡ Some n → IsRoot rules t n
root_follows rules t n place it r e =
    let h : HasRows rules t.nodes.items place (rows_for (widest rules) (widest rules) rules) =
    subst (λ (o : Option ℕ). IfSome o (λ i. HasRows rules t.nodes.items i (rows_for (widest rules) (widest rules) rules))) r it.nodes.root in
    let same : h.node ≡ n = one_node h.node n (slice_get t.nodes.items place) h.there e in record {
      rows = ap (λ (x : Node). map (kept_row rules) x.rows.items) (flip same) ∙ h.rows_are;
      is = node_at rules t.nodes.items t.nodes.items place n it.nodes.tests e;
    }

-- rows that are worked out

walked_on : (rules : List PlainRule) (old : Left) (rows rest kept : List Row) (tried : ℕ) (key : Key) (at : ℕ) → map (row rules) rows ≡ rows_left rules old → rest ≡ drop tried rows
    → map (row rules) kept ≡ rows_by key at (map (row rules) rest) → map (row rules) kept ≡ rows_by key at (drop tried (rows_left rules old))
walked_on rules old rows rest kept tried key at e d k =
    k ∙ ap (λ (l : List Row). rows_by key at (map (row rules) l)) d ∙ ap (rows_by key at) (flip (drop-map (row rules) tried rows) ∙ ap (drop tried) e)

pub walked_result : (s : Source) (old : Left) (rows rest : List Row) (tried : ℕ) (key : Key) (at : ℕ) (result : Result (Vec Row Global) NoMemory) → ((rules : List PlainRule) → map (row rules) rows ≡ rows_left rules old)
    → rest ≡ drop tried rows → IfOk result (λ kept. (rules : List PlainRule) → map (row rules) kept.items ≡ rows_by key at (map (row rules) rest))
    → IfOk result (λ kept. (rules : List PlainRule) → IsSource rules s → IsLeftOf rules s old → map (row rules) kept.items ≡ rows_by key at (drop tried (rows_left rules old)))
walked_result s old rows rest tried key at (Ok kept) e d h = λ rules i j. walked_on rules old rows rest kept.items tried key at (e rules) d (h rules)
walked_result s old rows rest tried key at (Err stop) e d h = tt

pub whole_result : (s : Source) (old : Left) (w tried : ℕ) (key : Key) (at : ℕ) (result : Result (Vec Row Global) NoMemory) → old ≡ Whole w
    → IfOk result (λ kept. (rules : List PlainRule) → IsSource rules s → IsLeftOf rules s (Whole w) → map (row rules) kept.items ≡ rows_by key at (drop tried (rows_for w w rules)))
    → IfOk result (λ kept. (rules : List PlainRule) → IsSource rules s → IsLeftOf rules s old → map (row rules) kept.items ≡ rows_by key at (drop tried (rows_left rules old)))
whole_result s old w tried key at (Ok kept) e h = λ rules i j.
    h rules i (subst (λ (l : Left). IsLeftOf rules s l) e j) ∙ ap (λ (l : Left). rows_by key at (drop tried (rows_left rules l))) (flip e)
whole_result s old w tried key at (Err stop) e h = tt

-- all rows of a source that is no tree
pub whole_sides : (s : Source) (v : Vec LeftSide Global) (w tried : ℕ) (key : Key) (at : ℕ) (result : Result (Vec Row Global) NoMemory) → s ≡ Sides v
    → IfOk result (λ kept. (rules : List PlainRule) → AreLeftSides rules v.items → widest rules ≤ w → map (row rules) kept.items ≡ rows_by key at (drop tried (rows_for w w rules)))
    → IfOk result (λ kept. (rules : List PlainRule) → IsSource rules s → IsLeftOf rules s (Whole w) → map (row rules) kept.items ≡ rows_by key at (drop tried (rows_for w w rules)))
whole_sides s v w tried key at (Ok kept) e h = λ rules i j.
    h rules (subst (λ (x : Source). IsSource rules x) e i) (subst (λ (x : Source). IsLeftOf rules x (Whole w)) e j)
whole_sides s v w tried key at (Err stop) e h = tt

pub no_whole : (rules : List PlainRule) (s : Source) (t : Bor Compiled) (w : ℕ) → s ≡ InTree t → IsLeftOf rules s (Whole w) → ⊥
no_whole rules s t w e h = subst (λ (x : Source). IsLeftOf rules x (Whole w)) e h

walked_is : (rules : List PlainRule) (s : Source) (v : Vec Row Global) → IsLeftOf rules s (Walked v)
walked_is rules (InTree t) v = tt
walked_is rules (Sides w) v = tt

pub walked_goes : (rules : List PlainRule) (s : Source) (old : Left) (tried : ℕ) (key : Key) (at : ℕ) (v : Vec Row Global) → map (row rules) v.items ≡ rows_by key at (drop tried (rows_left rules old))
    → GoesOn rules s old tried key at (Walked v)
walked_goes rules s old tried key at v e = record { rows = e; is = walked_is rules s v }

pub node_goes : (rules : List PlainRule) (s : Source) (old : Left) (tried : ℕ) (key : Key) (at : ℕ) (t : Bor Compiled) (n child : Bor Node) → s ≡ InTree t → old ≡ Kept n
    → (IsTree rules t.now → IsNode rules t.now.nodes.items n.now → Follows rules t.now n.now tried key at child.now) → IsSource rules s → IsLeftOf rules s old → GoesOn rules s old tried key at (Kept child)
node_goes rules s old tried key at t n child e q f h k =
    let k1 : IsLeftOf rules s (Kept n) = subst (λ (l : Left). IsLeftOf rules s l) q k in
    let h1 : IsTree rules t.now = subst (λ (x : Source). IsSource rules x) e h in
    let g = f h1 (subst (λ (x : Source). IsLeftOf rules x (Kept n)) e k1) in record {
      rows = g.rows ∙ ap (λ (l : Left). rows_by key at (drop tried (rows_left rules l))) (flip q);
      is = subst (λ (x : Source). IsLeftOf rules x (Kept child)) (flip e) g.is;
    }

-- the start

width_step : (n : ℕ) (r : PlainRule) (rs : List PlainRule) (b : Bool) → width n rs ≤ n → nat_lt n (length r.pats) ≡ b → width n (r ∷ rs) ≤ n
width_step n r rs true h e =
    let q : width n (r ∷ rs) ≡ width n rs = ap (λ (x : Bool). if x then width n rs else max (length r.pats) (width n rs)) e in omega (arith, h, q)
width_step n r rs false h e =
    let l : length r.pats ≤ n = ltb-false n (length r.pats) e in
    let q : width n (r ∷ rs) ≡ max (length r.pats) (width n rs) = ap (λ (x : Bool). if x then width n rs else max (length r.pats) (width n rs)) e in omega (arith, h, q, l)

pub width_within : (n : ℕ) (rules : List PlainRule) → width n rules ≤ n
width_within n [] = omega arith
width_within n (r ∷ rs) = width_step n r rs (nat_lt n (length r.pats)) (width_within n rs) refl

pub rows_at_root : (rules : List PlainRule) (count w : ℕ) → widest rules ≤ count → w ≡ width count rules → rows_for (widest rules) (widest rules) rules ≡ rows_for count w rules
rows_at_root rules count w l e =
    rows_full rules (widest rules) count (widest rules) (omega arith) l ∙ ap (λ (k : ℕ). rows_for count k rules) (flip (e ∙ width_full rules count l))

-- the columns once one has its value

plain_put : (ns : List PoolNode) (cs : List Column) (at : ℕ) (v : TermId) (parts : List Column)
    → map (column ns) (value_put cs at v parts) ≡ take at (map (column ns) cs) ++ record { depth = depth_at cs at; term = term ns v } ∷ map (column ns) parts ++ drop (at + 1) (map (column ns) cs)
plain_put ns cs at v parts =
    let whole : List Column = record { depth = depth_at cs at; term = v } ∷ parts in
    map-append (column ns) (take at cs ++ whole) (drop (at + 1) cs)
    ∙ ap (λ (l : List PlainColumn). l ++ map (column ns) (drop (at + 1) cs)) (map-append (column ns) (take at cs) whole)
    ∙ (λ i. (flip (take-map (column ns) at cs) i ++ map (column ns) whole) ++ flip (drop-map (column ns) (at + 1) cs) i)

pub depth_there : (ns : List PoolNode) (cs : List Column) (at : ℕ) → (column_at (plain ns cs) at).depth ≡ depth_at cs at
depth_there ns [] at = refl
depth_there ns (c ∷ cs) zero = refl
depth_there ns (c ∷ cs) (suc at) = depth_there ns cs at

pub value_there : (S : PlainSignature) (rules : List PlainRule) (t : Source) (ns : List PoolNode) (cs : List Column) (at depth : ℕ) (v : TermId) (parts new : List Column) (left next : Left) (tried : ℕ) (key : Key) (n : ℕ)
    → depth ≡ depth_at cs at → plain ns parts ≡ opened_columns depth (term ns v) → key ≡ key_of (term ns v) → GoesOn rules t left tried key at next → new ≡ value_put cs at v parts
    → with_value S (plain ns cs) (drop tried (rows_left rules left)) at (column_at (plain ns cs) at).depth (term ns v) n ≡ selection_of S n (plain ns new) (rows_left rules next)
value_there S rules t ns cs at depth v parts new left next tried key n d o k g e =
    let d' : (column_at (plain ns cs) at).depth ≡ depth = depth_there ns cs at ∙ flip d in
    (λ i. with_value S (plain ns cs) (drop tried (rows_left rules left)) at (d' i) (term ns v) n)
    ∙ (λ i. selection_of S n
    (take at (plain ns cs) ++ record { depth = d i; term = term ns v } ∷ flip o i ++ drop (at + 1) (plain ns cs))
    (rows_by_head (term ns v) depth at (drop tried (rows_left rules left)) i))
    ∙ (λ i. selection_of S n (flip (plain_put ns cs at v parts) i) (rows_by (flip k i) at (drop tried (rows_left rules left))))
    ∙ (λ i. selection_of S n (plain ns (flip e i)) (flip g.rows i))

-- what a look-up finds

pub child_found : (t : Compiled) (n : Node) (tried : ℕ) (key : Key) (at place : ℕ) (o : Option (Bor Node)) → option_copied o ≡ slice_get t.nodes.items place
    → HasBranch n.branches.items key place → n.tried ≡ tried → n.column ≡ at
    → IfSome o (λ child. (rules : List PlainRule) → IsTree rules t → IsNode rules t.nodes.items n → Follows rules t n tried key at child.now)
child_found t n tried key at place None e b p q = tt
child_found t n tried key at place (Some child) e b p q = λ rs it is. branch_follows rs t n child.now tried key at place it is b (flip e) p q

pub root_found : (t : Compiled) (place : ℕ) (o : Option (Bor Node)) → option_copied o ≡ slice_get t.nodes.items place → t.root ≡ Some place
    → IfSome o (λ n. (rules : List PlainRule) → IsTree rules t → IsRoot rules t n.now)
root_found t place None e q = tt
root_found t place (Some n) e q = λ rs it. root_follows rs t n.now place it q (flip e)

pub depth_got : (cs : List Column) (at : ℕ) (c : Column) → slice_get cs at ≡ Some c → c.depth ≡ depth_at cs at
depth_got [] at c e = cc
depth_got (d ∷ cs) zero c e = let q : d ≡ c = cc in ap (λ (x : Column). x.depth) (flip q)
depth_got (d ∷ cs) (suc at) c e = depth_got cs at c e

pub put_there : (cs mid front pushed joined whole behind parts : List Column) (at : ℕ) (v : TermId) (c : Column) → slice_get cs at ≡ Some c → mid ≡ take (at + 1) cs → front ≡ take at mid
    → pushed ≡ front ++ (record { depth = c.depth; term = v } ∷ []) → joined ≡ pushed ++ parts → behind ≡ drop (at + 1) cs → whole ≡ joined ++ behind → whole ≡ value_put cs at v parts
put_there cs mid front pushed joined whole behind parts at v c e m f p j b w =
    let front_is : front ≡ take at cs = f ∙ ap (take at) m ∙ take-take at (at + 1) cs (omega arith) in
    let pushed_is : pushed ≡ take at cs ++ (record { depth = depth_at cs at; term = v } ∷ []) = p ∙ (λ i. front_is i ++ (record { depth = depth_got cs at c e i; term = v } ∷ [])) in
    let joined_is : joined ≡ take at cs ++ (record { depth = depth_at cs at; term = v } ∷ parts) =
    j ∙ ap (λ (l : List Column). l ++ parts) pushed_is ∙ append_assoc (take at cs) (record { depth = depth_at cs at; term = v } ∷ []) parts in
    w ∙ (λ i. joined_is i ++ b i)

pub root_rows : (rules : List PlainRule) (t : Compiled) (n : Node) (count w : ℕ) → IsRoot rules t n → IsTree rules t → t.widest ≤ count → w ≡ width count rules → map (kept_row rules) n.rows.items ≡ rows_for count w rules
root_rows rules t n count w r it l e = r.rows ∙ rows_at_root rules count w (omega (arith, it.nodes.most, l)) e
