-- Nodes that are added to a tree.
use Rattle.std.proofs.Common.{List, [], ◌∷◌, ◌++◌, ◌≡◌, ℕ, zero, suc, Some, refl, ap, ◌∙◌, map, drop, length}
use Rattle.std.specs.Prelude.{slice_get}
use Rattle.std.specs.Prelude.{insert}
use Rattle.dk_model.specs.Signatures.{PlainRule}
use Rattle.dk_model.specs.Matrix.{Row}
use Rattle.rule_match.specs.declared.key.Key.{Key}
use Rattle.rule_match.specs.declared.branch.Branch.{Branch}
use Rattle.rule_match.specs.declared.branch.Node.{Node}
use Rattle.rule_match.specs.Keys.{rows_by}
use Rattle.rule_match.specs.Rows.{kept_row}
use Rattle.rule_match.specs.Branches.{HasRows, AreBranches, IsNode, AreNodes, AreTests, Keeps, AddsRows}

pub keeps_none : (xs : List Node) → Keeps xs xs
keeps_none xs i n e = e

pub keeps_more : (xs ys zs : List Node) → Keeps xs ys → Keeps ys zs → Keeps xs zs
keeps_more xs ys zs f g i n e = g i n (f i n e)

pub keeps_pushed : (xs : List Node) (x : Node) → Keeps xs (xs ++ (x ∷ []))
keeps_pushed [] x i n e = cc
keeps_pushed (y ∷ xs) x zero n e = e
keeps_pushed (y ∷ xs) x (suc i) n e = keeps_pushed xs x i n e

last_there : (xs : List Node) (x : Node) → slice_get (xs ++ (x ∷ [])) (length xs) ≡ Some x
last_there [] x = refl
last_there (y ∷ xs) x = last_there xs x

pub rows_kept : (rules : List PlainRule) (xs ys : List Node) (i : ℕ) (rows : List Row) → Keeps xs ys → HasRows rules xs i rows → HasRows rules ys i rows
rows_kept rules xs ys i rows k h = record { node = h.node; there = k i h.node h.there; rows_are = h.rows_are }

pub branches_kept : (rules : List PlainRule) (xs ys : List Node) (column : ℕ) (rows : List Row) (bs : List Branch) → Keeps xs ys
    → AreBranches rules xs column rows bs → AreBranches rules ys column rows bs
branches_kept rules xs ys column rows [] k h = tt
branches_kept rules xs ys column rows (b ∷ bs) k h = (rows_kept rules xs ys b.node (rows_by b.key column rows) k h.0, branches_kept rules xs ys column rows bs k h.1)

nodes_kept : (rules : List PlainRule) (xs ys ns : List Node) → Keeps xs ys → AreNodes rules xs ns → AreNodes rules ys ns
nodes_kept rules xs ys [] k h = tt
nodes_kept rules xs ys (n ∷ ns) k h =
    (branches_kept rules xs ys n.column (drop n.tried (map (kept_row rules) n.rows.items)) n.branches.items k h.0, nodes_kept rules xs ys ns k h.1)

nodes_joined : (rules : List PlainRule) (ys ns : List Node) (n : Node) → AreNodes rules ys ns → IsNode rules ys n → AreNodes rules ys (ns ++ (n ∷ []))
nodes_joined rules ys [] n h k = (k, tt)
nodes_joined rules ys (m ∷ ns) n h k = (h.0, nodes_joined rules ys ns n h.1 k)

pub branches_inserted : (rules : List PlainRule) (nodes : List Node) (column : ℕ) (rows : List Row) (bs : List Branch) (i : ℕ) (b : Branch) → AreBranches rules nodes column rows bs
    → HasRows rules nodes b.node (rows_by b.key column rows) → AreBranches rules nodes column rows (insert bs i b)
branches_inserted rules nodes column rows [] zero b h k = (k, tt)
branches_inserted rules nodes column rows [] (suc i) b h k = (k, tt)
branches_inserted rules nodes column rows (x ∷ bs) zero b h k = (k, h)
branches_inserted rules nodes column rows (x ∷ bs) (suc i) b h k = (h.0, branches_inserted rules nodes column rows bs i b h.1 k)

-- a node that is pushed behind those that its branches go to
pub node_pushed : (rules : List PlainRule) (old mid new : List Node) (n : Node) (rows : List Row) (place : ℕ) → Keeps old mid → AreTests rules mid → new ≡ mid ++ (n ∷ [])
    → place ≡ length mid → map (kept_row rules) n.rows.items ≡ rows → AreBranches rules mid n.column (drop n.tried rows) n.branches.items → AddsRows rules old new rows place
node_pushed rules old mid new n rows place k t e p r b =
    let grown : Keeps mid new = λ i x q. ap (λ (l : List Node). slice_get l i) e ∙ keeps_pushed mid n i x q in
    let here : AreBranches rules mid n.column (drop n.tried (map (kept_row rules) n.rows.items)) n.branches.items = rw r b in
    record {
      keeps = keeps_more old mid new k grown;
      tests = rw e (nodes_joined rules (mid ++ (n ∷ [])) mid n (nodes_kept rules mid (mid ++ (n ∷ [])) mid (keeps_pushed mid n) t)
          (branches_kept rules mid (mid ++ (n ∷ [])) n.column (drop n.tried (map (kept_row rules) n.rows.items)) n.branches.items (keeps_pushed mid n) here));
      there = record { node = n; there = ap (λ (l : List Node). slice_get l place) e ∙ ap (slice_get (mid ++ (n ∷ []))) p ∙ last_there mid n; rows_are = r };
    }

-- what holds while the branches of a node are made
pub record Branching (rules : List PlainRule) (old mid : List Node) (column : ℕ) (rows : List Row) (bs : List Branch) : Type 0 where
  pub keeps : Keeps old mid
  pub tests : AreTests rules mid
  pub branches : AreBranches rules mid column rows bs

pub branching_begins : (rules : List PlainRule) (old : List Node) (column : ℕ) (rows : List Row) (bs : List Branch) → AreTests rules old → bs ≡ [] → Branching rules old old column rows bs
branching_begins rules old column rows bs t e = record { keeps = keeps_none old; tests = t; branches = rw e tt }

pub branching_goes_on : (rules : List PlainRule) (old mid new : List Node) (column : ℕ) (rows : List Row) (bs bs' : List Branch) (key : Key) (node : ℕ) → Branching rules old mid column rows bs
    → AddsRows rules mid new (rows_by key column rows) node
    → (AreBranches rules new column rows bs → HasRows rules new node (rows_by key column rows) → AreBranches rules new column rows bs') → Branching rules old new column rows bs'
branching_goes_on rules old mid new column rows bs bs' key node b a f = record {
  keeps = keeps_more old mid new b.keeps a.keeps;
  tests = a.tests;
  branches = f (branches_kept rules mid new column rows bs a.keeps b.branches) a.there;
}
