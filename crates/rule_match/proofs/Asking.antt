-- What a matcher asks for at a row.
use Rattle.std.proofs.Common.{List, [], ◌∷◌, ◌++◌, ◌≡◌, ◌≤◌, ◌<◌, ◌+◌, ℕ, zero, suc, Option, Some, None, Bool, true, false, refl, ap, ◌∙◌, sym as flip, subst, arith, map, drop, take, length, Vec, Global}
use Rattle.std.specs.Prelude.{slice_get, slice_set, replicate}
use Rattle.std.specs.Option.{option_map}
use Rattle.std.proofs.lemmas.List.{length-map, map-set}
use Rattle.dk_model.specs.Trees.{Tree}
use Rattle.dk_model.specs.Signatures.{PlainRule, PlainSignature}
use Rattle.dk_model.specs.Matrix.{rigid_at, cell_at}
use Rattle.dk_model.specs.Matrix.{Row as PlainRow, Column as PlainColumn}
use Rattle.dk_model.specs.Equations.{selection_of}
use Rattle.shared_term.specs.declared.id.TermId.{TermId}
use Rattle.shared_term.specs.Pools.{Node as PoolNode, term, Extends}
use Rattle.shared_term.specs.Changes.{captured_terms}
use Rattle.rule_match.specs.declared.cell.Cell.{Cell}
use Rattle.rule_match.specs.declared.cell.Row.{Row}
use Rattle.rule_match.specs.declared.value.Column.{Column}
use Rattle.rule_match.specs.declared.matcher.Ask.TheVariants.{Nothing, Evaluate}
use Rattle.rule_match.specs.declared.matcher.Stage.TheVariants.{Begins, Ends, Evaluates}
use Rattle.rule_match.specs.declared.left.Left.{Left}
use Rattle.rule_match.specs.declared.matcher.Matcher.{Matcher}
use Rattle.rule_match.specs.Rows.{plain_cell, row, rule_at}
use Rattle.rule_match.specs.Columns.{plain, column, AreColumns}
use Rattle.rule_match.specs.Trying.{column_at}
use Rattle.rule_match.specs.Standing.{capturing, others_in}
use Rattle.rule_match.specs.Matching.{Stands, Asks, IsMatcher, selects, captures_due, fails, after_normal}
use Rattle.rule_match.specs.Remaining.{rows_left}
use Rattle.rule_match.specs.Columns.{depth_at, value_put}
use Rattle.rule_match.proofs.Growing.{terms_none, columns_within, captures_within, columns_grown, captures_grown, columns_set, columns_taken, columns_dropped}
use Rattle.rule_match.proofs.Opening.{columns_joined}
use Rattle.rule_match.proofs.Matching.{select_none, select_missing, select_rigid, select_loose, column_there, term_there, normal_fails, normal_goes}

past : (cols : List PlainColumn) (i : ℕ) → length cols ≤ i → slice_get cols i ≡ None
past [] i l = refl
past (c ∷ cols) zero l = absurd (omega arith)
past (c ∷ cols) (suc i) l = past cols i (omega arith)

module _ (rules : List PlainRule) (ns : List PoolNode) (m : Matcher) (s : Stands rules m) where
  abbrev rows : List PlainRow
  rows = rows_left rules m.left

  abbrev cols : List PlainColumn
  cols = plain ns m.columns.items

  pub no_row : slice_get rows m.tried ≡ None → Asks rules ns (record m { stage = Ends }) Nothing (λ S. selects S rules ns m)
  no_row e = record { stands = record { source = s.source; left = s.left }; asks = λ S n. select_none S n cols rows m.tried e }

  module _ (r : Row) (there : slice_get rows m.tried ≡ Some (row rules r)) where
    pub no_column : (at : ℕ) → rigid_at (map plain_cell r.cells.items) ≡ Some at → length m.columns.items ≤ at → Asks rules ns (record m { stage = Ends }) Nothing (λ S. selects S rules ns m)
    no_column at e l = record {
      stands = record { source = s.source; left = s.left };
      asks = λ S n. select_missing S n cols rows m.tried (row rules r) there at e (past cols at (let q : length cols ≡ length m.columns.items = length-map m.columns.items (column ns) in omega (arith, q, l)));
    }

    pub asks_value : (at : ℕ) → rigid_at (map plain_cell r.cells.items) ≡ Some at → at < length m.columns.items → Asks rules ns (record m { stage = Evaluates at }) (Evaluate at) (λ S. selects S rules ns m)
    asks_value at e l = record {
      stands = record { source = s.source; left = s.left };
      asks = λ S n. select_rigid S n cols rows m.tried (row rules r) there at e (column_at cols at)
          (column_there cols at (let q : length cols ≡ length m.columns.items = length-map m.columns.items (column ns) in omega (arith, q, l)));
    }

    pub begins_row : (caps : Vec (Option TermId) Global) (count : ℕ) → rigid_at (map plain_cell r.cells.items) ≡ None → count ≡ (rule_at rules r.at).vars → caps.items ≡ replicate count None
        → (S : PlainSignature) (n : ℕ) → selects S rules ns m n ≡ captures_due S rules ns (record m { row = r; captures = caps }) 0 n
    begins_row caps count e k q S n =
        select_loose S n cols rows m.tried (row rules r) there e
        ∙ ap (λ (cs : List (Option Tree)). capturing S (row rules r) (drop (m.tried + 1) rows) cols 0 cs n)
        (flip (ap (captured_terms ns) q ∙ terms_none ns count ∙ ap (λ (j : ℕ). replicate j None) k))

-- the row that a look-up finds
pub row_found : (rules : List PlainRule) (left : Left) (at : ℕ) (r : Row) (o : Option Row) → o ≡ Some r → option_map (row rules) o ≡ slice_get (rows_left rules left) at → slice_get (rows_left rules left) at ≡ Some (row rules r)
row_found rules left at r o e h = flip h ∙ ap (option_map (row rules)) e

pub row_missing : (rules : List PlainRule) (left : Left) (at : ℕ) (o : Option Row) → o ≡ None → option_map (row rules) o ≡ slice_get (rows_left rules left) at → slice_get (rows_left rules left) at ≡ None
row_missing rules left at o e h = flip h ∙ ap (option_map (row rules)) e

-- a part in its normal form

module _ (old new : List PoolNode) (x : Extends old new) (m : Matcher) (w : IsMatcher (length old) m) (at : ℕ) (part : TermId) (l : part.0 < length old) (col : Column)
    (c : slice_get m.columns.items at ≡ Some col) (cols1 : Vec Column Global) (set : cols1.items ≡ slice_set m.columns.items at (record { depth = col.depth; term = part })) where
  abbrev normal_put : PlainColumn
  normal_put = record { depth = (column_at (plain old m.columns.items) at).depth; term = term old part }

  same_columns : slice_set (plain old m.columns.items) at normal_put ≡ plain new cols1.items
  same_columns =
      (λ i. slice_set (flip (columns_grown old new m.columns.items x w.columns) i) at (record { depth = (term_there old m.columns.items at col c i).depth; term = flip (x.keeps part.0 l) i }))
      ∙ flip (ap (map (column new)) set ∙ map-set (column new) m.columns.items at (record { depth = col.depth; term = part }))

  pub normal_within : IsMatcher (length new) (record m { columns = cols1; stage = Begins })
  normal_within = record {
    columns = subst (λ (k : List Column). AreColumns (length new) k) (flip set)
        (columns_set (length new) at m.columns.items (record { depth = col.depth; term = part }) (columns_within old new m.columns.items x w.columns) (omega (arith, l, x.longer)));
    captures = captures_within old new m.captures.items x w.captures;
    stage = tt;
    tried = tt;
    placed = w.placed;
  }

  module _ (rules : List PlainRule) (b : Bool) (held : Cell) (is : plain_cell held ≡ cell_at (map plain_cell m.row.cells.items) at) (e : b ≡ others_in (plain_cell held) col.depth (term old part)) where
    abbrev rest : List PlainRow
    rest = drop (m.tried + 1) (rows_left rules m.left)

    tells : others_in (cell_at (row rules m.row).cells at) (column_at (plain old m.columns.items) at).depth (term old part) ≡ b
    tells = flip (e ∙ (λ i. others_in (is i) (flip (term_there old m.columns.items at col c) i).depth (term old part)))

    pub still_fails : b ≡ true → (S : PlainSignature) (n : ℕ) → after_normal S rules old m at (term old part) n ≡ fails S rules new (record m { columns = cols1; stage = Begins }) n
    still_fails t S n =
        normal_fails S (row rules m.row) rest (plain old m.columns.items) at (captured_terms old m.captures.items) (term old part) n (tells ∙ t)
        ∙ (λ i. selection_of S n (same_columns i) rest)

    pub still_goes : b ≡ false → at < length m.row.cells.items → at < length m.columns.items → (S : PlainSignature) (n : ℕ)
        → after_normal S rules old m at (term old part) n ≡ captures_due S rules new (record m { columns = cols1; stage = Begins }) at n
    still_goes t k h S n =
        normal_goes S (row rules m.row) rest (plain old m.columns.items) at (captured_terms old m.captures.items) (term old part) n
        (let q : length (map plain_cell m.row.cells.items) ≡ length m.row.cells.items = length-map m.row.cells.items plain_cell in omega (arith, k, q))
        (let q : length (plain old m.columns.items) ≡ length m.columns.items = length-map m.columns.items (column old) in omega (arith, h, q)) (tells ∙ t)
        ∙ (λ i. capturing S (row rules m.row) rest (same_columns i) at (flip (captures_grown old new m.captures.items x w.captures) i) n)

pub put_within : (n at : ℕ) (cs : List Column) (v : TermId) (parts : List Column) → AreColumns n cs → v.0 < n → AreColumns n parts → AreColumns n (value_put cs at v parts)
put_within n at cs v parts h l k =
    columns_joined n (take at cs ++ (record { depth = depth_at cs at; term = v } ∷ parts)) (drop (at + 1) cs)
    (columns_joined n (take at cs) (record { depth = depth_at cs at; term = v } ∷ parts) (columns_taken n at cs h) (l, k)) (columns_dropped n (at + 1) cs h)
