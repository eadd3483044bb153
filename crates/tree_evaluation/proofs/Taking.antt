-- What cells, guards and rows take from their columns, and what is captured by them.
use Rattle.std.proofs.Common.{length, replicate, IfSome, true, List, [], ◌∷◌, ◌++◌, append_assoc, map, ℕ, ◌≡◌, ◌<◌, Option, Some, None, refl, ap, ◌∙◌, sym as flip, subst as along, slice_set, eqb, Bool, false, append-nil, zero, suc, ◌≢◌, arith, eqb-true, eq-eqb}
use Rattle.std.proofs.lemmas.List.{map-set, length-map}
use Rattle.dk_model.specs.Substitution.{shift}
use Rattle.dk_model.specs.Signatures.{PlainSignature, maybe_tree, rule_variable_pattern, wildcard_pattern, guard_pattern, symbol_pattern, variable_pattern, abstraction_pattern}
use Rattle.dk_model.specs.Matrix.{Cell, blank, cell, is_rigid, rigid_at, Column as PlainColumn}
use Rattle.dk_model.specs.Captures.{Captures, capture_at, captured, filled}
use Rattle.dk_model.specs.Selection.{cell_captures}
use Rattle.dk_model.specs.Evaluation.{comparison_of, normal_of}
use Rattle.dk_model.specs.declared.signature.Pat.{Rvar, Any, Guard, Sym', Var', Abs'}
use Rattle.typing_model.specs.Steps.{Part, variable_part, at_wildcard, at_guard, at_rule_variable, capture, instantiated, guard_part, later_occurrence}
use Rattle.typing_model.proofs.Evaluation.{filled_instantiated, both_left, both_right}
use Rattle.typing_model.proofs.Loose.{parts_at, parts_of, capture_before, capture_behind}
use Rattle.typing_model.proofs.Rows.{rigid_here, rigid_behind}
use Rattle.checked_steps.specs.Matching.{laters, guards}
use Rattle.checked_steps.specs.Taken.{both_same, steps_taken, all_joined}
use Rattle.certificate_items.specs.Views.{plain_steps, plain_joins}
use Rattle.told_steps.specs.Meetings.{MeetIn, MeetBy}
use Rattle.tree_evaluation.specs.Views.{Term, Pat, Stored, Join, Told, End, Meeting, Captured, PartTrial, CellTrial, RowTrial, captures_of, pattern_cell, Tree, tree, column_of, columns_of}
use Rattle.tree_evaluation.specs.Answers.{guard_of}
use Rattle.tree_evaluation.specs.Tellings.{StillLead, StillLeads, HasParts, PartTold, RecordTold, CapturesNew, CellCaptures, CellTold, RowCaptures, RowTold, GuardTold, GuardsTold, RowTaken, LeadsTo, AreEnds}

-- ---- joins

pub joins_append : (S : PlainSignature) (xs ys : List Join) (cs ds : List (Tree × Tree)) → all_joined S (plain_joins xs) cs ≡ true → all_joined S (plain_joins ys) ds ≡ true
    → all_joined S (plain_joins (xs ++ ys)) (cs ++ ds) ≡ true
joins_append S [] ys [] ds i j = j
joins_append S [] ys (c ∷ cs) ds i j = cc
joins_append S (x ∷ xs) ys [] ds i j = cc
joins_append S (x ∷ xs) ys (c ∷ cs) ds i j =
    let here : Bool = both_same (steps_taken S (plain_steps x.first) c.0) (steps_taken S (plain_steps x.second) c.1) in
    rw (both_left here (all_joined S (plain_joins xs) cs) i) (joins_append S xs ys cs ds (both_right here (all_joined S (plain_joins xs) cs) i) j)

pub laters_append : (before xs ys : List Part) → laters before (xs ++ ys) ≡ laters before xs ++ laters (before ++ xs) ys
laters_append before [] ys = ap (λ (b : List Part). laters b ys) (flip (append-nil before))
laters_append before (variable_part k t ∷ xs) ys =
    let o : List (Tree × Tree) = later_occurrence (capture before k) t in
    let next : List Part = before ++ (variable_part k t ∷ []) in
    ap (λ (l : List (Tree × Tree)). o ++ l) (laters_append next xs ys ∙ ap (λ (b : List Part). laters next xs ++ laters b ys) (append_assoc before (variable_part k t ∷ []) xs))
    ∙ flip (append_assoc o (laters next xs) (laters (before ++ (variable_part k t ∷ xs)) ys))
laters_append before (guard_part d g t ∷ xs) ys =
    let next : List Part = before ++ (guard_part d g t ∷ []) in
    laters_append next xs ys ∙ ap (λ (b : List Part). laters next xs ++ laters b ys) (append_assoc before (guard_part d g t ∷ []) xs)

pub guards_append : (s : ℕ → Option Tree) (xs ys : List Part) → guards s (xs ++ ys) ≡ guards s xs ++ guards s ys
guards_append s [] ys = refl
guards_append s (variable_part k t ∷ xs) ys = guards_append s xs ys
guards_append s (guard_part d g t ∷ xs) ys = ap (λ (l : List (Tree × Tree)). (guards s (guard_part d g t ∷ [])) ++ l) (guards_append s xs ys)

-- ---- what the captures of one more part are

no_capture : (n j : ℕ) → capture_at (replicate n None) j ≡ None
no_capture zero j = refl
no_capture (suc n) zero = refl
no_capture (suc n) (suc j) = no_capture n j

set_here : (cs : Captures) (k : ℕ) (t : Tree) → k < length cs → capture_at (slice_set cs k (Some t)) k ≡ Some t
set_here [] k t lt = absurd (omega arith)
set_here (c ∷ cs) zero t lt = refl
set_here (c ∷ cs) (suc k) t lt = set_here cs k t (omega arith)

set_other : (cs : Captures) (k j : ℕ) (t : Tree) → k ≢ j → capture_at (slice_set cs k (Some t)) j ≡ capture_at cs j
set_other [] zero j t n = refl
set_other [] (suc k) j t n = refl
set_other (c ∷ cs) zero zero t n = absurd (n refl)
set_other (c ∷ cs) zero (suc j) t n = refl
set_other (c ∷ cs) (suc k) zero t n = refl
set_other (c ∷ cs) (suc k) (suc j) t n = set_other cs k j t (λ e. n (ap suc e))

other_false : (k j : ℕ) → eqb k j ≡ false → k ≢ j
other_false k j e = λ i. let g : false ≡ true = flip e ∙ eq-eqb k j i in cc

last_none : (k j : ℕ) (t : Tree) (x : Bool) → eqb k j ≡ x → k ≢ j → capture (variable_part k t ∷ []) j ≡ None
last_none k j t true e n = absurd (n (eqb-true k j e))
last_none k j t false e n = rw e refl

last_some : (k : ℕ) (t : Tree) (x : Bool) → eqb k k ≡ x → capture (variable_part k t ∷ []) k ≡ Some t
last_some k t true e = rw e refl
last_some k t false e = let i : false ≡ true = flip e ∙ eq-eqb k k refl in cc

-- where the last part's variable is another one, or captured already
still_captured : (parts : List Part) (k j : ℕ) (t : Tree) (o : Option Tree) → capture parts j ≡ o → (o ≡ None → k ≢ j) → capture parts j ≡ capture (parts ++ (variable_part k t ∷ [])) j
still_captured parts k j t None e n = e ∙ flip (capture_behind parts (variable_part k t ∷ []) j e ∙ last_none k j t (eqb k j) refl (n refl))
still_captured parts k j t (Some u) e n = e ∙ flip (capture_before parts (variable_part k t ∷ []) j u e)

guard_captures : (parts : List Part) (d : ℕ) (g t : Tree) (j : ℕ) (o : Option Tree) → capture parts j ≡ o → capture parts j ≡ capture (parts ++ (guard_part d g t ∷ [])) j
guard_captures parts d g t j None e = e ∙ flip (capture_behind parts (guard_part d g t ∷ []) j e)
guard_captures parts d g t j (Some u) e = e ∙ flip (capture_before parts (guard_part d g t ∷ []) j u e)

later_new : (o : Option Tree) (t : Tree) → o ≡ None → later_occurrence o t ++ [] ≡ []
later_new None t e = refl
later_new (Some u) t e = cc

later_same : (o : Option Tree) (t u : Tree) → o ≡ Some u → later_occurrence o t ++ [] ≡ (u, t) ∷ []
later_same None t u e = cc
later_same (Some v) t u e = let q : v ≡ u = cc in ap (λ (x : Tree). (x, t) ∷ []) q

module _ (S : PlainSignature) where
  pub has_none : (n : ℕ) (cs : Captures) (js : List Join) → cs ≡ replicate n None → js ≡ [] → HasParts S [] cs js
  has_none n cs js e q = record {
    agrees = λ j. ap (λ (l : Captures). capture_at l j) e ∙ no_capture n j;
    joined = ap (λ (l : List Join). all_joined S (plain_joins l) []) q;
  }

  module _ (parts : List Part) (cs : Captures) (js : List Join) (h : HasParts S parts cs js) where
    pub has_no_more : HasParts S (parts ++ []) cs js
    has_no_more = along (λ (ps : List Part). HasParts S ps cs js) (flip (append-nil parts)) h

    pub has_guard : (d : ℕ) (g t : Tree) → HasParts S (parts ++ (guard_part d g t ∷ [])) cs js
    has_guard d g t = record {
      agrees = λ j. h.agrees j ∙ guard_captures parts d g t j (capture parts j) refl;
      joined = ap (all_joined S (plain_joins js)) (laters_append [] parts (guard_part d g t ∷ []) ∙ append-nil (laters [] parts)) ∙ h.joined;
    }

    new_at : (k : ℕ) (t : Tree) → k < length cs → capture_at cs k ≡ None → (j : ℕ) (x : Bool) → eqb k j ≡ x
        → capture_at (slice_set cs k (Some t)) j ≡ capture (parts ++ (variable_part k t ∷ [])) j
    new_at k t lt e j true q = along (λ (y : ℕ). capture_at (slice_set cs k (Some t)) y ≡ capture (parts ++ (variable_part k t ∷ [])) y) (eqb-true k j q)
        (set_here cs k t lt ∙ flip (capture_behind parts (variable_part k t ∷ []) k (flip (h.agrees k) ∙ e) ∙ last_some k t (eqb k k) refl))
    new_at k t lt e j false q = set_other cs k j t (other_false k j q) ∙ h.agrees j ∙ still_captured parts k j t (capture parts j) refl (λ _. other_false k j q)

    pub has_new : (k : ℕ) (t : Tree) → k < length cs → capture_at cs k ≡ None → HasParts S (parts ++ (variable_part k t ∷ [])) (slice_set cs k (Some t)) js
    has_new k t lt e = record {
      agrees = λ j. new_at k t lt e j (eqb k j) refl;
      joined = ap (all_joined S (plain_joins js)) (laters_append [] parts (variable_part k t ∷ []) ∙ ap (λ (l : List (Tree × Tree)). laters [] parts ++ l) (later_new (capture parts k) t (flip (h.agrees k) ∙ e))
          ∙ append-nil (laters [] parts)) ∙ h.joined;
    }

    pub has_same : (k : ℕ) (t u : Tree) (join : Join) → capture_at cs k ≡ Some u
        → both_same (steps_taken S (plain_steps join.first) u) (steps_taken S (plain_steps join.second) t) ≡ true
        → HasParts S (parts ++ (variable_part k t ∷ [])) cs (js ++ (join ∷ []))
    has_same k t u join e m = record {
      agrees = λ j. h.agrees j ∙ still_captured parts k j t (capture parts j) refl (λ i q. let g : Some u ≡ None = flip e ∙ h.agrees k ∙ ap (capture parts) q ∙ i in cc);
      joined = ap (all_joined S (plain_joins (js ++ (join ∷ [])))) (laters_append [] parts (variable_part k t ∷ []) ∙ ap (λ (l : List (Tree × Tree)). laters [] parts ++ l) (later_same (capture parts k) t u (flip (h.agrees k) ∙ e)))
          ∙ joins_append S js (join ∷ []) (laters [] parts) ((u, t) ∷ []) h.joined (rw m refl);
    }

module _ (S : PlainSignature) where
  -- ---- columns

  pub still_one : (d : ℕ) (before after : Told) → ((t : Tree) → LeadsTo S t before → LeadsTo S t after)
      → (bases : List PlainColumn) → AreEnds S bases ((record { depth = d; told = before }) ∷ []) → AreEnds S bases ((record { depth = d; told = after }) ∷ [])
  still_one d before after f [] a = absurd a
  still_one d before after f (b ∷ []) a = (a.0, f b.term a.1, tt)
  still_one d before after f (b ∷ c ∷ bs) a = absurd a.2

  still_next : (e g : End) (es gs : List End) → StillLeads S e g → StillLead S es gs → (bases : List PlainColumn) → AreEnds S bases (e ∷ es) → AreEnds S bases (g ∷ gs)
  still_next e g es gs f h [] a = absurd a
  still_next e g es gs f h (b ∷ bs) a = let here : AreEnds S (b ∷ []) (g ∷ []) = f (b ∷ []) (a.0, a.1, tt) in (here.0, here.1, h bs a.2)

  -- ---- captures

  pub recorded_first : (before after : Captured) (k : ℕ) (part : Term) → CapturesNew before k part after → capture_at (captures_of before.captures) k ≡ None → RecordTold S before k (tree part) after
  recorded_first before after k part new e = λ parts h.
      let l : k < length (map maybe_tree before.captures.items) = along (λ (n : ℕ). k < n) (flip (length-map before.captures.items maybe_tree)) new.2 in
      along (λ (js : List Join). HasParts S (parts ++ (variable_part k (tree part) ∷ [])) (captures_of after.captures) js) (flip new.1)
      (along (λ (cs : Captures). HasParts S (parts ++ (variable_part k (tree part) ∷ [])) cs before.joins)
      (flip (ap (map maybe_tree) new.0 ∙ map-set maybe_tree before.captures.items k (Some part)))
      (has_new S parts (captures_of before.captures) before.joins h k (tree part) l e))

  pub recorded_met : (before after : Captured) (k : ℕ) (t u : Tree) (met : Meeting) (join : Join) → capture_at (captures_of before.captures) k ≡ Some u → MeetIn S u t met → MeetBy met join
      → after.captures ≡ before.captures → after.joins ≡ before.joins ++ (join ∷ []) → RecordTold S before k t after
  recorded_met before after k t u met join e m by c j = λ parts h.
      along (λ (js : List Join). HasParts S (parts ++ (variable_part k t ∷ [])) (captures_of after.captures) js) (flip j)
      (along (λ (cs : Captures). HasParts S (parts ++ (variable_part k t ∷ [])) cs (before.joins ++ (join ∷ []))) (flip (ap captures_of c))
      (has_same S parts (captures_of before.captures) before.joins h k t u join e (by S u t m)))

  -- ---- a cell

  abbrev pub IsNoVariable : Cell → Type 0
  IsNoVariable (cell (rule_variable_pattern k xs)) = ⊥
  IsNoVariable c = Unit {0}

  pub no_variable : (p : Pat Stored) → ((k : ℕ) (xs : List ℕ) → p ≡ Rvar k xs → ⊥) → IsNoVariable (pattern_cell p)
  no_variable (Rvar k xs) n = n k xs refl
  no_variable Any n = tt
  no_variable (Guard g) n = tt
  no_variable (Sym' k shape ps) n = tt
  no_variable (Var' k shape ps) n = tt
  no_variable (Abs' shape p) n = tt

  -- any other cell: its column stays, and it captures nothing
  abbrev pub Passes : Cell → End → Captured → ℕ → Type 0
  Passes c column captured n = (cell_captures (normal_of S) (comparison_of S) c (column_of column) n (captures_of captured.captures)
      ≡ Some (record { captures = Some (captures_of captured.captures); column = column_of column }, n)) × CellTold S c column captured (record { captured = Some captured; column = column })

  pub other_cell : (c : Cell) (column : End) (captured : Captured) (n : ℕ) → IsNoVariable c → Passes c column captured n
  other_cell (cell (rule_variable_pattern k xs)) column captured n i = absurd i
  other_cell blank column captured n i = (refl, λ r. (λ bases a. a, (refl, λ parts h. has_no_more S parts (captures_of captured.captures) captured.joins h)))
  other_cell (cell wildcard_pattern) column captured n i = (refl, λ r. (λ bases a. a, (at_wildcard, λ parts h. has_no_more S parts (captures_of captured.captures) captured.joins h)))
  other_cell (cell (guard_pattern g)) column captured n i =
      (refl, λ r. (λ bases a. a, (at_guard, λ parts h. has_guard S parts (captures_of captured.captures) captured.joins h column.depth g (tree column.told.form))))
  other_cell (cell (symbol_pattern k ps)) column captured n i = (refl, λ r. cc)
  other_cell (cell (variable_pattern k ps)) column captured n i = (refl, λ r. cc)
  other_cell (cell (abstraction_pattern p)) column captured n i = (refl, λ r. cc)

  module _ (k : ℕ) (xs : List ℕ) (d : ℕ) (told : Told) (before : Captured) (part : PartTrial) (p : PartTold S d xs told part) where
    part_kept : part.fits ≡ true → (after : Option Captured) → IfSome after (RecordTold S before k (captured d xs (tree part.told.form)))
        → IfSome after (CellCaptures S (cell (rule_variable_pattern k xs)) (column_of (record { depth = d; told = part.told })) before)
    part_kept fits None h = tt
    part_kept fits (Some after) h = (at_rule_variable (p.1 fits), h)

    pub part_recorded : part.fits ≡ true → (t : Tree) → t ≡ captured d xs (tree part.told.form) → (after : Option Captured) → IfSome after (RecordTold S before k t)
        → CellTold S (cell (rule_variable_pattern k xs)) (record { depth = d; told = told }) before (record { captured = after; column = record { depth = d; told = part.told } })
    part_recorded fits t e after h = λ r. (still_one d told part.told p.0, part_kept fits after (along (λ (u : Tree). IfSome after (RecordTold S before k u)) e h))

  -- ---- a row's cells

  module _ (c : Cell) (cells : List Cell) (column : End) (columns : List End) (before : Captured) (here : CellTrial) (told : CellTold S c column before here) where
    pub cell_fails : (trial : RowTrial) → trial.captured ≡ None → trial.columns ≡ here.column ∷ columns → RowTold S (c ∷ cells) (column ∷ columns) before trial
    cell_fails trial e q = λ r.
        let first : StillLeads S column here.column × IfSome here.captured (CellCaptures S c (column_of here.column) before) = told (rigid_here (is_rigid c) _ r) in (
          along (λ (es : List End). StillLead S (column ∷ columns) es) (flip q) (still_next column here.column columns columns first.0 (λ bases a. a)),
          along (λ (o : Option Captured). IfSome o (RowCaptures S (c ∷ cells) (columns_of trial.columns) before)) (flip e) tt,
        )

    more_captured : (middle : Captured) (rest : RowTrial) → CellCaptures S c (column_of here.column) before middle
        → (after : Option Captured) → IfSome after (RowCaptures S cells (columns_of rest.columns) middle)
        → IfSome after (RowCaptures S (c ∷ cells) (columns_of (here.column ∷ rest.columns)) before)
    more_captured middle rest f None g = tt
    more_captured middle rest f (Some after) g =
        let xs : List Part = parts_at c (column_of here.column) in let ys : List Part = parts_of cells (columns_of rest.columns) in (
          (xs, ys, f.0, g.0, refl),
          λ parts h. along (λ (ps : List Part). HasParts S ps (captures_of after.captures) after.joins) (append_assoc parts xs ys) (g.1 (parts ++ xs) (f.1 parts h)),
        )

    pub cell_goes : (middle : Captured) (rest trial : RowTrial) → here.captured ≡ Some middle → RowTold S cells columns middle rest
        → trial ≡ record { captured = rest.captured; columns = here.column ∷ rest.columns } → RowTold S (c ∷ cells) (column ∷ columns) before trial
    cell_goes middle rest trial e more q = λ r.
        let first : StillLeads S column here.column × IfSome here.captured (CellCaptures S c (column_of here.column) before) = told (rigid_here (is_rigid c) _ r) in
        let second : StillLead S columns rest.columns × IfSome rest.captured (RowCaptures S cells (columns_of rest.columns) middle) = more (rigid_behind (is_rigid c) (rigid_at cells) r) in
        let taken : CellCaptures S c (column_of here.column) before middle = along (λ (o : Option Captured). IfSome o (CellCaptures S c (column_of here.column) before)) e first.1 in
        along (λ (it : RowTrial). StillLead S (column ∷ columns) it.columns × IfSome it.captured (RowCaptures S (c ∷ cells) (columns_of it.columns) before)) (flip q)
        (still_next column here.column columns rest.columns first.0 second.0, more_captured middle rest taken rest.captured second.1)

  -- ---- guards

  abbrev pub IsNoGuard : Cell → Type 0
  IsNoGuard (cell (guard_pattern g)) = ⊥
  IsNoGuard c = Unit {0}

  pub no_guard : (p : Pat Stored) → ((g : Stored) → p ≡ Guard g → ⊥) → IsNoGuard (pattern_cell p)
  no_guard (Guard g) n = n g refl
  no_guard (Rvar k xs) n = tt
  no_guard Any n = tt
  no_guard (Sym' k shape ps) n = tt
  no_guard (Var' k shape ps) n = tt
  no_guard (Abs' shape p) n = tt

  pub other_guard : (c : Cell) (column : End) (n : ℕ) (captures : Captures) → IsNoGuard c → (guard_of S c (column_of column) n captures ≡ Some (true, n)) × GuardTold S c column captures []
  other_guard (cell (guard_pattern g)) column n captures i = absurd i
  other_guard (cell (rule_variable_pattern k xs)) column n captures i = (refl, λ s e. refl)
  other_guard blank column n captures i = (refl, λ s e. refl)
  other_guard (cell wildcard_pattern) column n captures i = (refl, λ s e. refl)
  other_guard (cell (symbol_pattern k ps)) column n captures i = (refl, λ s e. refl)
  other_guard (cell (variable_pattern k ps)) column n captures i = (refl, λ s e. refl)
  other_guard (cell (abstraction_pattern p)) column n captures i = (refl, λ s e. refl)

  pub guard_joined : (g u : Tree) (column : End) (captures : Captures) (met : Meeting) (join : Join) (joins : List Join) → u ≡ shift 0 column.depth (filled captures 0 g)
      → MeetIn S (tree column.told.form) u met → MeetBy met join → joins ≡ join ∷ [] → GuardTold S (cell (guard_pattern g)) column captures joins
  guard_joined g u column captures met join joins e m by j = λ s a.
      let is : u ≡ shift 0 column.depth (instantiated s 0 g) = e ∙ ap (shift 0 column.depth) (filled_instantiated captures s a 0 g) in
      let here : both_same (steps_taken S (plain_steps join.first) (tree column.told.form)) (steps_taken S (plain_steps join.second) (shift 0 column.depth (instantiated s 0 g))) ≡ true =
      by S (tree column.told.form) (shift 0 column.depth (instantiated s 0 g)) (along (λ (v : Tree). MeetIn S (tree column.told.form) v met) is m) in
      ap (λ (js : List Join). all_joined S (plain_joins js) ((tree column.told.form, shift 0 column.depth (instantiated s 0 g)) ∷ [])) j ∙ rw here refl

  pub guards_joined : (c : Cell) (cells : List Cell) (column : End) (columns : List End) (captures : Captures) (here behind joins : List Join) → GuardTold S c column captures here
      → GuardsTold S cells columns captures behind → joins ≡ here ++ behind → GuardsTold S (c ∷ cells) (column ∷ columns) captures joins
  guards_joined c cells column columns captures here behind joins h b j = λ s e.
      let xs : List Part = parts_at c (column_of column) in let ys : List Part = parts_of cells (columns_of columns) in
      ap (λ (js : List Join). all_joined S (plain_joins js) (guards s (xs ++ ys))) j ∙ ap (all_joined S (plain_joins (here ++ behind))) (guards_append s xs ys)
      ∙ joins_append S here behind (guards s xs) (guards s ys) (h s e) (b s e)

  -- ---- a row

  module _ (cells : List Cell) (columns : List End) (n : ℕ) (none : Captured) (c : captures_of none.captures ≡ replicate n None) (j : none.joins ≡ []) (trial : RowTrial)
      (told : RowTold S cells columns none trial) where
    pub row_takes : (captured after : Captured) (joins : List Join) → trial.captured ≡ Some captured → GuardsTold S cells trial.columns (captures_of captured.captures) joins
        → after.captures ≡ captured.captures → after.joins ≡ captured.joins ++ joins → RowTaken S cells columns (record { captured = Some after; columns = trial.columns })
    row_takes captured after joins e g d i = λ r bases a.
        let all : List Part = parts_of cells (columns_of trial.columns) in
        let t : RowCaptures S cells (columns_of trial.columns) none captured = along (λ (o : Option Captured). IfSome o (RowCaptures S cells (columns_of trial.columns) none)) e (told r).1 in
        let has : HasParts S all (captures_of captured.captures) captured.joins = t.1 [] (has_none S n (captures_of none.captures) none.joins c j) in
        let same : captures_of after.captures ≡ captures_of captured.captures = ap captures_of d in (
          (told r).0 bases a,
          record {
            parts = all;
            leads = (told r).0 bases a;
            takes = t.0;
            captured = λ k. ap (λ (cs : Captures). capture_at cs k) same ∙ has.agrees k;
            joined = ap (λ (js : List Join). all_joined S (plain_joins js) (laters [] all ++ guards (capture all) all)) i
                ∙ joins_append S captured.joins joins (laters [] all) (guards (capture all) all) has.joined (g (capture all) has.agrees);
          },
        )
