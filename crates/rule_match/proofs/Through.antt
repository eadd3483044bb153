-- The captures of a row, one cell after another, and its guards.
use Rattle.std.proofs.Common.{◌≤◌, List, [], ◌∷◌, ◌++◌, take, drop, length, ℕ, zero, suc, ◌≡◌, ◌+◌, min, Option, Some, None, Bool, true, false, refl, ap, ◌∙◌, sym as flip, arith, add-one}
use Rattle.std.specs.Prelude.{slice_set, slice_get, if◌then◌else◌}
use Rattle.dk_model.specs.Trees.{Tree}
use Rattle.dk_model.specs.Signatures.{rule_variable_pattern, wildcard_pattern, guard_pattern, symbol_pattern, variable_pattern, abstraction_pattern}
use Rattle.dk_model.specs.Units.{Units, bind}
use Rattle.dk_model.specs.Matrix.{Cell, blank, cell, Column}
use Rattle.dk_model.specs.Captures.{Captures}
use Rattle.dk_model.specs.Selection.{cell_captures, captures_of_row, guards_hold, CellTrial, RowTrial}
use Rattle.rule_match.specs.Standing.{put_before, passed, after_cell, guards_from, guard_compared}
use Rattle.rule_match.specs.Trying.{guard_by}

behind_none : (y : Units RowTrial) → put_before [] y ≡ y
behind_none None = refl
behind_none (Some p) = refl

behind_more : (k : Column) (pre : List Column) (y : Units RowTrial) → put_before (k ∷ pre) y ≡ put_before (k ∷ []) (put_before pre y)
behind_more k pre None = refl
behind_more k pre (Some p) = refl

module _ (N : ℕ → Tree → Units Tree) (C : ℕ → Tree → Tree → Units Bool) where
  abbrev goes : List Cell → List Column → CellTrial → ℕ → Units RowTrial
  goes cells cols o m = elim o.captures [
    | None ↦ Some (record { captures = None; columns = o.column ∷ cols }, m)
    | Some cs' ↦ bind (captures_of_row N C cells cols m cs') (λ r j. Some (record { captures = r.captures; columns = o.column ∷ r.columns }, j))
  ]

  first_goes : (x : Cell) (k k' : Column) (cells : List Cell) (cols : List Column) (n m : ℕ) (cs cs' : Captures) → cell_captures N C x k n cs ≡ Some (record { captures = Some cs'; column = k' }, m)
      → passed N C (x ∷ cells) (k ∷ cols) 0 n cs ≡ put_before (k' ∷ []) (captures_of_row N C cells cols m cs')
  first_goes x k k' cells cols n m cs cs' e = behind_none (captures_of_row N C (x ∷ cells) (k ∷ cols) n cs) ∙ ap (λ z. bind z (goes cells cols)) e

  first_fails : (x : Cell) (k k' : Column) (cells : List Cell) (cols : List Column) (n m : ℕ) (cs : Captures) → cell_captures N C x k n cs ≡ Some (record { captures = None; column = k' }, m)
      → passed N C (x ∷ cells) (k ∷ cols) 0 n cs ≡ Some (record { captures = None; columns = k' ∷ cols }, m)
  first_fails x k k' cells cols n m cs e = behind_none (captures_of_row N C (x ∷ cells) (k ∷ cols) n cs) ∙ ap (λ z. bind z (goes cells cols)) e

  goes_at : (cells : List Cell) (cols : List Column) (i n m : ℕ) (cs cs' : Captures) (x : Cell) (k k' : Column) → slice_get cells i ≡ Some x → slice_get cols i ≡ Some k
      → cell_captures N C x k n cs ≡ Some (record { captures = Some cs'; column = k' }, m) → passed N C cells cols i n cs ≡ passed N C cells (slice_set cols i k') (suc i) m cs'
  goes_at [] cols i n m cs cs' x k k' p q e = cc
  goes_at (y ∷ cells) [] i n m cs cs' x k k' p q e = cc
  goes_at (y ∷ cells) (z ∷ cols) zero n m cs cs' x k k' p q e =
      let a : y ≡ x = cc in let b : z ≡ k = cc in let e' : cell_captures N C y z n cs ≡ Some (record { captures = Some cs'; column = k' }, m) = cc in
      first_goes y z k' cells cols n m cs cs' e'
  goes_at (y ∷ cells) (z ∷ cols) (suc i) n m cs cs' x k k' p q e =
      behind_more z (take i cols) _ ∙ ap (put_before (z ∷ [])) (goes_at cells cols i n m cs cs' x k k' p q e) ∙ flip (behind_more z (take (suc i) (slice_set cols i k')) _)

  pub goes_on : (cells : List Cell) (cols : List Column) (i n m : ℕ) (cs cs' : Captures) (x : Cell) (k k' : Column) → slice_get cells i ≡ Some x → slice_get cols i ≡ Some k
      → cell_captures N C x k n cs ≡ Some (record { captures = Some cs'; column = k' }, m) → passed N C cells (slice_set cols i k') (i + 1) m cs' ≡ passed N C cells cols i n cs
  goes_on cells cols i n m cs cs' x k k' p q e = rw add-one (flip (goes_at cells cols i n m cs cs' x k k' p q e))

  pub fails_at : (cells : List Cell) (cols : List Column) (i n m : ℕ) (cs : Captures) (x : Cell) (k k' : Column) → slice_get cells i ≡ Some x → slice_get cols i ≡ Some k
      → cell_captures N C x k n cs ≡ Some (record { captures = None; column = k' }, m) → passed N C cells cols i n cs ≡ Some (record { captures = None; columns = slice_set cols i k' }, m)
  fails_at [] cols i n m cs x k k' p q e = cc
  fails_at (y ∷ cells) [] i n m cs x k k' p q e = cc
  fails_at (y ∷ cells) (z ∷ cols) zero n m cs x k k' p q e =
      let a : y ≡ x = cc in let b : z ≡ k = cc in let e' : cell_captures N C y z n cs ≡ Some (record { captures = None; column = k' }, m) = cc in
      first_fails y z k' cells cols n m cs e'
  fails_at (y ∷ cells) (z ∷ cols) (suc i) n m cs x k k' p q e =
      behind_more z (take i cols) _ ∙ ap (put_before (z ∷ [])) (fails_at cells cols i n m cs x k k' p q e)

  pub ends_at : (cells : List Cell) (cols : List Column) (i n : ℕ) (cs : Captures) (x : Cell) (k : Column) → slice_get cells i ≡ Some x → slice_get cols i ≡ Some k
      → cell_captures N C x k n cs ≡ None → passed N C cells cols i n cs ≡ None
  ends_at [] cols i n cs x k p q e = cc
  ends_at (y ∷ cells) [] i n cs x k p q e = cc
  ends_at (y ∷ cells) (z ∷ cols) zero n cs x k p q e =
      let a : y ≡ x = cc in let b : z ≡ k = cc in let e' : cell_captures N C y z n cs ≡ None = cc in
      behind_none (captures_of_row N C (y ∷ cells) (z ∷ cols) n cs) ∙ ap (λ u. bind u (goes cells cols)) e'
  ends_at (y ∷ cells) (z ∷ cols) (suc i) n cs x k p q e =
      behind_more z (take i cols) _ ∙ ap (put_before (z ∷ [])) (ends_at cells cols i n cs x k p q e)

  through_no_column : (cells : List Cell) (n : ℕ) (cs : Captures) → captures_of_row N C cells [] n cs ≡ Some (record { captures = Some cs; columns = [] }, n)
  through_no_column [] n cs = refl
  through_no_column (x ∷ cells) n cs = refl

  take_drop : {A : Type 0} (i : ℕ) (xs : List A) → take i xs ++ drop i xs ≡ xs
  take_drop zero xs = refl
  take_drop (suc i) [] = refl
  take_drop (suc i) (x ∷ xs) = ap (λ l. x ∷ l) (take_drop i xs)

  pub passed_all : (cells : List Cell) (cols : List Column) (i n : ℕ) (cs : Captures) → min (length cells) (length cols) ≤ i → passed N C cells cols i n cs ≡ Some (record { captures = Some cs; columns = cols }, n)
  passed_all [] cols zero n cs e = refl
  passed_all [] cols (suc i) n cs e = ap (λ (l : List Column). Some (record { captures = Some cs; columns = l }, n)) (take_drop (suc i) cols)
  passed_all (x ∷ cells) [] zero n cs e = refl
  passed_all (x ∷ cells) [] (suc i) n cs e = ap (put_before []) (through_no_column (drop i cells) n cs)
  passed_all (x ∷ cells) (k ∷ cols) zero n cs e = absurd (omega arith)
  passed_all (x ∷ cells) (k ∷ cols) (suc i) n cs e = behind_more k (take i cols) _ ∙ ap (put_before (k ∷ [])) (passed_all cells cols i n cs (omega arith))

  -- the guards

  by_guard : (x : Cell) (k : Column) (cells : List Cell) (cols : List Column) (n : ℕ) (cs : Captures)
      → guards_hold C (x ∷ cells) (k ∷ cols) n cs ≡ bind (guard_by C x k n cs) (λ alike m. if alike then guards_hold C cells cols m cs else Some (false, m))
  by_guard blank k cells cols n cs = refl
  by_guard (cell (rule_variable_pattern v xs)) k cells cols n cs = refl
  by_guard (cell wildcard_pattern) k cells cols n cs = refl
  by_guard (cell (guard_pattern g)) k cells cols n cs = refl
  by_guard (cell (symbol_pattern v ps)) k cells cols n cs = refl
  by_guard (cell (variable_pattern v ps)) k cells cols n cs = refl
  by_guard (cell (abstraction_pattern p)) k cells cols n cs = refl

  at_guard : (cells : List Cell) (cols : List Column) (i n : ℕ) (cs : Captures) (x : Cell) (k : Column) (y : Units Bool) → slice_get cells i ≡ Some x → slice_get cols i ≡ Some k
      → guard_by C x k n cs ≡ y → guards_from C cells cols i n cs ≡ bind y (λ alike m. if alike then guards_from C cells cols (suc i) m cs else Some (false, m))
  at_guard [] cols i n cs x k y p q e = cc
  at_guard (z ∷ cells) [] i n cs x k y p q e = cc
  at_guard (z ∷ cells) (j ∷ cols) zero n cs x k y p q e =
      let a : z ≡ x = cc in let b : j ≡ k = cc in let e' : guard_by C z j n cs ≡ y = cc in
      by_guard z j cells cols n cs ∙ ap (λ u. bind u (λ alike m. if alike then guards_hold C cells cols m cs else Some (false, m))) e'
  at_guard (z ∷ cells) (j ∷ cols) (suc i) n cs x k y p q e = at_guard cells cols i n cs x k y p q e

  pub guard_met : (cells : List Cell) (cols : List Column) (i n m : ℕ) (cs : Captures) (x : Cell) (k : Column) → slice_get cells i ≡ Some x → slice_get cols i ≡ Some k
      → guard_by C x k n cs ≡ Some (true, m) → guards_from C cells cols (i + 1) m cs ≡ guards_from C cells cols i n cs
  guard_met cells cols i n m cs x k p q e = rw add-one (flip (at_guard cells cols i n cs x k (Some (true, m)) p q e))

  pub guard_fails : (cells : List Cell) (cols : List Column) (i n m : ℕ) (cs : Captures) (x : Cell) (k : Column) → slice_get cells i ≡ Some x → slice_get cols i ≡ Some k
      → guard_by C x k n cs ≡ Some (false, m) → guards_from C cells cols i n cs ≡ Some (false, m)
  guard_fails cells cols i n m cs x k p q e = at_guard cells cols i n cs x k (Some (false, m)) p q e

  pub guard_ends : (cells : List Cell) (cols : List Column) (i n : ℕ) (cs : Captures) (x : Cell) (k : Column) → slice_get cells i ≡ Some x → slice_get cols i ≡ Some k
      → guard_by C x k n cs ≡ None → guards_from C cells cols i n cs ≡ None
  guard_ends cells cols i n cs x k p q e = at_guard cells cols i n cs x k None p q e

  no_column_left : (cells : List Cell) (n : ℕ) (cs : Captures) → guards_hold C cells [] n cs ≡ Some (true, n)
  no_column_left [] n cs = refl
  no_column_left (x ∷ cells) n cs = refl

  pub guards_met : (cells : List Cell) (cols : List Column) (i n : ℕ) (cs : Captures) → min (length cells) (length cols) ≤ i → guards_from C cells cols i n cs ≡ Some (true, n)
  guards_met [] cols zero n cs e = refl
  guards_met [] cols (suc i) n cs e = refl
  guards_met (x ∷ cells) [] zero n cs e = refl
  guards_met (x ∷ cells) [] (suc i) n cs e = no_column_left (drop i cells) n cs
  guards_met (x ∷ cells) (k ∷ cols) zero n cs e = absurd (omega arith)
  guards_met (x ∷ cells) (k ∷ cols) (suc i) n cs e = guards_met cells cols i n cs (omega arith)

  -- the cell at a place, whatever it gives

  set_same : (cols : List Column) (i : ℕ) (k : Column) → slice_get cols i ≡ Some k → slice_set cols i k ≡ cols
  set_same [] i k e = refl
  set_same (c ∷ cols) zero k e = let q : c ≡ k = cc in ap (λ x. x ∷ cols) (flip q)
  set_same (c ∷ cols) (suc i) k e = ap (λ l. c ∷ l) (set_same cols i k e)

  pub set_again : (cols : List Column) (i : ℕ) (k k' : Column) → slice_set (slice_set cols i k) i k' ≡ slice_set cols i k'
  set_again [] i k k' = refl
  set_again (c ∷ cols) zero k k' = refl
  set_again (c ∷ cols) (suc i) k k' = ap (λ l. c ∷ l) (set_again cols i k k')

  given : (cells : List Cell) (cols : List Column) (i n : ℕ) (cs : Captures) (x : Cell) (k : Column) (o : Option Captures) (k' : Column) (m : ℕ) → slice_get cells i ≡ Some x → slice_get cols i ≡ Some k
      → cell_captures N C x k n cs ≡ Some (record { captures = o; column = k' }, m) → passed N C cells cols i n cs ≡ after_cell N C cells cols i (record { captures = o; column = k' }) m
  given cells cols i n cs x k None k' m p q e = fails_at cells cols i n m cs x k k' p q e
  given cells cols i n cs x k (Some cs') k' m p q e = flip (goes_on cells cols i n m cs cs' x k k' p q e)

  by_cell : (cells : List Cell) (cols : List Column) (i n : ℕ) (cs : Captures) (x : Cell) (k : Column) (y : Units CellTrial) → slice_get cells i ≡ Some x → slice_get cols i ≡ Some k
      → cell_captures N C x k n cs ≡ y → passed N C cells cols i n cs ≡ bind y (after_cell N C cells cols i)
  by_cell cells cols i n cs x k None p q e = ends_at cells cols i n cs x k p q e
  by_cell cells cols i n cs x k (Some r) p q e = given cells cols i n cs x k r.0.captures r.0.column r.1 p q e

  pub at_cell : (cells : List Cell) (cols : List Column) (i n : ℕ) (cs : Captures) (x : Cell) (k : Column) (y : Units CellTrial) → slice_get cells i ≡ Some x → slice_get cols i ≡ Some k
      → cell_captures N C x k n cs ≡ y → passed N C cells cols i n cs ≡ bind y (after_cell N C cells cols i)
  at_cell cells cols i n cs x k y p q e = by_cell cells cols i n cs x k y p q e

  pub goes_past : (cells : List Cell) (cols : List Column) (i n : ℕ) (cs cs' : Captures) (x : Cell) (k : Column) → slice_get cells i ≡ Some x → slice_get cols i ≡ Some k
      → cell_captures N C x k n cs ≡ Some (record { captures = Some cs'; column = k }, n) → passed N C cells cols i n cs ≡ passed N C cells cols (i + 1) n cs'
  goes_past cells cols i n cs cs' x k p q e = flip (goes_on cells cols i n n cs cs' x k k p q e) ∙ ap (λ l. passed N C cells l (i + 1) n cs') (set_same cols i k q)

  pub guard_asks : (cells : List Cell) (cols : List Column) (i n : ℕ) (cs : Captures) (x : Cell) (k : Column) (y : Units Bool) → slice_get cells i ≡ Some x → slice_get cols i ≡ Some k
      → guard_by C x k n cs ≡ y → guards_from C cells cols i n cs ≡ bind y (guard_compared C cells cols (i + 1) cs)
  guard_asks cells cols i n cs x k y p q e = rw add-one (at_guard cells cols i n cs x k y p q e)
