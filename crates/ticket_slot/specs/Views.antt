-- For callers: what a pass shows, and what each kind of step makes of it (docs/board-lock.md).
use Rattle.std.specs.Prelude.{◌≡◌, ℕ, ◌+◌, ◌<◌, ◌==◌, Bool, true, false, List, [], ◌∷◌, ◌++◌, length, drop, Option, Some, None}
use Rattle.std.specs.List.{filter, count_by}
use Rattle.atomic_table.specs.Table.{Me}
use Rattle.ticket_slot.specs.declared.view.View.{View}
use Rattle.ticket_slot.specs.declared.view.Ended.{Ended}

-- xs begins with ys
abbrev pub StartsWith : {A : Type 0} → List A → List A → Type 0
StartsWith {A} xs ys = (rest : List A) × (xs ≡ ys ++ rest)

-- what stands in ys behind its first elements, as many as xs has
abbrev pub behind : {A : Type 0} → List A → List A → List A
behind xs ys = drop (length xs) ys

-- the events of one maker, in order
abbrev pub calls_by : {E : Type 0} → ℕ → List (ℕ × E) → List (ℕ × E)
calls_by n es = filter (λ x. x.0 == n) es

module _ {E J : Type 0} where
  -- whether an ended pass had this number
  abbrev pub has_number : ℕ → Ended E J → Bool
  has_number n x = x.number == n

  -- the reader's pass at the start: number 0, the one seat made
  abbrev pub reader : View E J
  reader = record { live = true; number = 0; made = 1; ticket = None; turn = false; turns = 0; seen = []; mine = []; known = []; ended = [] }

  -- a pass just split off: its number is the count of seats before it, and it has seen what the reader has
  abbrev pub child : View E J → View E J
  child v = record { live = true; number = v.made; made = 0; ticket = None; turn = false; turns = 0; seen = v.seen; mine = []; known = v.known; ended = [] }

  -- the reader's pass after a split
  abbrev pub parent : View E J → View E J
  parent v = record v { made = v.made + 1 }

  -- what is left of a pass that was joined
  abbrev pub spent_view : View E J
  spent_view = record { live = false; number = 0; made = 0; ticket = None; turn = false; turns = 0; seen = []; mine = []; known = []; ended = [] }

  -- what the reader's pass keeps of a pass that was joined
  abbrev pub ended_of : View E J → Ended E J
  ended_of w = record { number = w.number; seen = w.seen; mine = w.mine; known = w.known }

  -- the reader's pass after a join: what it has seen and knows stays, and it keeps what the other showed
  abbrev pub joined : View E J → View E J → View E J
  joined v w = record v { ended = ended_of w ∷ v.ended }

  -- a pass that drew a ticket
  abbrev pub with_ticket : View E J → ℕ → View E J
  with_ticket v t = record v { ticket = Some t; turn = false }

  -- a pass whose turn has come, with the whole history and the reader's list
  abbrev pub at_turn : View E J → List (ℕ × E) → List J → View E J
  at_turn v es js = record v { turn = true; seen = es; known = js }

  -- a view after its event was counted: what the new history has behind the old one is its own
  abbrev pub added_to : View E J → List (ℕ × E) → List J → View E J
  added_to v es js = record v { seen = es; mine = v.mine ++ behind v.seen es; known = js }

  -- a pass that passed the turn on
  abbrev pub passed : View E J → View E J
  passed v = record v { ticket = None; turn = false; turns = v.turns + 1 }

  -- the pass is the reader's
  abbrev pub IsReader : View E J → Type 0
  IsReader v = (v.number ≡ 0) × (v.live ≡ true)

  -- the history is the pass's, and one event of its number behind that
  abbrev pub AddsOne : View E J → List (ℕ × E) → Type 0
  AddsOne v es = (e : E) × (es ≡ v.seen ++ (v.number, e) ∷ [])

  -- the list is the pass's; the reader may have made it longer
  abbrev pub KeepsList : View E J → List J → Type 0
  KeepsList v js = (v.number ≡ 0 → StartsWith js v.known) × (¬ (v.number ≡ 0) → js ≡ v.known)

  -- of the passes that were joined each number but the reader's stands once
  abbrev pub EachOnce : ℕ → List (Ended E J) → Type 0
  EachOnce made ended = (n : ℕ) → 0 < n → n < made → count_by (has_number n) ended ≡ 1

  -- What the history and the list have of a pass: they begin with what it has seen and known, and the events of its number are its own
  abbrev pub EndsIn : List (ℕ × E) → List J → Ended E J → Type 0
  EndsIn log list x = StartsWith log x.seen × StartsWith list x.known × (calls_by x.number log ≡ x.mine)

  module _ {S : Type 0} where
    -- the pass has no ticket, and holds nothing
    abbrev pub IsFree : Me (Option S) (View E J) → Type 0
    IsFree m = (m.0.ticket ≡ None) × (m.0.live ≡ true) × (m.1 ≡ [])

    -- the pass has the turn, and the value is in its holder's hand
    abbrev pub HasTurn : Me (Option S) (View E J) → Type 0
    HasTurn m = (m.0.turn ≡ true) × (m.1 ≡ (0, None) ∷ [])

    -- the pass after its event was counted
    abbrev pub added : Me (Option S) (View E J) → List (ℕ × E) → List J → Me (Option S) (View E J)
    added m es js = (added_to m.0 es js, m.1)

    -- the pass drew a ticket, its turn came, and the value in its holder's hand has this history and this list
    abbrev pub TookTurn : View E J → List (ℕ × E) → List J → Me (Option S) (View E J) → Type 0
    TookTurn v es js m' = (t : ℕ) × (m' ≡ (at_turn (with_ticket v t) es js, (0, None) ∷ []))
