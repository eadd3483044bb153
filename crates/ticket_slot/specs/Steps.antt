-- For proofs: what each kind of step tells the seat that makes it.
use Rattle.std.specs.Prelude.{◌≡◌, ℕ, ◌%◌, ◌^◌, List, [], ◌∷◌, Option, Some}
use Rattle.atomic_table.specs.Table.{Me, Step}
use Rattle.ticket_slot.specs.Views.{StartsWith, calls_by, with_ticket, at_turn, added, passed}
use Rattle.ticket_slot.specs.declared.view.View.{View}

module _ {S E J : Type 0} where
  -- a ticket was drawn: the word found is the ticket modulo 2^64
  abbrev pub drew : Step (Option S) → Me (Option S) (View E J) → ℕ → Me (Option S) (View E J) → Type 0
  drew step m found m' = (t : ℕ) × (found ≡ t % 2 ^ 64) × (m' ≡ (with_ticket m.0 t, m.1))

  -- The turn has come, and with it the value: the seat carries the whole history and list, which are lawful, begin with what it had, and have of it the events that it made
  abbrev pub Came : (S → List (ℕ × E)) → (S → List J) → (List (ℕ × E) → List J → Type 0) → Me (Option S) (View E J) → Me (Option S) (View E J) → Type 0
  Came events items lawful m m' =
      (x : S) × (m' ≡ (at_turn m.0 (events x) (items x), (0, Some x) ∷ [])) × lawful (events x) (items x) × StartsWith (events x) m.0.seen × StartsWith (items x) m.0.known
      × (calls_by m.0.number (events x) ≡ m.0.mine) × (m.0.number ≡ 0 → items x ≡ m.0.known)

  -- whose turn it is was read: where it is the seat's own ticket, its turn has come, and else nothing changes
  abbrev pub looked : (S → List (ℕ × E)) → (S → List J) → (List (ℕ × E) → List J → Type 0) → Step (Option S) → Me (Option S) (View E J) → ℕ → Me (Option S) (View E J) → Type 0
  looked events items lawful step m found m' = (t : ℕ) → m.0.ticket ≡ Some t → (found ≡ t % 2 ^ 64 → Came events items lawful m m') × (¬ (found ≡ t % 2 ^ 64) → m' ≡ m)

  -- an event was counted, and the history and the list are now these
  abbrev pub counted : List (ℕ × E) → List J → Step (Option S) → Me (Option S) (View E J) → ℕ → Me (Option S) (View E J) → Type 0
  counted es js step m found m' = m' ≡ added m es js

  -- the turn was passed, and the value is at home
  abbrev pub gave : Step (Option S) → Me (Option S) (View E J) → ℕ → Me (Option S) (View E J) → Type 0
  gave step m found m' = m' ≡ (passed m.0, [])
