-- For proofs: the rule of the three words, the slot and all views, which every step keeps (docs/board-lock.md).
use Rattle.std.specs.Prelude.{◌≡◌, ℕ, zero, suc, ◌+◌, ◌%◌, ◌^◌, ◌<◌, ◌≤◌, Bool, true, false, List, [], ◌∷◌, length, slice_index, cond, Option, Some, None}
use Rattle.std.specs.List.{All, count_by}
use mathlib.Core.Option as maybe
use mathlib.Core.Option.{none, some}
use lib.ListN.{get_elem?}
use Rattle.atomic_table.specs.Table.{State}
use Rattle.ticket_slot.specs.Views.{StartsWith, calls_by, has_number, EndsIn}
use Rattle.ticket_slot.specs.declared.view.View.{View}

-- f of each element, added up
abbrev pub total : {A : Type 0} → (A → ℕ) → List A → ℕ
total f [] = 0
total f (x ∷ xs) = f x + total f xs

-- one for a ticket
abbrev pub has_ticket_of : Option ℕ → ℕ
has_ticket_of None = 0
has_ticket_of (Some _) = 1

-- A ticket is one of those that wait, it is the one of this view, and the view is live
abbrev pub Holds : ℕ → ℕ → (ℕ → ℕ) → ℕ → Bool → Option ℕ → Type 0
Holds served waiting owner j live None = Unit {0}
Holds served waiting owner j live (Some t) = (served ≤ t) × (t < served + waiting) × (owner t ≡ j) × (live ≡ true)

module _ {E J : Type 0} where
  abbrev pub has_ticket : View E J → ℕ
  has_ticket v = has_ticket_of v.ticket

  -- one for a live view
  abbrev pub is_live : View E J → ℕ
  is_live v = cond v.live 1 0

  -- one where the view at this place is spent
  abbrev pub spent_at : List (View E J) → ℕ → ℕ
  spent_at [] n = 0
  spent_at (v ∷ vs) zero = cond v.live 0 1
  spent_at (v ∷ vs) (suc n) = spent_at vs n

  -- What a live view shows: its number is its place; the history begins with what it has seen, and the list with what it knows; its own events are those of its number
  pub record Live (log : List (ℕ × E)) (list : List J) (j : ℕ) (v : View E J) : Type 0 where
    pub numbered : v.number ≡ j
    pub has_seen : StartsWith log v.seen
    pub has_known : StartsWith list v.known
    pub own : v.mine ≡ calls_by j log

  -- What holds of each view: of its ticket, of what it shows while it is live, and, from reading its turn until it passes it, that it carries the whole history and list
  pub record Knows (served waiting : ℕ) (owner : ℕ → ℕ) (log : List (ℕ × E)) (list : List J) (j : ℕ) (v : View E J) : Type 0 where
    pub ticket_ok : Holds served waiting owner j v.live v.ticket
    pub live_ok : v.live ≡ true → Live log list j v
    pub in_turn : v.turn ≡ true → (v.ticket ≡ Some served) × (v.seen ≡ log) × (v.known ≡ list) × (v.live ≡ true)

  -- The reader's view is the first one. It has the list, counts the seats, and keeps what each ended seat knew, each once
  pub record Leads (log : List (ℕ × E)) (list : List J) (views : List (View E J)) : Type 0 where
    pub view : View E J
    pub here : get_elem? views 0 ≡ some view
    pub alive : view.live ≡ true
    pub its_list : view.known ≡ list
    pub its_count : view.made ≡ length views
    pub each_ended : All (EndsIn log list) view.ended
    pub once : (n : ℕ) → count_by (has_number n) view.ended ≡ spent_at views n
    pub all_counted : total is_live views + length view.ended ≡ length views

  module _ {S : Type 0} (events : S → List (ℕ × E)) (items : S → List J) where
    -- The slot: out only while the view whose ticket is served has the turn; at home the value has the history and the list, and no view has the turn
    abbrev pub Sits : ℕ → (ℕ → ℕ) → List (ℕ × E) → List J → List (View E J) → maybe.Option (Option S) → Type 0
    Sits served owner log list views none = (v : View E J) × (get_elem? views (owner served) ≡ some v) × (v.turn ≡ true)
    Sits served owner log list views (some None) = ⊥
    Sits served owner log list views (some (Some x)) = (events x ≡ log) × (items x ≡ list) × ((j : ℕ) (v : View E J) → get_elem? views j ≡ some v → v.turn ≡ false)

    -- The whole rule. Tickets are counted without end, the words have them modulo 2^64; `log` is the history that `count` counts and `list` the reader's list, both lawful also while the value is out
    pub record Ruled (lawful : List (ℕ × E) → List J → Type 0) (s : State (Option S) (View E J)) : Type 0 where
      pub served : ℕ
      pub waiting : ℕ
      pub owner : ℕ → ℕ
      pub log : List (ℕ × E)
      pub list : List J
      pub home : maybe.Option (Option S)
      pub wide : length s.words ≡ 3
      pub next_is : slice_index s.words 0 ≡ (served + waiting) % 2 ^ 64
      pub serving_is : slice_index s.words 1 ≡ served % 2 ^ 64
      pub count_is : slice_index s.words 2 ≡ length log
      pub few : length s.views < 2 ^ 32
      pub as_many : total has_ticket s.views ≡ waiting
      pub owned : (t : ℕ) → served ≤ t → t < served + waiting → (v : View E J) × (get_elem? s.views (owner t) ≡ some v) × (v.ticket ≡ Some t)
      pub one_slot : s.homes ≡ home ∷ []
      pub sits : Sits served owner log list s.views home
      pub each : (j : ℕ) (v : View E J) → get_elem? s.views j ≡ some v → Knows served waiting owner log list j v
      pub leads : Leads log list s.views
      pub legal : lawful log list
      pub makers : (by : ℕ) → length s.views ≤ by → calls_by by log ≡ []
