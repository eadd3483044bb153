-- What the rule says of one seat, and of the seat whose turn it is.
use Rattle.std.proofs.Common.{◌≡◌, ◌≢◌, ℕ, ◌+◌, ◌<◌, ◌≤◌, ◌^◌, Bool, true, false, List, get_or, set, sym, refl, ap, ◌∙◌, subst, arith, Option, Some, None}
use mathlib.Core.Logic.{dite}
use mathlib.Core.Option as maybe
use mathlib.Core.Option.{none, some, some-injective}
use native.Mathlib.Decide.{ℕ_discrete}
use lib.ListN.{get_elem?}
use lib.Seq.{set-get_or}
use Rattle.atomic_table.specs.Table.{State, Me, keeps, stepped}
use Rattle.atomic_table.proofs.Lists.{set_here, set_else, set_again}
use Rattle.ticket_slot.specs.declared.view.View.{View}
use Rattle.ticket_slot.specs.Rule.{has_ticket, has_ticket_of, Holds, Sits, Ruled}
use Rattle.ticket_slot.proofs.Lists.{total_below, inside}

pub no_ticket : {E J : Type 0} (v : View E J) (t : ℕ) → v.ticket ≡ None → v.ticket ≡ Some t → ⊥
no_ticket v t a b = cc

pub not_true : (b : Bool) → (b ≡ true → ⊥) → b ≡ false
not_true true h = absurd (h refl)
not_true false h = refl

module _ {S E J : Type 0} {events : S → List (ℕ × E)} {items : S → List J} {lawful : List (ℕ × E) → List J → Type 0} (s : State (Option S) (View E J)) (r : Ruled events items lawful s) where
  pub few_tickets : r.waiting < 2 ^ 32
  few_tickets = let t = total_below has_ticket (λ v. at_most v.ticket) s.views in omega (arith, t, r.as_many, r.few)
    where
      at_most : (o : Option ℕ) → has_ticket_of o ≤ 1
      at_most None = omega arith
      at_most (Some _) = omega arith

  -- a seat without a ticket does not have the turn
  pub off_turn : (j : ℕ) (v : View E J) → get_elem? s.views j ≡ some v → v.ticket ≡ None → v.turn ≡ false
  off_turn j v at free = not_true v.turn (λ on. no_ticket v r.served free ((r.each j v at).in_turn on).0)

  -- the first seat's list is the list
  pub zero_lead : (id : ℕ) (v : View E J) → get_elem? s.views id ≡ some v → id ≡ 0 → v.known ≡ r.list
  zero_lead id v at e = let lead = r.leads in let is = some-injective v lead.view (sym (subst (λ i. get_elem? s.views i ≡ some v) e at) ∙ lead.here) in ap (λ (x : View E J). x.known) is ∙ lead.its_list

  -- the seat of the turn holds the ticket that is served
  pub turn_is : (j : ℕ) (v : View E J) → get_elem? s.views j ≡ some v → v.turn ≡ true → (r.owner r.served ≡ j) × (0 < r.waiting) × (v.ticket ≡ Some r.served)
  turn_is j v at turn = let k = r.each j v at in let t = k.in_turn turn in let h = subst (Holds r.served r.waiting r.owner j v.live) t.0 k.ticket_ok in (h.2, omega (arith, h), t.0)

  -- no two seats have the turn
  pub one_at_turn : (id : ℕ) (v : View E J) → get_elem? s.views id ≡ some v → v.turn ≡ true → (j : ℕ) (w : View E J) → j ≢ id → get_elem? s.views j ≡ some w → w.turn ≡ true → ⊥
  one_at_turn id v at on j w other a turn = let t = turn_is id v at on in let u = turn_is j w a turn in other (sym u.0 ∙ t.0)

  -- tickets keep their owners where a seat keeps its ticket
  pub owned_same : (id : ℕ) (v w : View E J) → get_elem? s.views id ≡ some v → w.ticket ≡ v.ticket → (q : ℕ) → r.served ≤ q → q < r.served + r.waiting → (u : View E J) × (get_elem? (set s.views id w) (r.owner q) ≡ some u) × (u.ticket ≡ Some q)
  owned_same id v w at same q lo hi = let o = r.owned q lo hi in dite (ℕ_discrete (r.owner q) id)
      (λ e. let is = some-injective o.0 v (sym (subst (λ i. get_elem? s.views i ≡ some o.0) e o.1) ∙ at) in
      (w, subst (λ i. get_elem? (set s.views id w) i ≡ some w) (sym e) (set_here s.views id w (inside s.views id v at)), same ∙ (sym (ap (λ (x : View E J). x.ticket) is) ∙ o.2)))
      (λ other. (o.0, set_else s.views id (r.owner q) w other ∙ o.1, o.2))

  -- the slot is out, and stays out
  pub sits_out : (id : ℕ) (v w : View E J) → get_elem? s.views id ≡ some v → v.turn ≡ true → w.turn ≡ true → (log : List (ℕ × E)) (list : List J) → (h : maybe.Option (Option S))
      → Sits events items r.served r.owner r.log r.list s.views h → Sits events items r.served r.owner log list (set s.views id w) h
  sits_out id v w at on on' log list none k = let t = turn_is id v at on in (w, subst (λ i. get_elem? (set s.views id w) i ≡ some w) (sym t.0) (set_here s.views id w (inside s.views id v at)), on')
  sits_out id v w at on on' log list (some None) k = k
  sits_out id v w at on on' log list (some (Some x)) k = absurd (let z = k.2 id v at in cc)

  -- a step that changes nothing
  pub unmoved : (i id : ℕ) (m : Me (Option S) (View E J)) → get_elem? s.views id ≡ some m.0 → Ruled events items lawful (stepped s i (get_or s.words i 0) id m.1 m.0 keeps)
  unmoved i id m at = subst (Ruled events items lawful) (λ k. record { words = sym (set-get_or s.words i 0) k; homes = s.homes; views = sym (set_again s.views id m.0 at) k }) r
