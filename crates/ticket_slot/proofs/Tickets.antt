-- Drawing a ticket, and reading whose turn it is, keep the rule.
use Rattle.std.proofs.Common.{◌≡◌, ℕ, ◌+◌, ◌%◌, ◌^◌, true, false, List, [], ◌∷◌, get_or, set, sym, refl, ap, ◌∙◌, subst, arith, Option, Some, None, length-set, get_or-set_other, get_or-set_same, add_assoc}
use Rattle.std.specs.Prelude.{Bool}
use mathlib.Core.Logic.{dite}
use mathlib.Core.Option as maybe
use mathlib.Core.Option.{none, some, some-injective}
use native.Mathlib.Decide.{ℕ_discrete}
use lib.ListN.{get_elem?}
use lib.Seq.{set-get_or}
use Rattle.atomic_table.specs.Table.{State, Me, step, keeps, takes, stepped, Allows}
use Rattle.atomic_table.proofs.Lists.{set_here, set_else, one_turn}
use Rattle.ticket_slot.specs.declared.view.View.{View}
use Rattle.ticket_slot.specs.Views.{calls_by, with_ticket, at_turn}
use Rattle.ticket_slot.specs.Rule.{has_ticket, has_ticket_of, Holds, Knows, Sits, Ruled}
use Rattle.ticket_slot.specs.Steps.{drew, looked}
use Rattle.ticket_slot.proofs.Lists.{total_set, inside, put, put_here, put_else, one_more, some_same, grown, whole}
use Rattle.ticket_slot.proofs.Seats.{seats_stay, leads_same, live_same}
use Rattle.ticket_slot.proofs.Rules.{no_ticket, few_tickets, off_turn, zero_lead, turn_is, unmoved}

holds_draw : (served waiting : ℕ) (owner : ℕ → ℕ) (id j : ℕ) (live : Bool) (o : Option ℕ) → Holds served waiting owner j live o → Holds served (waiting + 1) (put owner (served + waiting) id) j live o
holds_draw served waiting owner id j live None h = tt
holds_draw served waiting owner id j live (Some t) h = (h.0, omega (arith, h), put_else owner (served + waiting) id t (omega (arith, h)) ∙ h.2, h.3)

module _ {S E J : Type 0} (events : S → List (ℕ × E)) (items : S → List J) (lawful : List (ℕ × E) → List J → Type 0) where
  abbrev V : Type 0
  V = View E J

  abbrev St : Type 0
  St = State (Option S) V

  abbrev M : Type 0
  M = Me (Option S) V

  abbrev Rule : St → Type 0
  Rule = Ruled events items lawful

  sits_draw : (s : St) (r : Rule s) (id : ℕ) (v : V) (t : ℕ) → get_elem? s.views id ≡ some v → v.turn ≡ false → (h : maybe.Option (Option S)) → Sits events items r.served r.owner r.log r.list s.views h
      → Sits events items r.served (put r.owner (r.served + r.waiting) id) r.log r.list (set s.views id (with_ticket v t)) h
  sits_draw s r id v t at off none k = let i = turn_is s r (r.owner r.served) k.0 k.1 k.2 in let same = put_else r.owner (r.served + r.waiting) id r.served (omega (arith, i)) in (
    k.0,
    subst (λ i. get_elem? (set s.views id (with_ticket v t)) i ≡ some k.0) (sym same) (set_else s.views id (r.owner r.served) (with_ticket v t)
        (λ e. let here : get_elem? s.views id ≡ some k.0 = subst (λ i. get_elem? s.views i ≡ some k.0) e k.1 in let is = some-injective k.0 v (sym here ∙ at) in let a = ap (λ (x : V). x.turn) is in let b = k.2 in cc) ∙ k.1),
    k.2,
  )
  sits_draw s r id v t at off (some None) k = k
  sits_draw s r id v t at off (some (Some x)) k = (k.0, k.1, seats_stay (λ j d. d.turn ≡ false) s.views id (with_ticket v t) refl (λ j d _. k.2 j d))

  pub draws : (slots id : ℕ) (m : M) → m.0.ticket ≡ None → m.0.live ≡ true → Allows Rule slots id m 0 (λ n. (n + 1) % 2 ^ 64) (drew (step slots 0 1 0 none) m)
  draws slots id m free live s r deep at small = let t : ℕ = r.served + r.waiting in let w : V = with_ticket m.0 t in let long = r.wide in let here = inside s.views id m.0 at in (
    w,
    keeps,
    tt,
    record {
      served = r.served;
      waiting = r.waiting + 1;
      owner = put r.owner t id;
      log = r.log;
      list = r.list;
      home = r.home;
      wide = length-set s.words 0 _ ∙ r.wide;
      next_is = get_or-set_same s.words 0 _ 0 (omega arith) ∙ (one_more _ (r.served + r.waiting) r.next_is ∙ ap (λ (n : ℕ). n % 2 ^ 64) (add_assoc r.served r.waiting 1));
      serving_is = get_or-set_other s.words 0 1 _ 0 (λ e. omega arith) ∙ r.serving_is;
      count_is = get_or-set_other s.words 0 2 _ 0 (λ e. omega arith) ∙ r.count_is;
      few = let n = length-set s.views id w in omega (arith, n, r.few);
      as_many = let n = total_set has_ticket s.views id m.0 w at in let z : has_ticket m.0 ≡ 0 = ap has_ticket_of free in omega (arith, n, z, r.as_many);
      owned = λ q lo hi. dite (ℕ_discrete q t)
          (λ e. (w, subst (λ i. get_elem? (set s.views id w) i ≡ some w) (sym (ap (put r.owner t id) e ∙ put_here r.owner t id)) (set_here s.views id w here), ap Some (sym e)))
          (λ other. let o = r.owned q lo (omega (arith, hi, other)) in (
            o.0,
            subst (λ i. get_elem? (set s.views id w) i ≡ some o.0) (sym (put_else r.owner t id q other))
                (set_else s.views id (r.owner q) w (λ e. let is = some-injective o.0 m.0 (sym (subst (λ i. get_elem? s.views i ≡ some o.0) e o.1) ∙ at) in let a = ap (λ (x : V). x.ticket) is in no_ticket m.0 q free (sym a ∙ o.2)) ∙ o.1),
            o.2,
          ));
      one_slot = r.one_slot;
      sits = sits_draw s r id m.0 t at (off_turn s r id m.0 at free) r.home r.sits;
      each = seats_stay (Knows r.served (r.waiting + 1) (put r.owner t id) r.log r.list) s.views id w
          record { ticket_ok = (omega arith, omega arith, put_here r.owner t id, live); live_ok = λ l. live_same r.log r.list id m.0 w refl refl refl refl ((r.each id m.0 at).live_ok l); in_turn = λ on. absurd (let z : false ≡ true = on in cc) }
          (λ j d _ a. let k = r.each j d a in record { ticket_ok = holds_draw r.served r.waiting r.owner id j d.live d.ticket k.ticket_ok; live_ok = k.live_ok; in_turn = k.in_turn });
      leads = leads_same r.log r.list s.views id m.0 w at r.leads live live (zero_lead s r id m.0 at) refl refl;
      legal = r.legal;
      makers = λ by h. r.makers by (let n = length-set s.views id w in omega (arith, n, h));
    },
    (t, r.next_is, refl),
  )

  -- the value comes with the turn
  comes : (s : St) (r : Rule s) (id : ℕ) (m : M) → get_elem? s.views id ≡ some m.0 → m.1 ≡ [] → m.0.turn ≡ false → m.0.live ≡ true → m.0.ticket ≡ Some r.served → (h : maybe.Option (Option S)) → s.homes ≡ h ∷ []
      → Sits events items r.served r.owner r.log r.list s.views h
      → (x : S) × (get_elem? s.homes 0 ≡ some (some (Some x))) × (events x ≡ r.log) × (items x ≡ r.list) × Rule (stepped s 1 (get_or s.words 1 0) id m.1 (at_turn m.0 (events x) (items x)) (takes 0 (Some x)))
  comes s r id m at empty off live mine none one k = let t = turn_is s r (r.owner r.served) k.0 k.1 k.2 in let u = subst (Holds r.served r.waiting r.owner id m.0.live) mine (r.each id m.0 at).ticket_ok in
      let here : get_elem? s.views id ≡ some k.0 = subst (λ i. get_elem? s.views i ≡ some k.0) u.2 k.1 in let is = some-injective k.0 m.0 (sym here ∙ at) in let a = ap (λ (v : V). v.turn) is in let b = k.2 in cc
  comes s r id m at empty off live mine (some None) one k = absurd k
  comes s r id m at empty off live mine (some (Some x)) one k = let w : V = at_turn m.0 (events x) (items x) in let known = r.each id m.0 at in let u = subst (Holds r.served r.waiting r.owner id m.0.live) mine known.ticket_ok in
      let l = known.live_ok live in (
        x,
        ap (λ (hs : List (maybe.Option (Option S))). get_elem? hs 0) one,
        k.0,
        k.1,
        subst (λ (ws : List ℕ). Rule record { words = ws; homes = set s.homes 0 none; views = set s.views id w }) (sym (set-get_or s.words 1 0)) record {
          served = r.served;
          waiting = r.waiting;
          owner = r.owner;
          log = r.log;
          list = r.list;
          home = none;
          wide = r.wide;
          next_is = r.next_is;
          serving_is = r.serving_is;
          count_is = r.count_is;
          few = let n = length-set s.views id w in omega (arith, n, r.few);
          as_many = let n = total_set has_ticket s.views id m.0 w at in omega (arith, n, r.as_many);
          owned = λ q lo hi. let o = r.owned q lo hi in dite (ℕ_discrete (r.owner q) id)
              (λ e. let is = some-injective o.0 m.0 (sym (subst (λ i. get_elem? s.views i ≡ some o.0) e o.1) ∙ at) in
              (w, subst (λ i. get_elem? (set s.views id w) i ≡ some w) (sym e) (set_here s.views id w (inside s.views id m.0 at)), sym (ap (λ (v : V). v.ticket) is) ∙ o.2))
              (λ other. (o.0, set_else s.views id (r.owner q) w other ∙ o.1, o.2));
          one_slot = ap (λ (hs : List (maybe.Option (Option S))). set hs 0 none) one;
          sits = (w, subst (λ i. get_elem? (set s.views id w) i ≡ some w) (sym u.2) (set_here s.views id w (inside s.views id m.0 at)), refl);
          each = seats_stay (Knows r.served r.waiting r.owner r.log r.list) s.views id w
              record { ticket_ok = known.ticket_ok; live_ok = λ _. record { numbered = l.numbered; has_seen = whole r.log (events x) k.0; has_known = whole r.list (items x) k.1; own = l.own }; in_turn = λ _. (mine, k.0, k.1, live) }
              (λ j d _ a. r.each j d a);
          leads = leads_same r.log r.list s.views id m.0 w at r.leads live live (λ _. k.1) refl refl;
          legal = r.legal;
          makers = λ by h. r.makers by (let n = length-set s.views id w in omega (arith, n, h));
        },
      )

  pub looks : (slots id : ℕ) (m : M) (t : ℕ) → m.0.ticket ≡ Some t → m.0.turn ≡ false → m.0.live ≡ true → m.1 ≡ [] → Allows Rule slots id m 1 (λ n. n) (looked events items lawful (step slots 1 0 0 none) m)
  looks slots id m t mine off live empty s r deep at small = let known = r.each id m.0 at in let h = subst (Holds r.served r.waiting r.owner id m.0.live) mine known.ticket_ok in let few = few_tickets s r in let l = known.live_ok live in dite (ℕ_discrete (get_or s.words 1 0) (t % 2 ^ 64))
      (λ hit. let same : r.served ≡ t = one_turn r.served t (2 ^ 64) h.0 (omega (arith, h, few)) (sym r.serving_is ∙ hit) in
      let c = comes s r id m at empty off live (mine ∙ ap Some (sym same)) r.home r.one_slot r.sits in (
        at_turn m.0 (events c.0) (items c.0),
        takes 0 (Some c.0),
        c.1,
        c.4,
        λ q q_is. (
          λ _. (
            c.0,
            ap (λ (cs : List (ℕ × Option S)). (at_turn m.0 (events c.0) (items c.0), (0, Some c.0) ∷ cs)) empty,
            subst (λ (z : List (ℕ × E) × List J). lawful z.0 z.1) (λ i. (sym c.2 i, sym c.3 i)) r.legal,
            grown r.log m.0.seen l.has_seen (events c.0) c.2,
            grown r.list m.0.known l.has_known (items c.0) c.3,
            ap (calls_by m.0.number) c.2 ∙ (ap (λ n. calls_by n r.log) l.numbered ∙ sym l.own),
            λ zero_is. c.3 ∙ sym (zero_lead s r id m.0 at (sym l.numbered ∙ zero_is)),
          ),
          λ no. absurd (no (hit ∙ ap (λ (n : ℕ). n % 2 ^ 64) (some_same t q (sym mine ∙ q_is)))),
        ),
      ))
      (λ miss. (m.0, keeps, tt, unmoved s r 1 id m at, λ q q_is. ((λ hit. absurd (miss (hit ∙ ap (λ (n : ℕ). n % 2 ^ 64) (some_same q t (sym q_is ∙ mine))))), λ _. refl)))
