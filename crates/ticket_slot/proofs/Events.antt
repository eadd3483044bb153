-- Counting an event, and passing the turn, keep the rule.
use Rattle.std.proofs.Common.{◌≡◌, ◌≢◌, ℕ, ◌+◌, ◌-◌, ◌%◌, ◌^◌, ◌<◌, true, false, List, [], ◌∷◌, ◌++◌, length, get_or, set, sym, refl, ap, ◌∙◌, subst, arith, Option, Some, None, length-set, length-append, get_or-set_other, get_or-set_same}
use Rattle.std.specs.Prelude.{Bool}
use mathlib.Core.Logic.{dite}
use mathlib.Core.Option as maybe
use mathlib.Core.Option.{none, some, some-injective}
use native.Mathlib.Decide.{ℕ_discrete}
use lib.ListN.{get_elem?}
use Rattle.atomic_table.specs.Table.{State, Me, step, keeps, gives, stepped, rest, Allows}
use Rattle.atomic_table.proofs.Lists.{set_else}
use Rattle.ticket_slot.specs.declared.view.View.{View}
use Rattle.ticket_slot.specs.Views.{StartsWith, calls_by, added_to, passed, AddsOne, KeepsList}
use Rattle.ticket_slot.specs.Rule.{has_ticket, has_ticket_of, Holds, Knows, Sits, Ruled}
use Rattle.ticket_slot.specs.Steps.{counted, gave}
use Rattle.ticket_slot.proofs.Lists.{total_set, inside, one_more, some_same, whole, starts_more, calls_more, calls_own}
use Rattle.ticket_slot.proofs.Seats.{seats_stay, leads_stay, leads_same, live_same}
use Rattle.ticket_slot.proofs.Rules.{not_true, zero_lead, turn_is, one_at_turn, owned_same, sits_out}

holds_pass : (served waiting : ℕ) (owner : ℕ → ℕ) (id j : ℕ) (live : Bool) (o : Option ℕ) → owner served ≡ id → j ≢ id → Holds served waiting owner j live o → Holds (served + 1) (waiting - 1) owner j live o
holds_pass served waiting owner id j live None own other h = tt
holds_pass served waiting owner id j live (Some t) own other h = let ne : t ≢ served = λ e. other (sym h.2 ∙ (ap owner e ∙ own)) in (omega (arith, h, ne), omega (arith, h, ne), h.2, h.3)

module _ {S E J : Type 0} (events : S → List (ℕ × E)) (items : S → List J) (lawful : List (ℕ × E) → List J → Type 0) where
  abbrev V : Type 0
  V = View E J

  abbrev M : Type 0
  M = Me (Option S) V

  abbrev Rule : State (Option S) V → Type 0
  Rule = Ruled events items lawful

  pub adds : (slots id : ℕ) (m : M) (es : List (ℕ × E)) (js : List J) → m.0.turn ≡ true → length m.0.seen < 2 ^ 64 - 1 → lawful es js → AddsOne m.0 es → KeepsList m.0 js → Allows Rule slots id m 2 (λ n. (n + 1) % 2 ^ 64) (counted es js (step slots 2 1 0 none) m)
  adds slots id m es js on room ok one lists s r deep at small = let known = r.each id m.0 at in let t = known.in_turn on in let l = known.live_ok t.3 in let w : V = added_to m.0 es js in let e : E = one.0 in let long = r.wide in
      let es_is : es ≡ r.log ++ (id, e) ∷ [] = one.1 ∙ (λ k. t.1 k ++ (l.numbered k, e) ∷ []) in let n = length-set s.views id w in
      let new_list : (j : ℕ) → id ≢ 0 → js ≡ r.list = λ _ ne. lists.1 (λ z. ne (sym l.numbered ∙ z)) ∙ t.2 in
      let longer_log : (k : List (ℕ × E)) → StartsWith r.log k → StartsWith es k = λ k p. subst (λ z. StartsWith z k) (sym es_is) (starts_more r.log k ((id, e) ∷ []) p) in
      let longer_list : (k : List J) → StartsWith r.list k → StartsWith js k = λ k p. dite (ℕ_discrete id 0)
      (λ z. let q = lists.0 (l.numbered ∙ z) in let js_is : js ≡ r.list ++ q.0 = q.1 ∙ ap (λ x. x ++ q.0) t.2 in subst (λ x. StartsWith x k) (sym js_is) (starts_more r.list k q.0 p))
      (λ ne. subst (λ x. StartsWith x k) (sym (new_list 0 ne)) p) in
      let own : w.mine ≡ calls_by id es = subst (λ z. m.0.mine ++ Rattle.ticket_slot.specs.Views.behind m.0.seen z ≡ calls_by id z) (sym es_is) (calls_own id e r.log m.0.seen m.0.mine l.own t.1) in (
        w,
        keeps,
        tt,
        record {
          served = r.served;
          waiting = r.waiting;
          owner = r.owner;
          log = es;
          list = js;
          home = r.home;
          wide = length-set s.words 2 _ ∙ r.wide;
          next_is = get_or-set_other s.words 2 0 _ 0 (λ e. omega arith) ∙ r.next_is;
          serving_is = get_or-set_other s.words 2 1 _ 0 (λ e. omega arith) ∙ r.serving_is;
          count_is = get_or-set_same s.words 2 _ 0 (omega arith) ∙ (let c = r.count_is in let a = ap length t.1 in let b = ap length es_is ∙ length-append r.log ((id, e) ∷ []) in omega (arith, c, room, a, b));
          few = omega (arith, n, r.few);
          as_many = let n = total_set has_ticket s.views id m.0 w at in omega (arith, n, r.as_many);
          owned = owned_same s r id m.0 w at refl;
          one_slot = r.one_slot;
          sits = sits_out s r id m.0 w at on on es js r.home r.sits;
          each = seats_stay (Knows r.served r.waiting r.owner es js) s.views id w
              record {
                ticket_ok = known.ticket_ok;
                live_ok = λ _. record { numbered = l.numbered; has_seen = whole es es refl; has_known = whole js js refl; own = own };
                in_turn = λ _. (t.0, refl, refl, t.3);
              }
              (λ j d other a. let k = r.each j d a in record {
                ticket_ok = k.ticket_ok;
                live_ok = λ alive. let x = k.live_ok alive in record {
                  numbered = x.numbered;
                  has_seen = subst (λ z. StartsWith z d.seen) (sym es_is) (starts_more r.log d.seen ((id, e) ∷ []) x.has_seen);
                  has_known = longer_list d.known x.has_known;
                  own = x.own ∙ sym (ap (calls_by j) es_is ∙ calls_more j id e r.log other);
                };
                in_turn = λ turn. absurd (one_at_turn s r id m.0 at on j d other a turn);
              });
          leads = leads_stay r.log es r.list js s.views id m.0 w at r.leads longer_log longer_list (λ n ne. ap (calls_by n) es_is ∙ calls_more n id e r.log ne) t.3 t.3 (new_list 0) (λ _. refl) refl refl;
          legal = ok;
          makers = λ by h. ap (calls_by by) es_is ∙ (calls_more by id e r.log (let i = inside s.views id m.0 at in omega (arith, i, n, h)) ∙ r.makers by (omega (arith, n, h)));
        },
        refl,
      )

  -- the value goes home, and the turn on
  pub passes : (slots id : ℕ) (m : M) (x : S) → m.1 ≡ (0, Some x) ∷ [] → m.0.turn ≡ true → events x ≡ m.0.seen → items x ≡ m.0.known → Allows Rule slots id m 1 (λ n. (n + 1) % 2 ^ 64) (gave (step slots 1 1 0 none) m)
  passes slots id m x carried on es js s r deep at small = let known = r.each id m.0 at in let t = known.in_turn on in let mine = turn_is s r id m.0 at on in let l = known.live_ok t.3 in let w : V = passed m.0 in let long = r.wide in let n = length-set s.views id w in
      let out : (h : maybe.Option (Option S)) → Sits events items r.served r.owner r.log r.list s.views h → s.homes ≡ h ∷ [] → set s.homes 0 (some (Some x)) ≡ some (Some x) ∷ [] = λ h _ one. ap (λ hs. set hs 0 (some (Some x))) one in
      let rule : Rule record { words = set s.words 1 ((get_or s.words 1 0 + 1) % 2 ^ 64); homes = set s.homes 0 (some (Some x)); views = set s.views id w } = record {
        served = r.served + 1;
        waiting = r.waiting - 1;
        owner = r.owner;
        log = r.log;
        list = r.list;
        home = some (Some x);
        wide = length-set s.words 1 _ ∙ r.wide;
        next_is = get_or-set_other s.words 1 0 _ 0 (λ e. omega arith) ∙ (r.next_is ∙ ap (λ (n : ℕ). n % 2 ^ 64) (omega (arith, mine)));
        serving_is = get_or-set_same s.words 1 _ 0 (omega arith) ∙ one_more _ r.served r.serving_is;
        count_is = get_or-set_other s.words 1 2 _ 0 (λ e. omega arith) ∙ r.count_is;
        few = omega (arith, n, r.few);
        as_many = let n = total_set has_ticket s.views id m.0 w at in let z : ◌≡◌ {A = ℕ} (has_ticket m.0) 1 = ap has_ticket_of mine.2 in omega (arith, n, z, r.as_many);
        owned = λ q lo hi. let o = r.owned q (omega arith) (omega (arith, mine)) in (
          o.0,
          set_else s.views id (r.owner q) w
              (λ e. let is = some-injective o.0 m.0 (sym (subst (λ i. get_elem? s.views i ≡ some o.0) e o.1) ∙ at) in let same = some_same r.served q (sym mine.2 ∙ (sym (ap (λ (v : V). v.ticket) is) ∙ o.2)) in omega arith) ∙ o.1,
          o.2,
        );
        one_slot = out r.home r.sits r.one_slot;
        sits = (es ∙ t.1, js ∙ t.2, seats_stay (λ j d. d.turn ≡ false) s.views id w refl (λ j d other a. not_true d.turn (one_at_turn s r id m.0 at on j d other a)));
        each = seats_stay (Knows (r.served + 1) (r.waiting - 1) r.owner r.log r.list) s.views id w
            record { ticket_ok = tt; live_ok = λ _. live_same r.log r.list id m.0 w refl refl refl refl l; in_turn = λ z. absurd (let y : false ≡ true = z in cc) }
            (λ j d other a. let k = r.each j d a in record {
              ticket_ok = holds_pass r.served r.waiting r.owner id j d.live d.ticket mine.0 other k.ticket_ok;
              live_ok = k.live_ok;
              in_turn = λ turn. absurd (one_at_turn s r id m.0 at on j d other a turn);
            });
        leads = leads_same r.log r.list s.views id m.0 w at r.leads t.3 t.3 (zero_lead s r id m.0 at) refl refl;
        legal = r.legal;
        makers = λ by h. r.makers by (omega (arith, n, h));
      } in (
        w,
        gives,
        tt,
        subst (λ (cs : List (ℕ × Option S)). Rule (stepped s 1 ((get_or s.words 1 0 + 1) % 2 ^ 64) id cs w gives)) (sym carried) rule,
        ap (λ (cs : List (ℕ × Option S)). (w, rest cs)) carried,
      )
