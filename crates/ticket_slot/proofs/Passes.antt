-- The first state keeps the rule, and so do a split and a join.
use Rattle.std.proofs.Common.{◌≡◌, ◌≢◌, ℕ, zero, suc, ◌+◌, ◌-◌, ◌^◌, ◌<◌, true, false, cond, eqb, List, [], ◌∷◌, ◌++◌, length, set, sym, refl, ap, ◌∙◌, subst, arith, Option, Some, None, length-set, length-append}
use mathlib.Core.Logic.{dite}
use mathlib.Core.Option as maybe
use mathlib.Core.Option.{none, some, some-injective, some-ne-none}
use native.Mathlib.Decide.{ℕ_discrete}
use lib.ListN.{get_elem?}
use Rattle.std.specs.List.{All, count_by}
use Rattle.std.proofs.lemmas.List.Elements.{All-nil, All-cons}
use Rattle.atomic_table.specs.Table.{State, opening, Splits, Joins}
use Rattle.atomic_table.proofs.Lists.{set_here, set_else, at_longer}
use Rattle.ticket_slot.specs.declared.view.View.{View}
use Rattle.ticket_slot.specs.Views.{calls_by, reader, child, parent, spent_view, ended_of, joined, has_number, IsReader, EndsIn}
use Rattle.ticket_slot.specs.Rule.{has_ticket, has_ticket_of, is_live, spent_at, Knows, Sits, Ruled}
use Rattle.ticket_slot.proofs.Lists.{total_set, total_snoc, inside, count_cons}
use Rattle.ticket_slot.proofs.Seats.{seats_stay, seats_split, spent_same, spent_snoc, spent_more, live_same}
use Rattle.ticket_slot.proofs.Rules.{no_ticket, off_turn, owned_same}

module _ {S E J : Type 0} (events : S → List (ℕ × E)) (items : S → List J) (lawful : List (ℕ × E) → List J → Type 0) where
  abbrev V : Type 0
  V = View E J

  abbrev St : Type 0
  St = State (Option S) V

  abbrev Rule : St → Type 0
  Rule = Ruled events items lawful

  alone : (P : ℕ → V → Type 0) → P 0 reader → (j : ℕ) (v : V) → get_elem? (reader ∷ []) j ≡ some v → P j v
  alone P p zero v e = subst (P 0) (some-injective reader v e) p
  alone P p (suc j) v e = absurd (some-ne-none v (sym e))

  pub starts : (xs : List (Option S)) (x : S) → xs ≡ Some x ∷ [] → events x ≡ [] → items x ≡ [] → lawful (events x) (items x) → Rule (opening (0 ∷ 0 ∷ 0 ∷ []) xs reader)
  starts xs x xs_is es js ok = subst (λ ys. Rule (opening (0 ∷ 0 ∷ 0 ∷ []) ys reader)) (sym xs_is) record {
    served = 0;
    waiting = 0;
    owner = λ _. 0;
    log = [];
    list = [];
    home = some (Some x);
    wide = refl;
    next_is = refl;
    serving_is = refl;
    count_is = refl;
    few = omega arith;
    as_many = refl;
    owned = λ q lo hi. absurd (omega arith);
    one_slot = refl;
    sits = (es, js, alone (λ j v. v.turn ≡ false) refl);
    each = alone (Knows 0 0 (λ _. 0) [] []) record { ticket_ok = tt; live_ok = λ _. record { numbered = refl; has_seen = ([], refl); has_known = ([], refl); own = refl }; in_turn = λ z. absurd (let y : false ≡ true = z in cc) };
    leads = record { view = reader; here = refl; alive = refl; its_list = refl; its_count = refl; each_ended = All-nil (EndsIn [] []); once = none_yet; all_counted = refl };
    legal = subst (λ (z : List (ℕ × E) × List J). lawful z.0 z.1) (λ i. (es i, js i)) ok;
    makers = λ _ _. refl;
  }
    where
      none_yet : (n : ℕ) → count_by (has_number {E = E} {J = J} n) [] ≡ spent_at {E = E} {J = J} (reader ∷ []) n
      none_yet zero = refl
      none_yet (suc n) = refl

  sits_split : (s : St) (r : Rule s) (id : ℕ) (v w u : V) → get_elem? s.views id ≡ some v → w.turn ≡ v.turn → u.turn ≡ false → (h : maybe.Option (Option S)) → Sits events items r.served r.owner r.log r.list s.views h
      → Sits events items r.served r.owner r.log r.list (set s.views id w ++ u ∷ []) h
  sits_split s r id v w u at same off none k = dite (ℕ_discrete (r.owner r.served) id)
      (λ e. let is = some-injective k.0 v (sym (subst (λ i. get_elem? s.views i ≡ some k.0) e k.1) ∙ at) in
      (w, at_longer (set s.views id w) (u ∷ []) (r.owner r.served) w (subst (λ i. get_elem? (set s.views id w) i ≡ some w) (sym e) (set_here s.views id w (inside s.views id v at))), same ∙ (sym (ap (λ (x : V). x.turn) is) ∙ k.2)))
      (λ other. (k.0, at_longer (set s.views id w) (u ∷ []) (r.owner r.served) k.0 (set_else s.views id (r.owner r.served) w other ∙ k.1), k.2))
  sits_split s r id v w u at same off (some None) k = k
  sits_split s r id v w u at same off (some (Some x)) k = (k.0, k.1, seats_split (λ j d. d.turn ≡ false) s.views id w u (same ∙ k.2 id v at) (λ j d _. k.2 j d) off)

  pub splits : (id : ℕ) (v : V) → IsReader v → v.made < 2 ^ 32 - 1 → Splits Rule id v (parent v) (child v)
  splits id v leader room s r at = let known = r.each id v at in let live = leader.1 in let l = known.live_ok live in let id_is : id ≡ 0 = sym l.numbered ∙ leader.0 in let lead = r.leads in
      let is : lead.view ≡ v = some-injective lead.view v (sym lead.here ∙ subst (λ i. get_elem? s.views i ≡ some v) id_is at) in let count : v.made ≡ length s.views = sym (ap (λ (x : V). x.made) is) ∙ lead.its_count in
      let w : V = parent v in let u : V = child v in let vs : List V = set s.views id w in let n : length (vs ++ u ∷ []) ≡ length s.views + 1 = (let a = length-append vs (u ∷ []) in let b = length-set s.views id w in omega (arith, a, b)) in record {
        served = r.served;
        waiting = r.waiting;
        owner = r.owner;
        log = r.log;
        list = r.list;
        home = r.home;
        wide = r.wide;
        next_is = r.next_is;
        serving_is = r.serving_is;
        count_is = r.count_is;
        few = omega (arith, n, count, room);
        as_many = let a = total_snoc has_ticket vs u in let b = total_set has_ticket s.views id v w at in omega (arith, a, b, r.as_many);
        owned = λ q lo hi. let o = owned_same s r id v w at refl q lo hi in (o.0, at_longer vs (u ∷ []) (r.owner q) o.0 o.1, o.2);
        one_slot = r.one_slot;
        sits = sits_split s r id v w u at refl refl r.home r.sits;
        each = seats_split (Knows r.served r.waiting r.owner r.log r.list) s.views id w u
            record { ticket_ok = known.ticket_ok; live_ok = λ _. live_same r.log r.list id v w refl refl refl refl l; in_turn = known.in_turn }
            (λ j d _ a. r.each j d a)
            record {
              ticket_ok = tt;
              live_ok = λ _. record { numbered = count; has_seen = l.has_seen; has_known = l.has_known; own = sym (r.makers (length s.views) (omega arith)) };
              in_turn = λ z. absurd (let y : false ≡ true = z in cc);
            };
        leads = record {
          view = w;
          here = at_longer vs (u ∷ []) 0 w (subst (λ i. get_elem? vs i ≡ some w) id_is (set_here s.views id w (inside s.views id v at)));
          alive = live;
          its_list = sym (ap (λ (x : V). x.known) is) ∙ lead.its_list;
          its_count = omega (arith, n, count);
          each_ended = subst (λ (y : V). All (EndsIn r.log r.list) y.ended) is lead.each_ended;
          once = λ k. subst (λ (y : V). count_by (has_number k) y.ended ≡ spent_at s.views k) is (lead.once k) ∙ sym (spent_snoc vs u refl k ∙ spent_same s.views id v w at refl k);
          all_counted = let a = total_snoc is_live vs u in let b = total_set is_live s.views id v w at in let c = lead.all_counted in let d = ap (λ (y : V). length y.ended) is in omega (arith, a, b, c, d, n);
        };
        legal = r.legal;
        makers = λ by h. r.makers by (omega (arith, n, h));
      }

  sits_join : (s : St) (r : Rule s) (id : ℕ) (v u : V) (other : ℕ) (w z : V) → get_elem? s.views id ≡ some v → u.turn ≡ v.turn → get_elem? (set s.views id u) other ≡ some w → w.turn ≡ false → z.turn ≡ false → (h : maybe.Option (Option S))
      → Sits events items r.served r.owner r.log r.list (set s.views id u) h → Sits events items r.served r.owner r.log r.list (set (set s.views id u) other z) h
  sits_join s r id v u other w z at same there out out' none k = (k.0, set_else (set s.views id u) other (r.owner r.served) z (λ e. let is = some-injective k.0 w (sym (subst (λ i. get_elem? (set s.views id u) i ≡ some k.0) e k.1) ∙ there) in let t = ap (λ (x : V). x.turn) is in let q = k.2 in cc) ∙ k.1, k.2)
  sits_join s r id v u other w z at same there out out' (some None) k = k
  sits_join s r id v u other w z at same there out out' (some (Some x)) k = (k.0, k.1, seats_stay (λ j d. d.turn ≡ false) (set s.views id u) other z out' (λ j d _. k.2 j d))

  -- the slot after a step of a seat that keeps its turn
  sits_kept : (s : St) (r : Rule s) (id : ℕ) (v w : V) → get_elem? s.views id ≡ some v → w.turn ≡ v.turn → (h : maybe.Option (Option S)) → Sits events items r.served r.owner r.log r.list s.views h → Sits events items r.served r.owner r.log r.list (set s.views id w) h
  sits_kept s r id v w at same none k = dite (ℕ_discrete (r.owner r.served) id)
      (λ e. let is = some-injective k.0 v (sym (subst (λ i. get_elem? s.views i ≡ some k.0) e k.1) ∙ at) in
      (w, subst (λ i. get_elem? (set s.views id w) i ≡ some w) (sym e) (set_here s.views id w (inside s.views id v at)), same ∙ (sym (ap (λ (x : V). x.turn) is) ∙ k.2)))
      (λ other. (k.0, set_else s.views id (r.owner r.served) w other ∙ k.1, k.2))
  sits_kept s r id v w at same (some None) k = k
  sits_kept s r id v w at same (some (Some x)) k = (k.0, k.1, seats_stay (λ j d. d.turn ≡ false) s.views id w (same ∙ k.2 id v at) (λ j d _. k.2 j d))

  pub joins : (id : ℕ) (v : V) (other : ℕ) (w : V) → IsReader v → w.ticket ≡ None → w.live ≡ true → Joins Rule id v other w (joined v w) spent_view
  joins id v other w leader free alive s r at apart there' = let u : V = joined v w in let z : V = spent_view in let live = leader.1 in let known = r.each id v at in let l = known.live_ok live in let id_is : id ≡ 0 = sym l.numbered ∙ leader.0 in let lead = r.leads in
      let vs : List V = set s.views id u in let there : get_elem? s.views other ≡ some w = sym (set_else s.views id other u apart) ∙ there' in let ws : List V = set vs other z in
      let m = (r.each other w there).live_ok alive in let n : length ws ≡ length s.views = length-set vs other z ∙ length-set s.views id u in let out = off_turn s r other w there free in
      let is : lead.view ≡ v = some-injective lead.view v (sym lead.here ∙ subst (λ i. get_elem? s.views i ≡ some v) id_is at) in let away : id ≢ other = λ e. apart (sym e) in
      let new : EndsIn r.log r.list (ended_of w) = (m.has_seen, m.has_known, ap (λ k. calls_by k r.log) m.numbered ∙ sym m.own) in record {
        served = r.served;
        waiting = r.waiting;
        owner = r.owner;
        log = r.log;
        list = r.list;
        home = r.home;
        wide = r.wide;
        next_is = r.next_is;
        serving_is = r.serving_is;
        count_is = r.count_is;
        few = omega (arith, n, r.few);
        as_many = let a = total_set has_ticket s.views id v u at in let b = total_set has_ticket vs other w z there' in let c : ◌≡◌ {A = ℕ} (has_ticket w) 0 = ap has_ticket_of free in omega (arith, a, b, c, r.as_many);
        owned = λ q lo hi. let o = owned_same s r id v u at refl q lo hi in (o.0, set_else vs other (r.owner q) z (λ e. let i = some-injective o.0 w (sym (subst (λ j. get_elem? vs j ≡ some o.0) e o.1) ∙ there') in let a = ap (λ (x : V). x.ticket) i in no_ticket w q free (sym a ∙ o.2)) ∙ o.1, o.2);
        one_slot = r.one_slot;
        sits = sits_join s r id v u other w z at refl there' out refl r.home (sits_kept s r id v u at refl r.home r.sits);
        each = seats_stay (Knows r.served r.waiting r.owner r.log r.list) vs other z record { ticket_ok = tt; live_ok = λ y. absurd (let x : false ≡ true = y in cc); in_turn = λ y. absurd (let x : false ≡ true = y in cc) }
            (λ j d _ a. seats_stay (Knows r.served r.waiting r.owner r.log r.list) s.views id u
            record {
              ticket_ok = known.ticket_ok;
              live_ok = λ _. record { numbered = l.numbered; has_seen = l.has_seen; has_known = l.has_known; own = l.own };
              in_turn = λ on. let t = known.in_turn on in (t.0, t.1, t.2, live);
            }
            (λ j d _ a. r.each j d a) j d a);
        leads = record {
          view = u;
          here = set_else vs other 0 z (λ e. away (id_is ∙ e)) ∙ subst (λ i. get_elem? vs i ≡ some u) id_is (set_here s.views id u (inside s.views id v at));
          alive = live;
          its_list = sym (ap (λ (x : V). x.known) is) ∙ lead.its_list;
          its_count = sym (ap (λ (x : V). x.made) is) ∙ (lead.its_count ∙ sym n);
          each_ended = All-cons (EndsIn r.log r.list) (ended_of w) v.ended new (subst (λ (y : V). All (EndsIn r.log r.list) y.ended) is lead.each_ended);
          once = λ k. let a = count_cons (has_number k) (ended_of w) v.ended in let b = subst (λ (y : V). count_by (has_number k) y.ended ≡ spent_at s.views k) is (lead.once k) in
              let c = spent_more vs other w z there' alive refl k in let d = spent_same s.views id v u at refl k in let e : ◌≡◌ {A = ℕ} (cond (eqb w.number k) 1 0) (cond (eqb other k) 1 0) = ap (λ i. cond (eqb i k) 1 0) m.numbered in omega (arith, a, b, c, d, e);
          all_counted = let a = total_set is_live s.views id v u at in let b = total_set is_live vs other w z there' in let c : ◌≡◌ {A = ℕ} (is_live w) 1 = ap (λ b. cond b 1 0) alive in let d = ap (λ (y : V). length y.ended) is in let e = lead.all_counted in omega (arith, a, b, c, d, e, n);
        };
        legal = r.legal;
        makers = λ by h. r.makers by (omega (arith, n, h));
      }
