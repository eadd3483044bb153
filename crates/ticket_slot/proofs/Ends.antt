-- What the rule says of the last state, once all other passes are joined.
use Rattle.std.proofs.Common.{◌≡◌, ℕ, ◌+◌, ◌≤◌, true, cond, List, [], ◌∷◌, length, sym, ap, ◌∙◌, subst, arith, Option, Some, None}
use mathlib.Core.Logic.{dite}
use mathlib.Core.Option as maybe
use mathlib.Core.Option.{none, some, some-injective}
use native.Mathlib.Decide.{ℕ_discrete}
use lib.ListN.{get_elem?}
use Rattle.std.specs.List.{All, count_by}
use Rattle.std.proofs.lemmas.List.Elements.{All-weaker}
use Rattle.atomic_table.specs.Table.{State, Final, Seen}
use Rattle.ticket_slot.specs.declared.view.View.{View}
use Rattle.ticket_slot.specs.Views.{calls_by, has_number, ended_of, IsReader, EachOnce, EndsIn}
use Rattle.ticket_slot.specs.Rule.{total, is_live, spent_at, Live, Leads, Sits, Ruled}
use Rattle.ticket_slot.proofs.Lists.{two_of, grown}
use Rattle.ticket_slot.proofs.Seats.{others_spent}
use Rattle.ticket_slot.proofs.Rules.{off_turn}

module _ {S E J : Type 0} (events : S → List (ℕ × E)) (items : S → List J) (lawful : List (ℕ × E) → List J → Type 0) where
  abbrev V : Type 0
  V = View E J

  abbrev Rule : State (Option S) V → Type 0
  Rule = Ruled events items lawful

  -- what the value has of all passes
  pub record Closes (v : V) (x : S) : Type 0 where
    pub legal : lawful (events x) (items x)
    pub list : items x ≡ v.known
    pub reader : EndsIn (events x) (items x) (ended_of v)
    pub ended : All (EndsIn (events x) (items x)) v.ended
    pub each_once : EachOnce v.made v.ended
    pub no_others : (n : ℕ) → v.made ≤ n → calls_by n (events x) ≡ []

  -- once all other seats are joined, the value is at home
  ends : (s : State (Option S) V) → Rule s → (id : ℕ) (v : V) → get_elem? s.views id ≡ some v → IsReader v → v.ticket ≡ None → length v.ended + 1 ≡ v.made → (x : S) × (s.homes ≡ some (Some x) ∷ []) × Closes v x
  ends s r id v at leader free all = let live = leader.1 in let off = off_turn s r id v at free in let l = (r.each id v at).live_ok live in let id_is : id ≡ 0 = sym l.numbered ∙ leader.0 in let lead = r.leads in
      let is : lead.view ≡ v = some-injective lead.view v (sym lead.here ∙ subst (λ i. get_elem? s.views i ≡ some v) id_is at) in
      let one : ◌≡◌ {A = ℕ} (total is_live s.views) 1 = (let a = lead.all_counted in let b = lead.its_count in let c = ap (λ (y : V). length y.ended) is in let d = ap (λ (y : V). y.made) is in omega (arith, a, b, c, d, all)) in
      let quiet : (j : ℕ) (d : V) → get_elem? s.views j ≡ some d → d.turn ≡ true → ⊥ = λ j d a on. dite (ℕ_discrete j id)
      (λ e. let i = some-injective d v (sym (subst (λ k. get_elem? s.views k ≡ some d) e a) ∙ at) in let t = ap (λ (y : V). y.turn) i in cc)
      (λ ne. let t = (r.each j d a).in_turn on in let p = two_of is_live s.views j id d v ne a at in let q : ◌≡◌ {A = ℕ} (is_live d) 1 = ap (λ b. cond b 1 0) t.3 in let w : ◌≡◌ {A = ℕ} (is_live v) 1 = ap (λ b. cond b 1 0) live in omega (arith, p, q, w, one)) in
      let once : EachOnce v.made v.ended = λ n some_one below. subst (λ (y : V). count_by (has_number n) y.ended ≡ spent_at s.views n) is (lead.once n)
      ∙ others_spent s.views id n v at live one (λ e. omega (arith, e, id_is, some_one)) (let b = lead.its_count in let d = ap (λ (y : V). y.made) is in omega (arith, below, b, d)) in
      go r.home r.one_slot r.sits l lead is quiet once
    where
      go : (h : maybe.Option (Option S)) → s.homes ≡ h ∷ [] → Sits events items r.served r.owner r.log r.list s.views h → Live r.log r.list id v → (lead : Leads r.log r.list s.views) → lead.view ≡ v → ((j : ℕ) (d : V) → get_elem? s.views j ≡ some d → d.turn ≡ true → ⊥) → EachOnce v.made v.ended
          → (x : S) × (s.homes ≡ some (Some x) ∷ []) × Closes v x
      go none one k l lead is quiet once = absurd (quiet (r.owner r.served) k.0 k.1 k.2)
      go (some None) one k l lead is quiet once = absurd k
      go (some (Some x)) one k l lead is quiet once = (
        x,
        one,
        record {
          legal = subst (λ (z : List (ℕ × E) × List J). lawful z.0 z.1) (λ i. (sym k.0 i, sym k.1 i)) r.legal;
          list = k.1 ∙ (sym lead.its_list ∙ ap (λ (y : V). y.known) is);
          reader = (grown r.log v.seen l.has_seen (events x) k.0, grown r.list v.known l.has_known (items x) k.1, ap (calls_by v.number) k.0 ∙ (ap (λ n. calls_by n r.log) l.numbered ∙ sym l.own));
          ended = subst (λ (y : V). All (EndsIn (events x) (items x)) y.ended) is (All-weaker (EndsIn r.log r.list) (EndsIn (events x) (items x)) (λ e t. (grown r.log e.seen t.0 (events x) k.0, grown r.list e.known t.1 (items x) k.1, ap (calls_by e.number) k.0 ∙ t.2)) lead.view.ended lead.each_ended);
          each_once = once;
          no_others = λ n h. ap (calls_by n) k.0 ∙ r.makers n (let b = lead.its_count in let d = ap (λ (y : V). y.made) is in omega (arith, h, b, d));
        },
      )

  pub gives_back : (ws : List ℕ) (xs : List (Option S)) (id : ℕ) (v : V) → IsReader v → v.ticket ≡ None → length v.ended + 1 ≡ v.made → Final (Seen Rule id v) ws xs → (x : S) × (get_elem? xs 0 ≡ some (Some x)) × Closes v x
  gives_back ws xs id v leader free all f = let e = ends f.0 f.1.0 id v f.1.1 leader free all in (e.0, f.4 0 (Some e.0) (ap (λ (hs : List (maybe.Option (Option S))). get_elem? hs 0) e.1), e.2)

  std_same : (x y : S) → Some x ≡ Some y → x ≡ y
  std_same x y e = cc

  pub moved : (v : V) (x y : S) → Some x ≡ Some y → Closes v x → Closes v y
  moved v x y e c = subst (Closes v) (std_same x y e) c
