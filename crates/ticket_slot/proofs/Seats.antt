-- The list of views after a step of one seat, and what the reader's view keeps of it.
use Rattle.std.proofs.Common.{◌≡◌, ◌≢◌, ℕ, zero, suc, ◌+◌, ◌<◌, ◌≤◌, Bool, true, false, cond, eqb, List, [], ◌∷◌, ◌++◌, length, set, sym, refl, ap, ◌∙◌, subst, ⊎_elim, arith, length-set, ne_eqb}
use mathlib.Core.Logic.{dite}
use mathlib.Core.Option.{some, some-injective, some-ne-none}
use native.Mathlib.Decide.{ℕ_discrete}
use lib.ListN.{get_elem?}
use Rattle.std.specs.List.{All, count_by}
use Rattle.std.proofs.lemmas.List.Elements.{All-weaker}
use Rattle.atomic_table.proofs.Lists.{at_set, set_here, set_else}
use Rattle.ticket_slot.specs.declared.view.View.{View}
use Rattle.ticket_slot.specs.declared.view.Ended.{Ended}
use Rattle.ticket_slot.specs.Views.{StartsWith, calls_by, has_number, EndsIn}
use Rattle.ticket_slot.specs.Rule.{total, is_live, spent_at, Live, Leads}
use Rattle.ticket_slot.proofs.Lists.{total_set, two_of, at_end, inside, there_is, none_pass}

pub seats_stay : {V : Type 0} (K : ℕ → V → Type 0) (vs : List V) (me : ℕ) (w : V) → K me w → ((j : ℕ) (d : V) → j ≢ me → get_elem? vs j ≡ some d → K j d)
    → (j : ℕ) (d : V) → get_elem? (set vs me w) j ≡ some d → K j d
seats_stay {V} K vs me w mine others j d e = ⊎_elim (λ (t : (j ≡ me) × (w ≡ d)). subst (λ (x : ℕ × V). K x.0 x.1) (λ i. (sym t.0 i, t.1 i)) mine)
    (λ (t : (j ≢ me) × (get_elem? vs j ≡ some d)). others j d t.0 t.1) (at_set vs me j w d e)

pub seats_split : {V : Type 0} (K : ℕ → V → Type 0) (vs : List V) (me : ℕ) (w u : V) → K me w → ((j : ℕ) (d : V) → j ≢ me → get_elem? vs j ≡ some d → K j d) → K (length vs) u
    → (j : ℕ) (d : V) → get_elem? (set vs me w ++ u ∷ []) j ≡ some d → K j d
seats_split {V} K vs me w u mine others new j d e = ⊎_elim (seats_stay K vs me w mine others j d) (λ (t : (j ≡ length (set vs me w)) × (u ≡ d)). subst (λ (x : ℕ × V). K x.0 x.1) (λ i. (sym (t.0 ∙ length-set vs me w) i, t.1 i)) new)
    (at_end (set vs me w) u d j e)

module _ {E J : Type 0} where
  -- a view is spent, or it is live
  spent_is : (vs : List (View E J)) (n : ℕ) (v : View E J) → get_elem? vs n ≡ some v → spent_at vs n ≡ cond v.live 0 1
  spent_is [] n v e = absurd (some-ne-none v (sym e))
  spent_is (x ∷ xs) zero v e = ap (λ (y : View E J). cond y.live 0 1) (some-injective x v e)
  spent_is (x ∷ xs) (suc n) v e = spent_is xs n v e

  pub not_spent : (vs : List (View E J)) (n : ℕ) (v : View E J) → get_elem? vs n ≡ some v → v.live ≡ true → spent_at vs n ≡ 0
  not_spent vs n v e live = spent_is vs n v e ∙ ap (λ b. cond b 0 1) live

  pub spent_same : (vs : List (View E J)) (id : ℕ) (v w : View E J) → get_elem? vs id ≡ some v → w.live ≡ v.live → (n : ℕ) → spent_at (set vs id w) n ≡ spent_at vs n
  spent_same [] id v w e same n = absurd (some-ne-none v (sym e))
  spent_same (x ∷ xs) zero v w e same zero = let i : x.live ≡ v.live = ap (λ (y : View E J). y.live) (some-injective x v e) in ap (λ b. cond b 0 1) (same ∙ sym i)
  spent_same (x ∷ xs) zero v w e same (suc n) = refl
  spent_same (x ∷ xs) (suc id) v w e same zero = refl
  spent_same (x ∷ xs) (suc id) v w e same (suc n) = spent_same xs id v w e same n

  pub spent_snoc : (vs : List (View E J)) (u : View E J) → u.live ≡ true → (n : ℕ) → spent_at (vs ++ u ∷ []) n ≡ spent_at vs n
  spent_snoc [] u live zero = ap (λ b. cond b 0 1) live
  spent_snoc [] u live (suc n) = refl
  spent_snoc (x ∷ xs) u live zero = refl
  spent_snoc (x ∷ xs) u live (suc n) = spent_snoc xs u live n

  -- one seat more is spent
  pub spent_more : (vs : List (View E J)) (id : ℕ) (v w : View E J) → get_elem? vs id ≡ some v → v.live ≡ true → w.live ≡ false → (n : ℕ) → spent_at (set vs id w) n ≡ cond (eqb id n) 1 0 + spent_at vs n
  spent_more vs id v w e live spent n = dite (ℕ_discrete n id)
      (λ i. let a : spent_at (set vs id w) n ≡ 1 = subst (λ k. spent_at (set vs id w) k ≡ 1) (sym i) (spent_is (set vs id w) id w (set_here vs id w (inside vs id v e)) ∙ ap (λ b. cond b 0 1) spent) in
      let b : spent_at vs n ≡ 0 = subst (λ k. spent_at vs k ≡ 0) (sym i) (not_spent vs id v e live) in
      let c : ◌≡◌ {A = ℕ} (cond (eqb id n) 1 0) 1 = ap (λ b. cond b 1 0) (subst (λ k. eqb id k ≡ true) (sym i) (same id)) in omega (arith, a, b, c))
      (λ other. let c : ◌≡◌ {A = ℕ} (cond (eqb id n) 1 0) 0 = ap (λ b. cond b 1 0) (ne_eqb id n (λ i. other (sym i))) in let d = elsewhere vs id w n other in omega (arith, c, d))
    where
      same : (n : ℕ) → eqb n n ≡ true
      same n = grind arith

      elsewhere : (vs : List (View E J)) (id : ℕ) (w : View E J) (n : ℕ) → n ≢ id → spent_at (set vs id w) n ≡ spent_at vs n
      elsewhere [] id w n ne = refl
      elsewhere (x ∷ xs) zero w zero ne = absurd (ne refl)
      elsewhere (x ∷ xs) zero w (suc n) ne = refl
      elsewhere (x ∷ xs) (suc id) w zero ne = refl
      elsewhere (x ∷ xs) (suc id) w (suc n) ne = elsewhere xs id w n (λ i. ne (ap suc i))

  pub none_spent : (vs : List (View E J)) (n : ℕ) → length vs ≤ n → spent_at vs n ≡ 0
  none_spent [] n h = refl
  none_spent (x ∷ xs) zero h = absurd (omega arith)
  none_spent (x ∷ xs) (suc n) h = none_spent xs n (omega arith)

  -- where one view alone is live, each other is spent
  pub others_spent : (vs : List (View E J)) (id n : ℕ) (v : View E J) → get_elem? vs id ≡ some v → v.live ≡ true → ◌≡◌ {A = ℕ} (total is_live vs) 1 → n ≢ id → n < length vs → spent_at vs n ≡ 1
  others_spent vs id n v e live one ne h = let d = there_is vs n h in let t = two_of is_live vs id n v d.0 (λ i. ne (sym i)) e d.1 in let a : ◌≡◌ {A = ℕ} (is_live v) 1 = ap (λ b. cond b 1 0) live in
      spent_is vs n d.0 d.1 ∙ dead d.0.live (omega (arith, t, a, one))
    where
      dead : (b : Bool) → cond b 1 0 ≤ 0 → ◌≡◌ {A = ℕ} (cond b 0 1) 1
      dead true h = absurd (omega (arith, h))
      dead false h = refl

  -- no ended seat has the number of a live one
  pub ended_apart : (log : List (ℕ × E)) (list : List J) (vs : List (View E J)) (id : ℕ) (v : View E J) → get_elem? vs id ≡ some v → v.live ≡ true → (l : Leads log list vs) → All (λ x. x.number ≢ id) l.view.ended
  ended_apart log list vs id v at live l = All-weaker (λ (x : Ended E J). has_number id x ≡ false) (λ x. x.number ≢ id) (λ x no i. let z = ap (λ n. eqb n id) i in let y = same id in cc) l.view.ended (none_pass (has_number id) l.view.ended (l.once id ∙ not_spent vs id v at live))
    where
      same : (n : ℕ) → eqb n n ≡ true
      same n = grind arith

  -- the first view keeps its lead where it keeps its list and its count
  pub leads_stay : (log log' : List (ℕ × E)) (list list' : List J) (vs : List (View E J)) (id : ℕ) (v w : View E J) → get_elem? vs id ≡ some v → Leads log list vs → ((k : List (ℕ × E)) → StartsWith log k → StartsWith log' k)
      → ((k : List J) → StartsWith list k → StartsWith list' k) → ((n : ℕ) → n ≢ id → calls_by n log' ≡ calls_by n log) → v.live ≡ true → w.live ≡ true → (id ≢ 0 → list' ≡ list) → (id ≡ 0 → w.known ≡ list')
      → w.made ≡ v.made → w.ended ≡ v.ended → Leads log' list' (set vs id w)
  leads_stay log log' list list' vs id v w at l grow grow_list calls live live' same known made ended = let n = length-set vs id w in
      let counted : total is_live (set vs id w) ≡ total is_live vs = (let t = total_set is_live vs id v w at in let a = ap {B = ℕ} (λ b. cond b 1 0) live in let b = ap {B = ℕ} (λ b. cond b 1 0) live' in omega (arith, t, a, b)) in
      let once : (m : ℕ) → spent_at vs m ≡ spent_at (set vs id w) m = λ m. sym (spent_same vs id v w at (live' ∙ sym live) m) in
      let kept : All (EndsIn log' list') l.view.ended = both l.view.ended l.each_ended (ended_apart log list vs id v at live l) in dite (ℕ_discrete 0 id)
      (λ e. let here : get_elem? vs 0 ≡ some v = subst (λ i. get_elem? vs i ≡ some v) (sym e) at in let is : l.view ≡ v = some-injective l.view v (sym l.here ∙ here) in let ends : l.view.ended ≡ w.ended = ap (λ (x : View E J). x.ended) is ∙ sym ended in record {
        view = w;
        here = subst (λ i. get_elem? (set vs id w) i ≡ some w) (sym e) (set_here vs id w (inside vs id v at));
        alive = live';
        its_list = known (sym e);
        its_count = made ∙ (sym (ap (λ (x : View E J). x.made) is) ∙ (l.its_count ∙ sym n));
        each_ended = subst (All (EndsIn log' list')) ends kept;
        once = λ m. ap (count_by (has_number m)) (sym ends) ∙ (l.once m ∙ once m);
        all_counted = let a = ap length ends in let b = l.all_counted in omega (arith, a, b, counted, n);
      })
      (λ other. record {
        view = l.view;
        here = set_else vs id 0 w other ∙ l.here;
        alive = l.alive;
        its_list = l.its_list ∙ sym (same (λ e. other (sym e)));
        its_count = l.its_count ∙ sym n;
        each_ended = kept;
        once = λ m. l.once m ∙ once m;
        all_counted = let b = l.all_counted in omega (arith, b, counted, n);
      })
    where
      both : (xs : List (Ended E J)) → All (EndsIn log list) xs → All (λ x. x.number ≢ id) xs → All (EndsIn log' list') xs
      both xs a b = λ k d h. let t = a k d h in (grow _ t.0, grow_list _ t.1, calls _ (b k d h) ∙ t.2)

  pub leads_same : (log : List (ℕ × E)) (list : List J) (vs : List (View E J)) (id : ℕ) (v w : View E J) → get_elem? vs id ≡ some v → Leads log list vs → v.live ≡ true → w.live ≡ true → (id ≡ 0 → w.known ≡ list) → w.made ≡ v.made → w.ended ≡ v.ended → Leads log list (set vs id w)
  leads_same log list vs id v w at l live live' known made ended = leads_stay log log list list vs id v w at l (λ _ p. p) (λ _ p. p) (λ _ _. refl) live live' (λ _. refl) known made ended

  pub live_same : (log : List (ℕ × E)) (list : List J) (j : ℕ) (v w : View E J) → w.number ≡ v.number → w.seen ≡ v.seen → w.known ≡ v.known → w.mine ≡ v.mine → Live log list j v → Live log list j w
  live_same log list j v w a b c d l = record { numbered = a ∙ l.numbered; has_seen = subst (StartsWith log) (sym b) l.has_seen; has_known = subst (StartsWith list) (sym c) l.has_known; own = d ∙ l.own }
