-- What is known of commands, with one more.
use Rattle.std.proofs.Common.{ℕ, zero, suc, ◌≡◌, ◌<◌, ◌≤◌, ◌+◌, ◌&&◌, Bool, true, false, Some, List, [], ◌∷◌, ◌++◌, All, Contains, get_or, length, map, replicate, slice_get, slice_index_or, take, refl, ap, sym, subst, ◌∙◌, arith, if◌then◌else◌}
use Rattle.std.specs.Prelude.{nat_lt}
use Rattle.std.proofs.lemmas.Bool.{ltb-true}
use Rattle.std.proofs.lemmas.List.Elements.{All-nil, All-push}
use Rattle.dk_model.specs.PlainCommands.{PlainCommand}
use Rattle.prune_theory.specs.Before.{all_below}
use Rattle.prune_theory.specs.Mentions.{IsAscending, Rests, by_head, by_mention, heads_of, itself, symbols_of}
use Rattle.prune_theory.specs.Reaching.{HasRule, IsIndex, with_commands, with_edge, with_edges}
use Rattle.prune_theory.proofs.Edges.{index_is}
use Rattle.prune_theory.proofs.Reached.{none_in, one_list_more}
use Rattle.edit_session.specs.Resting.{AreReached, AreUpTo, IsResting, Leads, RestOn, by_list, by_rule, heads_before, own_place}
use Rattle.edit_session.specs.declared.resting.Resting.{Resting}

-- ---- lists

both_true : (a b : Bool) → (a && b) ≡ true → (a ≡ true) × (b ≡ true)
both_true true b e = (refl, e)
both_true false b e = absurd cc

pub pushed_length : {A : Type 0} (xs : List A) (x : A) → length (xs ++ x ∷ []) ≡ suc (length xs)
pushed_length [] x = refl
pushed_length (y ∷ xs) x = ap suc (pushed_length xs x)

pub pushed_map : {A B : Type 0} (f : A → B) (xs : List A) (x : A) → map f (xs ++ x ∷ []) ≡ map f xs ++ f x ∷ []
pushed_map f [] x = refl
pushed_map f (y ∷ xs) x = ap (λ (l : List _). f y ∷ l) (pushed_map f xs x)

front_is : {A : Type 0} (xs : List A) (x : A) → take (length xs) (xs ++ x ∷ []) ≡ xs
front_is [] x = refl
front_is (y ∷ xs) x = ap (λ (l : List _). y ∷ l) (front_is xs x)

below_first : (n k : ℕ) (ks : List ℕ) → all_below n (k ∷ ks) ≡ true → (k < n) × (all_below n ks ≡ true)
below_first n k ks e = by (nat_lt k n) refl e
  where
    by : (b : Bool) → nat_lt k n ≡ b → (if b then all_below n ks else false) ≡ true → (k < n) × (all_below n ks ≡ true)
    by true q e = (ltb-true k n q, e)
    by false q e = absurd cc

below_each : (n : ℕ) (ks : List ℕ) → all_below n ks ≡ true → (j : ℕ) → Contains ks j → j < n
below_each n [] e j c = none_in j c
below_each n (k ∷ ks) e j (zero, l, f) = subst (λ z. z < n) f (below_first n k ks e).0
below_each n (k ∷ ks) e j (suc i, l, f) = below_each n ks (below_first n k ks e).1 j (i, omega (arith, l), f)

-- ---- the lists of rules

edge_length : (index : List (List ℕ)) (h p : ℕ) → length (with_edge index h p) ≡ length index
edge_length [] h p = refl
edge_length (e ∷ es) zero p = refl
edge_length (e ∷ es) (suc h) p = ap suc (edge_length es h p)

edges_length : (hs : List ℕ) (index : List (List ℕ)) (p : ℕ) → length (with_edges index hs p) ≡ length index
edges_length [] index p = refl
edges_length (h ∷ hs) index p = edges_length hs (with_edge index h p) p ∙ edge_length index h p

-- a list behind those of all heads stays empty
edge_behind : (index : List (List ℕ)) (h p : ℕ) → h < length index → with_edge (index ++ [] ∷ []) h p ≡ with_edge index h p ++ [] ∷ []
edge_behind [] h p l = absurd (omega (arith, l))
edge_behind (e ∷ es) zero p l = refl
edge_behind (e ∷ es) (suc h) p l = ap (λ (z : List (List ℕ)). e ∷ z) (edge_behind es h p (omega (arith, l)))

edges_behind : (hs : List ℕ) (index : List (List ℕ)) (p n : ℕ) → n ≤ length index → all_below n hs ≡ true → with_edges (index ++ [] ∷ []) hs p ≡ with_edges index hs p ++ [] ∷ []
edges_behind [] index p n l e = refl
edges_behind (h ∷ hs) index p n l e = let b : (h < n) × (all_below n hs ≡ true) = below_first n h hs e in let f : h < n = b.0 in
    ap (λ z. with_edges z hs p) (edge_behind index h p (omega (arith, f, l)))
    ∙ edges_behind hs (with_edge index h p) p n (let q : length (with_edge index h p) ≡ length index = edge_length index h p in omega (arith, q, l)) b.1

commands_behind : (cs : List PlainCommand) (n : ℕ) (index : List (List ℕ)) → n + length cs ≤ length index → heads_before n cs ≡ true → with_commands n cs (index ++ [] ∷ []) ≡ with_commands n cs index ++ [] ∷ []
commands_behind [] n index l e = refl
commands_behind (c ∷ cs) n index l e = let b : (all_below n (heads_of c) ≡ true) × (heads_before (suc n) cs ≡ true) = both_true (all_below n (heads_of c)) (heads_before (suc n) cs) e in
    ap (with_commands (suc n) cs) (edges_behind (heads_of c) index n n (omega (arith, l)) b.0)
    ∙ commands_behind cs (suc n) (with_edges index (heads_of c) n) (let q : length (with_edges index (heads_of c) n) ≡ length index = edges_length (heads_of c) index n in omega (arith, q, l)) b.1

commands_last : (cs : List PlainCommand) (n : ℕ) (c : PlainCommand) (index : List (List ℕ)) → with_commands n (cs ++ c ∷ []) index ≡ with_edges (with_commands n cs index) (heads_of c) (n + length cs)
commands_last [] n c index = ap (with_edges index (heads_of c)) (let q : n ≡ n + 0 = omega arith in q)
commands_last (d ∷ cs) n c index = commands_last cs (suc n) c (with_edges index (heads_of d) n)
    ∙ ap (with_edges (with_commands (suc n) cs (with_edges index (heads_of d) n)) (heads_of c)) (let q : suc n + length cs ≡ n + length (d ∷ cs) = omega arith in q)

lists : (n : ℕ) → length (replicate n (let e : List ℕ = [] in e)) ≡ n
lists zero = refl
lists (suc n) = ap suc (lists n)

heads_last : (cs : List PlainCommand) (n : ℕ) (c : PlainCommand) → heads_before n cs ≡ true → all_below (n + length cs) (heads_of c) ≡ true → heads_before n (cs ++ c ∷ []) ≡ true
heads_last [] n c e f = (λ i. all_below (let q : n ≡ n + 0 = omega arith in q i) (heads_of c) && true) ∙ (λ i. f i && true)
heads_last (d ∷ cs) n c e f = let b : (all_below n (heads_of d) ≡ true) × (heads_before (suc n) cs ≡ true) = both_true (all_below n (heads_of d)) (heads_before (suc n) cs) e in
    (λ i. b.0 i && heads_last cs (suc n) c b.1 (subst (λ z. all_below z (heads_of c) ≡ true) (let q : n + length (d ∷ cs) ≡ suc n + length cs = omega arith in q) f) i)

heads_at : (cs : List PlainCommand) (n i : ℕ) (c : PlainCommand) → heads_before n cs ≡ true → slice_get cs i ≡ Some c → all_below (n + i) (heads_of c) ≡ true
heads_at [] n i c e g = absurd cc
heads_at (d ∷ cs) n zero c e g = let q : c ≡ d = cc in let z : n ≡ n + 0 = omega arith in
    subst (λ m. all_below m (heads_of c) ≡ true) z (subst (λ x. all_below n (heads_of x) ≡ true) (sym q) (both_true (all_below n (heads_of d)) (heads_before (suc n) cs) e).0)
heads_at (d ∷ cs) n (suc i) c e g = subst (λ m. all_below m (heads_of c) ≡ true) (let q : suc n + i ≡ n + suc i = omega arith in q)
    (heads_at cs (suc n) i c (both_true (all_below n (heads_of d)) (heads_before (suc n) cs) e).1 g)

-- ---- from the lists to what a command rests on

record MapsTo {A : Type 0} (f : A → List ℕ) (xs : List A) (i j : ℕ) : Type 0 where
  pub it : A
  pub is : slice_get xs i ≡ Some it
  pub has : Contains (f it) j

in_map : {A : Type 0} (f : A → List ℕ) (xs : List A) (i j : ℕ) → Contains (get_or (map f xs) i []) j → MapsTo f xs i j
in_map f [] zero j c = none_in j c
in_map f [] (suc i) j c = none_in j c
in_map f (x ∷ xs) zero j c = record { it = x; is = refl; has = c }
in_map f (x ∷ xs) (suc i) j c = let r : MapsTo f xs i j = in_map f xs i j c in record { it = r.it; is = r.is; has = r.has }

to_map : {A : Type 0} (f : A → List ℕ) (xs : List A) (i j : ℕ) (x : A) → slice_get xs i ≡ Some x → Contains (f x) j → Contains (get_or (map f xs) i []) j
to_map f [] i j x e c = absurd cc
to_map f (y ∷ xs) zero j x e c = let q : x ≡ y = cc in subst (λ z. Contains (f z) j) q c
to_map f (y ∷ xs) (suc i) j x e c = to_map f xs i j x e c

module _ (cs : List PlainCommand) (k : ℕ) (index : List (List ℕ)) (is : IsIndex cs k index) where
  leads_rests : {i : ℕ} → Leads (map symbols_of cs) index k i → Rests cs k i
  leads_rests own_place = itself
  leads_rests (by_list {i} {j} h c) = let m : MapsTo symbols_of cs i j = in_map symbols_of cs i j c in by_mention m.it (leads_rests h) m.is m.has
  leads_rests (by_rule {i} {j} h c) = let r : HasRule cs k i j = is.rules i j c in by_head r.command (leads_rests h) r.before r.is r.heads

  rests_leads : heads_before 0 cs ≡ true → {i : ℕ} → Rests cs k i → Leads (map symbols_of cs) index k i
  rests_leads before itself = own_place
  rests_leads before (by_mention {i} {j} c r g m) = by_list (rests_leads before r) (to_map symbols_of cs i j c g m)
  rests_leads before (by_head {i} {j} c r l g m) =
      let below : i < 0 + j = below_each (0 + j) (heads_of c) (heads_at cs 0 j c before g) i m in
      by_rule (rests_leads before r) (is.all i j (omega (arith, below, l)) (record { command = c; before = l; is = g; heads = m }))

-- ---- one more command

module _ (cs : List PlainCommand) (c : PlainCommand) (r : Resting) (h : IsResting cs r) where
  abbrev k : ℕ
  k = length cs

  -- the lists of rules with an empty one behind them
  pub rules_begun : r.rules.items ++ [] ∷ [] ≡ with_commands 0 cs (replicate (k + 1) [])
  rules_begun = ap (λ (z : List (List ℕ)). z ++ [] ∷ []) h.rules ∙ sym (commands_behind cs 0 (replicate k []) (let q : length (replicate k (let e : List ℕ = [] in e)) ≡ k = lists k in omega (arith, q)) h.heads)
      ∙ ap (with_commands 0 cs) (one_list_more k)

  index_now : IsIndex (cs ++ c ∷ []) k (r.rules.items ++ [] ∷ [])
  index_now = subst (IsIndex (cs ++ c ∷ []) k) (ap (λ (z : List PlainCommand). with_commands 0 z (replicate (k + 1) [])) (front_is cs c) ∙ sym rules_begun) (index_is (cs ++ c ∷ []) k)

  pub rest_on : (mentions rules : List (List ℕ)) (own : ℕ) (places : List ℕ) → own ≡ k → all_below own (heads_of c) ≡ true → mentions ≡ r.mentions.items ++ symbols_of c ∷ [] → rules ≡ r.rules.items ++ [] ∷ []
      → IsAscending places → AreReached mentions rules own places → RestOn cs c places
  rest_on mentions rules own places o below e f ascending reached = record {
    ascending = ascending;
    all = λ i q. all i (rests_leads (cs ++ c ∷ []) k (r.rules.items ++ [] ∷ []) index_now (heads_last cs 0 c h.heads (subst (λ z. all_below z (heads_of c) ≡ true) (o ∙ (let q : k ≡ 0 + k = omega arith in q)) below)) q);
    only = λ i q. leads_rests (cs ++ c ∷ []) k (r.rules.items ++ [] ∷ []) index_now (only i q);
  }
    where
      mentions_are : map symbols_of (cs ++ c ∷ []) ≡ mentions
      mentions_are = pushed_map symbols_of cs c ∙ ap (λ (z : List (List ℕ)). z ++ symbols_of c ∷ []) (sym h.mentions) ∙ sym e

      same : Leads (map symbols_of (cs ++ c ∷ [])) (r.rules.items ++ [] ∷ []) k ≡ Leads mentions rules own
      same = λ i. Leads (mentions_are i) (sym f i) (sym o i)

      all : (i : ℕ) → Leads (map symbols_of (cs ++ c ∷ [])) (r.rules.items ++ [] ∷ []) k i → Contains places i
      all i q = reached.all i (subst (λ (P : ℕ → Type 0). P i) same q)

      only : (i : ℕ) → Contains places i → Leads (map symbols_of (cs ++ c ∷ [])) (r.rules.items ++ [] ∷ []) k i
      only i q = subst (λ (P : ℕ → Type 0). P i) (sym same) (reached.only i q)

  pub rests_more : (new : Resting) (own : ℕ) → own ≡ k → all_below own (heads_of c) ≡ true → new.mentions.items ≡ r.mentions.items ++ symbols_of c ∷ [] → new.rules.items ≡ with_edges (r.rules.items ++ [] ∷ []) (heads_of c) own
      → length new.marks.items ≡ length r.marks.items + 1 → AreUpTo (own + 1) new.marks.items → IsResting (cs ++ c ∷ []) new
  rests_more new own o below e f n bound = record {
    mentions = e ∙ ap (λ (z : List (List ℕ)). z ++ symbols_of c ∷ []) h.mentions ∙ sym (pushed_map symbols_of cs c);
    rules = f ∙ ap (λ z. with_edges z (heads_of c) own) rules_begun ∙ ap (with_edges (with_commands 0 cs (replicate (k + 1) [])) (heads_of c)) (o ∙ (let q : k ≡ 0 + k = omega arith in q))
        ∙ sym (commands_last cs 0 c (replicate (k + 1) [])) ∙ ap (λ m. with_commands 0 (cs ++ c ∷ []) (replicate m [])) (let q : k + 1 ≡ suc k = omega arith in q ∙ sym (pushed_length cs c));
    heads = heads_last cs 0 c h.heads (subst (λ z. all_below z (heads_of c) ≡ true) (o ∙ (let q : k ≡ 0 + k = omega arith in q)) below);
    count = (let a : length r.marks.items ≡ k = h.count in let b : length (cs ++ c ∷ []) ≡ suc k = pushed_length cs c in omega (arith, n, a, b));
    bound = subst (λ m. AreUpTo m new.marks.items) (let b : length (cs ++ c ∷ []) ≡ suc k = pushed_length cs c in let q : own + 1 ≡ length (cs ++ c ∷ []) = omega (arith, o, b) in q) bound;
  }

  -- the marks so far, with that of the new place, are all less
  pub marks_below : (marks : List ℕ) (own : ℕ) → own ≡ length r.marks.items → marks ≡ r.marks.items ++ 0 ∷ [] → All (λ m. m < own + 1) marks
  marks_below marks own o e = subst (All (λ m. m < own + 1)) (sym e) (All-push (λ m. m < own + 1) r.marks.items 0 (λ i d l. let b : slice_index_or r.marks.items i d ≤ k = h.bound i d l in let a : length r.marks.items ≡ k = h.count in omega (arith, b, a, o)) (omega arith))

pub rests_none : (r : Resting) → r.mentions.items ≡ [] → r.rules.items ≡ [] → r.marks.items ≡ [] → IsResting [] r
rests_none r e f g = record { mentions = e; rules = f; heads = refl; count = ap (λ (z : List ℕ). length z) g; bound = subst (AreUpTo 0) (sym g) (All-nil (λ m. m ≤ 0)) }
