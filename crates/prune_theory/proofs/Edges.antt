-- The lists of rule commands by their heads.
use Rattle.std.proofs.Common.{List, [], ◌∷◌, ◌++◌, length, take, map, replicate, get_or, slice_get, slice_set, Contains, ℕ, zero, suc, ◌≡◌, ◌<◌, ◌≤◌, ◌+◌, Option, Some, option_map, refl, ap, sym, subst, ◌∙◌, arith, ◌⊎◌, inl, inr}
use Rattle.std.proofs.lemmas.List.Elements.{Contains-append_left, Contains-append_right, Contains-append_cases}
use Rattle.std.proofs.lemmas.Option.{slice_get_within}
use Rattle.dk_model.specs.PlainCommands.{PlainCommand}
use Rattle.dk_model.specs.Scoping.{plain_command}
use Rattle.dk_model.specs.declared.scoped.Scoped.{Scoped}
use Rattle.prune_theory.specs.Mentions.{heads_of}
use Rattle.prune_theory.specs.Reaching.{with_edge, with_edges, with_commands, HasRule, IsIndex}
use Rattle.prune_theory.proofs.Reached.{none_in, one_in, only_in, is_in}

abbrev at : List (List ℕ) → ℕ → List ℕ
at index i = get_or index i []

-- ---- one place more

edge_rules : (index : List (List ℕ)) (h p i q : ℕ) → Contains (at (with_edge index h p) i) q → Contains (at index i) q ⊎ ((i ≡ h) × (q ≡ p))
edge_rules [] h p i q c = inl c
edge_rules (e ∷ es) zero p zero q c = by (Contains-append_cases e (p ∷ []) q c)
  where
    by : Contains e q ⊎ Contains (p ∷ []) q → Contains e q ⊎ ((zero ≡ zero) × (q ≡ p))
    by (inl d) = inl d
    by (inr d) = inr (refl, only_in p q d)
edge_rules (e ∷ es) zero p (suc i) q c = inl c
edge_rules (e ∷ es) (suc h) p zero q c = inl c
edge_rules (e ∷ es) (suc h) p (suc i) q c = by (edge_rules es h p i q c)
  where
    by : Contains (at es i) q ⊎ ((i ≡ h) × (q ≡ p)) → Contains (at es i) q ⊎ ((suc i ≡ suc h) × (q ≡ p))
    by (inl d) = inl d
    by (inr d) = inr (ap suc d.0, d.1)

edge_kept : (index : List (List ℕ)) (h p i q : ℕ) → Contains (at index i) q → Contains (at (with_edge index h p) i) q
edge_kept [] h p i q c = c
edge_kept (e ∷ es) zero p zero q c = Contains-append_left e (p ∷ []) q c
edge_kept (e ∷ es) zero p (suc i) q c = c
edge_kept (e ∷ es) (suc h) p zero q c = c
edge_kept (e ∷ es) (suc h) p (suc i) q c = edge_kept es h p i q c

edge_here : (index : List (List ℕ)) (h p : ℕ) → h < length index → Contains (at (with_edge index h p) h) p
edge_here [] h p l = absurd (omega arith)
edge_here (e ∷ es) zero p l = Contains-append_right e (p ∷ []) p (one_in p)
edge_here (e ∷ es) (suc h) p l = edge_here es h p (omega arith)

edge_count : (index : List (List ℕ)) (h p : ℕ) → length (with_edge index h p) ≡ length index
edge_count [] h p = refl
edge_count (e ∷ es) zero p = refl
edge_count (e ∷ es) (suc h) p = ap suc (edge_count es h p)

pub edge_is : (index : List (List ℕ)) (h p : ℕ) (x e : List ℕ) → h < length index → x ≡ get_or index h x → e ≡ x ++ p ∷ [] → slice_set index h e ≡ with_edge index h p
edge_is [] h p x e l q r = absurd (omega arith)
edge_is (y ∷ ys) zero p x e l q r = ap (λ (z : List ℕ). z ∷ ys) (r ∙ ap (λ (z : List ℕ). z ++ p ∷ []) q)
edge_is (y ∷ ys) (suc h) p x e l q r = ap (λ (z : List (List ℕ)). y ∷ z) (edge_is ys h p x e (omega arith) q r)

pub edge_past : (index : List (List ℕ)) (h p : ℕ) → length index ≤ h → index ≡ with_edge index h p
edge_past [] h p l = refl
edge_past (y ∷ ys) zero p l = absurd (omega arith)
edge_past (y ∷ ys) (suc h) p l = ap (λ (z : List (List ℕ)). y ∷ z) (edge_past ys h p (omega arith))

-- ---- one command more

edges_rules : (hs : List ℕ) (index : List (List ℕ)) (p i q : ℕ) → Contains (at (with_edges index hs p) i) q → Contains (at index i) q ⊎ (Contains hs i × (q ≡ p))
edges_rules [] index p i q c = inl c
edges_rules (h ∷ hs) index p i q c = by (edges_rules hs (with_edge index h p) p i q c)
  where
    first : Contains (at index i) q ⊎ ((i ≡ h) × (q ≡ p)) → Contains (at index i) q ⊎ (Contains (h ∷ hs) i × (q ≡ p))
    first (inl d) = inl d
    first (inr d) = inr (Contains-append_left (h ∷ []) hs i (is_in h i d.0), d.1)

    by : Contains (at (with_edge index h p) i) q ⊎ (Contains hs i × (q ≡ p)) → Contains (at index i) q ⊎ (Contains (h ∷ hs) i × (q ≡ p))
    by (inl d) = first (edge_rules index h p i q d)
    by (inr d) = inr (Contains-append_right (h ∷ []) hs i d.0, d.1)

edges_kept : (hs : List ℕ) (index : List (List ℕ)) (p i q : ℕ) → Contains (at index i) q → Contains (at (with_edges index hs p) i) q
edges_kept [] index p i q c = c
edges_kept (h ∷ hs) index p i q c = edges_kept hs (with_edge index h p) p i q (edge_kept index h p i q c)

edges_count : (hs : List ℕ) (index : List (List ℕ)) (p : ℕ) → length (with_edges index hs p) ≡ length index
edges_count [] index p = refl
edges_count (h ∷ hs) index p = edges_count hs (with_edge index h p) p ∙ edge_count index h p

edges_here : (hs : List ℕ) (index : List (List ℕ)) (p i : ℕ) → i < length index → Contains hs i → Contains (at (with_edges index hs p) i) p
edges_here [] index p i l c = none_in i c
edges_here (h ∷ hs) index p i l c = by (edges_here hs (with_edge index h p) p i (subst (λ z. i < z) (sym (edge_count index h p)) l)) (Contains-append_cases (h ∷ []) hs i c)
  where
    by : (Contains hs i → Contains (at (with_edges (with_edge index h p) hs p) i) p) → Contains (h ∷ []) i ⊎ Contains hs i → Contains (at (with_edges (with_edge index h p) hs p) i) p
    by again (inl d) = edges_kept hs (with_edge index h p) p i p (subst (λ z. Contains (at (with_edge index z p) i) p) (only_in h i d) (edge_here index i p l))
    by again (inr d) = again d

-- ---- all

pub record IsFrom (n : ℕ) (cs : List PlainCommand) (i q : ℕ) : Type 0 where
  pub command : PlainCommand
  pub place : ℕ
  pub number : q ≡ n + place
  pub is : slice_get cs place ≡ Some command
  pub heads : Contains (heads_of command) i

commands_rules : (cs : List PlainCommand) (n : ℕ) (index : List (List ℕ)) (i q : ℕ) → Contains (at (with_commands n cs index) i) q → Contains (at index i) q ⊎ IsFrom n cs i q
commands_rules [] n index i q c = inl c
commands_rules (d ∷ cs) n index i q c = by (commands_rules cs (suc n) (with_edges index (heads_of d) n) i q c)
  where
    first : Contains (at index i) q ⊎ (Contains (heads_of d) i × (q ≡ n)) → Contains (at index i) q ⊎ IsFrom n (d ∷ cs) i q
    first (inl e) = inl e
    first (inr e) = inr (record { command = d; place = 0; number = e.1 ∙ (let z : n ≡ n + 0 = omega arith in z); is = refl; heads = e.0 })

    by : Contains (at (with_edges index (heads_of d) n) i) q ⊎ IsFrom (suc n) cs i q → Contains (at index i) q ⊎ IsFrom n (d ∷ cs) i q
    by (inl e) = first (edges_rules (heads_of d) index n i q e)
    by (inr e) = inr (record { command = e.command; place = suc e.place; number = e.number ∙ (let z : suc n + e.place ≡ n + suc e.place = omega arith in z); is = e.is; heads = e.heads })

commands_kept : (cs : List PlainCommand) (n : ℕ) (index : List (List ℕ)) (i q : ℕ) → Contains (at index i) q → Contains (at (with_commands n cs index) i) q
commands_kept [] n index i q c = c
commands_kept (d ∷ cs) n index i q c = commands_kept cs (suc n) (with_edges index (heads_of d) n) i q (edges_kept (heads_of d) index n i q c)

pub commands_count : (cs : List PlainCommand) (n : ℕ) (index : List (List ℕ)) → length (with_commands n cs index) ≡ length index
commands_count [] n index = refl
commands_count (d ∷ cs) n index = commands_count cs (suc n) (with_edges index (heads_of d) n) ∙ edges_count (heads_of d) index n

commands_here : (cs : List PlainCommand) (n : ℕ) (index : List (List ℕ)) (i j : ℕ) (c : PlainCommand) → i < length index → slice_get cs j ≡ Some c → Contains (heads_of c) i
    → Contains (at (with_commands n cs index) i) (n + j)
commands_here [] n index i j c l e h = absurd cc
commands_here (d ∷ cs) n index i zero c l e h = let r : d ≡ c = cc in let z : n ≡ n + 0 = omega arith in
    commands_kept cs (suc n) (with_edges index (heads_of d) n) i (n + 0) (subst (λ x. Contains (at (with_edges index (heads_of d) n) i) x) z
    (edges_here (heads_of d) index n i l (subst (λ x. Contains (heads_of x) i) (sym r) h)))
commands_here (d ∷ cs) n index i (suc j) c l e h = let z : suc n + j ≡ n + suc j = omega arith in
    subst (λ x. Contains (at (with_commands (suc n) cs (with_edges index (heads_of d) n)) i) x) z
    (commands_here cs (suc n) (with_edges index (heads_of d) n) i j c (subst (λ x. i < x) (sym (edges_count (heads_of d) index n)) l) e h)

empty_at : (n i : ℕ) → at (replicate n []) i ≡ []
empty_at zero i = refl
empty_at (suc n) zero = refl
empty_at (suc n) (suc i) = empty_at n i

lists : (n : ℕ) → length (replicate n (let e : List ℕ = [] in e)) ≡ n
lists zero = refl
lists (suc n) = ap suc (lists n)

-- ---- of the commands before k

in_front : {A : Type 0} (xs : List A) (k j : ℕ) (x : A) → slice_get (take k xs) j ≡ Some x → (j < k) × (slice_get xs j ≡ Some x)
in_front xs zero j x e = absurd cc
in_front [] (suc k) j x e = absurd cc
in_front (y ∷ xs) (suc k) zero x e = (omega arith, e)
in_front (y ∷ xs) (suc k) (suc j) x e = let r : (j < k) × (slice_get xs j ≡ Some x) = in_front xs k j x e in up r.0 r.1
  where
    up : j < k → slice_get xs j ≡ Some x → (suc j < suc k) × (slice_get xs j ≡ Some x)
    up l q = (omega arith, q)

to_front : {A : Type 0} (xs : List A) (k j : ℕ) (x : A) → j < k → slice_get xs j ≡ Some x → slice_get (take k xs) j ≡ Some x
to_front xs zero j x l e = absurd (omega arith)
to_front [] (suc k) j x l e = absurd cc
to_front (y ∷ xs) (suc k) zero x l e = e
to_front (y ∷ xs) (suc k) (suc j) x l e = to_front xs k j x (omega arith) e

pub index_is : (commands : List PlainCommand) (k : ℕ) → IsIndex commands k (with_commands 0 (take k commands) (replicate (k + 1) []))
index_is commands k = record {
  count = commands_count (take k commands) 0 (replicate (k + 1) []) ∙ lists (k + 1);
  rules = λ i j c. rules i j (commands_rules (take k commands) 0 (replicate (k + 1) []) i j c);
  all = λ i j l r. subst (λ z. Contains (at (with_commands 0 (take k commands) (replicate (k + 1) [])) i) z) (let q : 0 + j ≡ j = omega arith in q)
      (commands_here (take k commands) 0 (replicate (k + 1) []) i j r.command (subst (λ z. i < z) (sym (lists (k + 1))) l) (to_front commands k j r.command r.before r.is) r.heads);
}
  where
    made : (i j : ℕ) (f : IsFrom 0 (take k commands) i j) → j ≡ f.place → HasRule commands k i j
    made i j f e = let r : (f.place < k) × (slice_get commands f.place ≡ Some f.command) = in_front commands k f.place f.command f.is in
        record { command = f.command; before = subst (λ z. z < k) (sym e) r.0; is = subst (λ z. slice_get commands z ≡ Some f.command) (sym e) r.1; heads = f.heads }

    rules : (i j : ℕ) → Contains (at (replicate (k + 1) []) i) j ⊎ IsFrom 0 (take k commands) i j → HasRule commands k i j
    rules i j (inl c) = none_in j (subst (λ (l : List ℕ). Contains l j) (empty_at (k + 1) i) c)
    rules i j (inr f) = made i j f (f.number ∙ (let q : 0 + f.place ≡ f.place = omega arith in q))

pub front_of : {A B : Type 0} (f : A → B) (k : ℕ) (xs : List A) → map f (take k xs) ≡ take k (map f xs)
front_of f zero xs = refl
front_of f (suc k) [] = refl
front_of f (suc k) (x ∷ xs) = ap (λ (l : List _). f x ∷ l) (front_of f k xs)

pub index_for : (commands : List Scoped) (k : ℕ) (index : List (List ℕ)) → index ≡ with_commands 0 (map plain_command (take k commands)) (replicate (k + 1) []) → IsIndex (map plain_command commands) k index
index_for commands k index e = subst (IsIndex (map plain_command commands) k) (sym (e ∙ ap (λ (l : List PlainCommand). with_commands 0 l (replicate (k + 1) [])) (front_of plain_command k commands)))
    (index_is (map plain_command commands) k)

pub got_map : {A B : Type 0} (f : A → B) (xs : List A) (i : ℕ) (x : A) → slice_get xs i ≡ Some x → slice_get (map f xs) i ≡ Some (f x)
got_map f [] i x e = absurd cc
got_map f (y ∷ xs) zero x e = ap (λ (o : Option _). option_map f o) e
got_map f (y ∷ xs) (suc i) x e = got_map f xs i x e
