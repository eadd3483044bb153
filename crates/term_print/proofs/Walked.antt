-- Going through the parts of a term for the spellings of its symbols.
use Rattle.std.proofs.Common.{List, [], ◌∷◌, ◌++◌, ℕ, ◌≡◌, ◌<◌, ◌+◌, Bool, true, false, ◌||◌, Option, Some, None, refl, ap, sym as flip, ◌∙◌, arith}
use Rattle.dk_model.specs.PlainTerms.{Tree, star, kind, symbol, variable, rule_variable, apply, bare, annotated, product}
use Rattle.dk_model.specs.declared.node.NodeOf.{NodeOf}
use Rattle.dk_model.specs.declared.node.NodeOf.TheVariants.{Star, Kind, Sym, Var, Rvar, App, Abs, Prod}
use Rattle.scope_terms.specs.Scopes.{Spelling, same_spelling}
use Rattle.term_print.specs.Named.{Word, has, spellings}
use Rattle.term_print.specs.Nodes.{node_tree}
use Rattle.term_print.specs.Products.{size}
use Rattle.term_print.specs.Walks.{Finds, SameSpellings, some_spelt, sizes}
use Rattle.term_print.proofs.Spelt.{has_both, or_false, or_turned, or_grouped}

pub size_some : (t : Tree) → 0 < size t
size_some star = omega arith
size_some kind = omega arith
size_some (symbol k) = omega arith
size_some (variable k) = omega arith
size_some (rule_variable k) = omega arith
size_some (apply f a) = omega arith
size_some (bare b) = omega arith
size_some (annotated d b) = omega arith
size_some (product a b) = omega arith

-- a node without parts that are terms, and without a spelling
abbrev pub is_leaf : NodeOf ℕ → Bool
is_leaf Star = true
is_leaf Kind = true
is_leaf (Var k) = true
is_leaf (Rvar k) = true
is_leaf n = false

module _ (denotes : ℕ → Tree) (words : ℕ → Word) where
  abbrev spelt : ℕ → Spelling → Bool
  spelt t x = has (spellings words (denotes t)) x

  left_pushed : (ts : List ℕ) (t : ℕ) (x : Spelling) → some_spelt denotes words (ts ++ t ∷ []) x ≡ (spelt t x || some_spelt denotes words ts x)
  left_pushed [] t x = refl
  left_pushed (u ∷ ts) t x = ap (λ b. spelt u x || b) (left_pushed ts t x) ∙ or_turned (spelt u x) (spelt t x) (some_spelt denotes words ts x)

  -- before the search
  pub whole_left : (found : List Spelling) (left : List ℕ) (whole : ℕ) → found ≡ [] → left ≡ [] ++ whole ∷ [] → (x : Spelling) → has (spellings words (denotes whole)) x ≡ (has found x || some_spelt denotes words left x)
  whole_left found left whole f l x = flip (or_false (spelt whole x)) ∙ (ap (λ ts. some_spelt denotes words ts x) (flip l) ∙ ap (λ ss. has ss x || some_spelt denotes words left x) (flip f))

  -- a term is gone through, which was the next one
  pub part_popped : (whole : List Spelling) (found found_then : List Spelling) (old new left_then : List ℕ) (t : ℕ) → old ≡ new ++ t ∷ [] → ((x : Spelling) → has whole x ≡ (has found x || some_spelt denotes words old x)) → Finds denotes words found t new found_then left_then
      → (x : Spelling) → has whole x ≡ (has found_then x || some_spelt denotes words left_then x)
  part_popped whole found found_then old new left_then t o w f x = w x ∙ (ap (λ b. has found x || b) (ap (λ ts. some_spelt denotes words ts x) o ∙ left_pushed new t x) ∙ f x)

  -- behind the search
  pub nothing_left : (whole found : List Spelling) (left : List ℕ) → left ≡ [] → ((x : Spelling) → has whole x ≡ (has found x || some_spelt denotes words left x)) → SameSpellings found whole
  nothing_left whole found left l w x = flip (w x ∙ (ap (λ ts. has found x || some_spelt denotes words ts x) l ∙ or_false (has found x)))

  two_left : (found : List Spelling) (t a b : ℕ) (old new : List ℕ) → spellings words (denotes t) ≡ spellings words (denotes a) ++ spellings words (denotes b) → new ≡ (old ++ b ∷ []) ++ a ∷ [] → Finds denotes words found t old found new
  two_left found t a b old new e n x = ap (λ b. has found x || b)
      (ap (λ ss. has ss x || some_spelt denotes words old x) e
      ∙ (ap (λ c. c || some_spelt denotes words old x) (has_both (spellings words (denotes a)) (spellings words (denotes b)) x)
      ∙ (or_grouped (spelt a x) (spelt b x) (some_spelt denotes words old x)
      ∙ (ap (λ c. spelt a x || c) (flip (left_pushed old b x))
      ∙ (flip (left_pushed (old ++ b ∷ []) a x) ∙ ap (λ ts. some_spelt denotes words ts x) (flip n))))))

  pub part_apply : (found : List Spelling) (t a b : ℕ) (n : NodeOf ℕ) (old new : List ℕ) → denotes t ≡ node_tree denotes n → n ≡ App a b → new ≡ (old ++ b ∷ []) ++ a ∷ [] → Finds denotes words found t old found new
  part_apply found t a b n old new s e p = two_left found t a b old new (ap (spellings words) (s ∙ ap (node_tree denotes) e)) p

  pub part_product : (found : List Spelling) (t a b : ℕ) (n : NodeOf ℕ) (old new : List ℕ) → denotes t ≡ node_tree denotes n → n ≡ Prod a b → new ≡ (old ++ b ∷ []) ++ a ∷ [] → Finds denotes words found t old found new
  part_product found t a b n old new s e p = two_left found t a b old new (ap (spellings words) (s ∙ ap (node_tree denotes) e)) p

  pub part_annotated : (found : List Spelling) (t a b : ℕ) (o : Option ℕ) (n : NodeOf ℕ) (old new : List ℕ) → denotes t ≡ node_tree denotes n → n ≡ Abs o b → o ≡ Some a → new ≡ (old ++ b ∷ []) ++ a ∷ [] → Finds denotes words found t old found new
  part_annotated found t a b o n old new s e q p = two_left found t a b old new (ap (spellings words) (s ∙ (ap (node_tree denotes) e ∙ ap (λ x. node_tree denotes (Abs x b)) q))) p

  pub part_bare : (found : List Spelling) (t b : ℕ) (o : Option ℕ) (n : NodeOf ℕ) (old new : List ℕ) → denotes t ≡ node_tree denotes n → n ≡ Abs o b → o ≡ None → new ≡ old ++ b ∷ [] → Finds denotes words found t old found new
  part_bare found t b o n old new s e q p x = ap (λ c. has found x || c)
      (ap (λ u. has (spellings words u) x || some_spelt denotes words old x) (s ∙ (ap (node_tree denotes) e ∙ ap (λ y. node_tree denotes (Abs y b)) q))
      ∙ (flip (left_pushed old b x) ∙ ap (λ ts. some_spelt denotes words ts x) (flip p)))

  leaf_spells : (n : NodeOf ℕ) → is_leaf n ≡ true → spellings words (node_tree denotes n) ≡ []
  leaf_spells Star e = refl
  leaf_spells Kind e = refl
  leaf_spells (Var k) e = refl
  leaf_spells (Rvar k) e = refl
  leaf_spells (Sym k) e = cc
  leaf_spells (App f a) e = cc
  leaf_spells (Abs o b) e = cc
  leaf_spells (Prod a b) e = cc

  pub part_leaf : (found : List Spelling) (t : ℕ) (n : NodeOf ℕ) (old : List ℕ) → denotes t ≡ node_tree denotes n → is_leaf n ≡ true → Finds denotes words found t old found old
  part_leaf found t n old s e x = ap (λ ss. has found x || (has ss x || some_spelt denotes words old x)) (ap (spellings words) s ∙ leaf_spells n e)

  pub part_symbol : (found more : List Spelling) (t k : ℕ) (n : NodeOf ℕ) (spelling : Spelling) (old : List ℕ) → denotes t ≡ node_tree denotes n → n ≡ Sym k → spelling ≡ (words k).spelling
      → ((x : Spelling) → has more x ≡ (same_spelling x spelling || has found x)) → Finds denotes words found t old more old
  part_symbol found more t k n spelling old s e w m x =
      ap (λ u. has found x || (has (spellings words u) x || some_spelt denotes words old x)) (s ∙ ap (node_tree denotes) e)
      ∙ (ap (λ y. has found x || ((same_spelling x y || false) || some_spelt denotes words old x)) (flip w)
      ∙ (ap (λ b. has found x || (b || some_spelt denotes words old x)) (or_false (same_spelling x spelling))
      ∙ (or_turned (has found x) (same_spelling x spelling) (some_spelt denotes words old x)
      ∙ (flip (or_grouped (same_spelling x spelling) (has found x) (some_spelt denotes words old x)) ∙ ap (λ b. b || some_spelt denotes words old x) (flip (m x))))))

module _ (denotes : ℕ → Tree) where
  pub sizes_pushed : (ts : List ℕ) (t : ℕ) → sizes denotes (ts ++ t ∷ []) ≡ sizes denotes ts + size (denotes t)
  sizes_pushed [] t = omega arith
  sizes_pushed (u ∷ ts) t = let e = sizes_pushed ts t in omega arith

  -- both parts are smaller together than what they are parts of
  two_less : (t a b : ℕ) (n : NodeOf ℕ) (old new : List ℕ) → denotes t ≡ node_tree denotes n → size (denotes a) + size (denotes b) < size (node_tree denotes n) → new ≡ (old ++ b ∷ []) ++ a ∷ [] → sizes denotes new < sizes denotes old + size (denotes t)
  two_less t a b n old new s h p =
      let e : sizes denotes new ≡ sizes denotes ((old ++ b ∷ []) ++ a ∷ []) = ap (sizes denotes) p in
      let f = sizes_pushed (old ++ b ∷ []) a in
      let g = sizes_pushed old b in
      let i : size (denotes t) ≡ size (node_tree denotes n) = ap size s in
      omega arith

  parts_size : (n : NodeOf ℕ) (a b : ℕ) (m : NodeOf ℕ) → n ≡ m → size (node_tree denotes m) ≡ size (denotes a) + size (denotes b) + 1 → size (denotes a) + size (denotes b) < size (node_tree denotes n)
  parts_size n a b m e h = let i : size (node_tree denotes n) ≡ size (node_tree denotes m) = ap (λ k. size (node_tree denotes k)) e in omega arith

  pub less_apply : (t a b : ℕ) (n : NodeOf ℕ) (old new : List ℕ) → denotes t ≡ node_tree denotes n → n ≡ App a b → new ≡ (old ++ b ∷ []) ++ a ∷ [] → sizes denotes new < sizes denotes old + size (denotes t)
  less_apply t a b n old new s e p = two_less t a b n old new s (parts_size n a b (App a b) e refl) p

  pub less_product : (t a b : ℕ) (n : NodeOf ℕ) (old new : List ℕ) → denotes t ≡ node_tree denotes n → n ≡ Prod a b → new ≡ (old ++ b ∷ []) ++ a ∷ [] → sizes denotes new < sizes denotes old + size (denotes t)
  less_product t a b n old new s e p = two_less t a b n old new s (parts_size n a b (Prod a b) e refl) p

  pub less_annotated : (t a b : ℕ) (o : Option ℕ) (n : NodeOf ℕ) (old new : List ℕ) → denotes t ≡ node_tree denotes n → n ≡ Abs o b → o ≡ Some a → new ≡ (old ++ b ∷ []) ++ a ∷ [] → sizes denotes new < sizes denotes old + size (denotes t)
  less_annotated t a b o n old new s e q p = two_less t a b n old new s (parts_size n a b (Abs (Some a) b) (e ∙ ap (λ x. Abs x b) q) refl) p

  pub less_one : (t b : ℕ) (o : Option ℕ) (n : NodeOf ℕ) (old new : List ℕ) → denotes t ≡ node_tree denotes n → n ≡ Abs o b → o ≡ None → new ≡ old ++ b ∷ [] → sizes denotes new < sizes denotes old + size (denotes t)
  less_one t b o n old new s e q p =
      let f : sizes denotes new ≡ sizes denotes (old ++ b ∷ []) = ap (sizes denotes) p in
      let g = sizes_pushed old b in
      let i : size (denotes t) ≡ size (denotes b) + 1 = ap size (s ∙ (ap (node_tree denotes) e ∙ ap (λ x. node_tree denotes (Abs x b)) q)) in
      omega arith

  pub less_none : (t : ℕ) (old : List ℕ) → sizes denotes old < sizes denotes old + size (denotes t)
  less_none t old = let i = size_some (denotes t) in omega arith
