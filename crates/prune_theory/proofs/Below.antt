-- A command mentions only symbols that were declared before it.
use Rattle.std.proofs.Common.{List, [], ◌∷◌, ◌++◌, length, slice_get, slice_index_or, Contains, ℕ, zero, suc, ◌≡◌, ◌<◌, ◌≤◌, ◌+◌, Bool, true, false, is_some, Option, Some, None, refl, ap, sym, subst, ◌∙◌, true≢false, option_map, arith, if◌then◌else◌}
use Rattle.std.specs.Option.{option_map_or}
use Rattle.std.specs.Cmp.Lexicographic.{bytes_decides}
use Rattle.dk_model.specs.PlainTerms.{Tree, apply, bare, annotated, product}
use Rattle.dk_model.specs.PlainCommands.{PlainLeft, left_guard, left_abstraction, left_apply, PlainAsked, typed, alike, type_of, value_of, PlainCommand, rule_command, query}
use Rattle.dk_model.specs.declared.code.Code.TheVariants.{E11}
use Rattle.dk_parser.specs.Written.{Written, written_name, written_qualified, written_star, written_wild, written_apply, written_arrow, written_product, written_bare, written_annotated, WrittenPattern, pattern_name, pattern_qualified, pattern_wild, pattern_guard, pattern_apply, pattern_bare, WrittenParam, WrittenNote, WrittenRule, WrittenAsked, asked_typed, asked_alike, asked_type, asked_value, WrittenForm, written_declare, written_rules, written_query, written_module, written_require}
use Rattle.std.specs.Map.{lookup}
use Rattle.scope_terms.specs.Scopes.{Spelling, Module, Symbols, no_symbols, numbers_in, own_of, same_module, with_symbol, with_number, Binder, Numbered, no_names, number_of, with_name, names_after, same_spelling, Scoping, scoped, both, binds, number_from, means_variable, means_rule_variable, means_symbol, unknown, meant_term, meant_left, term_of, maybe_term_of, left_of, Declaration, with_parameter, declaration_of, notes_of, variables_of, rule_of, rules_of, asked_of, scope_of}
use Rattle.scope_terms.proofs.Numbers.{number_of-added, number_of-others}
use Rattle.prune_theory.specs.Mentions.{term_symbols, maybe_symbols, notes_symbols, left_symbols, rule_symbols, rules_symbols, asked_symbols, symbols_of, MentionBefore, Rests, itself, by_mention, by_head}
use Rattle.prune_theory.specs.Folds.{Stated, Declared, nothing_declared, AreAccepted, accepts_none, accepts_more}
use Rattle.prune_theory.proofs.Names.{declares_new, same_is, count_after}
use Rattle.prune_theory.proofs.Whole.{Holds, not_held, held, both_holds, one_holds, if_holds, held_at}

-- each is below the number
abbrev pub AreBelow : ℕ → List ℕ → Type 0
AreBelow n [] = Unit {0}
AreBelow n (k ∷ ks) = (k < n) × AreBelow n ks

pub below_append : (n : ℕ) (xs ys : List ℕ) → AreBelow n xs → AreBelow n ys → AreBelow n (xs ++ ys)
below_append n [] ys p q = q
below_append n (x ∷ xs) ys p q = (p.0, below_append n xs ys p.1 q)

below_index : (n : ℕ) (xs : List ℕ) (j i : ℕ) → AreBelow n xs → i < length xs → slice_index_or xs i j ≡ j → j < n
below_index n [] j i h l e = absurd (omega arith)
below_index n (x ∷ xs) j zero h l e = subst (λ z. z < n) e h.0
below_index n (x ∷ xs) j (suc i) h l e = below_index n xs j i h.1 (omega arith) e

pub below_at : (n : ℕ) (xs : List ℕ) (j : ℕ) → AreBelow n xs → Contains xs j → j < n
below_at n xs j h m = below_index n xs j m.0 h m.1 m.2

-- names have numbers below their count
abbrev pub IsNumbered : Numbered → Type 0
IsNumbered N = (x : Spelling) (k : ℕ) → number_of N x ≡ Some k → k < N.count

-- those of each module
abbrev pub AreNumbered : Symbols → Type 0
AreNumbered A = (m : Module) → IsNumbered (own_of A m)

name_numbered : (N : Numbered) → IsNumbered N → (x : Spelling) → number_of N x ≡ None → IsNumbered (with_name N x)
name_numbered N numbered x none y k e = by (same_spelling y x) refl
  where
    some_is : (a b : ℕ) → Some a ≡ Some b → a ≡ b
    some_is a b e = cc

    by : (b : Bool) → same_spelling y x ≡ b → k < N.count + 1
    by true s = let q : N.count ≡ k = some_is _ _ (sym (subst (λ z. number_of (with_name N x) z ≡ Some N.count) (sym ((bytes_decides y x).0 s)) (number_of-added N x none)) ∙ e) in omega arith
    by false s = let q : k < N.count = numbered y k (sym (number_of-others N x y (λ r. true≢false (sym ((bytes_decides y x).1 r) ∙ s))) ∙ e) in omega arith

module _ (A : Symbols) (numbered : AreNumbered A) (m : Module) where
  abbrev Below : Tree → Type 0
  Below t = AreBelow A.count (term_symbols t)

  abbrev MaybeBelow : Option Tree → Type 0
  MaybeBelow o = AreBelow A.count (maybe_symbols o)

  abbrev LeftBelow : PlainLeft → Type 0
  LeftBelow l = AreBelow A.count (left_symbols l)

  meant_below : (o v n : Option ℕ) → ((k : ℕ) → n ≡ Some k → k < A.count) → Holds Below (meant_term (option_map_or means_variable o (option_map_or means_rule_variable v (option_map_or means_symbol n unknown))))
  meant_below (Some k) v n h = held tt
  meant_below None (Some k) n h = held tt
  meant_below None None None h = not_held
  meant_below None None (Some k) h = held (h k refl, tt)

  meant_left_below : (o v n : Option ℕ) → ((k : ℕ) → n ≡ Some k → k < A.count) → Holds LeftBelow (meant_left (option_map_or means_variable o (option_map_or means_rule_variable v (option_map_or means_symbol n unknown))))
  meant_left_below (Some k) v n h = held tt
  meant_left_below None (Some k) n h = held tt
  meant_left_below None None None h = not_held
  meant_left_below None None (Some k) h = held (h k refl, tt)

  two : (f : Tree → Tree → Tree) → ((a b : Tree) → term_symbols a ++ term_symbols b ≡ term_symbols (f a b)) → {x y : Scoping Tree} → Holds Below x → Holds Below y → Holds Below (both f x y)
  two f e p q = both_holds Below Below Below f p q (λ a b h k. subst (AreBelow A.count) (e a b) (below_append A.count (term_symbols a) (term_symbols b) h k))

  term_below : (vars : Numbered) (bound : List Binder) (t : Written) → Holds Below (term_of A (own_of A m) vars bound t)
  term_below vars bound (written_name x) = meant_below (number_from 0 (binds x) bound) (number_of vars x) (number_of (own_of A m) x) (numbered m x)
  term_below vars bound (written_qualified p x) = meant_below None None (lookup (same_spelling x) (numbers_in A (Some p))) (numbered (Some p) x)
  term_below vars bound written_star = held tt
  term_below vars bound written_wild = not_held
  term_below vars bound (written_apply f a) = two apply (λ a b. refl) (term_below vars bound f) (term_below vars bound a)
  term_below vars bound (written_arrow a b) = two product (λ a b. refl) (term_below vars bound a) (term_below vars (None ∷ bound) b)
  term_below vars bound (written_product x a b) = two product (λ a b. refl) (term_below vars bound a) (term_below vars (x ∷ bound) b)
  term_below vars bound (written_bare x b) = one_holds Below Below bare (term_below vars (x ∷ bound) b) (λ a h. h)
  term_below vars bound (written_annotated x a b) = two annotated (λ a b. refl) (term_below vars bound a) (term_below vars (x ∷ bound) b)

  maybe_below : (vars : Numbered) (bound : List Binder) (o : Option Written) → Holds MaybeBelow (maybe_term_of A (own_of A m) vars bound o)
  maybe_below vars bound None = held tt
  maybe_below vars bound (Some t) = one_holds Below MaybeBelow Some (term_below vars bound t) (λ a h. h)

  left_below : (vars : Numbered) (bound : List Binder) (p : WrittenPattern) → Holds LeftBelow (left_of A (own_of A m) vars bound p)
  left_below vars bound (pattern_name x) = meant_left_below (number_from 0 (binds x) bound) (number_of vars x) (number_of (own_of A m) x) (numbered m x)
  left_below vars bound (pattern_qualified p x) = meant_left_below None None (lookup (same_spelling x) (numbers_in A (Some p))) (numbered (Some p) x)
  left_below vars bound pattern_wild = held tt
  left_below vars bound (pattern_guard t) = one_holds Below LeftBelow left_guard (term_below vars [] t) (λ a h. h)
  left_below vars bound (pattern_apply f a) = both_holds LeftBelow LeftBelow LeftBelow left_apply (left_below vars bound f) (left_below vars bound a) (λ l m h k. below_append A.count (left_symbols l) (left_symbols m) h k)
  left_below vars bound (pattern_bare x p) = one_holds LeftBelow LeftBelow left_abstraction (left_below vars (x ∷ bound) p) (λ a h. h)

  abbrev DeclarationBelow : Declaration → Type 0
  DeclarationBelow d = MaybeBelow d.typ × MaybeBelow d.body

  mapped_below : (f : Tree → Tree → Tree) (a : Tree) (o : Option Tree) → ((b : Tree) → term_symbols a ++ term_symbols b ≡ term_symbols (f a b)) → Below a → MaybeBelow o → MaybeBelow (option_map (f a) o)
  mapped_below f a None e p q = tt
  mapped_below f a (Some b) e p q = subst (AreBelow A.count) (e b) (below_append A.count (term_symbols a) (term_symbols b) p q)

  declaration_below : (bound : List Binder) (ps : List WrittenParam) (typ body : Option Written) → Holds DeclarationBelow (declaration_of A (own_of A m) bound ps typ body)
  declaration_below bound [] typ body = both_holds MaybeBelow MaybeBelow DeclarationBelow _ (maybe_below no_names bound typ) (maybe_below no_names bound body) (λ a b p q. (p, q))
  declaration_below bound (p ∷ ps) typ body = both_holds Below DeclarationBelow DeclarationBelow with_parameter (term_below no_names bound p.typ) (declaration_below (p.binder ∷ bound) ps typ body)
      (λ a d h k. (mapped_below product a d.typ (λ b. refl) h k.0, mapped_below annotated a d.body (λ b. refl) h k.1))

  notes_below : (before : Numbered) (es : List WrittenNote) → Holds (λ ns. AreBelow A.count (notes_symbols ns)) (notes_of A (own_of A m) before es)
  notes_below before [] = held tt
  notes_below before (e ∷ es) = if_holds (λ ns. AreBelow A.count (notes_symbols ns)) (is_some (number_of before e.name)) _
      (both_holds MaybeBelow (λ ns. AreBelow A.count (notes_symbols ns)) (λ ns. AreBelow A.count (notes_symbols ns)) _ (maybe_below before [] e.note) (notes_below (with_name before e.name) es)
      (λ n ns h k. below_append A.count (maybe_symbols n) (notes_symbols ns) h k))

  rule_below : (r : WrittenRule) → Holds (λ s. AreBelow A.count (rule_symbols s)) (rule_of A (own_of A m) r)
  rule_below r = both_holds (λ ns. AreBelow A.count (notes_symbols ns)) (λ p. AreBelow A.count (left_symbols p.0 ++ term_symbols p.1)) (λ s. AreBelow A.count (rule_symbols s)) _ (notes_below no_names r.context)
      (both_holds LeftBelow Below (λ p. AreBelow A.count (left_symbols p.0 ++ term_symbols p.1)) _ (left_below (variables_of no_names r.context) [] r.left) (term_below (variables_of no_names r.context) [] r.right)
      (λ l t h k. below_append A.count (left_symbols l) (term_symbols t) h k)) (λ ns p h k. below_append A.count (notes_symbols ns) (left_symbols p.0 ++ term_symbols p.1) h k)

  rules_below : (rs : List WrittenRule) → Holds (λ ss. AreBelow A.count (rules_symbols ss)) (rules_of A (own_of A m) rs)
  rules_below [] = held tt
  rules_below (r ∷ rs) = both_holds (λ s. AreBelow A.count (rule_symbols s)) (λ ss. AreBelow A.count (rules_symbols ss)) (λ ss. AreBelow A.count (rules_symbols ss)) _ (rule_below r) (rules_below rs)
      (λ s ss h k. below_append A.count (rule_symbols s) (rules_symbols ss) h k)

  asked_below : (a : WrittenAsked) → Holds (λ b. AreBelow A.count (asked_symbols b)) (asked_of A (own_of A m) a)
  asked_below (asked_typed t a) = both_holds Below Below (λ b. AreBelow A.count (asked_symbols b)) typed (term_below no_names [] t) (term_below no_names [] a)
      (λ t a h k. below_append A.count (term_symbols t) (term_symbols a) h k)
  asked_below (asked_alike t u) = both_holds Below Below (λ b. AreBelow A.count (asked_symbols b)) alike (term_below no_names [] t) (term_below no_names [] u)
      (λ t a h k. below_append A.count (term_symbols t) (term_symbols a) h k)
  asked_below (asked_type t) = one_holds Below (λ b. AreBelow A.count (asked_symbols b)) type_of (term_below no_names [] t) (λ a h. h)
  asked_below (asked_value t) = one_holds Below (λ b. AreBelow A.count (asked_symbols b)) value_of (term_below no_names [] t) (λ a h. h)

  command_below : (f : WrittenForm) → Holds (λ c. AreBelow A.count (symbols_of c)) (scope_of A m f)
  command_below (written_declare s x ps typ body) = if_holds (λ c. AreBelow A.count (symbols_of c)) _ E11
      (one_holds DeclarationBelow (λ c. AreBelow A.count (symbols_of c)) _ (declaration_below [] ps typ body) (λ d h. below_append A.count (maybe_symbols d.typ) (maybe_symbols d.body) h.0 h.1))
  command_below (written_query d a) = one_holds (λ b. AreBelow A.count (asked_symbols b)) (λ c. AreBelow A.count (symbols_of c)) (query d) (asked_below a) (λ b h. h)
  command_below (written_module n) = not_held
  command_below (written_require n) = not_held
  command_below (written_rules rs) = one_holds (λ ss. AreBelow A.count (rules_symbols ss)) (λ c. AreBelow A.count (symbols_of c)) rule_command (rules_below rs) (λ a h. h)

  pub scoped_below : (f : WrittenForm) (c : PlainCommand) → scope_of A m f ≡ scoped c → AreBelow A.count (symbols_of c)
  scoped_below f c e = held_at (λ c. AreBelow A.count (symbols_of c)) c (command_below f) e

  symbol_numbered : (x : Spelling) → number_of (own_of A m) x ≡ None → AreNumbered (with_symbol A m x)
  symbol_numbered x none n y k e = by (same_module m n) refl e
    where
      by : (b : Bool) → same_module m n ≡ b → lookup (same_spelling y) (if b then numbers_in A n ++ (x, A.count) ∷ [] else numbers_in A n) ≡ Some k → k < A.count + 1
      by true s e = name_numbered (own_of A n) (numbered n) x (subst (λ z. number_of (own_of A z) x ≡ None) (same_is m n s) none) y k e
      by false s e = let l : k < A.count = numbered n y k e in omega arith

  counted : AreNumbered (with_number A)
  counted n x k q = let l : k < A.count = numbered n x k q in omega arith

  pub names_numbered : (f : WrittenForm) (c : PlainCommand) → scope_of A m f ≡ scoped c → AreNumbered (names_after A m f)
  names_numbered (written_declare s x ps typ body) c e = symbol_numbered x (declares_new (number_of (own_of A m) x) E11 _ c e)
  names_numbered (written_rules rs) c e = counted
  names_numbered (written_query d a) c e = counted
  names_numbered (written_module n) c e = counted
  names_numbered (written_require n) c e = counted

-- in a list of accepted commands each mentions only what stands before it
pub mentions_before : {budget : ℕ} (n : ℕ) {T U : Declared} {fs : List Stated} {cs : List PlainCommand} {ns : List ℕ} → AreAccepted budget T fs cs ns U → AreNumbered T.names → T.names.count ≡ n
    → (i j : ℕ) (c : PlainCommand) → slice_get cs i ≡ Some c → Contains (symbols_of c) j → j < n + i
mentions_before n accepts_none h e i j c g m = absurd cc
mentions_before n (accepts_more {T} {f} {c} q a rest) h e zero j d g m = subst (λ z. j < z) (e ∙ (let r : n ≡ n + 0 = omega arith in r)) (below_at T.names.count (symbols_of c) j (scoped_below T.names h f.place f.form c q) (subst (λ z. Contains (symbols_of z) j) (let r : d ≡ c = cc in r) m))
mentions_before n (accepts_more {T} {f} {c} q a rest) h e (suc i) j d g m = subst (λ z. j < z) (let r : suc n + i ≡ n + suc i = omega arith in r)
    (mentions_before (suc n) rest (names_numbered T.names h f.place f.form c q) (count_after T.names f.place f.form ∙ ap suc e) i j d g m)

no_names_numbered : AreNumbered no_symbols
no_names_numbered m x k e = absurd cc

-- each accepted one
pub accepted_before : {budget : ℕ} {U : Declared} {fs : List Stated} {cs : List PlainCommand} {ns : List ℕ} → AreAccepted budget nothing_declared fs cs ns U → MentionBefore cs
accepted_before a i j c g m = let q : j < 0 + i = mentions_before 0 a no_names_numbered refl i j c g m in omega arith

-- so a command rests on none behind it
pub rests_before : {budget : ℕ} {U : Declared} {fs : List Stated} {cs : List PlainCommand} {ns : List ℕ} → AreAccepted budget nothing_declared fs cs ns U → (k : ℕ) {i : ℕ} → Rests cs k i → i ≤ k
rests_before a k itself = omega arith
rests_before {cs} a k (by_mention {i} {j} c r g m) = let p : i ≤ k = rests_before a k r in let q : j < i = accepted_before a i j c g m in omega arith
rests_before a k (by_head c r l g m) = omega arith
