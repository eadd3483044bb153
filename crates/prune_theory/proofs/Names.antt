-- Names behind one more command, and those of them that are left.
use Rattle.std.proofs.Common.{List, [], ◌∷◌, ◌++◌, ℕ, zero, suc, ◌≡◌, ◌≢◌, ◌+◌, Bool, true, false, is_some, Option, Some, None, refl, ap, sym, subst, ◌∙◌, true≢false, arith, if◌then◌else◌}
use Rattle.std.specs.Cmp.Lexicographic.{bytes_decides}
use Rattle.std.specs.Map.{lookup}
use Rattle.dk_parser.specs.Written.{WrittenForm, written_declare, written_rules, written_query, written_module, written_require}
use Rattle.dk_model.specs.PlainCommands.{PlainCommand}
use Rattle.dk_model.specs.declared.code.Code.{Code}
use Rattle.dk_model.specs.declared.code.Code.TheVariants.{E11}
use Rattle.scope_terms.specs.Scopes.{Spelling, Module, Symbols, Numbered, same_spelling, same_module, number_of, numbers_in, own_of, with_name, with_symbol, names_after, Scoping, scoped, refused, scope_of}
use Rattle.scope_terms.proofs.Numbers.{number_of-added, number_of-others}
use Rattle.prune_theory.specs.Renumbering.{kept_from, rank}
use Rattle.prune_theory.proofs.Scoping.{NumberCut, known_to_none, known_and_kept, known_and_left, NamesCut, SymbolsCut}

is_scoped : {A : Type 0} → Scoping A → Bool
is_scoped (scoped a) = true
is_scoped (refused c) = false

-- the declared name of a command that is scoped is new
pub declares_new : {A : Type 0} (o : Option ℕ) (code : Code) (x : Scoping A) (a : A) → (if is_some o then refused code else x) ≡ scoped a → o ≡ None
declares_new None code x a e = refl
declares_new (Some k) code x a e = absurd (differ e)
  where
    differ : refused code ≡ scoped a → ⊥
    differ e = cc

pub same_is : (m n : Module) → same_module m n ≡ true → m ≡ n
same_is None None e = refl
same_is (Some x) (Some y) e = ap (λ z. Some z) ((bytes_decides x y).0 e)
same_is None (Some y) e = absurd (true≢false (sym e))
same_is (Some x) None e = absurd (true≢false (sym e))

pub count_after : (A : Symbols) (m : Module) (f : WrittenForm) → (names_after A m f).count ≡ suc A.count
count_after A m (written_declare s x ps typ body) = omega arith
count_after A m (written_rules rs) = omega arith
count_after A m (written_query d a) = omega arith
count_after A m (written_module n) = omega arith
count_after A m (written_require n) = omega arith

module _ (keep : ℕ → Bool) where
  still_none : {o p : Option ℕ} → NumberCut keep o p → o ≡ None → p ≡ None
  still_none known_to_none e = refl
  still_none (known_and_kept k) e = absurd cc
  still_none (known_and_left k) e = refl

  one_way : (N : Numbered) (x y : Spelling) {C : Type 0} → (y ≡ x → C) → (y ≢ x → C) → C
  one_way N x y {C} f g = by (same_spelling y x) refl
    where
      by : (b : Bool) → same_spelling y x ≡ b → C
      by true e = f ((bytes_decides y x).0 e)
      by false e = g (λ q. true≢false (sym ((bytes_decides y x).1 q) ∙ e))

  added : (N : Numbered) (x y : Spelling) → number_of N x ≡ None → y ≡ x → number_of (with_name N x) y ≡ Some N.count
  added N x y e q = subst (λ z. number_of (with_name N x) z ≡ Some N.count) (sym q) (number_of-added N x e)

  moved : {a b c d : Option ℕ} → a ≡ b → c ≡ d → NumberCut keep b d → NumberCut keep a c
  moved {b} {c} e f h = subst (λ z. NumberCut keep z c) (sym e) (subst (λ z. NumberCut keep b z) (sym f) h)

  name_kept : (N M : Numbered) (x : Spelling) → NamesCut keep N M → number_of N x ≡ None → keep N.count ≡ true → M.count ≡ rank keep N.count → NamesCut keep (with_name N x) (with_name M x)
  name_kept N M x names e k r y = one_way N x y
      (λ q. moved (added N x y e q) (added M x y (still_none (names x) e) q ∙ ap (λ c. Some c) r) (known_and_kept k))
      (λ q. moved (number_of-others N x y q) (number_of-others M x y q) (names y))

  name_left : (N M : Numbered) (x : Spelling) → NamesCut keep N M → number_of N x ≡ None → keep N.count ≡ false → NamesCut keep (with_name N x) M
  name_left N M x names e k y = one_way N x y
      (λ q. moved (added N x y e q) (subst (λ z. number_of M z ≡ None) (sym q) (still_none (names x) e)) (known_and_left k))
      (λ q. moved (number_of-others N x y q) refl (names y))

  -- ---- modules

  symbol_kept : (A B : Symbols) (m : Module) (x : Spelling) → SymbolsCut keep A B → number_of (own_of A m) x ≡ None → keep A.count ≡ true → B.count ≡ rank keep A.count → SymbolsCut keep (with_symbol A m x) (with_symbol B m x)
  symbol_kept A B m x symbols e k r n y = by (same_module m n) refl
    where
      by : (b : Bool) → same_module m n ≡ b
          → NumberCut keep (lookup (same_spelling y) (if b then numbers_in A n ++ (x, A.count) ∷ [] else numbers_in A n)) (lookup (same_spelling y) (if b then numbers_in B n ++ (x, B.count) ∷ [] else numbers_in B n))
      by true s = name_kept (own_of A n) (own_of B n) x (symbols n) (subst (λ z. number_of (own_of A z) x ≡ None) (same_is m n s) e) k r y
      by false s = symbols n y

  symbol_left : (A B : Symbols) (m : Module) (x : Spelling) → SymbolsCut keep A B → number_of (own_of A m) x ≡ None → keep A.count ≡ false → SymbolsCut keep (with_symbol A m x) B
  symbol_left A B m x symbols e k n y = by (same_module m n) refl
    where
      by : (b : Bool) → same_module m n ≡ b → NumberCut keep (lookup (same_spelling y) (if b then numbers_in A n ++ (x, A.count) ∷ [] else numbers_in A n)) (lookup (same_spelling y) (numbers_in B n))
      by true s = name_left (own_of A n) (own_of B n) x (symbols n) (subst (λ z. number_of (own_of A z) x ≡ None) (same_is m n s) e) k y
      by false s = symbols n y

  pub names_kept : (A B : Symbols) (m : Module) (f : WrittenForm) (c : PlainCommand) → SymbolsCut keep A B → scope_of A m f ≡ scoped c → keep A.count ≡ true → B.count ≡ rank keep A.count
      → SymbolsCut keep (names_after A m f) (names_after B m f)
  names_kept A B m (written_declare s x ps typ body) c symbols e k r = symbol_kept A B m x symbols (declares_new (number_of (own_of A m) x) E11 _ c e) k r
  names_kept A B m (written_rules rs) c symbols e k r = symbols
  names_kept A B m (written_query d a) c symbols e k r = symbols
  names_kept A B m (written_module n) c symbols e k r = symbols
  names_kept A B m (written_require n) c symbols e k r = symbols

  pub names_left : (A B : Symbols) (m : Module) (f : WrittenForm) (c : PlainCommand) → SymbolsCut keep A B → scope_of A m f ≡ scoped c → keep A.count ≡ false → SymbolsCut keep (names_after A m f) B
  names_left A B m (written_declare s x ps typ body) c symbols e k = symbol_left A B m x symbols (declares_new (number_of (own_of A m) x) E11 _ c e) k
  names_left A B m (written_rules rs) c symbols e k = symbols
  names_left A B m (written_query d a) c symbols e k = symbols
  names_left A B m (written_module n) c symbols e k = symbols
  names_left A B m (written_require n) c symbols e k = symbols

  -- ---- counts

  kept_last : (n i : ℕ) → kept_from keep n (suc i) ≡ (if keep (n + i) then suc (kept_from keep n i) else kept_from keep n i)
  kept_last n zero = let q : n ≡ n + 0 = omega arith in ap (λ m. if keep m then suc 0 else 0) q
  kept_last n (suc i) = by (keep n) refl (kept_last (suc n) i)
    where
      shifted : suc n + i ≡ n + suc i
      shifted = omega arith

      by : (b : Bool) → keep n ≡ b → kept_from keep (suc n) (suc i) ≡ (if keep (suc n + i) then suc (kept_from keep (suc n) i) else kept_from keep (suc n) i)
          → kept_from keep n (suc (suc i)) ≡ (if keep (n + suc i) then suc (kept_from keep n (suc i)) else kept_from keep n (suc i))
      by true e h = ap (λ b. if b then suc (kept_from keep (suc n) (suc i)) else kept_from keep (suc n) (suc i)) e ∙ ap suc h
          ∙ push (keep (suc n + i)) ∙ ap (λ m. if keep m then suc (suc (kept_from keep (suc n) i)) else suc (kept_from keep (suc n) i)) shifted
          ∙ ap (λ z. if keep (n + suc i) then suc z else z) (sym (ap (λ b. if b then suc (kept_from keep (suc n) i) else kept_from keep (suc n) i) e))
        where
          push : (b : Bool) → suc (if b then suc (kept_from keep (suc n) i) else kept_from keep (suc n) i) ≡ (if b then suc (suc (kept_from keep (suc n) i)) else suc (kept_from keep (suc n) i))
          push true = refl
          push false = refl
      by false e h = ap (λ b. if b then suc (kept_from keep (suc n) (suc i)) else kept_from keep (suc n) (suc i)) e ∙ h
          ∙ ap (λ m. if keep m then suc (kept_from keep (suc n) i) else kept_from keep (suc n) i) shifted
          ∙ ap (λ z. if keep (n + suc i) then suc z else z) (sym (ap (λ b. if b then suc (kept_from keep (suc n) i) else kept_from keep (suc n) i) e))

  pub rank_kept : (n : ℕ) → keep n ≡ true → rank keep (suc n) ≡ suc (rank keep n)
  rank_kept n e = kept_last 0 n ∙ ap (λ b. if b then suc (rank keep n) else rank keep n) (ap keep (let q : 0 + n ≡ n = omega arith in q) ∙ e)

  pub rank_left : (n : ℕ) → keep n ≡ false → rank keep (suc n) ≡ rank keep n
  rank_left n e = kept_last 0 n ∙ ap (λ b. if b then suc (rank keep n) else rank keep n) (ap keep (let q : 0 + n ≡ n = omega arith in q) ∙ e)
