-- A name is found with the number that its command was given.
use Rattle.std.proofs.Common.{◌⊎◌, inl, inr, ◌≡◌, ◌∙◌, ap, sym, subst, refl, ℕ, zero, suc, ◌<◌, arith, Bool, true, false, if◌then◌else◌, is_some, List, [], ◌∷◌, ◌++◌, length, true≢false}
use Rattle.std.proofs.lemmas.List.{get_or_append_left, get_or_past, length-append}
use Rattle.std.proofs.lemmas.Bool.{cases_order}
use Rattle.std.proofs.Math.Seq.{get_or-append_seam}
use Rattle.std.specs.Prelude.{Option, None, Some, get_or}
use Rattle.std.specs.Map.{lookup}
use Rattle.dk_model.specs.Scoping.{PlainCommand}
use Rattle.dk_model.specs.declared.code.Code.TheVariants.{E11}
use Rattle.dk_parser.specs.Written.{WrittenForm, written_declare, written_rules, written_query, written_module, written_require}
use Rattle.scope_terms.specs.Scopes.{Module, Scoping, Spelling, Symbols, names_after, no_symbols, number_of, numbers_in, own_of, refused, same_module, same_spelling, scope_of, scoped, spelling_of, with_number, with_symbol}
use Rattle.scope_terms.specs.Found.{AreFound}
use Rattle.scope_terms.proofs.Known.{same_self}
use Rattle.scope_terms.proofs.Numbers.{number_of-added, number_of-kept}

abbrev Spelt : Type 0
Spelt = Option (Module × Spelling)

pub none_found : AreFound no_symbols
none_found = record { numbered = refl; found = λ k m x is. absurd (true≢false (ap is_some (sym is) ∙ ap is_some (get_or_past {X = Spelt} [] k None (omega arith)))) }

-- one more, at the end
module _ (spelt : List Spelt) (s : Spelt) (P : ℕ → Module → Spelling → Type 0)
    (before : (k : ℕ) (m : Module) (x : Spelling) → get_or spelt k None ≡ Some (m, x) → P k m x)
    (last : (m : Module) (x : Spelling) → s ≡ Some (m, x) → P (length spelt) m x) where
  abbrev all : List Spelt
  all = spelt ++ s ∷ []

  one_more : (k : ℕ) (m : Module) (x : Spelling) → get_or all k None ≡ Some (m, x) → P k m x
  one_more k m x is = by (cases_order k (length spelt))
    where
      by : (k ≡ length spelt) ⊎ ((k < length spelt) ⊎ (length spelt < k)) → P k m x
      by (inl e) = subst (λ n. P n m x) (sym e) (last m x (sym (get_or-append_seam spelt s [] None) ∙ ap (λ n. get_or all n None) (sym e) ∙ is))
      by (inr (inl lt)) = before k m x (sym (get_or_append_left spelt (s ∷ []) None k lt) ∙ is)
      by (inr (inr gt)) = let e = length-append spelt (s ∷ []) in absurd (true≢false (ap is_some (sym is) ∙ ap is_some (get_or_past all k None (omega arith))))

-- a number without a name
pub numbered_found : (symbols : Symbols) → AreFound symbols → AreFound (with_number symbols)
numbered_found symbols are = record {
  numbered = let e = length-append symbols.spelt (None ∷ []) in let f = are.numbered in omega arith;
  found = one_more symbols.spelt None (λ k m x. lookup (same_spelling x) (numbers_in symbols m) ≡ Some k) are.found
      (λ m x is. absurd (true≢false (ap is_some (sym is))));
}

module _ (symbols : Symbols) (m : Module) (x : Spelling) where
  abbrev new : Symbols
  new = with_symbol symbols m x

  abbrev names_if : Module → Bool → List (Spelling × ℕ)
  names_if n b = if b then numbers_in symbols n ++ (x, symbols.count) ∷ [] else numbers_in symbols n

  -- what was found is found still
  found_still : (n : Module) (y : Spelling) (k : ℕ) → lookup (same_spelling y) (numbers_in symbols n) ≡ Some k → lookup (same_spelling y) (numbers_in new n) ≡ Some k
  found_still n y k is = by (same_module m n)
    where
      by : (b : Bool) → lookup (same_spelling y) (names_if n b) ≡ Some k
      by true = number_of-kept (own_of symbols n) x y k is
      by false = is

  pub symbol_found : number_of (own_of symbols m) x ≡ None → AreFound symbols → AreFound new
  symbol_found absent are = record {
    numbered = let e = length-append symbols.spelt (Some (m, x) ∷ []) in let f = are.numbered in omega arith;
    found = one_more symbols.spelt (Some (m, x)) (λ k n y. lookup (same_spelling y) (numbers_in new n) ≡ Some k)
        (λ k n y is. found_still n y k (are.found k n y is))
        (λ n y is. last n y (some_same is));
  }
    where
      some_same : {A : Type 0} {a b : A} → Some a ≡ Some b → a ≡ b
      some_same is = cc

      here : lookup (same_spelling x) (numbers_in new m) ≡ Some (length symbols.spelt)
      here = ap (λ b. lookup (same_spelling x) (names_if m b)) (same_self m) ∙ number_of-added (own_of symbols m) x absent ∙ ap Some (sym are.numbered)

      last : (n : Module) (y : Spelling) → ◌≡◌ {A = Module × Spelling} (m, x) (n, y) → lookup (same_spelling y) (numbers_in new n) ≡ Some (length symbols.spelt)
      last n y same = subst (λ (s : Module × Spelling). lookup (same_spelling s.1) (numbers_in new s.0) ≡ Some (length symbols.spelt)) same here

-- a name that is declared already has a code
absent_of : {A : Type 0} (o : Option ℕ) (s : Scoping A) (a : A) → (if is_some o then refused E11 else s) ≡ scoped a → o ≡ None
absent_of None s a is = refl
absent_of (Some k) s a is = cc

pub names_found : (symbols : Symbols) (m : Module) (form : WrittenForm) (c : PlainCommand) → AreFound symbols → scope_of symbols m form ≡ scoped c → AreFound (names_after symbols m form)
names_found symbols m (written_declare sort x ps typ body) c are is = symbol_found symbols m x (absent_of (number_of (own_of symbols m) x) _ c is) are
names_found symbols m (written_rules rs) c are is = numbered_found symbols are
names_found symbols m (written_query demand asked) c are is = numbered_found symbols are
names_found symbols m (written_module n) c are is = numbered_found symbols are
names_found symbols m (written_require n) c are is = numbered_found symbols are

-- a number without a name leaves the others as they are
pub spelling_of-with_number : (symbols : Symbols) (k : ℕ) → spelling_of (with_number symbols) k ≡ spelling_of symbols k
spelling_of-with_number symbols k = by symbols.spelt k
  where
    by : (xs : List Spelt) (n : ℕ) → get_or (xs ++ None ∷ []) n None ≡ get_or xs n None
    by [] zero = refl
    by [] (suc n) = get_or_past {X = Spelt} (None ∷ []) (suc n) None (omega arith)
    by (x ∷ xs) zero = refl
    by (x ∷ xs) (suc n) = by xs n
