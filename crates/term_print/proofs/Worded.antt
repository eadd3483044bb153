-- The words of symbols.
use Rattle.std.proofs.Common.{◌≡◌, sym as flip, subst as along_path, refl, ℕ, Bool, true, false, if◌then◌else◌}
use Rattle.std.specs.Prelude.{Option, None, Some, []}
use Rattle.std.specs.Option.{option_map_or}
use Rattle.std.specs.Map.{lookup}
use Rattle.dk_model.specs.PlainTerms.{Tree, star, kind, symbol, variable, rule_variable, apply, bare, annotated, product}
use Rattle.scope_terms.specs.Found.{AreFound}
use Rattle.scope_terms.specs.Scopes.{Module, Spelling, Symbols, numbers_in, same_module, same_spelling, spelling_of, with_number}
use Rattle.scope_terms.proofs.Found.{spelling_of-with_number}
use Rattle.scope_terms.proofs.Known.{same_is}
use Rattle.term_print.specs.Named.{Word}
use Rattle.term_print.specs.ReadBack.{CanBeNamed, CanBeRead, CanBeWritten, HasWord, IsDeclared, IsReadableBy}
use Rattle.term_print.specs.Words.{word_in, word_of}

abbrev no_word : Word
no_word = record { module_name = None; spelling = [] }

-- after a command that declares nothing they are the same
pub word_of-with_number : (symbols : Symbols) (m : Module) → word_of (with_number symbols) m ≡ word_of symbols m
word_of-with_number symbols m = λ i k. option_map_or (word_in m) (spelling_of-with_number symbols k i) no_word

-- ---- words are declared

pub readable_by : (P Q : ℕ → Type 0) → ((k : ℕ) → P k → Q k) → (t : Tree) → IsReadableBy P t → IsReadableBy Q t
readable_by P Q f star is = tt
readable_by P Q f kind is = absurd is
readable_by P Q f (symbol k) is = f k is
readable_by P Q f (variable k) is = tt
readable_by P Q f (rule_variable k) is = absurd is
readable_by P Q f (apply g a) is = (readable_by P Q f g is.0, readable_by P Q f a is.1)
readable_by P Q f (bare b) is = readable_by P Q f b is
readable_by P Q f (annotated n b) is = absurd is
readable_by P Q f (product a b) is = (readable_by P Q f a is.0, readable_by P Q f b is.1)

module _ (symbols : Symbols) (m : Module) (k : ℕ) where
  abbrev IsFoundIn : Spelling → Module → Type 0
  IsFoundIn x n = lookup (same_spelling x) (numbers_in symbols n) ≡ Some k

  -- qualified or not, the word is looked for where it was declared
  looked_for : (x : Spelling) (n : Module) (b : Bool) → same_module n m ≡ b → IsFoundIn x n → CanBeNamed m n
      → IsFoundIn x (elim (if b then None else n) [ None ↦ m | Some o ↦ Some o ])
  looked_for x n true same found can = along_path (IsFoundIn x) (same_is n m same) found
  looked_for x None false same found can = along_path (IsFoundIn x) (flip can) found
  looked_for x (Some o) false same found can = found

  word_declared : AreFound symbols → HasWord m (spelling_of symbols k) → IsDeclared symbols m k (word_of symbols m k)
  word_declared are = by (spelling_of symbols k) refl
    where
      by : (o : Option (Module × Spelling)) → spelling_of symbols k ≡ o → HasWord m o → IsDeclared symbols m k (option_map_or (word_in m) o no_word)
      by None is has = absurd has
      by (Some s) is has = looked_for s.1 s.0 (same_module s.0 m) refl (are.found k s.0 s.1 is) has

pub words_declared : (symbols : Symbols) (m : Module) (t : Tree) → AreFound symbols → CanBeWritten symbols m t → CanBeRead symbols m (word_of symbols m) t
words_declared symbols m t are can =
    readable_by (λ k. HasWord m (spelling_of symbols k)) (λ k. IsDeclared symbols m k (word_of symbols m k)) (λ k has. word_declared symbols m k are has) t can
