-- Trusted: a term as it is written: a name for each binder, and the words of the symbols (docs/printing.md).
use Rattle.std.specs.Prelude.{ℕ, zero, suc, ◌+◌, ◌-◌, max, Bool, false, ◌||◌, eqb, Option, Some, None, List, [], ◌∷◌, ◌++◌, length, codes, if◌then◌else◌}
use Rattle.std.specs.Fmt.{decimal}
use Rattle.dk_model.specs.PlainTerms.{Tree, star, kind, symbol, variable, rule_variable, apply, bare, annotated, product}
use Rattle.dk_terms.specs.Written.{Written, written_name, written_qualified, written_star, written_wild, written_apply, written_arrow, written_product, written_bare, written_annotated}
use Rattle.scope_terms.specs.Scopes.{Spelling, same_spelling}

-- the word of a symbol: the module that it is qualified with, if any, and its spelling
pub record Word : Type 0 where
  pub module_name : Option Spelling
  pub spelling : Spelling

-- ---- names of binders

-- one of the spellings is this one
abbrev pub has : List Spelling → Spelling → Bool
has [] x = false
has (s ∷ ss) x = same_spelling x s || has ss x

abbrev pub longest : List Spelling → ℕ
longest [] = 0
longest (s ∷ ss) = max (length s) (longest ss)

-- as few `'` behind the name as make it none of these; the first argument bounds their number
abbrev pub unused : ℕ → List Spelling → Spelling → Spelling
unused zero used x = x
unused (suc n) used x = if has used x then unused n used (x ++ 39 ∷ []) else x

-- the name of a binder that stands in the scope of so many others, as `x3`. A name longer than the longest is none of
-- these, so the bound is never met
unfoldable pub binder_name : List Spelling → ℕ → Spelling
binder_name used d = unused (longest used) used (120 ∷ decimal d)

-- ---- terms

-- whether the term mentions variable k
abbrev pub mentions : ℕ → Tree → Bool
mentions k (variable j) = eqb k j
mentions k (apply f a) = mentions k f || mentions k a
mentions k (bare b) = mentions (k + 1) b
mentions k (annotated n b) = mentions k n || mentions (k + 1) b
mentions k (product a b) = mentions k a || mentions (k + 1) b
mentions k t = false

abbrev pub written_word : Word → Written
written_word w = elim w.module_name [ None ↦ written_name w.spelling | Some m ↦ written_qualified m w.spelling ]

module _ (words : ℕ → Word) where
  -- the spellings of the symbols of a term, without their modules
  abbrev pub spellings : Tree → List Spelling
  spellings (symbol k) = (words k).spelling ∷ []
  spellings (apply f a) = spellings f ++ spellings a
  spellings (bare b) = spellings b
  spellings (annotated n b) = spellings n ++ spellings b
  spellings (product a b) = spellings a ++ spellings b
  spellings t = []

  module _ (used : List Spelling) where
    -- a term in the scope of `d` binders; an arrow binds too, a variable that nobody can mention
    abbrev pub written_at : ℕ → Tree → Written
    written_at d star = written_star
    written_at d kind = written_name (codes "Kind")
    written_at d (symbol k) = written_word (words k)
    written_at d (variable k) = written_name (binder_name used (d - (k + 1)))
    written_at d (rule_variable k) = written_wild
    written_at d (apply f a) = written_apply (written_at d f) (written_at d a)
    written_at d (bare b) = written_bare (Some (binder_name used d)) (written_at (d + 1) b)
    written_at d (annotated n b) = written_annotated (Some (binder_name used d)) (written_at d n) (written_at (d + 1) b)
    written_at d (product a b) = if mentions 0 b then written_product (Some (binder_name used d)) (written_at d a) (written_at (d + 1) b)
        else written_arrow (written_at d a) (written_at (d + 1) b)

  -- a closed term as it is printed: no binder is spelt as one of its symbols
  abbrev pub written_term : Tree → Written
  written_term t = written_at (spellings t) 0 t
