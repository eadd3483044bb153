-- Trusted: the grammar of terms and patterns: which terminals spell which (Dedukti manual, syntax; docs/grammar.md).
use Rattle.std.specs.Prelude.{ℕ, List, [], ◌∷◌, ◌++◌, Option, Some, None}
use Rattle.dk_terms.specs.declared.terminal.Terminal.{Terminal}
use Rattle.dk_terms.specs.declared.terminal.Terminal.TheVariants as terminal
use Rattle.dk_terms.specs.Signs.{arrow, close_brace, close_bracket, colon, double_arrow, open_brace, open_bracket}
use Rattle.dk_terms.specs.Written.{Written, written_name, written_qualified, written_star, written_wild, written_apply, written_arrow, written_product, written_bare, written_annotated, WrittenPattern, pattern_name, pattern_qualified, pattern_wild, pattern_guard, pattern_apply, pattern_bare}

-- this terminal spells this binder: a name, or the wildcard, which is None
pub data SpellsBinder : Terminal → Option (List ℕ) → Type 0 where
  spells_binder : {n : List ℕ} → SpellsBinder (terminal.Name n) (Some n)
  spells_no_binder : SpellsBinder terminal.Wildcard None

mutual
  -- these terminals spell this atom: a name, `Type`, the wildcard, or a term in brackets
  pub data SpellsAtom : List Terminal → Written → Type 0 where
    spells_name : {n : List ℕ} → SpellsAtom (terminal.Name n ∷ []) (written_name n)
    spells_qualified : {m n : List ℕ} → SpellsAtom (terminal.Qualified m n ∷ []) (written_qualified m n)
    spells_star : SpellsAtom (terminal.Star ∷ []) written_star
    spells_wildcard : SpellsAtom (terminal.Wildcard ∷ []) written_wild
    spells_brackets : {xs : List Terminal} {a : Written} → SpellsTerm xs a → SpellsAtom (open_bracket ∷ (xs ++ close_bracket ∷ [])) a

  -- this application: an atom, and the arguments that it is applied to, from the left
  pub data SpellsApplication : List Terminal → Written → Type 0 where
    spells_head : {xs : List Terminal} {a : Written} → SpellsAtom xs a → SpellsApplication xs a
    spells_applied : {xs ys : List Terminal} {f a : Written} → SpellsApplication xs f → SpellsAtom ys a → SpellsApplication (xs ++ ys) (written_apply f a)

  -- this term: an application, `A -> B`, `x : A -> B`, `(x : A) -> B`, `x => t` or `x : A => t`
  pub data SpellsTerm : List Terminal → Written → Type 0 where
    spells_application : {xs : List Terminal} {a : Written} → SpellsApplication xs a → SpellsTerm xs a
    spells_arrow : {xs ys : List Terminal} {a b : Written} → SpellsApplication xs a → SpellsTerm ys b → SpellsTerm (xs ++ arrow ∷ ys) (written_arrow a b)
    spells_product : {x : Terminal} {v : Option (List ℕ)} {xs ys : List Terminal} {a b : Written} → SpellsBinder x v → SpellsApplication xs a → SpellsTerm ys b → SpellsTerm (x ∷ colon ∷ (xs ++ arrow ∷ ys)) (written_product v a b)
    spells_bracketed_product : {x : Terminal} {v : Option (List ℕ)} {xs ys : List Terminal} {a b : Written} → SpellsBinder x v → SpellsApplication xs a → SpellsTerm ys b → SpellsTerm (open_bracket ∷ x ∷ colon ∷ (xs ++ close_bracket ∷ arrow ∷ ys)) (written_product v a b)
    spells_bare : {x : Terminal} {v : Option (List ℕ)} {ys : List Terminal} {b : Written} → SpellsBinder x v → SpellsTerm ys b → SpellsTerm (x ∷ double_arrow ∷ ys) (written_bare v b)
    spells_annotated : {x : Terminal} {v : Option (List ℕ)} {xs ys : List Terminal} {a b : Written} → SpellsBinder x v → SpellsApplication xs a → SpellsTerm ys b → SpellsTerm (x ∷ colon ∷ (xs ++ double_arrow ∷ ys)) (written_annotated v a b)

mutual
  -- this atom of a pattern: a name, the wildcard, a guard `{t}`, or a pattern in brackets
  pub data SpellsPatternAtom : List Terminal → WrittenPattern → Type 0 where
    spells_pattern_name : {n : List ℕ} → SpellsPatternAtom (terminal.Name n ∷ []) (pattern_name n)
    spells_pattern_qualified : {m n : List ℕ} → SpellsPatternAtom (terminal.Qualified m n ∷ []) (pattern_qualified m n)
    spells_pattern_wildcard : SpellsPatternAtom (terminal.Wildcard ∷ []) pattern_wild
    spells_guard : {xs : List Terminal} {a : Written} → SpellsTerm xs a → SpellsPatternAtom (open_brace ∷ (xs ++ close_brace ∷ [])) (pattern_guard a)
    spells_pattern_brackets : {xs : List Terminal} {p : WrittenPattern} → SpellsPattern xs p → SpellsPatternAtom (open_bracket ∷ (xs ++ close_bracket ∷ [])) p

  -- this application of patterns, which the left side of a rule is too
  pub data SpellsPatternApplication : List Terminal → WrittenPattern → Type 0 where
    spells_pattern_head : {xs : List Terminal} {p : WrittenPattern} → SpellsPatternAtom xs p → SpellsPatternApplication xs p
    spells_pattern_applied : {xs ys : List Terminal} {f p : WrittenPattern} → SpellsPatternApplication xs f → SpellsPatternAtom ys p → SpellsPatternApplication (xs ++ ys) (pattern_apply f p)

  -- this pattern: an application, or `x => p`
  pub data SpellsPattern : List Terminal → WrittenPattern → Type 0 where
    spells_pattern_application : {xs : List Terminal} {p : WrittenPattern} → SpellsPatternApplication xs p → SpellsPattern xs p
    spells_pattern_bare : {x : Terminal} {v : Option (List ℕ)} {xs : List Terminal} {p : WrittenPattern} → SpellsBinder x v → SpellsPattern xs p → SpellsPattern (x ∷ double_arrow ∷ xs) (pattern_bare v p)
