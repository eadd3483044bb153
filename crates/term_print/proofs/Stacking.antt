-- A stack of tasks.
use Rattle.std.proofs.Common.{List, [], ◌∷◌, ◌++◌, ℕ, ◌≡◌, ◌+◌, Bool, refl, ap, sym as flip, ◌∙◌, arith, append_assoc}
use Rattle.dk_lexer.specs.declared.token.Sign.TheVariants as sign
use Rattle.dk_model.specs.PlainTerms.{Tree}
use Rattle.dk_terms.specs.declared.terminal.Terminal.TheVariants as terminal
use Rattle.scope_terms.specs.Scopes.{Spelling}
use Rattle.term_print.specs.Named.{Word}
use Rattle.term_print.specs.Products.{named_last}
use Rattle.term_print.specs.declared.task.Subterm.{Subterm}
use Rattle.term_print.specs.declared.task.Task.{Task}
use Rattle.term_print.specs.declared.task.Task.TheVariants as task
use Rattle.term_print.specs.Tasks.{terminals, left_of, before, named_in, named_left, named_behind, weight, weights}

pub append_nothing : {A : Type 0} (xs : List A) → xs ++ [] ≡ xs
append_nothing [] = refl
append_nothing (x ∷ xs) = ap (λ ys. x ∷ ys) (append_nothing xs)

module _ (denotes : ℕ → Tree) (words : ℕ → Word) (used : List Spelling) where
  pub pushed : (ts : List Task) (t : Task) → left_of denotes words used (ts ++ t ∷ []) ≡ terminals denotes words used t ++ left_of denotes words used ts
  pushed [] t = flip (append_nothing (terminals denotes words used t))
  pushed (u ∷ ts) t = ap (λ xs. xs ++ terminals denotes words used u) (pushed ts t) ∙ append_assoc (terminals denotes words used t) (left_of denotes words used ts) (terminals denotes words used u)

  pub pushed_first : (old mid new rest : List Task) (t : Task) → left_of denotes words used mid ≡ before denotes words used rest ++ left_of denotes words used old → new ≡ mid ++ t ∷ []
      → left_of denotes words used new ≡ before denotes words used (t ∷ rest) ++ left_of denotes words used old
  pushed_first old mid new rest t e n = ap (left_of denotes words used) n ∙ (pushed mid t ∙ (ap (λ xs. terminals denotes words used t ++ xs) e
      ∙ flip (append_assoc (terminals denotes words used t) (before denotes words used rest) (left_of denotes words used old))))

  pub pushed_brackets : (old low mid new next : List Task) → low ≡ old ++ task.Close ∷ [] → left_of denotes words used mid ≡ before denotes words used next ++ left_of denotes words used low → new ≡ mid ++ task.Open ∷ []
      → left_of denotes words used new ≡ (terminal.Sign sign.OpenBracket ∷ (before denotes words used next ++ terminal.Sign sign.CloseBracket ∷ [])) ++ left_of denotes words used old
  pushed_brackets old low mid new next l m n =
      ap (left_of denotes words used) n ∙ (pushed mid task.Open ∙ (ap (λ xs. terminal.Sign sign.OpenBracket ∷ xs) (m ∙ (ap (λ xs. before denotes words used next ++ left_of denotes words used xs) l
      ∙ (ap (λ xs. before denotes words used next ++ xs) (pushed old task.Close)
      ∙ flip (append_assoc (before denotes words used next) (terminal.Sign sign.CloseBracket ∷ []) (left_of denotes words used old)))))))

module _ (denotes : ℕ → Tree) where
  pub weights_pushed : (ts : List Task) (t : Task) → weights denotes (ts ++ t ∷ []) ≡ weights denotes ts + weight denotes t
  weights_pushed [] t = omega arith
  weights_pushed (u ∷ ts) t = let e = weights_pushed ts t in omega arith

  -- ---- the products of a stack

  pub named_pushed : (ts : List Task) (t : Task) → named_left denotes (ts ++ t ∷ []) ≡ named_left denotes ts ++ named_in denotes t
  named_pushed [] t = append_nothing (named_in denotes t)
  named_pushed (u ∷ ts) t = ap (λ xs. named_in denotes u ++ xs) (named_pushed ts t) ∙ flip (append_assoc (named_in denotes u) (named_left denotes ts) (named_in denotes t))

  pub named_first : (old mid new rest : List Task) (t : Task) → named_left denotes mid ≡ named_left denotes old ++ named_behind denotes rest → new ≡ mid ++ t ∷ []
      → named_left denotes new ≡ named_left denotes old ++ named_behind denotes (t ∷ rest)
  named_first old mid new rest t e n = ap (named_left denotes) n ∙ (named_pushed mid t ∙ (ap (λ xs. xs ++ named_in denotes t) e
      ∙ append_assoc (named_left denotes old) (named_behind denotes rest) (named_in denotes t)))

  pub named_brackets : (old low mid new next : List Task) → low ≡ old ++ task.Close ∷ [] → named_left denotes mid ≡ named_left denotes low ++ named_behind denotes next → new ≡ mid ++ task.Open ∷ []
      → named_left denotes new ≡ named_left denotes old ++ named_behind denotes next
  named_brackets old low mid new next l m n = ap (named_left denotes) n ∙ (named_pushed mid task.Open ∙ (append_nothing (named_left denotes mid) ∙ (m
      ∙ ap (λ xs. xs ++ named_behind denotes next) (ap (named_left denotes) l ∙ (named_pushed old task.Close ∙ append_nothing (named_left denotes old))))))

  pub named_popped : (old new : List Task) (t : Task) (named : List Bool) → named ≡ named_left denotes old → old ≡ new ++ t ∷ [] → named ≡ named_left denotes new ++ named_in denotes t
  named_popped old new t named h e = h ∙ (ap (named_left denotes) e ∙ named_pushed new t)

  pub named_begins : (s : Subterm) (tasks : List Task) (named : List Bool) → named ≡ named_last (denotes s.term) → tasks ≡ [] ++ task.Term s ∷ [] → named ≡ named_left denotes tasks
  named_begins s tasks named h e = h ∙ (flip (append_nothing (named_last (denotes s.term))) ∙ ap (named_left denotes) (flip e))
