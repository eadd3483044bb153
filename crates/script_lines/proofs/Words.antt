-- An edit of the words behind its name.
use Rattle.std.proofs.Common.{◌≡◌, ◌∙◌, ◌+◌, ℕ, List, Option, Some, None, ap, drop, position, subst, sym, take}
use Rattle.script_lines.specs.Reading.{AsksNothing, IsFarNumber, IsNoTextEdit}
use Rattle.script_lines.specs.Scripts.{Edit, edit_at, edit_with, edits, inserts, is_blank, number_of, replaces, text_edit}

pub with_text : (edit : ℕ → List ℕ → Edit) (words : List ℕ) (at k : ℕ) → position is_blank words ≡ Some at → number_of (take at words) ≡ Some k
    → text_edit edit words ≡ edits (edit k (drop (at + 1) words))
with_text edit words at k blank number = ap (edit_with edit words) blank ∙ ap (edit_at (λ n. edit n (drop (at + 1) words))) number

pub no_blank : (words : List ℕ) → position is_blank words ≡ None → IsNoTextEdit words
no_blank words none = (
  subst AsksNothing (sym (ap (edit_with inserts words) none)) tt,
  subst AsksNothing (sym (ap (edit_with replaces words) none)) tt,
)

pub far_number : (words : List ℕ) (at : ℕ) → position is_blank words ≡ Some at → IsFarNumber (number_of (take at words)) → IsNoTextEdit words
far_number words at blank far = (
  subst AsksNothing (sym (ap (edit_with inserts words) blank)) (inserting (number_of (take at words)) far),
  subst AsksNothing (sym (ap (edit_with replaces words) blank)) (replacing (number_of (take at words)) far),
)
  where
    inserting : (o : Option ℕ) → IsFarNumber o → AsksNothing (edit_at (λ n. inserts n (drop (at + 1) words)) o)
    inserting None far = tt
    inserting (Some k) far = far

    replacing : (o : Option ℕ) → IsFarNumber o → AsksNothing (edit_at (λ n. replaces n (drop (at + 1) words)) o)
    replacing None far = tt
    replacing (Some k) far = far
