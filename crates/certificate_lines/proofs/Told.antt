-- Bytes are the text of one line at most, and a line's text has no newline.
use Rattle.std.specs.Prelude.{eqb, false, decimal, codes}
use Rattle.std.proofs.Common.{List, [], ◌∷◌, ◌++◌, ℕ, ◌<◌, ◌≤◌, ◌≡◌, Some, refl, ap, ◌∙◌, sym as flip, subst as along, arith, rules}
use Rattle.std.proofs.lemmas.Bool.{ne_eqb}
use Rattle.std.proofs.lemmas.Fmt.{decimal_is_IsNumeral}
use Rattle.std.specs.Str.Parse.{AllDigits}
use Rattle.certificate_lines.specs.declared.line.Word.{Word}
use Rattle.certificate_lines.specs.declared.line.Word.TheVariants.{Same, LeftBound, RightBound, InParts, LetGo}
use Rattle.certificate_lines.specs.declared.line.Line.{Line}
use Rattle.certificate_lines.specs.declared.line.Line.TheVariants.{First, Part, Reduction, Joining, Equation, Beta, Rule, Last}
use Rattle.certificate_lines.specs.Texts.{word_text, spaced, line_text, IsShort, HasShortNumbers, IsLine}
use Rattle.certificate_lines.specs.Reading.{and_then, read_all}
use Rattle.certificate_lines.proofs.Numbers.{digit_is, one_digit}
use Rattle.certificate_lines.proofs.Lines.{some_is, one_read, two_read, rule_read, equation_read}

text_read : (l : Line) → HasShortNumbers l → read_all (line_text l) ≡ Some l
text_read First s = refl
text_read (Part k) s = ap (λ o. and_then o (λ n. Some (Part n))) (one_read k s)
text_read (Reduction n) s = ap (λ o. and_then o (λ m. Some (Reduction m))) (one_read n s)
text_read (Joining n m) s = ap (λ o. and_then o (λ p. Some (Joining p.0 p.1))) (two_read n m s.0 s.1)
text_read (Equation n m w) s = equation_read n m w s.0 s.1
text_read (Beta place) s = ap (λ o. and_then o (λ n. Some (Beta n))) (one_read place s)
text_read (Rule place rule conditions) s = rule_read place rule conditions s.0 s.1 s.2
text_read Last s = refl

-- one text, one line
pub line_told : (bs : List ℕ) (l m : Line) → IsLine bs l → IsLine bs m → l ≡ m
line_told bs l m h g = some_is l m (flip (text_read l h.1) ∙ ap read_all (flip h.0 ∙ g.0) ∙ text_read m g.1)

-- ---- no newline

-- each byte is another than a newline
abbrev pub HasNoNewline : List ℕ → Type 0
HasNoNewline [] = Unit {0}
HasNoNewline (b ∷ bs) = (eqb b 10 ≡ false) × HasNoNewline bs

none_append : (xs ys : List ℕ) → HasNoNewline xs → HasNoNewline ys → HasNoNewline (xs ++ ys)
none_append [] ys h g = g
none_append (x ∷ xs) ys h g = (h.0, none_append xs ys h.1 g)

digits_none : (ds : List ℕ) → AllDigits 10 ds → HasNoNewline ds
digits_none [] d = tt
digits_none (c ∷ cs) d = let r : (48 ≤ c) × (c < 58) = digit_is c (one_digit c d.0).0 in (ne_eqb c 10 (λ e. omega (arith, r.0, e)), digits_none cs d.1)

spaced_none : (n : ℕ) (xs : List ℕ) → IsShort n → HasNoNewline xs → HasNoNewline (spaced n xs)
spaced_none n xs s h = (refl, none_append (decimal n) xs (digits_none (decimal n) (decimal_is_IsNumeral n s).0.1) h)

word_none : (w : Word) → HasNoNewline (word_text w)
word_none Same = (refl, tt)
word_none LeftBound = (refl, tt)
word_none RightBound = (refl, tt)
word_none InParts = (refl, tt)
word_none LetGo = (refl, tt)

text_none : (l : Line) → HasShortNumbers l → HasNoNewline (line_text l)
text_none First s = search rules
text_none (Part k) s = (refl, spaced_none k [] s tt)
text_none (Reduction n) s = (refl, spaced_none n [] s tt)
text_none (Joining n m) s = (refl, spaced_none n (spaced m []) s.0 (spaced_none m [] s.1 tt))
text_none (Equation n m w) s = (refl, spaced_none n (spaced m (codes " " ++ word_text w)) s.0 (spaced_none m (codes " " ++ word_text w) s.1 (refl, word_none w)))
text_none (Beta place) s = (refl, spaced_none place [] s tt)
text_none (Rule place rule conditions) s =
    (refl, spaced_none place (spaced rule (spaced conditions [])) s.0 (spaced_none rule (spaced conditions []) s.1 (spaced_none conditions [] s.2 tt)))
text_none Last s = (refl, (refl, (refl, tt)))

pub line_none : (bs : List ℕ) (l : Line) → IsLine bs l → HasNoNewline bs
line_none bs l h = along HasNoNewline (flip h.0) (text_none l h.1)
