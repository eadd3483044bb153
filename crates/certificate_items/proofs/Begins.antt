-- Bytes that begin with the text of lines, one after the other.
use Rattle.std.specs.Prelude.{length}
use Rattle.std.proofs.Common.{List, [], ◌∷◌, ◌++◌, append_assoc, ℕ, ◌<◌, ◌≡◌, refl, ap, ◌∙◌, sym as flip, arith, length-append}
use Rattle.certificate_lines.specs.declared.line.Line.{Line}
use Rattle.certificate_lines.specs.Texts.{line_text}
use Rattle.certificate_items.specs.Texts.{lines_text, AreShort, BeginsWith}

text_append : (xs ys : List Line) → lines_text (xs ++ ys) ≡ lines_text xs ++ lines_text ys
text_append [] ys = refl
text_append (l ∷ xs) ys = ap (λ z. line_text l ++ (10 ∷ z)) (text_append xs ys) ∙ flip (append_assoc (line_text l) (10 ∷ lines_text xs) (lines_text ys))

short_append : (xs ys : List Line) → AreShort xs → AreShort ys → AreShort (xs ++ ys)
short_append [] ys h g = g
short_append (l ∷ xs) ys h g = (h.0, short_append xs ys h.1 g)

short_before : (xs ys : List Line) → AreShort (xs ++ ys) → AreShort xs
short_before [] ys h = tt
short_before (l ∷ xs) ys h = (h.0, short_before xs ys h.1)

short_behind : (xs ys : List Line) → AreShort (xs ++ ys) → AreShort ys
short_behind [] ys h = h
short_behind (l ∷ xs) ys h = short_behind xs ys h.1

pub begins_none : (bytes : List ℕ) → BeginsWith [] bytes bytes
begins_none bytes = (refl, tt)

pub begins_append : (xs ys : List Line) (a b c : List ℕ) → BeginsWith xs a b → BeginsWith ys b c → BeginsWith (xs ++ ys) a c
begins_append xs ys a b c h g =
    (h.0 ∙ ap (λ z. lines_text xs ++ z) g.0 ∙ flip (append_assoc (lines_text xs) (lines_text ys) c) ∙ ap (λ z. z ++ c) (flip (text_append xs ys)), short_append xs ys h.1 g.1)

-- what stands between
pub record Split (xs ys : List Line) (a c : List ℕ) : Type 0 where
  pub between : List ℕ
  pub before : BeginsWith xs a between
  pub behind : BeginsWith ys between c

pub begins_split : (xs ys : List Line) (a c : List ℕ) → BeginsWith (xs ++ ys) a c → Split xs ys a c
begins_split xs ys a c h = record {
  between = lines_text ys ++ c;
  before = (h.0 ∙ ap (λ z. z ++ c) (text_append xs ys) ∙ append_assoc (lines_text xs) (lines_text ys) c, short_before xs ys h.1);
  behind = (refl, short_behind xs ys h.1);
}

-- a line's text isn't empty, with its newline
pub begins_shorter : (l : Line) (lines : List Line) (a b : List ℕ) → BeginsWith (l ∷ lines) a b → length b < length a
begins_shorter l lines a b h =
    let e : length a ≡ length ((line_text l ++ (10 ∷ lines_text lines)) ++ b) = ap length h.0 in
    omega (arith, e, length-append (line_text l ++ (10 ∷ lines_text lines)) b, length-append (line_text l) (10 ∷ lines_text lines))
