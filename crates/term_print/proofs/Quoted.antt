-- Quoted names are read back.
use Rattle.std.proofs.Common.{inl, List, [], ◌∷◌, ◌++◌, ℕ, zero, suc, ◌≡◌, ◌≤◌, length, refl, ap, sym as flip, ◌∙◌, arith, append_assoc}
use Rattle.std.specs.Prelude.{codes}
use Rattle.dk_lexer.specs.declared.class.Class.{Class}
use Rattle.dk_lexer.specs.declared.class.Class.TheVariants as class
use Rattle.dk_lexer.specs.declared.token.TokenKind.TheVariants as kind
use Rattle.dk_lexer.specs.Classes.{class_of}
use Rattle.dk_lexer.specs.Spelling.{Quoted, closed, one_more, bar_before, behind_bar, quoted_byte, quoted, quoted_spelled}
use Rattle.dk_terms.specs.declared.terminal.Terminal.TheVariants as terminal
use Rattle.term_print.specs.Readable.{IsSpelt, Quotable, NoBrace, in_quotes}

-- a bar that no brace follows is a byte of the name
not_closed : (c : Class) (left : ℕ) (more : Quoted) → (c ≡ class.CloseBrace → ⊥) → bar_before c left more ≡ more
not_closed class.CloseBrace left more n = absurd (n refl)
not_closed c left more n = refl

bar_goes_on : (bs rest : List ℕ) (more : Quoted) → NoBrace bs → behind_bar (bs ++ 124 ∷ 125 ∷ rest) more ≡ more
unfolding class_of
bar_goes_on [] rest more n = refl
bar_goes_on (c ∷ cs) rest more n = not_closed (class_of c) (length (cs ++ 124 ∷ 125 ∷ rest)) more n

-- a byte of the name
byte_goes_on : (c : Class) (b : ℕ) (bs rest : List ℕ) (more : Quoted) → (c ≡ class.Newline → ⊥) → (c ≡ class.Bar → (b ≡ 124) × NoBrace bs)
    → quoted_byte c b (bs ++ 124 ∷ 125 ∷ rest) more ≡ one_more b more
byte_goes_on class.Newline b bs rest more n h = absurd (n refl)
byte_goes_on class.Bar b bs rest more n h = let k = h refl in bar_goes_on bs rest (one_more 124 more) k.1 ∙ ap (λ x. one_more x more) (flip k.0)
byte_goes_on c b bs rest more n h = refl

pub body_quoted : (room : ℕ) (body rest : List ℕ) → Quotable body → length body ≤ room → quoted room (body ++ 124 ∷ 125 ∷ rest) ≡ closed body (length rest)
unfolding class_of
body_quoted zero [] rest q l = refl
body_quoted (suc room) [] rest q l = refl
body_quoted zero (b ∷ bs) rest q l = absurd (omega arith)
body_quoted (suc room) (b ∷ bs) rest q l =
    byte_goes_on (class_of b) b bs rest (quoted room (bs ++ 124 ∷ 125 ∷ rest)) q.0 q.1
    ∙ ap (one_more b) (body_quoted room bs rest q.2 (omega arith))

pub quoted_spelt : (limit : ℕ) (body : List ℕ) → Quotable body → length body ≤ limit → IsSpelt limit (terminal.Name (in_quotes body))
unfolding class_of
quoted_spelt limit body q l = record {
  first = 123;
  others = 124 ∷ (body ++ 124 ∷ 125 ∷ []);
  text = refl;
  no_comment = λ e. cc;
  reads = λ rest e. (
    kind.Quoted,
    in_quotes body,
    inl (ap (λ bs. quoted_spelled kind.Quoted (codes "{|") (quoted limit bs)) (append_assoc body (124 ∷ 125 ∷ []) rest)
        ∙ ap (quoted_spelled kind.Quoted (codes "{|")) (body_quoted limit body rest q l)),
    refl,
  );
}
