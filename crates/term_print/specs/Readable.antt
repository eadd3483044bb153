-- For callers: which terminals are read back from their text, and which names may be spelt (docs/printing.md).
use Rattle.std.specs.Prelude.{◌≡◌, ◌≤◌, ℕ, suc, true, false, List, [], ◌∷◌, ◌++◌, length, ◌⊎◌}
use Rattle.dk_lexer.specs.declared.token.TokenKind.{TokenKind}
use Rattle.dk_lexer.specs.declared.token.TokenKind.TheVariants as kind
use Rattle.dk_lexer.specs.declared.class.Class.TheVariants as class
use Rattle.dk_lexer.specs.Classes.{begins_name, class_of, in_name}
use Rattle.dk_lexer.specs.Spelling.{spelled, token, late, kind_of, is_wildcard}
use Rattle.dk_terms.specs.declared.terminal.Terminal.{Terminal}
use Rattle.dk_terms.specs.Terminals.{terminal_by}
use Rattle.dk_terms.specs.Signs.{dot}
use Rattle.term_print.specs.Text.{terminal_text}

-- a blank or a closing bracket stands here
abbrev pub Ends : List ℕ → Type 0
Ends [] = ⊥
Ends (b ∷ bs) = (b ≡ 32) ⊎ (b ≡ 41)

-- a token is spelt at a byte, and leaves so many bytes: at once, or once it is known what a brace behind a dot belongs to
abbrev pub Spells : ℕ → ℕ → List ℕ → ℕ → TokenKind → List ℕ → Type 0
Spells limit b bs left k text = (spelled limit b bs ≡ token k text left)
    ⊎ ((from : ℕ) × (spelled limit b bs ≡ late (suc from) (token k text left)))

-- the token of this terminal is spelt there
abbrev pub IsToken : ℕ → ℕ → List ℕ → ℕ → Terminal → Type 0
IsToken limit b bs left x = (k : TokenKind) × (text : List ℕ) × Spells limit b bs left k text × (terminal_by k text ≡ x)

-- the text of a terminal is read as that terminal before a blank and before a closing bracket
pub record IsSpelt (limit : ℕ) (x : Terminal) : Type 0 where
  pub first : ℕ
  pub others : List ℕ
  pub text : terminal_text x ≡ first ∷ others
  pub no_comment : class_of first ≡ class.Semicolon → ⊥
  pub reads : (rest : List ℕ) → Ends rest → IsToken limit first (others ++ rest) (length rest) x

-- each of them is so spelt
abbrev pub AreSpelt : ℕ → List Terminal → Type 0
AreSpelt limit [] = Unit {0}
AreSpelt limit (x ∷ xs) = IsSpelt limit x × AreSpelt limit xs

-- the last one is a dot
abbrev pub EndsInDot : List Terminal → Type 0
EndsInDot [] = ⊥
EndsInDot (x ∷ []) = x ≡ dot
EndsInDot (x ∷ y ∷ ys) = EndsInDot (y ∷ ys)

-- bytes that may stand in a name
abbrev pub StandInName : List ℕ → Type 0
StandInName [] = Unit {0}
StandInName (b ∷ bs) = (in_name (class_of b) ≡ true) × StandInName bs

-- a name, or a word, or the wildcard: it begins with a byte that may begin a name
abbrev pub IsRun : List ℕ → Type 0
IsRun [] = ⊥
IsRun (b ∷ bs) = (begins_name (class_of b) ≡ true) × StandInName bs

-- a plain name that is no word, of no more bytes than a name may have
pub record IsPlainName (limit : ℕ) (n : List ℕ) : Type 0 where
  pub run : IsRun n
  pub no_word : kind_of n ≡ kind.Plain
  pub short : length n ≤ limit

-- a part of a qualified name that isn't quoted: a run, but not the wildcard, of no more bytes than a name may have
pub record IsPart (limit : ℕ) (n : List ℕ) : Type 0 where
  pub run : IsRun n
  pub no_wildcard : is_wildcard n ≡ false
  pub short : length n ≤ limit

-- the next byte of a quoted name is no brace; its end is a bar
abbrev pub NoBrace : List ℕ → Type 0
NoBrace [] = Unit {0}
NoBrace (c ∷ cs) = class_of c ≡ class.CloseBrace → ⊥

-- what may stand between `{|` and `|}`: no newline, and no brace behind a bar
abbrev pub Quotable : List ℕ → Type 0
Quotable [] = Unit {0}
Quotable (b ∷ bs) = (class_of b ≡ class.Newline → ⊥) × (class_of b ≡ class.Bar → (b ≡ 124) × NoBrace bs) × Quotable bs

-- a quoted name with these bytes between its signs
abbrev pub in_quotes : List ℕ → List ℕ
in_quotes body = 123 ∷ 124 ∷ (body ++ 124 ∷ 125 ∷ [])
