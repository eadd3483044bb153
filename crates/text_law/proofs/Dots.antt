-- Tokens that are dots, and those that aren't.
use Rattle.std.proofs.Common.{List, [], ◌∷◌, ℕ, ◌≡◌, Bool, true, false, refl, codes, if◌then◌else◌}
use Rattle.std.specs.Str.{bytes_eq}
use Rattle.dk_lexer.specs.declared.token.Token.{Token}
use Rattle.dk_lexer.specs.declared.token.TokenKind.{TokenKind}
use Rattle.dk_lexer.specs.declared.token.TokenKind.TheVariants as kind
use Rattle.dk_lexer.specs.declared.token.Sign.TheVariants as sign
use Rattle.dk_lexer.specs.Spelling.{kind_of, is_wildcard, is_outside}

-- a dot ends its command
abbrev pub keeps_open : TokenKind → Bool
keeps_open (kind.Sign sign.Dot) = false
keeps_open k = true

-- none of these tokens is a dot
abbrev pub AllOpen : List Token → Type 0
AllOpen [] = Unit {0}
AllOpen (t ∷ ts) = (keeps_open t.kind ≡ true) × AllOpen ts

word_open : (w s d t o : Bool) → keeps_open (if w then kind.Wildcard else (if s then kind.Star else (if d then kind.Def else (if t then kind.Thm else (if o then kind.Profile else kind.Plain))))) ≡ true
word_open true s d t o = refl
word_open false true d t o = refl
word_open false false true t o = refl
word_open false false false true o = refl
word_open false false false false true = refl
word_open false false false false false = refl

-- a run is no dot
pub kind_open : (text : List ℕ) → keeps_open (kind_of text) ≡ true
unfolding kind_of
kind_open text = word_open (is_wildcard text) (bytes_eq text (codes "Type")) (bytes_eq text (codes "def")) (bytes_eq text (codes "thm")) (is_outside text)
