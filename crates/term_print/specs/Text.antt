-- Trusted: the bytes of terminals: single blanks separate them, but not behind an opening bracket nor before a closing one
-- (docs/printing.md).
use Rattle.std.specs.Prelude.{ℕ, Bool, true, false, ◌||◌, List, [], ◌∷◌, ◌++◌, codes, if◌then◌else◌}
use Rattle.dk_lexer.specs.declared.token.Sign.{Sign}
use Rattle.dk_lexer.specs.declared.token.Sign.TheVariants as sign
use Rattle.dk_terms.specs.declared.terminal.Terminal.{Terminal}
use Rattle.dk_terms.specs.declared.terminal.Terminal.TheVariants as terminal

abbrev pub sign_text : Sign → List ℕ
sign_text sign.Colon = codes ":"
sign_text sign.Defined = codes ":="
sign_text sign.Arrow = codes "->"
sign_text sign.DoubleArrow = codes "=>"
sign_text sign.LongArrow = codes "-->"
sign_text sign.Dot = codes "."
sign_text sign.Comma = codes ","
sign_text sign.OpenBracket = codes "("
sign_text sign.CloseBracket = codes ")"
sign_text sign.OpenSquare = codes "["
sign_text sign.CloseSquare = codes "]"
sign_text sign.OpenBrace = codes "{"
sign_text sign.CloseBrace = codes "}"
sign_text sign.Equal = codes "=="

-- a word outside the profile of commands has no text of its own
abbrev pub terminal_text : Terminal → List ℕ
terminal_text (terminal.Name n) = n
terminal_text (terminal.Qualified m n) = m ++ 46 ∷ n
terminal_text terminal.Wildcard = codes "_"
terminal_text terminal.Star = codes "Type"
terminal_text terminal.Def = codes "def"
terminal_text terminal.Thm = codes "thm"
terminal_text terminal.NameWord = codes "#NAME"
terminal_text terminal.RequireWord = codes "#REQUIRE"
terminal_text terminal.Check = codes "#CHECK"
terminal_text terminal.Assert = codes "#ASSERT"
terminal_text terminal.Infer = codes "#INFER"
terminal_text terminal.Eval = codes "#EVAL"
terminal_text terminal.Profile = []
terminal_text (terminal.Sign s) = sign_text s

abbrev pub opens : Terminal → Bool
opens (terminal.Sign sign.OpenBracket) = true
opens x = false

abbrev pub closes : Terminal → Bool
closes (terminal.Sign sign.CloseBracket) = true
closes x = false

-- the text behind a terminal that a blank need not follow, or must
abbrev pub text_behind : Bool → List Terminal → List ℕ
text_behind joined [] = []
text_behind joined (x ∷ xs) = (if joined || closes x then [] else (32 ∷ [])) ++ (terminal_text x ++ text_behind (opens x) xs)

abbrev pub text_of : List Terminal → List ℕ
text_of xs = text_behind true xs
