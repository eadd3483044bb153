-- Trusted: the texts of the commands of a file: which of its bytes are whose (docs/pruning.md).
use Rattle.std.specs.Prelude.{ℕ, ◌+◌, ◌≡◌, List, [], ◌∷◌, ◌++◌, take, drop}
use Rattle.dk_model.specs.declared.limits.Limits.{Limits}
use Rattle.dk_lexer.specs.declared.token.Token.{Token}
use Rattle.dk_lexer.specs.Tokens.{tokens, whole}
use Rattle.dk_parser.specs.FileReading.{Reading, read}
use Rattle.dk_parser.specs.FileReading as reading
use Rattle.dk_parser.specs.Grammar.{Spells}
use Rattle.dk_parser.specs.Written.{WrittenForm, WrittenCommand}

-- the bytes from the one at `begin` up to the one before `end`
abbrev pub between : List ℕ → ℕ → ℕ → List ℕ
between bytes begin end = drop begin (take end bytes)

-- where the first of these tokens begins
abbrev pub begin_of : List Token → ℕ
begin_of [] = 0
begin_of (t ∷ ts) = t.offset

-- the offset behind the last of these tokens, which is a dot and so has one byte
abbrev pub end_of : List Token → ℕ
end_of [] = 0
end_of (t ∷ []) = t.offset + 1
end_of (t ∷ ts) = end_of ts

-- the text of the command that these tokens of a file spell: its bytes from its first token to its dot
abbrev pub text_of : List ℕ → List Token → List ℕ
text_of bytes ts = between bytes (begin_of ts) (end_of ts)

-- these tokens of the bytes spell these commands, one after the other, and these are their texts
pub data AreCut (bytes : List ℕ) : List Token → List WrittenCommand → List (List ℕ) → Type 0 where
  cut_none : AreCut bytes [] [] []
  cut_command : {ts us : List Token} {c : WrittenCommand} {cs : List WrittenCommand} {texts : List (List ℕ)} → Spells ts c → AreCut bytes us cs texts → AreCut bytes (ts ++ us) (c ∷ cs) (text_of bytes ts ∷ texts)

-- the texts of these commands and directives of the file with these bytes
abbrev pub AreTextsOf : Limits → List ℕ → List WrittenCommand → List (List ℕ) → Type 0
AreTextsOf limits bytes commands texts = AreCut bytes (tokens limits bytes whole).tokens commands texts

-- each text on lines of its own
abbrev pub lines : List (List ℕ) → List (List ℕ)
lines [] = []
lines (text ∷ texts) = (text ++ 10 ∷ []) ∷ lines texts

-- these commands and no more stand in the file
abbrev pub IsReadAs : Limits → List ℕ → List WrittenCommand → Type 0
IsReadAs limits bytes commands = read limits bytes whole ≡ (let r : Reading = record { commands = commands; tail = reading.whole } in r)

-- the forms of some commands and directives
abbrev pub forms_of : List WrittenCommand → List WrittenForm
forms_of [] = []
forms_of (c ∷ cs) = c.form ∷ forms_of cs
