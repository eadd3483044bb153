-- Trusted: what the lines of a certificate are spelt like, without the LF that ends each (docs/certificates.md).
use Rattle.std.specs.Prelude.{ℕ, ◌≡◌, ◌<◌, ◌^◌, List, [], ◌++◌, codes, decimal}
use Rattle.certificate_lines.specs.declared.line.Word.{Word}
use Rattle.certificate_lines.specs.declared.line.Word.TheVariants.{Same, LeftBound, RightBound, InParts, LetGo}
use Rattle.certificate_lines.specs.declared.line.Line.{Line}
use Rattle.certificate_lines.specs.declared.line.Line.TheVariants.{First, Part, Reduction, Joining, Equation, Beta, Rule, Last}

abbrev pub word_text : Word → List ℕ
word_text Same = codes "="
word_text LeftBound = codes "l"
word_text RightBound = codes "r"
word_text InParts = codes "t"
word_text LetGo = codes "x"

-- a number behind a blank, and what stands behind it
abbrev pub spaced : ℕ → List ℕ → List ℕ
spaced n behind = codes " " ++ (decimal n ++ behind)

abbrev pub line_text : Line → List ℕ
line_text First = codes "dk certificate 1"
line_text (Part k) = codes "c" ++ spaced k []
line_text (Reduction n) = codes "r" ++ spaced n []
line_text (Joining n m) = codes "j" ++ spaced n (spaced m [])
line_text (Equation n m w) = codes "e" ++ spaced n (spaced m (codes " " ++ word_text w))
line_text (Beta place) = codes "b" ++ spaced place []
line_text (Rule place rule conditions) = codes "f" ++ spaced place (spaced rule (spaced conditions []))
line_text Last = codes "end"

abbrev pub IsShort : ℕ → Type 0
IsShort n = n < 2 ^ 64

-- its numbers are below 2^64
abbrev pub HasShortNumbers : Line → Type 0
HasShortNumbers First = Unit {0}
HasShortNumbers (Part k) = IsShort k
HasShortNumbers (Reduction n) = IsShort n
HasShortNumbers (Joining n m) = IsShort n × IsShort m
HasShortNumbers (Equation n m w) = IsShort n × IsShort m
HasShortNumbers (Beta place) = IsShort place
HasShortNumbers (Rule place rule conditions) = IsShort place × IsShort rule × IsShort conditions
HasShortNumbers Last = Unit {0}

-- the bytes spell this line
abbrev pub IsLine : List ℕ → Line → Type 0
IsLine bytes line = (bytes ≡ line_text line) × HasShortNumbers line

abbrev pub SpellsNoLine : List ℕ → Type 0
SpellsNoLine bytes = (line : Line) → ¬ IsLine bytes line
