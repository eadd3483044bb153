-- For proofs: what a reader holds of the bytes that were given to it.
use Rattle.std.specs.Prelude.{◌≡◌, ◌<◌, ◌≤◌, ◌+◌, min, ℕ, Bool, true, false, List, [], ◌∷◌, ◌++◌, length, Option, Some, None, Result, Ok, Err}
use Rattle.dk_model.specs.declared.limits.Limits.{Limits}
use Rattle.dk_lexer.specs.declared.token.Token.{Token}
use Rattle.dk_lexer.specs.Tokens.{Ending, tokens, whole}
use Rattle.dk_lexer.specs.Given.{begun_line}
use Rattle.one_lexer.specs.declared.lexer.Taken.{Taken}
use Rattle.one_lexer.specs.declared.lexer.Taken.TheVariants as taken
use Rattle.one_lexer.specs.Lexers.{HasAll, Knows, ending_of, limits_of, line_of}
use Rattle.one_lexer.specs.Reading.{MayCome}
use Rattle.dk_parser.specs.declared.parser.Parser.{Parser}
use Rattle.dk_parser.specs.FileReading.{Reading, next_line, read}
use Rattle.dk_parser.specs.FileReading as tail
use Rattle.dk_parser.specs.RawViews.{written_command}
use Rattle.dk_parser.specs.Steps.{read_tokens}
use Rattle.dk_parser.specs.Views.{HasRead}
use Rattle.dk_parser.specs.Written.{WrittenCommand}
use Rattle.file_reader.specs.declared.reader.Next.{Next}
use Rattle.file_reader.specs.declared.reader.Next.TheVariants as next
use Rattle.file_reader.specs.declared.reader.Whole.{Whole}
use Rattle.file_reader.specs.declared.reader.Whole.TheVariants as boxed
use Rattle.file_reader.specs.Nexts.{IsWhich, raw_of}
use Rattle.file_reader.specs.declared.reader.ReadEnd.{ReadEnd}
use Rattle.file_reader.specs.declared.reader.ReadEnd.TheVariants as end
use Rattle.file_reader.specs.declared.reader.Reader.{Reader}

-- the parser was given these tokens, and they give these commands and no fault
pub record HasParsed (limits : Limits) (taken : List Token) (done : List WrittenCommand) (parser : Parser) : Type 0 where
  pub has_read : HasRead limits taken parser
  pub no_fault : (read_tokens limits taken).fault ≡ None
  pub done_are : (read_tokens limits taken).commands ≡ done

-- these tokens were taken of the bytes given; those that are carried come next
pub record HasTaken (limits : Limits) (given : List ℕ) (taken : List Token) (r : Reader) : Type 0 where
  pub limits_are : limits_of r.lexer ≡ limits
  pub knows : Knows r.over given taken r.carried r.lexer

-- the reader has given these commands of the bytes given to it: those of the tokens taken
pub record Holds (limits : Limits) (given : List ℕ) (done : List WrittenCommand) (r : Reader) : Type 0 where
  pub taken : List Token
  pub parsed : HasParsed limits taken done r.parser
  pub lexed : HasTaken limits given taken r

-- the same, but for this token, which was taken and which the parser hasn't had
pub record HoldsToken (limits : Limits) (given : List ℕ) (done : List WrittenCommand) (token : Token) (r : Reader) : Type 0 where
  pub taken : List Token
  pub parsed : HasParsed limits taken done r.parser
  pub lexed : HasTaken limits given (taken ++ token ∷ []) r

-- the bytes given have no other token so far
pub record IsRead (limits : Limits) (given : List ℕ) (done : List WrittenCommand) (r : Reader) : Type 0 where
  pub holds : Holds limits given done r
  pub all : HasAll r.over limits given holds.taken (line_of r.lexer)

-- and more of them are to come
abbrev pub IsDry : Limits → List ℕ → List WrittenCommand → Reader → Type 0
IsDry limits given done r = IsRead limits given done r × (r.over ≡ false)

-- a token leaves fewer bytes than there were, and no other answer more
abbrev pub LeavesAtMost : ℕ → Taken → Type 0
LeavesAtMost size (taken.Token spelt left) = left < size
LeavesAtMost size (taken.More left) = left ≤ size
LeavesAtMost size (taken.Failed code) = Unit {0}

-- the bytes settle what the book is read as, however it may go on and end
abbrev pub Settles : Limits → List ℕ → Bool → Reading → Type 0
Settles limits given over reading = (more : List ℕ) (how : Ending) → MayCome over more how → read limits (given ++ more) how ≡ reading

-- Memory ended behind these commands of the bytes, and the next one, at this line, was due: it is whole, or has begun, or begins.
pub record MemoryIn (limits : Limits) (bytes : List ℕ) (file_ending : Ending) (done : List WrittenCommand) (line : ℕ) : Type 0 where
  pub given : List ℕ
  pub rest : List ℕ
  pub bytes_are : bytes ≡ given ++ rest
  pub ending : Ending
  pub last : ending ≡ whole → (rest ≡ []) × (file_ending ≡ whole)
  pub later : List WrittenCommand
  pub commands_are : (read_tokens limits (tokens limits given ending).tokens).commands ≡ done ++ later
  pub line_is : line ≡ next_line later (read_tokens limits (tokens limits given ending).tokens).begun (begun_line limits given)

-- how reading ends behind these commands of the bytes given
abbrev pub EndsIn : Limits → List ℕ → Bool → List WrittenCommand → ReadEnd → Type 0
EndsIn limits given over done end.Whole = Settles limits given over (record { commands = done; tail = tail.whole })
EndsIn limits given over done (end.Refused line code) = Settles limits given over (record { commands = done; tail = tail.fault line code })
EndsIn limits given over done (end.NoMemory line) = MemoryIn limits given (ending_of over) done line
EndsIn limits given over done end.Unread = ⊥

-- how reading ends behind the last token, unless more bytes are to come
abbrev pub EndsBehind : Limits → List ℕ → List WrittenCommand → Reader → Option ReadEnd → Type 0
EndsBehind limits given done r None = r.over ≡ false
EndsBehind limits given done r (Some e) = EndsIn limits given r.over done e

-- the next token of the bytes that are carried; or they settle none; or how reading ends
abbrev pub GivesToken : Limits → List ℕ → List WrittenCommand → Reader → Result (Option Token) ReadEnd → Type 0
GivesToken limits given done r (Ok (Some token)) = HoldsToken limits given done token r
GivesToken limits given done r (Ok None) = IsDry limits given done r
GivesToken limits given done r (Err e) = EndsIn limits given r.over done e

-- what comes next, out of its block
abbrev pub next_of : Whole → Next
next_of (boxed.Command raw) = next.Command raw.value
next_of (boxed.Directive raw) = next.Directive raw.value

-- the next command or directive, if the token that was taken ends one; or how reading ends
abbrev pub Parses : Limits → List ℕ → List WrittenCommand → Reader → Result (Option Whole) ReadEnd → Type 0
Parses limits given done r (Ok (Some it)) = Holds limits given (done ++ written_command (raw_of (next_of it)) ∷ []) r × IsWhich (next_of it)
Parses limits given done r (Ok None) = Holds limits given done r
Parses limits given done r (Err e) = EndsIn limits given r.over done e

-- the next command or directive of the bytes that are carried; or they have no other token; or how reading ends
abbrev pub Finds : Limits → List ℕ → List WrittenCommand → Reader → Result (Option Whole) ReadEnd → Type 0
Finds limits given done r (Ok (Some it)) = Holds limits given (done ++ written_command (raw_of (next_of it)) ∷ []) r × IsWhich (next_of it)
Finds limits given done r (Ok None) = IsDry limits given done r
Finds limits given done r (Err e) = EndsIn limits given r.over done e

-- these bytes were taken from what was left, where it is told
abbrev pub TakesBytes : Option (List ℕ) → Option (List ℕ) → List ℕ → Type 0
TakesBytes None after bytes = after ≡ None
TakesBytes (Some before) after bytes = (rest : List ℕ) × (before ≡ bytes ++ rest) × (after ≡ Some rest)

-- nothing is left, where it is told
abbrev pub IsEmpty : Option (List ℕ) → Type 0
IsEmpty None = Unit {0}
IsEmpty (Some rest) = rest ≡ []

-- a piece came behind the bytes that were carried, of one byte at least, or else the end
pub record TakesPiece (limits : Limits) (given : List ℕ) (done : List WrittenCommand) (before after : Option (List ℕ)) (old new : Reader) : Type 0 where
  pub piece : List ℕ
  pub took : TakesBytes before after piece
  pub few : length piece ≤ 4096
  pub some : new.over ≡ false → 0 < length piece
  pub last : new.over ≡ true → IsEmpty after
  pub holds : Holds limits (given ++ piece) done new
  pub counted : new.given ≤ old.given + length piece
  pub grown : min (old.given + length piece) 18446744073709551615 ≤ new.given
  pub carried : length new.carried ≡ length old.carried + length piece

-- what a read comes to
abbrev pub Loads : Limits → List ℕ → List WrittenCommand → Option (List ℕ) → Option (List ℕ) → Reader → Reader → Result Unit ReadEnd → Type 0
Loads limits given done before after old new (Ok u) = TakesPiece limits given done before after old new
Loads limits given done before after old new (Err end.Unread) = after ≡ before
Loads limits given done before after old new (Err e) = EndsIn limits given false done e
