-- What the tokens taken, and what stands behind them, settle.
use Rattle.std.proofs.Common.{◌≡◌, ℕ, Bool, true, false, List, [], ◌∷◌, ◌++◌, refl, sym, ap, ◌∙◌}
use Rattle.std.proofs.lemmas.List.{append-nil}
use Rattle.std.specs.Prelude.{Option, Some, None, Ok, Err, IsSome, unwrap_or}
use Rattle.dk_model.specs.declared.code.Code.{Code}
use Rattle.dk_model.specs.declared.limits.Limits.{Limits}
use Rattle.dk_lexer.specs.declared.token.Token.{Token}
use Rattle.dk_lexer.specs.Tokens.{Ending, Lexed, broken, tokens, whole}
use Rattle.one_lexer.specs.Lexers.{HasAll, HasFault}
use Rattle.one_lexer.specs.Reading.{MayCome}
use Rattle.dk_parser.specs.declared.parser.Parser.{Parser}
use Rattle.dk_parser.specs.Reading.{TokenReading}
use Rattle.dk_parser.specs.FileReading.{Reading, read, reading_of, tail_by_bytes, tail_by_ending, tail_by_tokens}
use Rattle.dk_parser.specs.FileReading as tail
use Rattle.dk_parser.specs.Steps.{AddsFault, finished, finished_by, read_tokens}
use Rattle.dk_parser.specs.Written.{WrittenCommand}
use Rattle.dk_parser.proofs.Exact.{read_extends}
use Rattle.file_reader.specs.Held.{HasParsed, Settles}
use Rattle.file_reader.specs.Progress.{reading}
use Rattle.file_reader.proofs.Known.{BeginsSo}

some_fault : (f : Option (ℕ × Code)) (p : ℕ × Code) → f ≡ Some p → IsSome f
some_fault None p e = cc
some_fault (Some q) p e = refl

begun_is : (b : Option ℕ) (l place line : ℕ) → b ≡ Some l → line ≡ unwrap_or b place → l ≡ line
begun_is b l place line is line_is = sym (line_is ∙ ap (λ o. unwrap_or o place) is)

module _ {limits : Limits} {taken : List Token} {done : List WrittenCommand} {parser : Parser} (p : HasParsed limits taken done parser) where
  abbrev now : TokenReading
  now = read_tokens limits taken

  -- ---- the next token is at fault

  module _ (t : Token) (code : Code) (place line : ℕ) (adds : AddsFault now (read_tokens limits (taken ++ t ∷ [])) code) (line_is : line ≡ unwrap_or (read_tokens limits (taken ++ t ∷ [])).begun place) where
    abbrev here : TokenReading
    here = read_tokens limits (taken ++ t ∷ [])

    fault_here : here.fault ≡ Some (line, code)
    fault_here = adds.after ∙ ap (λ l. Some (l, code)) (begun_is here.begun adds.line place line adds.begun line_is)

    fault_behind : (all : Lexed) (how : Ending) → BeginsSo all.tokens (taken ++ t ∷ []) → reading_of (read_tokens limits all.tokens) all how ≡ reading done (tail.fault line code)
    fault_behind all how begins =
        let ext = read_extends limits (taken ++ t ∷ []) begins.0 in
        ap (λ r. reading_of r all how) (ap (read_tokens limits) begins.1 ∙ ext.stays (some_fault here.fault (line, code) fault_here))
        ∙ ap (λ f. reading here.commands (tail_by_tokens f all how here.begun)) fault_here
        ∙ ap (λ cs. reading cs (tail.fault line code)) (adds.commands ∙ p.done_are)

    pub token_settles : (given : List ℕ) (over : Bool) → ((more : List ℕ) (how : Ending) → MayCome over more how → BeginsSo (tokens limits (given ++ more) how).tokens (taken ++ t ∷ []))
        → Settles limits given over (reading done (tail.fault line code))
    token_settles given over begin = λ more how may. fault_behind (tokens limits (given ++ more) how) how (begin more how may)

  -- ---- no other token comes

  -- what the tokens are read as, by what stands behind them
  read_behind : (all lexed : Lexed) (how : Ending) → all ≡ lexed → lexed.tokens ≡ taken → reading_of (read_tokens limits all.tokens) all how ≡ reading done (tail_by_bytes lexed.fault lexed.line how now.begun)
  read_behind all lexed how is tokens_are =
      ap (λ (l : Lexed). reading_of (read_tokens limits l.tokens) l how) is
      ∙ ap (λ ts. reading_of (read_tokens limits ts) lexed how) tokens_are
      ∙ ap (λ f. reading now.commands (tail_by_tokens f lexed how now.begun)) p.no_fault
      ∙ ap (λ cs. reading cs (tail_by_bytes lexed.fault lexed.line how now.begun)) p.done_are

  -- a fault of the bytes
  pub fault_settles : (given : List ℕ) (over : Bool) (code : Code) (place line : ℕ) → HasFault over limits given taken code place → line ≡ unwrap_or now.begun place → Settles limits given over (reading done (tail.fault line code))
  fault_settles given over code place line f line_is = λ more how may.
      read_behind (tokens limits (given ++ more) how) (record { tokens = taken; fault = Some code; line = place }) how (f.stands more how may) refl
      ∙ ap (λ l. reading done (tail.fault l code)) (sym line_is)

  -- the book ends
  module _ (given : List ℕ) (place : ℕ) (all : HasAll true limits given taken place) where
    ends_so : (t : tail.Tail) → tail_by_ending whole now.begun ≡ t → Settles limits given true (reading done t)
    ends_so t is = λ more how may.
        ap (λ bs. read limits (given ++ bs) how) may.0 ∙ ap (λ bs. read limits bs how) (append-nil given) ∙ ap (read limits given) may.1
        ∙ read_behind (tokens limits given whole) (record { tokens = taken; fault = None; line = place }) whole all refl
        ∙ ap (reading done) is

    pub end_whole : Ok tt ≡ finished now → Settles limits given true (reading done tail.whole)
    end_whole is = ends_so tail.whole (by_begun now.begun (is ∙ ap (λ f. finished_by f now.begun) p.no_fault))
      where
        by_begun : (b : Option ℕ) → Ok tt ≡ finished_by None b → tail_by_ending whole b ≡ tail.whole
        by_begun (Some line) e = cc
        by_begun None e = refl

    pub end_begun : (line : ℕ) (code : Code) → Err code ≡ finished now → line ≡ unwrap_or now.begun place → Settles limits given true (reading done (tail.fault line code))
    end_begun line code is line_is = ends_so (tail.fault line code) (by_begun now.begun (is ∙ ap (λ f. finished_by f now.begun) p.no_fault) line_is)
      where
        by_begun : (b : Option ℕ) → Err code ≡ finished_by None b → line ≡ unwrap_or b place → tail_by_ending whole b ≡ tail.fault line code
        by_begun (Some l) e line_is = cc
        by_begun None e line_is = cc

  -- a read failed
  pub unread_so : (given : List ℕ) (place : ℕ) → HasAll false limits given taken place → read limits given broken ≡ reading done tail.unread
  unread_so given place all = read_behind (tokens limits given broken) (record { tokens = taken; fault = None; line = place }) broken all refl
