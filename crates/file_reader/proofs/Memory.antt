-- Where memory ended, and the line of the command that was due.
use Rattle.std.proofs.Common.{◌≡◌, ℕ, Bool, false, List, [], ◌∷◌, ◌++◌, refl, sym, ap, ◌∙◌}
use Rattle.std.proofs.lemmas.List.{append_assoc, append-nil}
use Rattle.std.specs.Prelude.{unwrap_or}
use Rattle.dk_model.specs.declared.limits.Limits.{Limits}
use Rattle.dk_lexer.specs.declared.token.Token.{Token}
use Rattle.dk_lexer.specs.Tokens.{Lexed, broken, tokens, whole}
use Rattle.dk_lexer.specs.Given.{begun_line}
use Rattle.one_lexer.specs.Lexers.{HasAll, ending_of}
use Rattle.dk_parser.specs.declared.parser.Parser.{Parser}
use Rattle.dk_parser.specs.FileReading.{next_line}
use Rattle.dk_parser.specs.Parsing.{commands_from, parsing_after}
use Rattle.dk_parser.specs.Steps.{read_tokens}
use Rattle.dk_parser.specs.Written.{WrittenCommand}
use Rattle.file_reader.specs.Held.{HasParsed, MemoryIn}
use Rattle.file_reader.proofs.Known.{BeginsSo}
use Rattle.file_reader.proofs.Lines.{commands_more, due_stays}

module _ {limits : Limits} {taken : List Token} {done : List WrittenCommand} {parser : Parser} (p : HasParsed limits taken done parser) (given : List ℕ) (line : ℕ) where
  -- at a token
  pub token_memory : (over : Bool) (t : Token) → BeginsSo (tokens limits given (ending_of over)).tokens (taken ++ t ∷ []) → line ≡ unwrap_or (read_tokens limits taken).begun t.line → MemoryIn limits given (ending_of over) done line
  token_memory over t begins line_is =
      let later : List WrittenCommand = commands_from (parsing_after limits taken) (t ∷ begins.0) in
      let all : (tokens limits given (ending_of over)).tokens ≡ taken ++ t ∷ begins.0 = begins.1 ∙ append_assoc taken (t ∷ []) begins.0 in
      record {
        given = given;
        rest = [];
        bytes_are = sym (append-nil given);
        ending = ending_of over;
        last = λ is. (refl, is);
        later = later;
        commands_are = ap (λ ts. (read_tokens limits ts).commands) all ∙ commands_more limits taken (t ∷ begins.0) ∙ ap (λ cs. cs ++ later) p.done_are;
        line_is = line_is
            ∙ sym (due_stays limits taken begins.0 t (begun_line limits given) p.no_fault)
            ∙ ap (λ ts. next_line later (read_tokens limits ts).begun (begun_line limits given)) (sym all);
      }

  -- at a piece
  pub piece_memory : (place : ℕ) → HasAll false limits given taken place → line ≡ unwrap_or (read_tokens limits taken).begun place → MemoryIn limits given broken done line
  piece_memory place all line_is = record {
    given = given;
    rest = [];
    bytes_are = sym (append-nil given);
    ending = broken;
    last = λ is. absurd (let bad : broken ≡ whole = is in cc);
    later = [];
    commands_are = ap (λ (l : Lexed). (read_tokens limits l.tokens).commands) all ∙ p.done_are ∙ sym (append-nil done);
    line_is = line_is ∙ ap (λ (l : Lexed). unwrap_or (read_tokens limits l.tokens).begun l.line) (sym all);
  }
