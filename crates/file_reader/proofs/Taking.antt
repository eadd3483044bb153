-- What taking a token, and handing it to the parser, comes to.
use Rattle.std.proofs.Common.{◌≡◌, ℕ, Bool, List, [], ◌∷◌, ◌++◌, sym, ap, subst, ◌∙◌}
use Rattle.std.specs.Prelude.{None, unwrap_or}
use Rattle.dk_model.specs.declared.code.Code.{Code}
use Rattle.dk_model.specs.declared.limits.Limits.{Limits}
use Rattle.dk_lexer.specs.declared.token.Token.{Token}
use Rattle.one_lexer.specs.declared.lexer.Lexer.{Lexer}
use Rattle.one_lexer.specs.Lexers.{HasAll, HasFault, Knows, limits_of, line_of}
use Rattle.dk_parser.specs.declared.parser.Parser.{Parser}
use Rattle.dk_parser.specs.declared.raw.Raw.{Raw}
use Rattle.dk_parser.specs.Modules.{is_directive}
use Rattle.dk_parser.specs.RawViews.{written_command, written_form}
use Rattle.dk_parser.specs.Steps.{AddsCommand, AddsFault, GoesOn, read_tokens}
use Rattle.dk_parser.specs.Views.{HasRead}
use Rattle.dk_parser.specs.Written.{WrittenCommand}
use Rattle.file_reader.specs.declared.reader.ReadEnd.TheVariants as end
use Rattle.file_reader.specs.declared.reader.Reader.{Reader}
use Rattle.file_reader.specs.Held.{EndsIn, Holds, HoldsToken, IsRead}
use Rattle.file_reader.proofs.Known.{by_now, go_on}
use Rattle.file_reader.proofs.Memory.{token_memory}
use Rattle.file_reader.proofs.Settling.{fault_settles, token_settles}

-- ---- the lexer has gone on

module _ {limits : Limits} {given : List ℕ} {done : List WrittenCommand} {r : Reader} (h : Holds limits given done r) (lexer : Lexer) (same : limits_of lexer ≡ limits_of r.lexer) where
  limits_so : limits_of lexer ≡ limits
  limits_so = same ∙ h.lexed.limits_are

  -- without memory for a token
  pub token_lost : (rest : List ℕ) (t : Token) (line : ℕ) → Knows r.over given (h.taken ++ t ∷ []) rest lexer → line ≡ unwrap_or (read_tokens limits h.taken).begun t.line → EndsIn limits given r.over done (end.NoMemory line)
  token_lost rest t line k line_is = token_memory h.parsed given line r.over t (by_now r.over limits given rest (h.taken ++ t ∷ []) lexer limits_so k) line_is

  pub all_read : (rest : List ℕ) → Knows r.over given h.taken rest lexer → HasAll r.over (limits_of lexer) given h.taken (line_of lexer) → IsRead limits given done (record r { lexer = lexer; carried = rest })
  all_read rest k all = record {
    holds = record { taken = h.taken; parsed = h.parsed; lexed = record { limits_are = limits_so; knows = k } };
    all = subst (λ (x : Limits). HasAll r.over x given h.taken (line_of lexer)) limits_so all;
  }

  pub bytes_refused : (code : Code) (line : ℕ) → HasFault r.over (limits_of lexer) given h.taken code (line_of lexer) → line ≡ unwrap_or (read_tokens limits h.taken).begun (line_of lexer) → EndsIn limits given r.over done (end.Refused line code)
  bytes_refused code line f line_is =
      fault_settles h.parsed given r.over code (line_of lexer) line (subst (λ (x : Limits). HasFault r.over x given h.taken code (line_of lexer)) limits_so f) line_is

-- ---- the parser has gone on

module _ {limits : Limits} {given : List ℕ} {done : List WrittenCommand} {token : Token} {r : Reader} (h : HoldsToken limits given done token r) where
  -- the reader behind the token
  parsed_so : (parser : Parser) (more : List WrittenCommand) → HasRead limits (h.taken ++ token ∷ []) parser → (read_tokens limits (h.taken ++ token ∷ [])).fault ≡ None → (read_tokens limits (h.taken ++ token ∷ [])).commands ≡ more
      → Holds limits given more (record r { parser = parser })
  parsed_so parser more has_read none commands = record {
    taken = h.taken ++ token ∷ [];
    parsed = record { has_read = has_read; no_fault = none; done_are = commands };
    lexed = record { limits_are = h.lexed.limits_are; knows = h.lexed.knows };
  }

  pub token_parsed : (parser : Parser) → HasRead limits (h.taken ++ token ∷ []) parser → GoesOn (read_tokens limits h.taken) (read_tokens limits (h.taken ++ token ∷ [])) → Holds limits given done (record r { parser = parser })
  token_parsed parser has_read g = parsed_so parser done has_read g.after (g.commands ∙ h.parsed.done_are)

  -- it ends a command or a directive
  pub found : (parser : Parser) (raw inner : Raw) (directive : Bool) → inner ≡ raw → HasRead limits (h.taken ++ token ∷ []) parser
      → AddsCommand (read_tokens limits h.taken) (read_tokens limits (h.taken ++ token ∷ [])) (written_command raw) directive
      → Holds limits given (done ++ written_command inner ∷ []) (record r { parser = parser }) × (is_directive (written_form inner.form) ≡ directive)
  found parser raw inner directive same has_read adds = (
    parsed_so parser (done ++ written_command inner ∷ []) has_read adds.after
        (adds.commands ∙ ap (λ cs. cs ++ written_command raw ∷ []) h.parsed.done_are ∙ ap (λ (x : Raw). done ++ written_command x ∷ []) (sym same)),
    ap (λ (x : Raw). is_directive (written_form x.form)) same ∙ adds.which,
  )

  pub token_refused : (code : Code) (place line : ℕ) → AddsFault (read_tokens limits h.taken) (read_tokens limits (h.taken ++ token ∷ [])) code → line ≡ unwrap_or (read_tokens limits (h.taken ++ token ∷ [])).begun place
      → EndsIn limits given r.over done (end.Refused line code)
  token_refused code place line adds line_is = token_settles h.parsed token code place line adds line_is given r.over (go_on r.over limits given r.carried (h.taken ++ token ∷ []) r.lexer h.lexed.limits_are h.lexed.knows)

  pub token_unread : (line : ℕ) → line ≡ unwrap_or (read_tokens limits h.taken).begun token.line → EndsIn limits given r.over done (end.NoMemory line)
  token_unread line line_is = token_memory h.parsed given line r.over token (by_now r.over limits given r.carried (h.taken ++ token ∷ []) r.lexer h.lexed.limits_are h.lexed.knows) line_is
