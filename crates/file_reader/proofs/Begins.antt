-- A book begins with the commands that were read of it.
use Rattle.std.proofs.Common.{◌≡◌, ℕ, List, [], ◌++◌, refl, sym, ap, subst, ◌∙◌}
use Rattle.std.proofs.lemmas.List.{append_assoc, append-nil}
use Rattle.std.specs.Prelude.{Option}
use Rattle.dk_model.specs.declared.limits.Limits.{Limits}
use Rattle.dk_lexer.specs.declared.token.Token.{Token}
use Rattle.dk_lexer.specs.Tokens.{Ending, broken, tokens, whole}
use Rattle.one_lexer.proofs.FrontLaw.{tokens_front}
use Rattle.dk_parser.specs.declared.parser.Parser.{Parser}
use Rattle.dk_parser.specs.FileReading.{Reading, read}
use Rattle.dk_parser.specs.FileReading as tail
use Rattle.dk_parser.specs.Parsing.{commands_from, parsing_after}
use Rattle.dk_parser.specs.Steps.{read_tokens}
use Rattle.dk_parser.specs.Written.{WrittenCommand}
use Rattle.dk_parser.proofs.Exact.{read_extends}
use Rattle.file_reader.specs.declared.reader.Reader.{Reader}
use Rattle.file_reader.specs.Held.{HasParsed, MemoryIn}
use Rattle.file_reader.specs.Progress.{BeginsWith, IsBehind, ending_at, reading}
use Rattle.file_reader.proofs.Known.{BeginsSo, by_now, go_on, may_come}
use Rattle.file_reader.proofs.Lines.{commands_more}

-- commands that begin with these
abbrev pub CommandsBegin : List WrittenCommand → List WrittenCommand → Type 0
CommandsBegin all done = (later : List WrittenCommand) × (all ≡ done ++ later)

-- the commands of tokens that go on
commands_begin : (limits : Limits) (all taken : List Token) (done : List WrittenCommand) (parser : Parser) → HasParsed limits taken done parser → BeginsSo all taken → CommandsBegin (read_tokens limits all).commands done
commands_begin limits all taken done parser p begins =
    let later = commands_from (parsing_after limits taken) begins.0 in
    (later, ap (λ ts. (read_tokens limits ts).commands) begins.1 ∙ commands_more limits taken begins.0 ∙ ap (λ cs. cs ++ later) p.done_are)

-- the commands that the reader has given
pub begins : (limits : Limits) (bytes : List ℕ) (done : List WrittenCommand) (left : Option (List ℕ)) (r : Reader) → IsBehind limits bytes done left r → BeginsWith limits bytes done
begins limits bytes done left r b =
    let h = b.holds in
    subst (λ bs. BeginsWith limits bs done) (sym b.bytes_are)
    (commands_begin limits (tokens limits (b.given ++ b.rest) whole).tokens h.taken done r.parser h.parsed
    (go_on r.over limits b.given r.carried h.taken r.lexer h.lexed.limits_are h.lexed.knows b.rest whole (may_come r.over b.rest b.last)))

-- the bytes given begin with them
pub given_begin : (limits : Limits) (bytes : List ℕ) (done : List WrittenCommand) (left : Option (List ℕ)) (r : Reader) (b : IsBehind limits bytes done left r) → CommandsBegin (read limits b.given (ending_at r)).commands done
given_begin limits bytes done left r b =
    let h = b.holds in
    commands_begin limits (tokens limits b.given (ending_at r)).tokens h.taken done r.parser h.parsed (by_now r.over limits b.given r.carried h.taken r.lexer h.lexed.limits_are h.lexed.knows)

-- ---- where reading ended

-- more bytes give more commands
bytes_begin : (limits : Limits) (given rest : List ℕ) (done later : List WrittenCommand) → (read_tokens limits (tokens limits given broken).tokens).commands ≡ done ++ later → BeginsWith limits (given ++ rest) done
bytes_begin limits given rest done later commands =
    let front = tokens_front limits given rest whole in
    let ext = read_extends limits (tokens limits given broken).tokens front.more in (
      later ++ ext.later,
      ap (λ ts. (read_tokens limits ts).commands) front.tokens ∙ ext.commands ∙ ap (λ cs. cs ++ ext.later) commands ∙ append_assoc done later ext.later,
    )

memory_by : (limits : Limits) (given rest : List ℕ) (done later : List WrittenCommand) (ending : Ending) → (ending ≡ whole → rest ≡ []) → (read_tokens limits (tokens limits given ending).tokens).commands ≡ done ++ later → BeginsWith limits (given ++ rest) done
memory_by limits given rest done later broken last commands = bytes_begin limits given rest done later commands
memory_by limits given rest done later whole last commands =
    (later, ap (λ bs. (read limits bs whole).commands) (ap (λ bs. given ++ bs) (last refl) ∙ append-nil given) ∙ commands)

pub memory_begins : (limits : Limits) (bytes : List ℕ) (done : List WrittenCommand) (line : ℕ) → MemoryIn limits bytes whole done line → BeginsWith limits bytes done
memory_begins limits bytes done line m =
    subst (λ bs. BeginsWith limits bs done) (sym m.bytes_are) (memory_by limits m.given m.rest done m.later m.ending (λ is. let last = m.last is in last.0) m.commands_are)

pub unread_begins : (limits : Limits) (given rest : List ℕ) (done : List WrittenCommand) → read limits given broken ≡ reading done tail.unread → BeginsWith limits (given ++ rest) done
unread_begins limits given rest done is = bytes_begin limits given rest done [] (ap (λ (r : Reading). r.commands) is ∙ sym (append-nil done))
