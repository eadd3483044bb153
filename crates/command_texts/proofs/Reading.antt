-- The texts of what tokens are read as are those between its first token and its dot.
use Rattle.std.proofs.Common.{List, [], ◌∷◌, ◌++◌, ℕ, ◌+◌, ◌≡◌, true, false, Option, Some, None, refl, ap, sym, subst, ◌∙◌, true≢false}
use Rattle.std.specs.Prelude.{unwrap_or}
use Rattle.dk_model.specs.declared.limits.Limits.{Limits}
use Rattle.dk_lexer.specs.declared.token.Token.{Token}
use Rattle.dk_lexer.specs.declared.token.TokenKind.{TokenKind}
use Rattle.dk_lexer.specs.declared.token.TokenKind.TheVariants as kind
use Rattle.dk_lexer.specs.declared.token.Sign.TheVariants as sign
use Rattle.dk_lexer.specs.Tokens.{tokens, whole}
use Rattle.dk_parser.specs.FileReading.{Reading}
use Rattle.dk_parser.specs.Reading.{TokenReading, Reads, reads_nothing, reads_front, reads_fault, reads_command}
use Rattle.dk_parser.specs.Steps.{read_tokens}
use Rattle.dk_parser.specs.Written.{WrittenCommand}
use Rattle.dk_parser.proofs.Exact.{exact}
use Rattle.text_law.specs.Cuts.{begin_of, end_of, AreCut, cut_none, cut_command, AreTextsOf, IsReadAs}
use Rattle.text_law.proofs.Dots.{AllOpen, keeps_open}
use Rattle.text_law.proofs.Firsts.{EndsAtDot, spelt_dot}
use Rattle.text_law.proofs.Choices.{end_is}
use Rattle.text_law.proofs.Whole.{IsWholeFile, whole_file}
use Rattle.command_texts.specs.declared.span.Span.{Span}
use Rattle.command_texts.specs.Cutting.{ended_by, begun_behind, spans_of}
use Rattle.command_texts.specs.Spans.{cut}

-- ---- a token that is a dot, and one that isn't

ended_open : (k : TokenKind) (o : ℕ) (b : Option ℕ) → keeps_open k ≡ true → ended_by k o b ≡ []
ended_open (kind.Sign sign.Dot) o b e = absurd (true≢false (sym e))
ended_open (kind.Sign s) o b e = refl
ended_open k o b e = refl

behind_open : (k : TokenKind) (o : ℕ) (b : Option ℕ) → keeps_open k ≡ true → begun_behind k o b ≡ Some (unwrap_or b o)
behind_open (kind.Sign sign.Dot) o b e = absurd (true≢false (sym e))
behind_open (kind.Sign s) o b e = refl
behind_open k o b e = refl

open_step : (t : Token) (b : Option ℕ) (ts : List Token) → keeps_open t.kind ≡ true → spans_of b (t ∷ ts) ≡ spans_of (Some (unwrap_or b t.offset)) ts
open_step t b ts h = λ i. ended_open t.kind t.offset b h i ++ spans_of (behind_open t.kind t.offset b h i) ts

dot_by : (k : TokenKind) (o : ℕ) (b : Option ℕ) (ts : List Token) → keeps_open k ≡ false → ended_by k o b ++ spans_of (begun_behind k o b) ts ≡ record { begin = unwrap_or b o; end = o + 1 } ∷ spans_of None ts
dot_by (kind.Sign sign.Dot) o b ts e = refl
dot_by (kind.Sign s) o b ts e = absurd (true≢false e)
dot_by k o b ts e = absurd (true≢false e)

dot_step : (t : Token) (b : Option ℕ) (ts : List Token) → keeps_open t.kind ≡ false → spans_of b (t ∷ ts) ≡ record { begin = unwrap_or b t.offset; end = t.offset + 1 } ∷ spans_of None ts
dot_step t b ts h = dot_by t.kind t.offset b ts h

-- ---- the tokens of a command

inner : (f : ℕ) (front : List Token) (last : Token) (us : List Token) → AllOpen front → keeps_open last.kind ≡ false → spans_of (Some f) ((front ++ last ∷ []) ++ us) ≡ record { begin = f; end = last.offset + 1 } ∷ spans_of None us
inner f [] last us a h = dot_step last (Some f) us h
inner f (t ∷ front) last us a h = open_step t (Some f) ((front ++ last ∷ []) ++ us) a.0 ∙ inner f front last us a.1 h

outer : (front : List Token) (last : Token) (us : List Token) → AllOpen front → keeps_open last.kind ≡ false
    → spans_of None ((front ++ last ∷ []) ++ us) ≡ record { begin = begin_of (front ++ last ∷ []); end = last.offset + 1 } ∷ spans_of None us
outer [] last us a h = dot_step last None us h
outer (t ∷ front) last us a h = open_step t None ((front ++ last ∷ []) ++ us) a.0 ∙ inner t.offset front last us a.1 h

command_span : (ts us : List Token) → EndsAtDot ts → spans_of None (ts ++ us) ≡ record { begin = begin_of ts; end = end_of ts } ∷ spans_of None us
command_span ts us d = ap (λ z. spans_of None (z ++ us)) d.ends_so ∙ outer d.front d.last us d.are_open d.is_dot
    ∙ (λ i. record { begin = begin_of (sym d.ends_so i); end = (sym (end_is d.front d.last) ∙ ap end_of (sym d.ends_so)) i } ∷ spans_of None us)

-- ---- what tokens are read as

reads_cut : (bytes : List ℕ) {limits : Limits} {ts : List Token} {r : TokenReading} → Reads limits ts r → r.begun ≡ None → r.fault ≡ None → AreCut bytes ts r.commands (cut bytes (spans_of None ts))
reads_cut bytes reads_nothing b f = cut_none
reads_cut bytes (reads_front x) b f = absurd cc
reads_cut bytes (reads_fault t rest x y) b f = absurd cc
reads_cut bytes (reads_command {ts} {us} {c} {r} s w rest) b f =
    subst (λ z. AreCut bytes (ts ++ us) (c ∷ r.commands) (cut bytes z)) (sym (command_span ts us (spelt_dot s.form))) (cut_command s (reads_cut bytes rest b f))

pub file_cut : (limits : Limits) (bytes : List ℕ) (commands : List WrittenCommand) (spans : List Span) → IsReadAs limits bytes commands → spans ≡ spans_of None (tokens limits bytes whole).tokens → AreTextsOf limits bytes commands (cut bytes spans)
file_cut limits bytes commands spans e same =
    let ts : List Token = (tokens limits bytes whole).tokens in
    let r : TokenReading = read_tokens limits ts in
    let w : IsWholeFile limits bytes = whole_file limits bytes (ap (λ (x : Reading). x.tail) e) in
    subst (λ z. AreCut bytes ts commands (cut bytes z)) (sym same)
    (subst (λ z. AreCut bytes ts z (cut bytes (spans_of None ts))) (ap (λ (x : Reading). x.commands) e) (reads_cut bytes (exact limits ts) w.begun w.fault))
