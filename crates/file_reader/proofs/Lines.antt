-- The line of the command that is due stands, however the tokens go on.
use Rattle.std.proofs.Common.{◌≡◌, ℕ, Bool, true, false, List, [], ◌∷◌, ◌++◌, refl, sym, ap, subst, ◌∙◌}
use Rattle.std.specs.Prelude.{Option, Some, None, unwrap_or, nat_lt}
use Rattle.dk_model.specs.declared.code.Code.{Code}
use Rattle.dk_model.specs.declared.limits.Limits.{Limits}
use Rattle.dk_lexer.specs.declared.token.Token.{Token}
use Rattle.dk_terms.specs.declared.terminal.Terminal.{Terminal}
use Rattle.dk_parser.specs.FileReading.{next_line}
use Rattle.dk_parser.specs.Groups.{load}
use Rattle.dk_parser.specs.Levels.{standing_behind}
use Rattle.dk_parser.specs.Parsing.{Answer, Advance, Parsing, answered, begun_by, begun_line, command, commands_from, ends, goes, more, parsing_after, parsing_from, advanced, refusal, refused, refuses, started, turn, turn_by_fault, turn_by_step, turn_by_terminal}
use Rattle.dk_parser.specs.Steps.{read_tokens}
use Rattle.dk_terms.specs.Terminals.{terminal_of}
use Rattle.dk_parser.proofs.Turns.{commands_append, parsing_append}

-- behind an answer, the command at this line goes on, or it has ended
abbrev pub GoesOnAt : ℕ → Answer → Parsing → Type 0
GoesOnAt line (command c) s = c.line ≡ line
GoesOnAt line answer s = begun_line s ≡ Some line

by_step : (s : Parsing) (line : ℕ) (code : Code) (deep : Bool) (p : Advance) → s.fault ≡ None → GoesOnAt line (turn_by_step s line code deep p).answer (turn_by_step s line code deep p).state
by_step s line code true (goes part) none = refl
by_step s line code true (ends form) none = refl
by_step s line code false (goes part) none = ap (λ (f : Option (ℕ × Code)). begun_by f (Some line)) none
by_step s line code false (ends form) none = refl
by_step s line code deep refuses none = refl

by_terminal : (s : Parsing) (line : ℕ) (x : Terminal) → s.fault ≡ None → GoesOnAt line (turn_by_terminal s line x).answer (turn_by_terminal s line x).state
by_terminal s line x none = by_step (record s { standing = standing_behind s.standing x }) line (refusal x) (nat_lt s.limits.levels (load s.standing x)) (advanced s.part x) none

-- a token behind those of a command that has begun at this line, or its first token
by_fault : (f : Option (ℕ × Code)) (s : Parsing) (t : Token) (line : ℕ) → s.fault ≡ f → begun_line s ≡ Some line → GoesOnAt line (turn_by_fault f s t).answer (turn_by_fault f s t).state
by_fault (Some (l, code)) s t line is begun = begun
by_fault None s t line is begun =
    let same : s.begun ≡ Some line = ap (λ (f : Option (ℕ × Code)). begun_by f s.begun) (sym is) ∙ begun in
    subst (λ l. GoesOnAt line (turn_by_terminal s l (terminal_of t)).answer (turn_by_terminal s l (terminal_of t)).state) (ap (λ o. unwrap_or o t.line) (sym same))
    (by_terminal s line (terminal_of t) is)

-- the tokens go on behind an answer
behind : (answer : Answer) (s : Parsing) (ts : List Token) (line place : ℕ) → GoesOnAt line answer s → (begun_line s ≡ Some line → next_line (commands_from s ts) (begun_line (parsing_from s ts)) place ≡ line)
    → next_line (answered answer ++ commands_from s ts) (begun_line (parsing_from s ts)) place ≡ line
behind more s ts line place begun later = later begun
behind (command c) s ts line place is later = is
behind (refused code) s ts line place begun later = later begun

-- the line of a command that has begun stands
stays : (s : Parsing) (ts : List Token) (line place : ℕ) → begun_line s ≡ Some line → next_line (commands_from s ts) (begun_line (parsing_from s ts)) place ≡ line
stays s [] line place begun = ap (λ o. unwrap_or o place) begun
stays s (t ∷ ts) line place begun = behind (turn s t).answer (turn s t).state ts line place (by_fault s.fault s t line refl begun) (λ later. stays (turn s t).state ts line place later)

-- a token at hand settles the line
pub due_stays : (limits : Limits) (taken coming : List Token) (t : Token) (place : ℕ) → (read_tokens limits taken).fault ≡ None
    → next_line (commands_from (parsing_after limits taken) (t ∷ coming)) (read_tokens limits (taken ++ t ∷ coming)).begun place ≡ unwrap_or (read_tokens limits taken).begun t.line
due_stays limits taken coming t place none =
    ap (λ (s : Parsing). next_line (commands_from before (t ∷ coming)) (begun_line s) place) (parsing_append (started limits) taken (t ∷ coming))
    ∙ behind (turn before t).answer (turn before t).state coming (unwrap_or before.begun t.line) place
    (subst (λ (f : Option (ℕ × Code)). GoesOnAt (unwrap_or before.begun t.line) (turn_by_fault f before t).answer (turn_by_fault f before t).state) (sym none)
    (by_terminal before (unwrap_or before.begun t.line) (terminal_of t) none))
    (λ later. stays (turn before t).state coming (unwrap_or before.begun t.line) place later)
    ∙ ap (λ (f : Option (ℕ × Code)). unwrap_or (begun_by f before.begun) t.line) (sym none)
  where
    before : Parsing
    before = parsing_after limits taken

-- the commands of more tokens
pub commands_more : (limits : Limits) (taken us : List Token) → (read_tokens limits (taken ++ us)).commands ≡ (read_tokens limits taken).commands ++ commands_from (parsing_after limits taken) us
commands_more limits taken us = commands_append (started limits) taken us
