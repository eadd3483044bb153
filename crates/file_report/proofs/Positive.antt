-- The lines of tokens and of commands count from 1.
use Rattle.std.proofs.Common.{ℕ, suc, zero, ◌+◌, ◌<◌, Bool, true, false, List, [], ◌∷◌, ◌++◌, length, drop, nat_le, ◌==◌, if◌then◌else◌, sym, subst, arith, Option, Some, None, unwrap_or}
use Rattle.std.specs.Prelude.{nat_lt, min}
use Rattle.dk_model.specs.declared.code.Code.{Code}
use Rattle.dk_model.specs.declared.code.Code.TheVariants.{E03, E07}
use Rattle.dk_model.specs.declared.limits.Limits.{Limits}
use Rattle.dk_lexer.specs.declared.place.Place.{Place}
use Rattle.dk_lexer.specs.declared.token.Token.{Token}
use Rattle.dk_lexer.specs.Spelling.{Spelling, blank, token, run_and_dot, wrong, comment_open, unsettled, late, kind_of, spelled}
use Rattle.dk_lexer.specs.Tokens.{Bound, Ending, Lexed, Setting, at_end, behind, begin_of, bound, broken, by_bound, command_after, dot_at, fault_at, gives, input_limit, late_bound, next_line as line_after, nothing_at, outcome, outcome_at, token_at, tokens, tokens_from, whole, within}
use Rattle.dk_parser.specs.FileReading.{Tail, read, tail_by_bytes, tail_by_ending, tail_by_tokens}
use Rattle.dk_parser.specs.FileReading as tail
use Rattle.dk_parser.specs.Groups.{load}
use Rattle.dk_parser.specs.Levels.{standing_behind}
use Rattle.dk_parser.specs.Parsing.{Answer, Advance, Parsing, answered, begun_by, begun_line, commands_from, ends, goes, parsing_from, advanced, refusal, refuses, started, turn, turn_by_fault, turn_by_step}
use Rattle.dk_terms.specs.Terminals.{terminal_of}
use Rattle.dk_parser.specs.Written.{WrittenCommand}
use Rattle.theory_walk.specs.BookReadings.{due_line}
use Rattle.theory_walk.specs.Lines.{IsNextLine, next_line, reading_at}

-- ---- tokens

abbrev HaveLines : List Token → Type 0
HaveLines [] = Unit {0}
HaveLines (t ∷ ts) = (0 < t.line) × HaveLines ts

abbrev LexedHasLines : Lexed → Type 0
LexedHasLines lexed = HaveLines lexed.tokens × (0 < lexed.line)

by_bound_lines : (here : Place) → 0 < here.line → (code : Code) (b : Bool) (lexed : Lexed) → LexedHasLines lexed → LexedHasLines (by_bound here code b lexed)
by_bound_lines here some code true lexed h = h
by_bound_lines here some code false lexed h = (tt, some)

at_end_lines : (e : Ending) (settled begun : Lexed) → LexedHasLines settled → LexedHasLines begun → LexedHasLines (at_end e settled begun)
at_end_lines whole settled begun h k = h
at_end_lines broken settled begun h k = k

within_lines : (s : Setting) → 0 < s.here.line → (b : Bound) (left : ℕ) (lexed : Lexed) → LexedHasLines lexed → LexedHasLines (within s b left lexed)
within_lines s some b left lexed h = by_bound_lines s.here some b.code (nat_le s.total (b.last + left)) lexed h

outcome_lines : (s : Setting) → 0 < s.here.line → (begin : ℕ) (b : Bound) (spelling : Spelling) (later : Option ℕ → ℕ → Lexed) → ((c : Option ℕ) (left : ℕ) → LexedHasLines (later c left)) → LexedHasLines (outcome s begin b spelling later)
outcome_lines s some begin b (token kind text left) later h =
    let m = h (command_after kind begin) left in
    within_lines s some b left (gives (token_at s.here kind text) (later (command_after kind begin) left)) ((some, m.0), m.1)
outcome_lines s some begin b (run_and_dot text left) later h =
    let m = h None left in
    within_lines s some b left (gives (token_at s.here (kind_of text) text) (gives (dot_at s.here text) (later None left))) ((some, (some, m.0)), m.1)
outcome_lines s some begin b (wrong code left) later h = within_lines s some b left (fault_at s.here code) (tt, some)
outcome_lines s some begin b (unsettled settled) later h =
    at_end_lines s.ending (outcome s begin b settled later) (within s b 0 (nothing_at s.here)) (outcome_lines s some begin b settled later h)
    (within_lines s some b 0 (nothing_at s.here) (tt, some))
outcome_lines s some begin b (late left spelling) later h =
    let inner = outcome s begin (late_bound s begin left) spelling later in
    let fits = nat_lt s.total (input_limit s.limits + left) in
    within_lines s some b left (by_bound s.here E07 fits inner) (by_bound_lines s.here some E07 fits inner (outcome_lines s some begin (late_bound s begin left) spelling later h))
outcome_lines s some begin b (blank left) later h = within_lines s some (bound s.limits s.command) left (later s.command left) (h s.command left)
outcome_lines s some begin b comment_open later h =
    within_lines s some (bound s.limits s.command) 0 (at_end s.ending (fault_at s.here E03) (nothing_at s.here))
    (at_end_lines s.ending (fault_at s.here E03) (nothing_at s.here) (tt, some) (tt, some))

behind_line : (here : Place) (b : ℕ) → 0 < here.line → 0 < (behind here b).line
unfolding behind
behind_line here b some = go (b == 10)
  where
    go : (t : Bool) → 0 < (if t then line_after here.line else here.line)
    go true = let lt : 0 < min (here.line + 1) 4294967295 = omega arith in lt
    go false = some

tokens_lines : (limits : Limits) (ending : Ending) (total : ℕ) (here : Place) (open_command : Option ℕ) (left : ℕ) (bytes : List ℕ) → 0 < here.line → LexedHasLines (tokens_from limits ending total here open_command left bytes)
tokens_lines limits ending total here open_command left [] some = (tt, some)
tokens_lines limits ending total here open_command left (b ∷ bs) some = go (λ c n. tokens_lines limits ending total (behind here b) c n bs (behind_line here b some)) (nat_le left (length bs))
  where
    go : ((c : Option ℕ) (n : ℕ) → LexedHasLines (tokens_from limits ending total (behind here b) c n bs)) → (t : Bool)
        → LexedHasLines (elim t [
          | true ↦ tokens_from limits ending total (behind here b) open_command left bs
          | false ↦ outcome_at (record { limits = limits; ending = ending; total = total; here = here; command = open_command }) (spelled limits.name_bytes b bs) (λ c n. tokens_from limits ending total (behind here b) c n bs)
        ])
    go rec true = rec open_command left
    go rec false =
        let begin = begin_of open_command here.offset in
        outcome_lines (record { limits = limits; ending = ending; total = total; here = here; command = open_command }) some begin (bound limits (Some begin)) (spelled limits.name_bytes b bs) (λ c n. tokens_from limits ending total (behind here b) c n bs) rec

all_lines : (limits : Limits) (bytes : List ℕ) (ending : Ending) → LexedHasLines (tokens limits bytes ending)
unfolding tokens
all_lines limits bytes ending = tokens_lines limits ending (length bytes) (record { offset = 0; line = 1 }) None (length bytes) bytes (omega arith)

-- ---- commands

abbrev pub CommandsHaveLines : List WrittenCommand → Type 0
CommandsHaveLines [] = Unit {0}
CommandsHaveLines (c ∷ cs) = (0 < c.line) × CommandsHaveLines cs

abbrev BegunHasLine : Option ℕ → Type 0
BegunHasLine None = Unit {0}
BegunHasLine (Some line) = 0 < line

unwrapped : (begun : Option ℕ) (place : ℕ) → BegunHasLine begun → 0 < place → 0 < unwrap_or begun place
unwrapped None place h some = some
unwrapped (Some line) place h some = h

abbrev FaultHasLine : Option (ℕ × Code) → Type 0
FaultHasLine None = Unit {0}
FaultHasLine (Some (line, code)) = 0 < line

abbrev HasLine : Parsing → Type 0
HasLine s = BegunHasLine s.begun × FaultHasLine s.fault

-- behind a token
record TurnHasLine (s : Parsing) (answer : Answer) : Type 0 where
  state : HasLine s
  commands : CommandsHaveLines (answered answer)

by_step : (s : Parsing) (line : ℕ) (code : Code) (deep : Bool) (p : Advance) → HasLine s → 0 < line → TurnHasLine (turn_by_step s line code deep p).state (turn_by_step s line code deep p).answer
by_step s line code true (goes part) h some = record { state = (h.0, some); commands = tt }
by_step s line code true (ends form) h some = record { state = (h.0, some); commands = tt }
by_step s line code false (goes part) h some = record { state = (some, h.1); commands = tt }
by_step s line code false (ends form) h some = record { state = (tt, h.1); commands = (some, tt) }
by_step s line code deep refuses h some = record { state = (h.0, some); commands = tt }

by_fault : (f : Option (ℕ × Code)) (s : Parsing) (t : Token) → HasLine s → 0 < t.line → TurnHasLine (turn_by_fault f s t).state (turn_by_fault f s t).answer
by_fault (Some (line, code)) s t h some = record { state = h; commands = tt }
by_fault None s t h some =
    let x = terminal_of t in
    by_step (record s { standing = standing_behind s.standing x }) (unwrap_or s.begun t.line) (refusal x) (nat_lt s.limits.levels (load s.standing x)) (advanced s.part x) h (unwrapped s.begun t.line h.0 some)

both : (xs ys : List WrittenCommand) → CommandsHaveLines xs → CommandsHaveLines ys → CommandsHaveLines (xs ++ ys)
both [] ys h k = k
both (x ∷ xs) ys h k = (h.0, both xs ys h.1 k)

commands_lines : (s : Parsing) (ts : List Token) → HasLine s → HaveLines ts → CommandsHaveLines (commands_from s ts)
commands_lines s [] has h = tt
commands_lines s (t ∷ ts) has h =
    let turned = by_fault s.fault s t has h.0 in
    both (answered (turn s t).answer) (commands_from (turn s t).state ts) turned.commands (commands_lines (turn s t).state ts turned.state h.1)

by_begun : (f : Option (ℕ × Code)) (begun : Option ℕ) → BegunHasLine begun → FaultHasLine f → BegunHasLine (begun_by f begun)
by_begun None begun h k = h
by_begun (Some (line, code)) begun h k = k

parsing_lines : (s : Parsing) (ts : List Token) → HasLine s → HaveLines ts → HasLine (parsing_from s ts)
parsing_lines s [] has h = has
parsing_lines s (t ∷ ts) has h = parsing_lines (turn s t).state ts (by_fault s.fault s t has h.0).state h.1

begun_lines : (s : Parsing) (ts : List Token) → HasLine s → HaveLines ts → BegunHasLine (begun_line (parsing_from s ts))
begun_lines s [] has h = by_begun s.fault s.begun has.0 has.1
begun_lines s (t ∷ ts) has h = begun_lines (turn s t).state ts (by_fault s.fault s t has h.0).state h.1

-- ---- the next line

dropped : (n : ℕ) (cs : List WrittenCommand) → CommandsHaveLines cs → CommandsHaveLines (drop n cs)
dropped zero cs h = h
dropped (suc n) [] h = tt
dropped (suc n) (c ∷ cs) h = dropped n cs h.1

next_some : (cs : List WrittenCommand) (begun : Option ℕ) (place : ℕ) → CommandsHaveLines cs → BegunHasLine begun → 0 < place → 0 < next_line cs begun place
next_some (c ∷ cs) begun place h k some = h.0
next_some [] begun place h k some = unwrapped begun place k some

pub next_line_positive : (limits : Limits) (bytes : List ℕ) (ending : Ending) (count line : ℕ) → IsNextLine limits bytes ending count line → 0 < line
next_line_positive limits bytes ending count line next =
    let ts = (tokens limits next.given next.ending).tokens in
    let lines = all_lines limits next.given next.ending in
    subst (λ l. 0 < l) (sym next.line_is)
    (next_some (drop count (reading_at limits next.given next.ending).commands) (reading_at limits next.given next.ending).begun (tokens limits next.given broken).line
    (dropped count (reading_at limits next.given next.ending).commands (commands_lines (started limits) ts (tt, tt) lines.0))
    (begun_lines (started limits) ts (tt, tt) lines.0)
    (all_lines limits next.given broken).1)

-- ---- what a book is read as

abbrev pub TailHasLine : Tail → Type 0
TailHasLine tail.whole = Unit {0}
TailHasLine (tail.fault line code) = 0 < line
TailHasLine tail.unread = Unit {0}

by_ending_line : (e : Ending) (begun : Option ℕ) → BegunHasLine begun → TailHasLine (tail_by_ending e begun)
by_ending_line broken begun h = tt
by_ending_line whole None h = tt
by_ending_line whole (Some line) h = h

by_bytes_line : (f : Option Code) (line : ℕ) (e : Ending) (begun : Option ℕ) → 0 < line → BegunHasLine begun → TailHasLine (tail_by_bytes f line e begun)
by_bytes_line None line e begun some h = by_ending_line e begun h
by_bytes_line (Some code) line e begun some h = unwrapped begun line h some

by_tokens_line : (f : Option (ℕ × Code)) (lexed : Lexed) (e : Ending) (begun : Option ℕ) → FaultHasLine f → 0 < lexed.line → BegunHasLine begun → TailHasLine (tail_by_tokens f lexed e begun)
by_tokens_line None lexed e begun h some k = by_bytes_line lexed.fault lexed.line e begun some k
by_tokens_line (Some (line, code)) lexed e begun h some k = h

-- the commands of a book, and its tail
pub read_commands_lines : (limits : Limits) (bytes : List ℕ) (ending : Ending) → CommandsHaveLines (read limits bytes ending).commands
read_commands_lines limits bytes ending = commands_lines (started limits) (tokens limits bytes ending).tokens (tt, tt) (all_lines limits bytes ending).0

pub read_tail_line : (limits : Limits) (bytes : List ℕ) (ending : Ending) → TailHasLine (read limits bytes ending).tail
read_tail_line limits bytes ending =
    let lines = all_lines limits bytes ending in
    let ts = (tokens limits bytes ending).tokens in
    by_tokens_line (parsing_from (started limits) ts).fault (tokens limits bytes ending) ending (begun_line (parsing_from (started limits) ts))
    (parsing_lines (started limits) ts (tt, tt) lines.0).1 lines.1 (begun_lines (started limits) ts (tt, tt) lines.0)

-- the line that is due behind bytes that were given
pub line_due_positive : (limits : Limits) (bytes : List ℕ) → 0 < due_line limits bytes
line_due_positive limits bytes =
    let lines = all_lines limits bytes broken in
    unwrapped (reading_at limits bytes broken).begun (tokens limits bytes broken).line (begun_lines (started limits) (tokens limits bytes broken).tokens (tt, tt) lines.0) lines.1
