-- For proofs: what the parser has made of the tokens so far. `Reading` has its meaning.
use Rattle.std.specs.Prelude.{ℕ, Bool, true, false, List, [], ◌∷◌, ◌++◌, Option, Some, None, unwrap_or, nat_lt, if◌then◌else◌}
use Rattle.dk_model.specs.declared.code.Code.{Code}
use Rattle.dk_model.specs.declared.code.Code.TheVariants.{E02, E04, E06}
use Rattle.dk_model.specs.declared.limits.Limits.{Limits}
use Rattle.dk_model.specs.declared.signature.SymSort.{SymSort}
use Rattle.dk_model.specs.declared.signature.SymSort.TheVariants.{Static, Definable, Theorem}
use Rattle.dk_lexer.specs.declared.token.Token.{Token}
use Rattle.dk_lexer.specs.declared.token.Sign.{Sign}
use Rattle.dk_lexer.specs.declared.token.Sign.TheVariants as sign
use Rattle.dk_lexer.specs.Spelling.{is_plain_name}
use Rattle.dk_terms.specs.declared.terminal.Terminal.{Terminal}
use Rattle.dk_terms.specs.declared.terminal.Terminal.TheVariants as terminal
use Rattle.dk_terms.specs.Parsing.{TermSoFar, term_due, asked_due, TermStep, term_goes, term_ends, term_refuses, term_next, LeftSoFar, left_due, LeftStep, left_goes, left_ends, left_refuses, left_next, with_atom}
use Rattle.dk_terms.specs.Terminals.{terminal_of}
use Rattle.dk_parser.specs.declared.directive_part.Directive.{Directive}
use Rattle.dk_parser.specs.declared.directive_part.Directive.TheVariants as directive
use Rattle.dk_parser.specs.Written.{Written, WrittenParam, WrittenPattern, pattern_guard, WrittenNote, WrittenRule, asked_typed, asked_alike, asked_type, asked_value, WrittenForm, written_declare, written_rules, written_query, written_module, written_require, WrittenCommand}
use Rattle.dk_parser.specs.Grammar.{param, entry, rule}
use Rattle.dk_parser.specs.Groups.{load}
use Rattle.dk_parser.specs.Levels.{Standing, at_start, standing_behind}

-- what stands before the colon of a declaration
pub record Head : Type 0 where
  pub sort : SymSort
  pub name : List ℕ
  pub params : List WrittenParam

-- with a parameter more
abbrev pub with_param : Head → Option (List ℕ) → Written → Head
with_param h v a = record { sort = h.sort; name = h.name; params = h.params ++ param v a ∷ [] }

-- the rules of a command so far, and the context of the next one so far
pub record RuleHead : Type 0 where
  pub rules : List WrittenRule
  pub context : List WrittenNote

-- before the first rule
abbrev pub no_rules : RuleHead
no_rules = record { rules = []; context = [] }

-- with an entry more
abbrev pub with_entry : RuleHead → List ℕ → Option Written → RuleHead
with_entry h n typ = record { rules = h.rules; context = h.context ++ entry n typ ∷ [] }

-- with a rule more, and the context of the next one
abbrev pub with_rule : RuleHead → WrittenPattern → Written → RuleHead
with_rule h l r = record { rules = h.rules ++ rule h.context l r ∷ []; context = [] }

-- a query without its last term: behind a first one and its colon or `==`, or behind `#INFER` or `#EVAL`
pub data Asking : Type 0 where
  asking_typed : Bool → Written → Asking
  asking_alike : Bool → Written → Asking
  asking_type : Asking
  asking_value : Asking

-- with its last term
abbrev pub query_form : Asking → Written → WrittenForm
query_form (asking_typed d t) a = written_query d (asked_typed t a)
query_form (asking_alike d t) u = written_query d (asked_alike t u)
query_form asking_type t = written_query false (asked_type t)
query_form asking_value t = written_query false (asked_value t)

-- what a term is read for
pub data Purpose : Type 0 where
  as_param : Head → Option (List ℕ) → Purpose
  as_type : Head → Purpose
  as_body : Head → Option Written → Purpose
  as_entry : RuleHead → List ℕ → Purpose
  as_guard : RuleHead → LeftSoFar → Purpose
  as_right : RuleHead → WrittenPattern → Purpose
  as_asked : Bool → Purpose
  as_query : Asking → Purpose

-- a command that has begun, by what is due next
pub data CommandSoFar : Type 0 where
  command_due : CommandSoFar
  name_due : SymSort → CommandSoFar
  head_due : Head → CommandSoFar
  binder_due : Head → CommandSoFar
  binder_colon_due : Head → Option (List ℕ) → CommandSoFar
  rule_name_due : RuleHead → CommandSoFar
  rule_brace_due : RuleHead → CommandSoFar
  square_due : RuleHead → CommandSoFar
  context_due : RuleHead → CommandSoFar
  entry_due : RuleHead → CommandSoFar
  entry_named : RuleHead → List ℕ → CommandSoFar
  in_left : RuleHead → LeftSoFar → CommandSoFar
  in_term : Purpose → TermSoFar → CommandSoFar
  module_due : Directive → CommandSoFar
  dot_due : Directive → List ℕ → CommandSoFar

-- what a terminal makes of it: a command that goes on; a command; or nothing
pub data Advance : Type 0 where
  goes : CommandSoFar → Advance
  ends : WrittenForm → Advance
  refuses : Advance

-- a term is due
abbrev pub goes_into : Purpose → Advance
goes_into purpose = goes (in_term purpose term_due)

-- what a query asks of is due
abbrev pub asks : Bool → Advance
asks demand = goes (in_term (as_asked demand) asked_due)

-- the dot, or `:=`, behind the type of a declaration of this sort, and `:=` behind its head
abbrev pub dot_behind_type : SymSort → Head → Written → Advance
dot_behind_type Theorem h a = refuses
dot_behind_type sort h a = ends (written_declare sort h.name h.params (Some a) None)

abbrev pub body_behind_type : SymSort → Head → Written → Advance
body_behind_type Static h a = refuses
body_behind_type sort h a = goes_into (as_body h (Some a))

abbrev pub body_behind_head : SymSort → Head → Advance
body_behind_head Definable h = goes_into (as_body h None)
body_behind_head sort h = refuses

-- a sign behind an entry of a context
abbrev pub behind_entry : RuleHead → Sign → Advance
behind_entry h sign.Comma = goes (entry_due h)
behind_entry h sign.CloseSquare = goes (in_left h left_due)
behind_entry h s = refuses

-- a sign behind a rule
abbrev pub behind_rule : RuleHead → Sign → Advance
behind_rule h sign.Dot = ends (written_rules h.rules)
behind_rule h sign.OpenSquare = goes (context_due h)
behind_rule h sign.OpenBrace = goes (rule_name_due h)
behind_rule h s = refuses

-- a sign behind what a query asks of
abbrev pub behind_asked : Bool → Written → Sign → Advance
behind_asked d t sign.Colon = goes_into (as_query (asking_typed d t))
behind_asked d t sign.Equal = goes_into (as_query (asking_alike d t))
behind_asked d t s = refuses

-- a sign behind the last term of a query
abbrev pub behind_query : Asking → Written → Sign → Advance
behind_query q t sign.Dot = ends (query_form q t)
behind_query q t s = refuses

-- a sign behind a whole term
abbrev pub behind_term : Purpose → Written → Sign → Advance
behind_term (as_param h v) a sign.CloseBracket = goes (head_due (with_param h v a))
behind_term (as_type h) a sign.Dot = dot_behind_type h.sort h a
behind_term (as_type h) a sign.Defined = body_behind_type h.sort h a
behind_term (as_body h typ) b sign.Dot = ends (written_declare h.sort h.name h.params typ (Some b))
behind_term (as_entry h n) a s = behind_entry (with_entry h n (Some a)) s
behind_term (as_guard h part) a sign.CloseBrace = goes (in_left h (with_atom part (pattern_guard a)))
behind_term (as_right h l) a s = behind_rule (with_rule h l a) s
behind_term (as_asked d) t s = behind_asked d t s
behind_term (as_query q) t s = behind_query q t s
behind_term purpose a s = refuses

abbrev pub in_term_by : Purpose → TermStep → Advance
in_term_by purpose (term_goes part) = goes (in_term purpose part)
in_term_by purpose (term_ends a s) = behind_term purpose a s
in_term_by purpose term_refuses = refuses

-- a terminal behind a name and parameters
abbrev pub head_next : Head → Terminal → Advance
head_next h (terminal.Sign sign.OpenBracket) = goes (binder_due h)
head_next h (terminal.Sign sign.Colon) = goes_into (as_type h)
head_next h (terminal.Sign sign.Defined) = body_behind_head h.sort h
head_next h x = refuses

-- a terminal behind the name of an entry
abbrev pub named_next : RuleHead → List ℕ → Terminal → Advance
named_next h n (terminal.Sign sign.Colon) = goes_into (as_entry h n)
named_next h n (terminal.Sign s) = behind_entry (with_entry h n None) s
named_next h n x = refuses

abbrev pub in_left_by : RuleHead → LeftStep → Advance
in_left_by h (left_goes part) = goes (in_left h part)
in_left_by h (left_ends l) = goes_into (as_right h l)
in_left_by h left_refuses = refuses

-- a terminal on a left side
abbrev pub in_left_next : RuleHead → LeftSoFar → Terminal → Advance
in_left_next h part (terminal.Sign sign.OpenBrace) = goes_into (as_guard h part)
in_left_next h part x = in_left_by h (left_next part x)

abbrev pub named : SymSort → List ℕ → Advance
named sort name = goes (head_due record { sort = sort; name = name; params = [] })

-- a name behind the word of a directive
abbrev pub module_named : Directive → List ℕ → Advance
module_named d m = if is_plain_name m then goes (dot_due d m) else refuses

-- a directive with its module
abbrev pub directive_form : Directive → List ℕ → WrittenForm
directive_form directive.Name m = written_module m
directive_form directive.Require m = written_require m

-- one terminal of a command or a directive
abbrev pub advanced : CommandSoFar → Terminal → Advance
advanced command_due (terminal.Name n) = named Static n
advanced command_due terminal.Def = goes (name_due Definable)
advanced command_due terminal.Thm = goes (name_due Theorem)
advanced command_due (terminal.Sign sign.OpenBrace) = goes (rule_name_due no_rules)
advanced command_due (terminal.Sign sign.OpenSquare) = goes (context_due no_rules)
advanced command_due terminal.NameWord = goes (module_due directive.Name)
advanced command_due terminal.RequireWord = goes (module_due directive.Require)
advanced command_due terminal.Check = asks false
advanced command_due terminal.Assert = asks true
advanced command_due terminal.Infer = goes_into (as_query asking_type)
advanced command_due terminal.Eval = goes_into (as_query asking_value)
advanced (name_due sort) (terminal.Name n) = named sort n
advanced (head_due h) x = head_next h x
advanced (binder_due h) (terminal.Name n) = goes (binder_colon_due h (Some n))
advanced (binder_due h) terminal.Wildcard = goes (binder_colon_due h None)
advanced (binder_colon_due h v) (terminal.Sign sign.Colon) = goes_into (as_param h v)
advanced (rule_name_due h) (terminal.Name n) = goes (rule_brace_due h)
advanced (rule_name_due h) (terminal.Qualified m n) = goes (rule_brace_due h)
advanced (rule_brace_due h) (terminal.Sign sign.CloseBrace) = goes (square_due h)
advanced (square_due h) (terminal.Sign sign.OpenSquare) = goes (context_due h)
advanced (context_due h) (terminal.Sign sign.CloseSquare) = goes (in_left h left_due)
advanced (context_due h) (terminal.Name n) = goes (entry_named h n)
advanced (entry_due h) (terminal.Name n) = goes (entry_named h n)
advanced (entry_named h n) x = named_next h n x
advanced (in_left h part) x = in_left_next h part x
advanced (in_term purpose part) x = in_term_by purpose (term_next part x)
advanced (module_due d) (terminal.Name m) = module_named d m
advanced (dot_due d m) (terminal.Sign sign.Dot) = ends (directive_form d m)
advanced part x = refuses

-- the command that has begun, with the line of its first token, and the fault with its line
pub record Parsing : Type 0 where
  pub limits : Limits
  pub begun : Option ℕ
  pub standing : Standing
  pub part : CommandSoFar
  pub fault : Option (ℕ × Code)

abbrev pub started : Limits → Parsing
started limits = record { limits = limits; begun = None; standing = at_start; part = command_due; fault = None }

-- the line of the command that has begun, also of one at fault
abbrev pub begun_by : Option (ℕ × Code) → Option ℕ → Option ℕ
begun_by (Some (line, code)) begun = Some line
begun_by None begun = begun

abbrev pub begun_line : Parsing → Option ℕ
begun_line s = begun_by s.fault s.begun

pub data Answer : Type 0 where
  more : Answer
  command : WrittenCommand → Answer
  refused : Code → Answer

pub record Turn : Type 0 where
  pub state : Parsing
  pub answer : Answer

abbrev pub turn_refused : Parsing → ℕ → Code → Turn
turn_refused s line code = record { state = record s { part = command_due; fault = Some (line, code) }; answer = refused code }

-- the code of a terminal that no command goes on with
abbrev pub refusal : Terminal → Code
refusal terminal.Profile = E06
refusal x = E02

-- the turn of a terminal, by its code, whether it is above the limit, and the step
abbrev pub turn_by_step : Parsing → ℕ → Code → Bool → Advance → Turn
turn_by_step s line code deep refuses = turn_refused s line code
turn_by_step s line code true step = turn_refused s line E04
turn_by_step s line code false (goes part) = record { state = record s { begun = Some line; part = part }; answer = more }
turn_by_step s line code false (ends form) = record { state = record s { begun = None; standing = at_start; part = command_due }; answer = command record { line = line; form = form } }

abbrev pub turn_by_terminal : Parsing → ℕ → Terminal → Turn
turn_by_terminal s line x = turn_by_step (record s { standing = standing_behind s.standing x }) line (refusal x) (nat_lt s.limits.levels (load s.standing x)) (advanced s.part x)

abbrev pub turn_by_fault : Option (ℕ × Code) → Parsing → Token → Turn
turn_by_fault (Some (line, code)) s token = record { state = s; answer = refused code }
turn_by_fault None s token = turn_by_terminal s (unwrap_or s.begun token.line) (terminal_of token)

-- one token
abbrev pub turn : Parsing → Token → Turn
turn s token = turn_by_fault s.fault s token

abbrev pub parsing_from : Parsing → List Token → Parsing
parsing_from s [] = s
parsing_from s (t ∷ ts) = parsing_from (turn s t).state ts

-- the parser after these tokens
abbrev pub parsing_after : Limits → List Token → Parsing
parsing_after limits ts = parsing_from (started limits) ts

abbrev pub answered : Answer → List WrittenCommand
answered (command c) = c ∷ []
answered answer = []

abbrev pub commands_from : Parsing → List Token → List WrittenCommand
commands_from s [] = []
commands_from s (t ∷ ts) = answered (turn s t).answer ++ commands_from (turn s t).state ts
