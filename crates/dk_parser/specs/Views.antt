-- For proofs: the parser and its parts as plain data.
use Rattle.std.specs.Prelude.{◌≡◌, true, false, List, Result, Ok, Err, map}
use Rattle.dk_model.specs.declared.code.Fault.{Fault}
use Rattle.dk_model.specs.declared.code.Fault.TheVariants as fault
use Rattle.dk_model.specs.declared.limits.Limits.{Limits}
use Rattle.dk_lexer.specs.declared.token.Token.{Token}
use Rattle.dk_parser.specs.declared.declare_part.Head.{Head}
use Rattle.dk_parser.specs.declared.rule_part.RuleHead.{RuleHead}
use Rattle.dk_parser.specs.declared.query_part.Asking.{Asking}
use Rattle.dk_parser.specs.declared.query_part.Asking.TheVariants as asking
use Rattle.dk_parser.specs.declared.command_so_far.Purpose.{Purpose}
use Rattle.dk_parser.specs.declared.command_so_far.Purpose.TheVariants as purpose
use Rattle.dk_parser.specs.declared.command_so_far.Due.{Due}
use Rattle.dk_parser.specs.declared.command_so_far.Due.TheVariants as due
use Rattle.dk_parser.specs.declared.command_so_far.CommandSoFar.{CommandSoFar}
use Rattle.dk_parser.specs.declared.command_so_far.Advance.{Advance}
use Rattle.dk_parser.specs.declared.command_so_far.Advance.TheVariants as advance
use Rattle.dk_parser.specs.declared.raw.Raw.{Raw}
use Rattle.dk_parser.specs.declared.parser.Parser.{Parser}
use Rattle.dk_parser.specs.declared.standing.Standing.{Standing}
use Rattle.dk_parser.specs.declared.parser.Step.{Step}
use Rattle.dk_parser.specs.declared.parser.Step.TheVariants as step
use Rattle.dk_parser.specs.RawViews.{written, maybe_written, written_param, written_pattern, written_note, written_rule, written_form, written_command}
use Rattle.dk_parser.specs.Modules.{is_directive}
use Rattle.dk_parser.specs.Parsing as plain
use Rattle.dk_terms.specs.Parsing as terms
use Rattle.dk_parser.specs.Groups.{plain_group, plain_groups, plain_side}
use Rattle.dk_parser.specs.Levels as levels
use Rattle.dk_terms.specs.Views.{plain_term, plain_left}

abbrev pub plain_head : Head → plain.Head
plain_head h = record { sort = h.sort; name = h.name; params = map written_param h.params }

abbrev pub plain_rule_head : RuleHead → plain.RuleHead
plain_rule_head h = record { rules = map written_rule h.rules; context = map written_note h.context }

abbrev pub plain_asking : Asking → plain.Asking
plain_asking (asking.Typed d t) = plain.asking_typed d (written t)
plain_asking (asking.Equal d t) = plain.asking_alike d (written t)
plain_asking asking.Infer = plain.asking_type
plain_asking asking.Eval = plain.asking_value

abbrev pub purpose_by : plain.Head → plain.RuleHead → terms.LeftSoFar → Purpose → plain.Purpose
purpose_by h r l (purpose.Param v) = plain.as_param h v
purpose_by h r l purpose.Type = plain.as_type h
purpose_by h r l (purpose.Body a) = plain.as_body h (maybe_written a)
purpose_by h r l (purpose.Entry n) = plain.as_entry r n
purpose_by h r l purpose.Guard = plain.as_guard r l
purpose_by h r l (purpose.Right p) = plain.as_right r (written_pattern p)
purpose_by h r l (purpose.Asked d) = plain.as_asked d
purpose_by h r l (purpose.Query q) = plain.as_query (plain_asking q)

-- what a term is read for in a command
abbrev pub plain_purpose : CommandSoFar → Purpose → plain.Purpose
plain_purpose c u = purpose_by (plain_head c.head) (plain_rule_head c.rules) (plain_left c.left) u

abbrev pub due_by : plain.Head → plain.RuleHead → terms.LeftSoFar → terms.TermSoFar → Due → plain.CommandSoFar
due_by h r l t due.Command = plain.command_due
due_by h r l t (due.Name sort) = plain.name_due sort
due_by h r l t due.Head = plain.head_due h
due_by h r l t due.Binder = plain.binder_due h
due_by h r l t (due.BinderColon v) = plain.binder_colon_due h v
due_by h r l t due.RuleName = plain.rule_name_due r
due_by h r l t due.RuleBrace = plain.rule_brace_due r
due_by h r l t due.Square = plain.square_due r
due_by h r l t due.Context = plain.context_due r
due_by h r l t due.Entry = plain.entry_due r
due_by h r l t (due.EntryNamed n) = plain.entry_named r n
due_by h r l t due.Left = plain.in_left r l
due_by h r l t (due.Term u) = plain.in_term (purpose_by h r l u) t
due_by h r l t (due.Module d) = plain.module_due d
due_by h r l t (due.Dot d m) = plain.dot_due d m

-- a command in which this is due
abbrev pub plain_due : CommandSoFar → Due → plain.CommandSoFar
plain_due c d = due_by (plain_head c.head) (plain_rule_head c.rules) (plain_left c.left) (plain_term c.term) d

abbrev pub plain_command : CommandSoFar → plain.CommandSoFar
plain_command c = plain_due c c.due

-- what a terminal came to, and the command that it left
abbrev pub plain_step : Advance → CommandSoFar → plain.Advance
plain_step advance.Goes c = plain.goes (plain_command c)
plain_step (advance.Ends command) c = plain.ends (written_form command.value.form)
plain_step advance.Refuses c = plain.refuses

abbrev pub plain_standing : Standing → levels.Standing
plain_standing s = record { params = s.params; side = plain_side s.side; groups = record { inner = plain_group s.inner; outer = plain_groups s.outer } }

-- the parser as plain data
abbrev pub parsing : Parser → plain.Parsing
parsing p = record { limits = p.limits; begun = p.begun; standing = plain_standing p.standing; part = plain_command p.part; fault = p.fault }

-- the parser was given these tokens and no others; it is as they leave it
abbrev pub HasRead : Limits → List Token → Parser → Type 0
HasRead limits ts p = parsing p ≡ plain.parsing_after limits ts

-- a whole command or directive, told by which it is
abbrev pub IsStep : Raw → Step → Type 0
IsStep raw step.More = ⊥
IsStep raw (step.Command r) = (r.value ≡ raw) × (is_directive (written_form raw.form) ≡ false)
IsStep raw (step.Directive r) = (r.value ≡ raw) × (is_directive (written_form raw.form) ≡ true)

-- the turn came to this answer and left this parser; want of memory says nothing
abbrev pub CameTo : plain.Turn → Result Step Fault → plain.Parsing → Type 0
CameTo t (Ok step.More) s = (s ≡ t.state) × (t.answer ≡ plain.more)
CameTo t (Ok (step.Command raw)) s = (s ≡ t.state) × (t.answer ≡ plain.command (written_command raw.value)) × (is_directive (written_form raw.value.form) ≡ false)
CameTo t (Ok (step.Directive raw)) s = (s ≡ t.state) × (t.answer ≡ plain.command (written_command raw.value)) × (is_directive (written_form raw.value.form) ≡ true)
CameTo t (Err (fault.Refused code)) s = (s ≡ t.state) × (t.answer ≡ plain.refused code)
CameTo t (Err fault.NoMemory) s = Unit {0}
