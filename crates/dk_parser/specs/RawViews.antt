-- For proofs: the plain data of `Raw` and its parts.
use Rattle.std.specs.Prelude.{map}
use Rattle.dk_parser.specs.declared.raw.RawNote.{RawNote}
use Rattle.dk_parser.specs.declared.raw.RawParam.{RawParam}
use Rattle.dk_parser.specs.declared.raw.RawRule.{RawRule}
use Rattle.dk_parser.specs.declared.raw.RawAsked.{RawAsked}
use Rattle.dk_parser.specs.declared.raw.RawAsked.TheVariants as asked
use Rattle.dk_parser.specs.declared.raw.RawForm.{RawForm}
use Rattle.dk_parser.specs.declared.raw.RawForm.TheVariants as form
use Rattle.dk_parser.specs.declared.raw.Raw.{Raw}
use Rattle.dk_parser.specs.Written.{WrittenAsked, asked_typed, asked_alike, asked_type, asked_value, WrittenCommand, WrittenForm, WrittenNote, WrittenParam, WrittenRule, written_declare, written_rules, written_query, written_module, written_require}
pub use Rattle.dk_terms.specs.RawViews.{written, maybe_written, written_pattern}

-- a parameter, an entry of a context, a rule, what a query asks, a command or directive as written
abbrev pub written_param : RawParam → WrittenParam
written_param p = record { binder = p.binder; typ = written p.typ }

abbrev pub written_note : RawNote → WrittenNote
written_note n = record { name = n.name; note = maybe_written n.note }

abbrev pub written_rule : RawRule → WrittenRule
written_rule r = record { context = map written_note r.context; left = written_pattern r.left; right = written r.right }

abbrev pub written_asked : RawAsked → WrittenAsked
written_asked (asked.Typed t a) = asked_typed (written t) (written a)
written_asked (asked.Equal t u) = asked_alike (written t) (written u)
written_asked (asked.Infer t) = asked_type (written t)
written_asked (asked.Eval t) = asked_value (written t)

abbrev pub written_form : RawForm → WrittenForm
written_form (form.Declare s n ps t b) = written_declare s n (map written_param ps) (maybe_written t) (maybe_written b)
written_form (form.Rules rs) = written_rules (map written_rule rs)
written_form (form.Query d a) = written_query d (written_asked a)
written_form (form.Module m) = written_module m
written_form (form.Require m) = written_require m

abbrev pub written_command : Raw → WrittenCommand
written_command raw = record { line = raw.line; form = written_form raw.form }
