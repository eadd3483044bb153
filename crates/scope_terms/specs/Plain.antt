-- For callers: commands without qualified names, and the names that one module has after a command.
use Rattle.std.specs.Prelude.{◌+◌, Option, None, Some, List, [], ◌∷◌}
use Rattle.dk_parser.specs.Written.{Written, written_name, written_qualified, written_star, written_wild, written_apply, written_arrow, written_product, written_bare, written_annotated, WrittenPattern, pattern_name, pattern_qualified, pattern_wild, pattern_guard, pattern_apply, pattern_bare, WrittenParam, WrittenNote, WrittenRule, WrittenAsked, asked_typed, asked_alike, asked_type, asked_value, WrittenForm, written_declare, written_rules, written_query, written_module, written_require}
use Rattle.scope_terms.specs.Scopes.{Numbered, with_name}

abbrev pub IsPlain : Written → Type 0
IsPlain (written_name x) = Unit {0}
IsPlain (written_qualified m x) = ⊥
IsPlain written_star = Unit {0}
IsPlain written_wild = Unit {0}
IsPlain (written_apply f a) = IsPlain f × IsPlain a
IsPlain (written_arrow a b) = IsPlain a × IsPlain b
IsPlain (written_product x a b) = IsPlain a × IsPlain b
IsPlain (written_bare x b) = IsPlain b
IsPlain (written_annotated x a b) = IsPlain a × IsPlain b

abbrev pub IsPlainMaybe : Option Written → Type 0
IsPlainMaybe None = Unit {0}
IsPlainMaybe (Some t) = IsPlain t

abbrev pub IsPlainPattern : WrittenPattern → Type 0
IsPlainPattern (pattern_name x) = Unit {0}
IsPlainPattern (pattern_qualified m x) = ⊥
IsPlainPattern pattern_wild = Unit {0}
IsPlainPattern (pattern_guard t) = IsPlain t
IsPlainPattern (pattern_apply f a) = IsPlainPattern f × IsPlainPattern a
IsPlainPattern (pattern_bare x p) = IsPlainPattern p

abbrev pub ArePlainParams : List WrittenParam → Type 0
ArePlainParams [] = Unit {0}
ArePlainParams (p ∷ ps) = IsPlain p.typ × ArePlainParams ps

abbrev pub ArePlainNotes : List WrittenNote → Type 0
ArePlainNotes [] = Unit {0}
ArePlainNotes (e ∷ es) = IsPlainMaybe e.note × ArePlainNotes es

abbrev pub ArePlainRules : List WrittenRule → Type 0
ArePlainRules [] = Unit {0}
ArePlainRules (r ∷ rs) = (ArePlainNotes r.context × IsPlainPattern r.left × IsPlain r.right) × ArePlainRules rs

abbrev pub IsPlainAsked : WrittenAsked → Type 0
IsPlainAsked (asked_typed t a) = IsPlain t × IsPlain a
IsPlainAsked (asked_alike t u) = IsPlain t × IsPlain u
IsPlainAsked (asked_type t) = IsPlain t
IsPlainAsked (asked_value t) = IsPlain t

-- no name of the command is qualified
abbrev pub IsPlainForm : WrittenForm → Type 0
IsPlainForm (written_declare sort x params typ body) = ArePlainParams params × IsPlainMaybe typ × IsPlainMaybe body
IsPlainForm (written_rules rs) = ArePlainRules rs
IsPlainForm (written_query demand asked) = IsPlainAsked asked
IsPlainForm (written_module m) = Unit {0}
IsPlainForm (written_require m) = Unit {0}

-- the names of a module after a command of it
abbrev pub numbered_after : Numbered → WrittenForm → Numbered
numbered_after names (written_declare sort x params typ body) = with_name names x
numbered_after names form = record { numbers = names.numbers; count = names.count + 1 }
