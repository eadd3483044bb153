-- Trusted: directives, and the modules that a command or a directive needs, in the order of their places (docs/grammar.md).
use Rattle.std.specs.Prelude.{ℕ, Bool, true, false, List, [], ◌∷◌, ◌++◌, Option, Some, None}
use Rattle.std.specs.List.{flat_map}
use Rattle.dk_parser.specs.Written.{Written, written_name, written_qualified, written_star, written_wild, written_apply, written_arrow, written_product, written_bare, written_annotated, WrittenPattern, pattern_name, pattern_qualified, pattern_wild, pattern_guard, pattern_apply, pattern_bare, WrittenParam, WrittenNote, WrittenRule, WrittenAsked, asked_typed, asked_alike, asked_type, asked_value, WrittenForm, written_declare, written_rules, written_query, written_module, written_require}

-- a directive, and no command
abbrev pub is_directive : WrittenForm → Bool
is_directive (written_module m) = true
is_directive (written_require m) = true
is_directive form = false

-- the modules of the qualified names of a term, as often as they stand there
abbrev pub modules_in : Written → List (List ℕ)
modules_in (written_name n) = []
modules_in (written_qualified m n) = m ∷ []
modules_in written_star = []
modules_in written_wild = []
modules_in (written_apply f a) = modules_in f ++ modules_in a
modules_in (written_arrow a b) = modules_in a ++ modules_in b
modules_in (written_product v a b) = modules_in a ++ modules_in b
modules_in (written_bare v b) = modules_in b
modules_in (written_annotated v a b) = modules_in a ++ modules_in b

abbrev pub modules_in_maybe : Option Written → List (List ℕ)
modules_in_maybe None = []
modules_in_maybe (Some t) = modules_in t

abbrev pub modules_in_pattern : WrittenPattern → List (List ℕ)
modules_in_pattern (pattern_name n) = []
modules_in_pattern (pattern_qualified m n) = m ∷ []
modules_in_pattern pattern_wild = []
modules_in_pattern (pattern_guard t) = modules_in t
modules_in_pattern (pattern_apply f a) = modules_in_pattern f ++ modules_in_pattern a
modules_in_pattern (pattern_bare v b) = modules_in_pattern b

abbrev pub modules_in_param : WrittenParam → List (List ℕ)
modules_in_param p = modules_in p.typ

abbrev pub modules_in_note : WrittenNote → List (List ℕ)
modules_in_note n = modules_in_maybe n.note

-- a rule doesn't keep its name, so the module of that isn't among them
abbrev pub modules_in_rule : WrittenRule → List (List ℕ)
modules_in_rule r = flat_map modules_in_note r.context ++ (modules_in_pattern r.left ++ modules_in r.right)

abbrev pub modules_in_asked : WrittenAsked → List (List ℕ)
modules_in_asked (asked_typed t a) = modules_in t ++ modules_in a
modules_in_asked (asked_alike t u) = modules_in t ++ modules_in u
modules_in_asked (asked_type t) = modules_in t
modules_in_asked (asked_value t) = modules_in t

-- a command needs the modules of its qualified names, `#REQUIRE m` needs `m`, and `#NAME m` needs nothing
abbrev pub modules_of : WrittenForm → List (List ℕ)
modules_of (written_declare sort name params typ body) = flat_map modules_in_param params ++ (modules_in_maybe typ ++ modules_in_maybe body)
modules_of (written_rules rules) = flat_map modules_in_rule rules
modules_of (written_query demand asked) = modules_in_asked asked
modules_of (written_module m) = []
modules_of (written_require m) = m ∷ []
