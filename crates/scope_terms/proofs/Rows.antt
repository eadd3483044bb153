-- Scoping at the rows of docs/scoping.md, by computation.
use Rattle.std.proofs.Common.{◌≡◌, List, [], ◌∷◌, ◌++◌, refl}
use Rattle.std.specs.Prelude.{Option, Some, None, codes, true, false}
use Rattle.dk_model.specs.Trees.{symbol, variable, rule_variable, apply, bare, annotated, product}
use Rattle.dk_model.specs.Scoping.{left_symbol, left_rule_variable, left_variable, left_abstraction, left_apply, typed, value_of, declare, rule_command, query}
use Rattle.dk_model.specs.declared.signature.SymSort.TheVariants.{Static, Definable}
use Rattle.dk_model.specs.declared.code.Code.TheVariants.{E10, E11, E12, E13}
use Rattle.dk_parser.specs.Written.{Written, written_name, written_qualified, written_wild, written_apply, written_arrow, written_product, written_bare, written_annotated, WrittenPattern, pattern_name, pattern_qualified, pattern_wild, pattern_guard, pattern_apply, pattern_bare, WrittenNote, asked_typed, asked_alike, asked_value, WrittenForm, written_declare, written_rules, written_query}
use Rattle.scope_terms.specs.Scopes.{Module, Symbols, scoped, refused, no_symbols, with_symbol, with_number, names_after, own_of, scope_of, number_of}

abbrev a : Written
a = written_name (codes "a")

abbrev x : Written
x = written_name (codes "x")

abbrev y : Written
y = written_name (codes "y")

abbrev u : Written
u = written_name (codes "u")

-- after `a : Type. f : Type.`
abbrev names : Symbols
names = with_symbol (with_symbol no_symbols None (codes "a")) None (codes "f")

-- `c : T.`
abbrev of_type : Written → WrittenForm
of_type t = written_declare Static (codes "c") [] (Some t) None

-- `[context] l --> r.`
abbrev rule : List WrittenNote → WrittenPattern → Written → WrittenForm
rule context l r = written_rules (record { context = context; left = l; right = r } ∷ [])

abbrev entry : Option Written → WrittenNote
entry t = record { name = codes "x"; note = t }

-- f applied to a pattern
abbrev f_of : WrittenPattern → WrittenPattern
f_of p = pattern_apply (pattern_name (codes "f")) p

-- ---- the names
names_are : own_of names None ≡ record { numbers = (codes "a", 0) ∷ (codes "f", 1) ∷ []; count = 2 }
names_are = refl

rules_take_a_number : names_after names None (rule [] pattern_wild a) ≡ record { declared = names.declared; spelt = names.spelt ++ None ∷ []; count = 3 }
rules_take_a_number = refl

found : number_of (own_of names None) (codes "f") ≡ Some 1
found = refl

-- ---- declarations

-- a : a.
declared_already : scope_of names None (written_declare Static (codes "a") [] (Some u) None) ≡ refused E11
declared_already = refl

-- c : c.
own_name : scope_of names None (of_type (written_name (codes "c"))) ≡ refused E10
own_name = refl

-- c : a -> a.
arrow : scope_of names None (of_type (written_arrow a a)) ≡ scoped (declare Static (Some (product (symbol 0) (symbol 0))) None)
arrow = refl

-- c : x : a -> x -> x.
arrow_under_binder : scope_of names None (of_type (written_product (Some (codes "x")) a (written_arrow x x))) ≡ scoped (declare Static (Some (product (symbol 0) (product (variable 0) (variable 1)))) None)
arrow_under_binder = refl

-- c (x : a) (y : x) : x y.
parameters : scope_of names None (written_declare Static (codes "c") (record { binder = Some (codes "x"); typ = a } ∷ record { binder = Some (codes "y"); typ = x } ∷ []) (Some (written_apply x y)) None)
    ≡ scoped (declare Static (Some (product (symbol 0) (product (variable 0) (apply (variable 1) (variable 0))))) None)
parameters = refl

-- c (x : y) (y : a) : a.
later_parameter : scope_of names None (written_declare Static (codes "c") (record { binder = Some (codes "x"); typ = y } ∷ record { binder = Some (codes "y"); typ = a } ∷ []) (Some a) None) ≡ refused E10
later_parameter = refl

-- def c (x : a) := y => x.
body : scope_of names None (written_declare Definable (codes "c") (record { binder = Some (codes "x"); typ = a } ∷ []) None (Some (written_bare (Some (codes "y")) x)))
    ≡ scoped (declare Definable None (Some (annotated (symbol 0) (bare (variable 1)))))
body = refl

-- c : x : a => x : x => x.
inner_hides : scope_of names None (of_type (written_annotated (Some (codes "x")) a (written_annotated (Some (codes "x")) x x)))
    ≡ scoped (declare Static (Some (annotated (symbol 0) (annotated (variable 0) (variable 0)))) None)
inner_hides = refl

-- c : _ => _.
wildcard : scope_of names None (of_type (written_bare None written_wild)) ≡ refused E12
wildcard = refl

-- c : _ u.  and  c : u _.
left_to_right : scope_of names None (of_type (written_apply written_wild u)) ≡ refused E12
left_to_right = refl

first_code : scope_of names None (of_type (written_apply u written_wild)) ≡ refused E10
first_code = refl

-- c : a.a.
qualified : scope_of names None (of_type (written_qualified (codes "a") (codes "a"))) ≡ refused E10
qualified = refl

-- def c : _ := u.
type_before_body : scope_of names None (written_declare Definable (codes "c") [] (Some written_wild) (Some u)) ≡ refused E12
type_before_body = refl

-- ---- rules

-- [x : a] f x --> x.
rule_variable_named : scope_of names None (rule (entry (Some a) ∷ []) (f_of (pattern_name (codes "x"))) x)
    ≡ scoped (rule_command (record { vars = 1; notes = Some (symbol 0) ∷ []; left = left_apply (left_symbol 1) (left_rule_variable 0); right = rule_variable 0 } ∷ []))
rule_variable_named = refl

-- [x] f (y => x y) --> (x => x).
bound_in_pattern : scope_of names None (rule (entry None ∷ []) (f_of (pattern_bare (Some (codes "y")) (pattern_apply (pattern_name (codes "x")) (pattern_name (codes "y"))))) (written_bare (Some (codes "x")) x))
    ≡ scoped (rule_command (record { vars = 1; notes = None ∷ []; left = left_apply (left_symbol 1) (left_abstraction (left_apply (left_rule_variable 0) (left_variable 0))); right = bare (variable 0) } ∷ []))
bound_in_pattern = refl

-- [] f (y => {y}) --> a.
guard : scope_of names None (rule [] (f_of (pattern_bare (Some (codes "y")) (pattern_guard y))) a) ≡ refused E10
guard = refl

-- [] f {_} --> a.
wildcard_in_guard : scope_of names None (rule [] (f_of (pattern_guard written_wild)) a) ≡ refused E12
wildcard_in_guard = refl

-- [x, x : u] f --> a.
repeated : scope_of names None (rule (entry None ∷ entry (Some u) ∷ []) (pattern_name (codes "f")) a) ≡ refused E13
repeated = refl

-- [x : u, x] f --> a.
annotation_first : scope_of names None (rule (entry (Some u) ∷ entry None ∷ []) (pattern_name (codes "f")) a) ≡ refused E10
annotation_first = refl

-- [x : x] f --> a.
own_annotation : scope_of names None (rule (entry (Some x) ∷ []) (pattern_name (codes "f")) a) ≡ refused E10
own_annotation = refl

-- [x] f u --> _.
left_side_first : scope_of names None (rule (entry None ∷ []) (f_of (pattern_name (codes "u"))) written_wild) ≡ refused E10
left_side_first = refl

-- [f : a] f f --> f.
rule_variable_hides : scope_of names None (rule (record { name = codes "f"; note = Some a } ∷ []) (f_of (pattern_name (codes "f"))) (written_name (codes "f")))
    ≡ scoped (rule_command (record { vars = 1; notes = Some (symbol 0) ∷ []; left = left_apply (left_rule_variable 0) (left_rule_variable 0); right = rule_variable 0 } ∷ []))
rule_variable_hides = refl

-- ---- queries

-- #ASSERT f a : a.
assertion : scope_of names None (written_query true (asked_typed (written_apply (written_name (codes "f")) a) a)) ≡ scoped (query true (typed (apply (symbol 1) (symbol 0)) (symbol 0)))
assertion = refl

-- #EVAL x => x.
evaluation : scope_of names None (written_query false (asked_value (written_bare (Some (codes "x")) x))) ≡ scoped (query false (value_of (bare (variable 0))))
evaluation = refl

-- #CHECK _ : u.  and  #CHECK u == _.
first_of_two : scope_of names None (written_query false (asked_typed written_wild u)) ≡ refused E12
first_of_two = refl

second_of_two : scope_of names None (written_query false (asked_alike u written_wild)) ≡ refused E10
second_of_two = refl

query_takes_a_number : names_after names None (written_query false (asked_value a)) ≡ with_number names
query_takes_a_number = refl

-- ---- modules

abbrev f_module : Module
f_module = Some (codes "f")

-- after `x : Type.` in m and `a : Type.` in f
abbrev in_two : Symbols
in_two = with_symbol (with_symbol no_symbols (Some (codes "m")) (codes "x")) f_module (codes "a")

abbrev m_x : Written
m_x = written_qualified (codes "m") (codes "x")

-- c : m.x.  and  c : f.a.  in f
of_another : scope_of in_two f_module (of_type m_x) ≡ scoped (declare Static (Some (symbol 0)) None)
of_another = refl

of_its_own : scope_of in_two f_module (of_type (written_qualified (codes "f") (codes "a"))) ≡ scoped (declare Static (Some (symbol 1)) None)
of_its_own = refl

-- c : x.  and  c : m.a.
not_of_another : scope_of in_two f_module (of_type x) ≡ refused E10
not_of_another = refl

not_there : scope_of in_two f_module (of_type (written_qualified (codes "m") (codes "a"))) ≡ refused E10
not_there = refl

-- c : x : a -> m.x.
not_the_binder : scope_of in_two f_module (of_type (written_product (Some (codes "x")) a m_x)) ≡ scoped (declare Static (Some (product (symbol 1) (symbol 0))) None)
not_the_binder = refl

-- x : a.
declared_again : scope_of in_two f_module (written_declare Static (codes "x") [] (Some a) None) ≡ scoped (declare Static (Some (symbol 1)) None)
declared_again = refl

-- after it
abbrev with_x : Symbols
with_x = names_after in_two f_module (written_declare Static (codes "x") [] (Some a) None)

both_named : (number_of (own_of with_x f_module) (codes "x") ≡ Some 2) × (number_of (own_of with_x (Some (codes "m"))) (codes "x") ≡ Some 0)
both_named = (refl, refl)

-- a : m.x.
declared_in_it : scope_of in_two f_module (written_declare Static (codes "a") [] (Some m_x) None) ≡ refused E11
declared_in_it = refl

-- [] m.x --> a.
head_of_another : scope_of in_two f_module (rule [] (pattern_qualified (codes "m") (codes "x")) a)
    ≡ scoped (rule_command (record { vars = 0; notes = []; left = left_symbol 0; right = symbol 1 } ∷ []))
head_of_another = refl
