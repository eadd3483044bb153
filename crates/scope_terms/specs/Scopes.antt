-- Trusted: scoping: which binder, rule variable or symbol each name means (docs/scoping.md).
use Rattle.std.specs.Prelude.{ℕ, ◌+◌, nat_eq, Bool, true, false, if◌then◌else◌, is_some, Option, Some, None, List, [], ◌∷◌, ◌++◌, length, get_or}
use Rattle.std.specs.Option.{option_map, option_map_or}
use Rattle.std.specs.Cmp.Lexicographic.{pointwise}
use Rattle.std.specs.Map.{lookup}
use Rattle.dk_model.specs.Trees.{Tree, star, symbol, variable, rule_variable, apply, bare, annotated, product}
use Rattle.dk_model.specs.Scoping.{PlainLeft, left_symbol, left_rule_variable, left_variable, left_wildcard, left_guard, left_abstraction, left_apply, PlainScopedRule, PlainAsked, typed, alike, type_of, value_of, PlainCommand, declare, rule_command, query}
use Rattle.dk_model.specs.declared.code.Code.{Code}
use Rattle.dk_model.specs.declared.code.Code.TheVariants.{E06, E10, E11, E12, E13}
use Rattle.dk_parser.specs.Written.{Written, written_name, written_qualified, written_star, written_wild, written_apply, written_arrow, written_product, written_bare, written_annotated, WrittenPattern, pattern_name, pattern_qualified, pattern_wild, pattern_guard, pattern_apply, pattern_bare, WrittenParam, WrittenNote, WrittenRule, WrittenAsked, asked_typed, asked_alike, asked_type, asked_value, WrittenForm, written_declare, written_rules, written_query, written_module, written_require}

-- a name as it is spelt
abbrev pub Spelling : Type 0
Spelling = List ℕ

-- what an abstraction, a product or a parameter binds; None is the wildcard, which binds nothing that can be named
abbrev pub Binder : Type 0
Binder = Option Spelling

-- names, each with its number, and the number that is next
pub record Numbered : Type 0 where
  pub numbers : List (Spelling × ℕ)
  pub count : ℕ

abbrev pub no_names : Numbered
no_names = record { numbers = []; count = 0 }

abbrev pub same_spelling : Spelling → Spelling → Bool
same_spelling = pointwise nat_eq

-- the number of this name
abbrev pub number_of : Numbered → Spelling → Option ℕ
number_of names x = lookup (same_spelling x) names.numbers

-- one more name, with the number that is next
abbrev pub with_name : Numbered → Spelling → Numbered
with_name names x = record { numbers = names.numbers ++ (x, names.count) ∷ []; count = names.count + 1 }

-- ---- modules

-- a module by its name; None is the one without a name
abbrev pub Module : Type 0
Module = Option Spelling

abbrev pub same_module : Module → Module → Bool
same_module None None = true
same_module (Some x) (Some y) = same_spelling x y
same_module m n = false

-- the names that each module declares, with their numbers; the module and the name with which each number was declared,
-- None for a command that declares nothing; and the number that is next, whichever the module
pub record Symbols : Type 0 where
  pub declared : Module → List (Spelling × ℕ)
  pub spelt : List (Option (Module × Spelling))
  pub count : ℕ

abbrev pub no_symbols : Symbols
no_symbols = record { declared = λ m. []; spelt = []; count = 0 }

abbrev pub numbers_in : Symbols → Module → List (Spelling × ℕ)
numbers_in symbols m = symbols.declared m

-- the names of one module, as a command that stands there sees them
abbrev pub own_of : Symbols → Module → Numbered
own_of symbols m = record { numbers = numbers_in symbols m; count = symbols.count }

-- one more name of this module, with the number that is next
abbrev pub with_symbol : Symbols → Module → Spelling → Symbols
with_symbol symbols m x = record {
  declared = λ n. if same_module m n then numbers_in symbols n ++ (x, symbols.count) ∷ [] else numbers_in symbols n;
  spelt = symbols.spelt ++ Some (m, x) ∷ [];
  count = symbols.count + 1;
}

-- one more number, of a command that declares nothing
abbrev pub with_number : Symbols → Symbols
with_number symbols = record { declared = symbols.declared; spelt = symbols.spelt ++ None ∷ []; count = symbols.count + 1 }

-- the module and the name of the symbol with this number; None where there is none
abbrev pub spelling_of : Symbols → ℕ → Option (Module × Spelling)
spelling_of symbols k = get_or symbols.spelt k None

-- the symbols after a command of this module: a declaration adds its name, rules and queries take a number without a name
abbrev pub names_after : Symbols → Module → WrittenForm → Symbols
names_after symbols m (written_declare sort x params typ body) = with_symbol symbols m x
names_after symbols m form = with_number symbols

-- a value, or the first code from left to right
pub data Scoping (A : Type 0) : Type 0 where
  scoped : A → Scoping A
  refused : Code → Scoping A

abbrev pub one : {A B : Type 0} → (A → B) → Scoping A → Scoping B
one f (refused c) = refused c
one f (scoped a) = scoped (f a)

-- the first is scoped before the second
abbrev pub both : {A B C : Type 0} → (A → B → C) → Scoping A → Scoping B → Scoping C
both f (refused c) s = refused c
both f (scoped a) s = one (f a) s

-- ---- what a name means

pub data Meaning : Type 0 where
  means_variable : ℕ → Meaning
  means_rule_variable : ℕ → Meaning
  means_symbol : ℕ → Meaning
  unknown : Meaning

abbrev pub binds : Spelling → Binder → Bool
binds x None = false
binds x (Some y) = same_spelling x y

-- the number of the first that passes the test, the first of all having number `n`
abbrev pub number_from : {A : Type 0} → ℕ → (A → Bool) → List A → Option ℕ
number_from n test [] = None
number_from n test (x ∷ xs) = if test x then Some n else number_from (n + 1) test xs

-- the innermost binder so spelt, else the rule variable, else the symbol of the module where it stands, whose names are
-- `names`; `bound` has the binders, innermost first
abbrev pub meaning_of : Numbered → Numbered → List Binder → Spelling → Meaning
meaning_of names variables bound x =
    option_map_or means_variable (number_from 0 (binds x) bound)
    (option_map_or means_rule_variable (number_of variables x)
    (option_map_or means_symbol (number_of names x) unknown))

-- a qualified name: the symbol of that module
abbrev pub qualified_meaning : Symbols → Spelling → Spelling → Meaning
qualified_meaning symbols m x = option_map_or means_symbol (lookup (same_spelling x) (numbers_in symbols (Some m))) unknown

abbrev pub meant_term : Meaning → Scoping Tree
meant_term (means_variable k) = scoped (variable k)
meant_term (means_rule_variable k) = scoped (rule_variable k)
meant_term (means_symbol k) = scoped (symbol k)
meant_term unknown = refused E10

abbrev pub meant_left : Meaning → Scoping PlainLeft
meant_left (means_variable k) = scoped (left_variable k)
meant_left (means_rule_variable k) = scoped (left_rule_variable k)
meant_left (means_symbol k) = scoped (left_symbol k)
meant_left unknown = refused E10

-- ---- terms and left sides, under the binders `bound`, innermost first; `names` are those of the module where they stand

module _ (symbols : Symbols) (names variables : Numbered) where
  abbrev pub term_of : List Binder → Written → Scoping Tree
  term_of bound (written_name x) = meant_term (meaning_of names variables bound x)
  term_of bound (written_qualified m x) = meant_term (qualified_meaning symbols m x)
  term_of bound written_star = scoped star
  term_of bound written_wild = refused E12
  term_of bound (written_apply f a) = both apply (term_of bound f) (term_of bound a)
  term_of bound (written_arrow a b) = both product (term_of bound a) (term_of (None ∷ bound) b)
  term_of bound (written_product x a b) = both product (term_of bound a) (term_of (x ∷ bound) b)
  term_of bound (written_bare x b) = one bare (term_of (x ∷ bound) b)
  term_of bound (written_annotated x a b) = both annotated (term_of bound a) (term_of (x ∷ bound) b)

  -- a term where there is one
  abbrev pub maybe_term_of : List Binder → Option Written → Scoping (Option Tree)
  maybe_term_of bound None = scoped None
  maybe_term_of bound (Some t) = one Some (term_of bound t)

  -- the binders of a left side aren't in scope in its guards
  abbrev pub left_of : List Binder → WrittenPattern → Scoping PlainLeft
  left_of bound (pattern_name x) = meant_left (meaning_of names variables bound x)
  left_of bound (pattern_qualified m x) = meant_left (qualified_meaning symbols m x)
  left_of bound pattern_wild = scoped left_wildcard
  left_of bound (pattern_guard t) = one left_guard (term_of [] t)
  left_of bound (pattern_apply f a) = both left_apply (left_of bound f) (left_of bound a)
  left_of bound (pattern_bare x p) = one left_abstraction (left_of (x ∷ bound) p)

-- ---- declarations

pub record Declaration : Type 0 where
  pub typ : Option Tree
  pub body : Option Tree

-- under a parameter of type `a` the type becomes a product and the body an abstraction
abbrev pub with_parameter : Tree → Declaration → Declaration
with_parameter a d = record { typ = option_map (product a) d.typ; body = option_map (annotated a) d.body }

-- the type and the body of a declaration with these parameters, each of which sees the ones before it
abbrev pub declaration_of : Symbols → Numbered → List Binder → List WrittenParam → Option Written → Option Written → Scoping Declaration
declaration_of symbols names bound [] typ body =
    both (λ t b. record { typ = t; body = b }) (maybe_term_of symbols names no_names bound typ) (maybe_term_of symbols names no_names bound body)
declaration_of symbols names bound (p ∷ ps) typ body =
    both with_parameter (term_of symbols names no_names bound p.typ) (declaration_of symbols names (p.binder ∷ bound) ps typ body)

-- ---- rules

-- the annotations of a context's entries behind those named `before`; each sees the entries before it
abbrev pub notes_of : Symbols → Numbered → Numbered → List WrittenNote → Scoping (List (Option Tree))
notes_of symbols names before [] = scoped []
notes_of symbols names before (e ∷ es) =
    if is_some (number_of before e.name) then refused E13
    else (both (λ n ns. n ∷ ns) (maybe_term_of symbols names before [] e.note) (notes_of symbols names (with_name before e.name) es))

-- the rule variables of a context, each with its number there
abbrev pub variables_of : Numbered → List WrittenNote → Numbered
variables_of before [] = before
variables_of before (e ∷ es) = variables_of (with_name before e.name) es

-- the left side, then the right side, with these rule variables
abbrev pub sides_of : Symbols → Numbered → Numbered → WrittenRule → Scoping (PlainLeft × Tree)
sides_of symbols names variables r = both (λ l t. (l, t)) (left_of symbols names variables [] r.left) (term_of symbols names variables [] r.right)

-- a rule: its context, then its sides
abbrev pub rule_of : Symbols → Numbered → WrittenRule → Scoping PlainScopedRule
rule_of symbols names r =
    both (λ notes sides. record { vars = length r.context; notes = notes; left = sides.0; right = sides.1 })
    (notes_of symbols names no_names r.context)
    (sides_of symbols names (variables_of no_names r.context) r)

abbrev pub rules_of : Symbols → Numbered → List WrittenRule → Scoping (List PlainScopedRule)
rules_of symbols names [] = scoped []
rules_of symbols names (r ∷ rs) = both (λ s ss. s ∷ ss) (rule_of symbols names r) (rules_of symbols names rs)

-- ---- queries

-- the first term is scoped before the second; neither has rule variables or parameters
abbrev pub asked_of : Symbols → Numbered → WrittenAsked → Scoping PlainAsked
asked_of symbols names (asked_typed t a) = both typed (term_of symbols names no_names [] t) (term_of symbols names no_names [] a)
asked_of symbols names (asked_alike t u) = both alike (term_of symbols names no_names [] t) (term_of symbols names no_names [] u)
asked_of symbols names (asked_type t) = one type_of (term_of symbols names no_names [] t)
asked_of symbols names (asked_value t) = one value_of (term_of symbols names no_names [] t)

-- ---- commands

-- a command over these symbols, where a plain name means one of `names`; the declared name is looked at first. Until
-- several files are read, a directive is refused here
abbrev pub command_of : Symbols → Numbered → WrittenForm → Scoping PlainCommand
command_of symbols names (written_declare sort x params typ body) =
    if is_some (number_of names x) then refused E11 else (one (λ d. declare sort d.typ d.body) (declaration_of symbols names [] params typ body))
command_of symbols names (written_rules rs) = one rule_command (rules_of symbols names rs)
command_of symbols names (written_query demand asked) = one (query demand) (asked_of symbols names asked)
command_of symbols names (written_module m) = refused E06
command_of symbols names (written_require m) = refused E06

-- a command of this module, after the commands that declare these symbols
abbrev pub scope_of : Symbols → Module → WrittenForm → Scoping PlainCommand
scope_of symbols m form = command_of symbols (own_of symbols m) form
