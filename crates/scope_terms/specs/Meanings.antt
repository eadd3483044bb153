-- For proofs: what the code holds as plain data, and its scoping.
use Rattle.std.specs.Prelude.{ℕ, Option, List, [], map}
use Rattle.dk_model.specs.Trees.{Tree}
use Rattle.dk_model.specs.Scoping.{PlainLeft, PlainScopedRule, PlainAsked, PlainCommand, plain_scoped_rule}
use Rattle.dk_model.specs.declared.scoped.ScopedRule.{ScopedRule}
use Rattle.dk_parser.specs.RawViews.{written, maybe_written, written_pattern, written_param, written_note, written_rule, written_asked, written_form}
use Rattle.dk_parser.specs.Written.{Written}
use Rattle.dk_parser.specs.declared.raw.Raw.{Raw}
use Rattle.dk_terms.specs.declared.raw.RawTerm.{RawTerm}
use Rattle.dk_terms.specs.declared.raw.RawPat.{RawPat}
use Rattle.dk_parser.specs.declared.raw.RawParam.{RawParam}
use Rattle.dk_parser.specs.declared.raw.RawNote.{RawNote}
use Rattle.dk_parser.specs.declared.raw.RawRule.{RawRule}
use Rattle.dk_parser.specs.declared.raw.RawAsked.{RawAsked}
use Rattle.scope_terms.specs.Scopes.{Meaning, means_variable, means_rule_variable, means_symbol, unknown, Declaration, Numbered, no_names, Symbols, Scoping, meant_term, meant_left, meaning_of, qualified_meaning, term_of, maybe_term_of, left_of, declaration_of, notes_of, variables_of, rule_of, rules_of, asked_of, scope_of}
use Rattle.scope_terms.specs.Names.{reading}
use Rattle.scope_terms.specs.Reading.{Reading, current, own_names}
use Rattle.dk_model.specs.Signatures.{maybe_by, maybe_tree}
use Rattle.scope_terms.specs.declared.declaration.TypeAndBody.{TypeAndBody}
use Rattle.scope_terms.specs.declared.binders.Binders.{Binders}
use Rattle.scope_terms.specs.Binding.{binders}
use Rattle.scope_terms.specs.declared.rule.ScopedContext.{ScopedContext}
use Rattle.scope_terms.specs.declared.meaning.Scope.{Scope}
use Rattle.scope_terms.specs.declared.meaning.Scope.TheVariants.{Command, Rule}
use Rattle.scope_terms.specs.declared.meaning.Named.{Named}
use Rattle.scope_terms.specs.declared.meaning.Named.TheVariants.{Variable, RuleVariable, Symbol, Unknown}

abbrev pub meaning : Named → Meaning
meaning (Variable k) = means_variable k
meaning (RuleVariable k) = means_rule_variable k
meaning (Symbol k) = means_symbol k
meaning Unknown = unknown

abbrev pub declaration : {T : Type 0} → (T → Tree) → TypeAndBody T → Declaration
declaration view d = record { typ = maybe_by view d.typ; body = maybe_by view d.body }

-- ---- the scoping of what the parser gives

-- the names that are known at a place, the symbols, those of the module being read, and the rule variables, of which a
-- declaration has none
abbrev pub reading_of_scope : Scope → Reading
reading_of_scope (Command symbols) = reading symbols.now
reading_of_scope (Rule symbols variables) = reading symbols.now

abbrev pub symbols_of : Scope → Symbols
symbols_of scope = (reading_of_scope scope).symbols

abbrev pub names_of : Scope → Numbered
names_of scope = own_names (reading_of_scope scope)

abbrev pub rule_variables : Scope → Numbered
rule_variables (Command symbols) = no_names
rule_variables (Rule symbols variables) = variables.now

-- what a name means that no binder has; that no rule variable has either
abbrev pub free_sense : Scope → List ℕ → Meaning
free_sense scope x = meaning_of (names_of scope) (rule_variables scope) [] x

abbrev pub symbol_sense : Reading → List ℕ → Meaning
symbol_sense reading x = meaning_of (own_names reading) no_names [] x

-- what the name means under these binders
abbrev pub sense : Scope → Binders → List ℕ → Meaning
sense scope bound x = meaning_of (names_of scope) (rule_variables scope) (binders bound) x

-- the term, the left side that the name stands for
abbrev pub named_term : Scope → Binders → List ℕ → Scoping Tree
named_term scope bound x = meant_term (sense scope bound x)

abbrev pub named_left : Scope → Binders → List ℕ → Scoping PlainLeft
named_left scope bound x = meant_left (sense scope bound x)

-- a qualified name means the same at every place of a command
abbrev pub qualified_term : Scope → List ℕ → List ℕ → Scoping Tree
qualified_term scope m x = meant_term (qualified_meaning (symbols_of scope) m x)

abbrev pub qualified_left : Scope → List ℕ → List ℕ → Scoping PlainLeft
qualified_left scope m x = meant_left (qualified_meaning (symbols_of scope) m x)

abbrev pub written_sense : Scope → Binders → Written → Scoping Tree
written_sense scope bound w = term_of (symbols_of scope) (names_of scope) (rule_variables scope) (binders bound) w

abbrev pub term_sense : Scope → Binders → RawTerm → Scoping Tree
term_sense scope bound t = written_sense scope bound (written t)

abbrev pub maybe_sense : Scope → Binders → Option RawTerm → Scoping (Option Tree)
maybe_sense scope bound t = maybe_term_of (symbols_of scope) (names_of scope) (rule_variables scope) (binders bound) (maybe_written t)

abbrev pub left_sense : Scope → Binders → RawPat → Scoping PlainLeft
left_sense scope bound p = left_of (symbols_of scope) (names_of scope) (rule_variables scope) (binders bound) (written_pattern p)

-- the type and the body under these parameters
abbrev pub declaring : Scope → Binders → List RawParam → Option RawTerm → Option RawTerm → Scoping Declaration
declaring scope bound params typ body = declaration_of (symbols_of scope) (names_of scope) (binders bound) (map written_param params) (maybe_written typ) (maybe_written body)

-- the annotations of a context
abbrev pub noted : ScopedContext → List (Option Tree)
noted c = map maybe_tree c.notes

abbrev pub notes_sense : Reading → List RawNote → Scoping (List (Option Tree))
notes_sense reading context = notes_of reading.symbols (own_names reading) no_names (map written_note context)

-- the rule variables of the context
abbrev pub declared : List RawNote → Numbered
declared context = variables_of no_names (map written_note context)

abbrev pub rule_sense : Reading → RawRule → Scoping PlainScopedRule
rule_sense reading rule = rule_of reading.symbols (own_names reading) (written_rule rule)

abbrev pub plain_rules : List ScopedRule → List PlainScopedRule
plain_rules rules = map plain_scoped_rule rules

abbrev pub rules_sense : Reading → List RawRule → Scoping (List PlainScopedRule)
rules_sense reading rules = rules_of reading.symbols (own_names reading) (map written_rule rules)

abbrev pub asked_sense : Reading → RawAsked → Scoping PlainAsked
asked_sense reading asked = asked_of reading.symbols (own_names reading) (written_asked asked)

abbrev pub scoping_of : Reading → Raw → Scoping PlainCommand
scoping_of reading raw = scope_of reading.symbols (current reading) (written_form raw.form)
