-- Trusted: the grammar of commands and directives: which terminals spell which (Dedukti manual, syntax; docs/grammar.md).
use Rattle.std.specs.Prelude.{◌≡◌, ℕ, Bool, true, false, List, [], ◌∷◌, ◌++◌, Option, Some, None, map}
use Rattle.dk_model.specs.declared.signature.SymSort.TheVariants.{Static, Definable, Theorem}
use Rattle.dk_lexer.specs.declared.token.Token.{Token}
use Rattle.dk_lexer.specs.Spelling.{is_plain_name}
use Rattle.dk_terms.specs.declared.terminal.Terminal.{Terminal}
use Rattle.dk_terms.specs.declared.terminal.Terminal.TheVariants as terminal
use Rattle.dk_terms.specs.Terminals.{terminal_of}
use Rattle.dk_parser.specs.Written.{Written, WrittenParam, WrittenPattern, WrittenNote, WrittenRule, asked_typed, asked_alike, asked_type, asked_value, WrittenForm, written_declare, written_rules, written_query, written_module, written_require, WrittenCommand}
pub use Rattle.dk_terms.specs.Signs.{colon, defined, dot, arrow, double_arrow, open_bracket, close_bracket, open_square, close_square, open_brace, close_brace, comma, long_arrow, equal}
pub use Rattle.dk_terms.specs.Grammar.{SpellsBinder, spells_binder, spells_no_binder, SpellsAtom, SpellsApplication, SpellsTerm, SpellsPatternAtom, SpellsPatternApplication, SpellsPattern, spells_name, spells_qualified, spells_star, spells_wildcard, spells_brackets, spells_head, spells_applied, spells_application, spells_arrow, spells_product, spells_bracketed_product, spells_bare, spells_annotated, spells_pattern_name, spells_pattern_qualified, spells_pattern_wildcard, spells_guard, spells_pattern_brackets, spells_pattern_head, spells_pattern_applied, spells_pattern_application, spells_pattern_bare}

-- the parameter `(v : a)`
abbrev pub param : Option (List ℕ) → Written → WrittenParam
param v a = record { binder = v; typ = a }

-- these parameters, each `(x : A)`
pub data SpellsParams : List Terminal → List WrittenParam → Type 0 where
  spells_no_params : SpellsParams [] []
  spells_params : {x : Terminal} {v : Option (List ℕ)} {xs ys : List Terminal} {a : Written} {ps : List WrittenParam} → SpellsBinder x v → SpellsTerm xs a → SpellsParams ys ps → SpellsParams (open_bracket ∷ x ∷ colon ∷ (xs ++ close_bracket ∷ ys)) (param v a ∷ ps)

-- the entry `n`, or `n : typ`
abbrev pub entry : List ℕ → Option Written → WrittenNote
entry n typ = record { name = n; note = typ }

-- this entry of a context: a name, perhaps with a type
pub data SpellsEntry : List Terminal → WrittenNote → Type 0 where
  spells_entry : {n : List ℕ} → SpellsEntry (terminal.Name n ∷ []) (entry n None)
  spells_typed_entry : {n : List ℕ} {xs : List Terminal} {a : Written} → SpellsTerm xs a → SpellsEntry (terminal.Name n ∷ colon ∷ xs) (entry n (Some a))

-- these entries, one or more
pub data SpellsEntries : List Terminal → List WrittenNote → Type 0 where
  spells_last_entry : {xs : List Terminal} {e : WrittenNote} → SpellsEntry xs e → SpellsEntries xs (e ∷ [])
  spells_more_entries : {xs ys : List Terminal} {e : WrittenNote} {es : List WrittenNote} → SpellsEntry xs e → SpellsEntries ys es → SpellsEntries (xs ++ comma ∷ ys) (e ∷ es)

-- this context, in its square brackets
pub data SpellsContext : List Terminal → List WrittenNote → Type 0 where
  spells_no_context : SpellsContext (open_square ∷ close_square ∷ []) []
  spells_context : {xs : List Terminal} {es : List WrittenNote} → SpellsEntries xs es → SpellsContext (open_square ∷ (xs ++ close_square ∷ [])) es

-- the name of a rule, or none; a command doesn't keep it
pub data SpellsRuleName : List Terminal → Type 0 where
  spells_no_rule_name : SpellsRuleName []
  spells_rule_name : {n : List ℕ} → SpellsRuleName (open_brace ∷ terminal.Name n ∷ close_brace ∷ [])
  spells_qualified_rule_name : {m n : List ℕ} → SpellsRuleName (open_brace ∷ terminal.Qualified m n ∷ close_brace ∷ [])

-- the rule `[es] l --> r`
abbrev pub rule : List WrittenNote → WrittenPattern → Written → WrittenRule
rule es l r = record { context = es; left = l; right = r }

-- this rule: its name, its context, and `left --> right`
pub data SpellsRule : List Terminal → WrittenRule → Type 0 where
  spells_rule : {ns xs ys zs : List Terminal} {es : List WrittenNote} {l : WrittenPattern} {r : Written} → SpellsRuleName ns → SpellsContext xs es → SpellsPatternApplication ys l → SpellsTerm zs r → SpellsRule (ns ++ (xs ++ (ys ++ long_arrow ∷ zs))) (rule es l r)

-- these rules, one or more
pub data SpellsRules : List Terminal → List WrittenRule → Type 0 where
  spells_last_rule : {xs : List Terminal} {r : WrittenRule} → SpellsRule xs r → SpellsRules xs (r ∷ [])
  spells_more_rules : {xs ys : List Terminal} {r : WrittenRule} {rs : List WrittenRule} → SpellsRule xs r → SpellsRules ys rs → SpellsRules (xs ++ ys) (r ∷ rs)

-- the word of a query that is answered yes or no; true: it is refused where the answer is no
pub data SpellsDemand : Terminal → Bool → Type 0 where
  spells_check : SpellsDemand terminal.Check false
  spells_assert : SpellsDemand terminal.Assert true

-- this directive: `#NAME m.` or `#REQUIRE m.`, where `m` is plain; or this command: `c : A.`, `def c : A.`, `def c := t.`, `def c : A := t.` or `thm c : A := t.`, each with its parameters behind the name; or rules; or this query: `#CHECK t : A.` or `#CHECK t == u.`, where `t` is an application, the same with `#ASSERT`, `#INFER t.` or `#EVAL t.`
pub data SpellsForm : List Terminal → WrittenForm → Type 0 where
  spells_static : {n : List ℕ} {xs ys : List Terminal} {ps : List WrittenParam} {a : Written} → SpellsParams xs ps → SpellsTerm ys a → SpellsForm (terminal.Name n ∷ (xs ++ colon ∷ (ys ++ dot ∷ []))) (written_declare Static n ps (Some a) None)
  spells_definable : {n : List ℕ} {xs ys : List Terminal} {ps : List WrittenParam} {a : Written} → SpellsParams xs ps → SpellsTerm ys a → SpellsForm (terminal.Def ∷ terminal.Name n ∷ (xs ++ colon ∷ (ys ++ dot ∷ []))) (written_declare Definable n ps (Some a) None)
  spells_definition : {n : List ℕ} {xs ys : List Terminal} {ps : List WrittenParam} {b : Written} → SpellsParams xs ps → SpellsTerm ys b → SpellsForm (terminal.Def ∷ terminal.Name n ∷ (xs ++ defined ∷ (ys ++ dot ∷ []))) (written_declare Definable n ps None (Some b))
  spells_typed_definition : {n : List ℕ} {xs ys zs : List Terminal} {ps : List WrittenParam} {a b : Written} → SpellsParams xs ps → SpellsTerm ys a → SpellsTerm zs b → SpellsForm (terminal.Def ∷ terminal.Name n ∷ (xs ++ colon ∷ (ys ++ defined ∷ (zs ++ dot ∷ [])))) (written_declare Definable n ps (Some a) (Some b))
  spells_theorem : {n : List ℕ} {xs ys zs : List Terminal} {ps : List WrittenParam} {a b : Written} → SpellsParams xs ps → SpellsTerm ys a → SpellsTerm zs b → SpellsForm (terminal.Thm ∷ terminal.Name n ∷ (xs ++ colon ∷ (ys ++ defined ∷ (zs ++ dot ∷ [])))) (written_declare Theorem n ps (Some a) (Some b))
  spells_rules : {xs : List Terminal} {rs : List WrittenRule} → SpellsRules xs rs → SpellsForm (xs ++ dot ∷ []) (written_rules rs)
  spells_typed : {w : Terminal} {d : Bool} {xs ys : List Terminal} {t a : Written} → SpellsDemand w d → SpellsApplication xs t → SpellsTerm ys a → SpellsForm (w ∷ (xs ++ colon ∷ (ys ++ dot ∷ []))) (written_query d (asked_typed t a))
  spells_alike : {w : Terminal} {d : Bool} {xs ys : List Terminal} {t u : Written} → SpellsDemand w d → SpellsApplication xs t → SpellsTerm ys u → SpellsForm (w ∷ (xs ++ equal ∷ (ys ++ dot ∷ []))) (written_query d (asked_alike t u))
  spells_type_of : {xs : List Terminal} {t : Written} → SpellsTerm xs t → SpellsForm (terminal.Infer ∷ (xs ++ dot ∷ [])) (written_query false (asked_type t))
  spells_value_of : {xs : List Terminal} {t : Written} → SpellsTerm xs t → SpellsForm (terminal.Eval ∷ (xs ++ dot ∷ [])) (written_query false (asked_value t))
  spells_module : {m : List ℕ} → is_plain_name m ≡ true → SpellsForm (terminal.NameWord ∷ terminal.Name m ∷ dot ∷ []) (written_module m)
  spells_require : {m : List ℕ} → is_plain_name m ≡ true → SpellsForm (terminal.RequireWord ∷ terminal.Name m ∷ dot ∷ []) (written_require m)

abbrev pub terminals : List Token → List Terminal
terminals ts = map terminal_of ts

-- the line of the first token
abbrev pub first_line : List Token → ℕ
first_line [] = 0
first_line (t ∷ ts) = t.line

-- these tokens spell this command or directive
pub record Spells (ts : List Token) (c : WrittenCommand) : Type 0 where
  pub line : c.line ≡ first_line ts
  pub form : SpellsForm (terminals ts) c.form

-- a command or a directive begins so, or is spelt so
abbrev pub Begins : List Terminal → Type 0
Begins xs = (rest : List Terminal) × (form : WrittenForm) × SpellsForm (xs ++ rest) form

-- a command or a directive begins so, and more of it is due
abbrev pub IsBegun : List Terminal → Type 0
IsBegun xs = (x : Terminal) × (rest : List Terminal) × (form : WrittenForm) × SpellsForm (xs ++ x ∷ rest) form
