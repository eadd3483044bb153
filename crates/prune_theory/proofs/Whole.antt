-- A declaration that is written has a type or a body, and keeps it when it is scoped.
use Rattle.std.proofs.Common.{List, [], ◌∷◌, ◌≡◌, Bool, true, false, is_some, ◌||◌, Option, Some, None, refl, subst, ◌∙◌, option_map, if◌then◌else◌}
use Rattle.std.proofs.lemmas.List.Elements.{All-nil, All-cons}
use Rattle.std.specs.Prelude.{All}
use Rattle.dk_model.specs.declared.limits.Limits.{Limits}
use Rattle.dk_lexer.specs.declared.token.Token.{Token}
use Rattle.dk_lexer.specs.Tokens.{tokens}
use Rattle.dk_model.specs.PlainTerms.{Tree, annotated, product}
use Rattle.dk_model.specs.PlainCommands.{PlainCommand, rule_command, query}
use Rattle.dk_model.specs.declared.code.Code.{Code}
use Rattle.dk_model.specs.declared.code.Code.TheVariants.{E11}
use Rattle.dk_terms.specs.declared.terminal.Terminal.{Terminal}
use Rattle.dk_parser.specs.Written.{Written, WrittenParam, WrittenForm, WrittenCommand, written_declare, written_rules, written_query, written_module, written_require}
use Rattle.dk_parser.specs.Grammar.{SpellsForm, spells_static, spells_definable, spells_definition, spells_typed_definition, spells_theorem, spells_rules, spells_typed, spells_alike, spells_type_of, spells_value_of, spells_module, spells_require}
use Rattle.scope_terms.specs.Scopes.{Binder, Module, Symbols, Numbered, own_of, no_names, Scoping, scoped, refused, one, both, term_of, maybe_term_of, with_parameter, declaration_of, rules_of, asked_of, command_of, scope_of}
use Rattle.dk_parser.specs.Reading.{TokenReading, Reads, reads_nothing, reads_front, reads_fault, reads_command}
use Rattle.dk_parser.proofs.Exact.{exact}
use Rattle.prune_theory.specs.Laws.{HasTypeOrBody, ReadHaveTypeOrBody}
use Rattle.prune_theory.proofs.Scoping.{IsWhole}

pub spelt_has : {xs : List Terminal} {f : WrittenForm} → SpellsForm xs f → HasTypeOrBody f
spelt_has (spells_static p t) = refl
spelt_has (spells_definable p t) = refl
spelt_has (spells_definition p t) = refl
spelt_has (spells_typed_definition p t u) = refl
spelt_has (spells_theorem p t u) = refl
spelt_has (spells_rules rs) = tt
spelt_has (spells_typed d t u) = tt
spelt_has (spells_alike d t u) = tt
spelt_has (spells_type_of t) = tt
spelt_has (spells_value_of t) = tt
spelt_has (spells_module m) = tt
spelt_has (spells_require m) = tt

abbrev HasIt : WrittenCommand → Type 0
HasIt c = HasTypeOrBody c.form

-- each command that is read has it
read_has : {limits : Limits} {ts : List Token} {r : TokenReading} → Reads limits ts r → All HasIt r.commands
read_has reads_nothing = All-nil HasIt
read_has (reads_front f) = All-nil HasIt
read_has (reads_fault t rest f h) = All-nil HasIt
read_has (reads_command {c} {r} s w rest) = All-cons HasIt c r.commands (spelt_has s.form) (read_has rest)

pub read_have : ReadHaveTypeOrBody
read_have limits bytes ending = read_has (exact limits (tokens limits bytes ending).tokens)

-- where it is scoped, P holds of it
pub data Holds {A : Type 0} (P : A → Type 0) : Scoping A → Type 0 where
  not_held : {c : Code} → Holds P (refused c)
  held : {a : A} → P a → Holds P (scoped a)

pub both_holds : {A B C : Type 0} (P : A → Type 0) (R : B → Type 0) (K : C → Type 0) (f : A → B → C) {x : Scoping A} {y : Scoping B} → Holds P x → Holds R y → ((a : A) (b : B) → P a → R b → K (f a b)) → Holds K (both f x y)
both_holds P R K f not_held q k = not_held
both_holds P R K f (held p) not_held k = not_held
both_holds P R K f (held {a} p) (held {a = b} q) k = held (k a b p q)

pub one_holds : {A B : Type 0} (P : A → Type 0) (R : B → Type 0) (f : A → B) {x : Scoping A} → Holds P x → ((a : A) → P a → R (f a)) → Holds R (one f x)
one_holds P R f not_held k = not_held
one_holds P R f (held {a} p) k = held (k a p)

pub if_holds : {A : Type 0} (P : A → Type 0) (b : Bool) (c : Code) {x : Scoping A} → Holds P x → Holds P (if b then refused c else x)
if_holds P true c p = not_held
if_holds P false c p = p

pub held_at : {A : Type 0} (P : A → Type 0) {x : Scoping A} (a : A) → Holds P x → x ≡ scoped a → P a
held_at P a not_held e = absurd cc
held_at P a (held {a = b} p) e = subst P (let q : b ≡ a = cc in q) p

anything : {A : Type 0} (x : Scoping A) → Holds (λ a. Unit {0}) x
anything (refused c) = not_held
anything (scoped a) = held tt

module _ (A : Symbols) (N : Numbered) where
  maybe_holds : (bound : List Binder) (o : Option Written) → Holds (λ t. is_some t ≡ is_some o) (maybe_term_of A N no_names bound o)
  maybe_holds bound None = held refl
  maybe_holds bound (Some t) = one_holds (λ a. Unit {0}) (λ t. is_some t ≡ true) Some (anything (term_of A N no_names bound t)) (λ a h. refl)

  mapped : (f : Tree → Tree) (o : Option Tree) → is_some (option_map f o) ≡ is_some o
  mapped f None = refl
  mapped f (Some t) = refl

  declaration_holds : (bound : List Binder) (ps : List WrittenParam) (typ body : Option Written) → Holds (λ d. (is_some d.typ || is_some d.body) ≡ (is_some typ || is_some body)) (declaration_of A N bound ps typ body)
  declaration_holds bound [] typ body = both_holds (λ t. is_some t ≡ is_some typ) (λ t. is_some t ≡ is_some body) (λ d. (is_some d.typ || is_some d.body) ≡ (is_some typ || is_some body)) _
      (maybe_holds bound typ) (maybe_holds bound body) (λ a b p q i. p i || q i)
  declaration_holds bound (p ∷ ps) typ body = both_holds (λ a. Unit {0}) (λ d. (is_some d.typ || is_some d.body) ≡ (is_some typ || is_some body)) (λ d. (is_some d.typ || is_some d.body) ≡ (is_some typ || is_some body)) with_parameter
      (anything (term_of A N no_names bound p.typ)) (declaration_holds (p.binder ∷ bound) ps typ body) (λ a d u h. (λ i. mapped (product a) d.typ i || mapped (annotated a) d.body i) ∙ h)

  form_holds : (f : WrittenForm) → HasTypeOrBody f → Holds IsWhole (command_of A N f)
  form_holds (written_declare s x ps typ body) h = if_holds IsWhole _ E11 (one_holds (λ d. (is_some d.typ || is_some d.body) ≡ (is_some typ || is_some body)) IsWhole _ (declaration_holds [] ps typ body) (λ d p. p ∙ h))
  form_holds (written_rules rs) h = one_holds (λ a. Unit {0}) IsWhole rule_command (anything (rules_of A N rs)) (λ a u. tt)
  form_holds (written_query d a) h = one_holds (λ a. Unit {0}) IsWhole (query d) (anything (asked_of A N a)) (λ a u. tt)
  form_holds (written_module m) h = not_held
  form_holds (written_require m) h = not_held

pub scoped_whole : (A : Symbols) (m : Module) (f : WrittenForm) (c : PlainCommand) → HasTypeOrBody f → scope_of A m f ≡ scoped c → IsWhole c
scoped_whole A m f c h e = held_at IsWhole c (form_holds A (own_of A m) f h) e
