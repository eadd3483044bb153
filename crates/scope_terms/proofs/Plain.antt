-- Of a command without qualified names the names of its own module are all that counts.
use Rattle.std.proofs.Common.{◌≡◌, ◌∙◌, ap, refl, false, if◌then◌else◌, is_some, List, [], ◌∷◌, ◌++◌, ◌+◌, length}
use Rattle.std.specs.Prelude.{Option, None, Some}
use Rattle.dk_model.specs.Trees.{Tree, apply, bare, annotated, product}
use Rattle.dk_model.specs.Scoping.{PlainLeft, left_guard, left_abstraction, left_apply, typed, alike, type_of, value_of, declare, rule_command, query}
use Rattle.dk_model.specs.declared.code.Code.TheVariants.{E11, E13}
use Rattle.dk_parser.specs.Written.{Written, written_name, written_qualified, written_star, written_wild, written_apply, written_arrow, written_product, written_bare, written_annotated, WrittenPattern, pattern_name, pattern_qualified, pattern_wild, pattern_guard, pattern_apply, pattern_bare, WrittenParam, WrittenNote, WrittenRule, WrittenAsked, asked_typed, asked_alike, asked_type, asked_value, WrittenForm, written_declare, written_rules, written_query, written_module, written_require}
use Rattle.scope_terms.specs.Scopes.{Binder, Module, Numbered, Symbols, no_names, refused, one, both, number_of, with_name, with_parameter, term_of, maybe_term_of, left_of, declaration_of, notes_of, variables_of, rule_of, rules_of, asked_of, command_of, scope_of, names_after, numbers_in, own_of, same_module}
use Rattle.scope_terms.specs.Plain.{ArePlainNotes, ArePlainParams, ArePlainRules, IsPlain, IsPlainAsked, IsPlainForm, IsPlainMaybe, IsPlainPattern, numbered_after}
use Rattle.scope_terms.proofs.Known.{same_self}

module _ (s t : Symbols) (names : Numbered) where
  plain_term : (variables : Numbered) (bound : List Binder) (w : Written) → IsPlain w → term_of s names variables bound w ≡ term_of t names variables bound w
  plain_term variables bound (written_name x) plain = refl
  plain_term variables bound (written_qualified m x) plain = absurd plain
  plain_term variables bound written_star plain = refl
  plain_term variables bound written_wild plain = refl
  plain_term variables bound (written_apply f a) plain = λ i. both apply (plain_term variables bound f plain.0 i) (plain_term variables bound a plain.1 i)
  plain_term variables bound (written_arrow a b) plain = λ i. both product (plain_term variables bound a plain.0 i) (plain_term variables (None ∷ bound) b plain.1 i)
  plain_term variables bound (written_product x a b) plain = λ i. both product (plain_term variables bound a plain.0 i) (plain_term variables (x ∷ bound) b plain.1 i)
  plain_term variables bound (written_bare x b) plain = ap (one bare) (plain_term variables (x ∷ bound) b plain)
  plain_term variables bound (written_annotated x a b) plain = λ i. both annotated (plain_term variables bound a plain.0 i) (plain_term variables (x ∷ bound) b plain.1 i)

  plain_maybe : (variables : Numbered) (bound : List Binder) (w : Option Written) → IsPlainMaybe w → maybe_term_of s names variables bound w ≡ maybe_term_of t names variables bound w
  plain_maybe variables bound None plain = refl
  plain_maybe variables bound (Some w) plain = ap (one Some) (plain_term variables bound w plain)

  plain_left : (variables : Numbered) (bound : List Binder) (p : WrittenPattern) → IsPlainPattern p → left_of s names variables bound p ≡ left_of t names variables bound p
  plain_left variables bound (pattern_name x) plain = refl
  plain_left variables bound (pattern_qualified m x) plain = absurd plain
  plain_left variables bound pattern_wild plain = refl
  plain_left variables bound (pattern_guard w) plain = ap (one left_guard) (plain_term variables [] w plain)
  plain_left variables bound (pattern_apply f a) plain = λ i. both left_apply (plain_left variables bound f plain.0 i) (plain_left variables bound a plain.1 i)
  plain_left variables bound (pattern_bare x p) plain = ap (one left_abstraction) (plain_left variables (x ∷ bound) p plain)

  plain_declaration : (bound : List Binder) (ps : List WrittenParam) (typ body : Option Written) → ArePlainParams ps → IsPlainMaybe typ → IsPlainMaybe body → declaration_of s names bound ps typ body ≡ declaration_of t names bound ps typ body
  plain_declaration bound [] typ body params a b = λ i. both (λ x y. record { typ = x; body = y }) (plain_maybe no_names bound typ a i) (plain_maybe no_names bound body b i)
  plain_declaration bound (p ∷ ps) typ body params a b = λ i. both with_parameter (plain_term no_names bound p.typ params.0 i) (plain_declaration (p.binder ∷ bound) ps typ body params.1 a b i)

  plain_notes : (before : Numbered) (es : List WrittenNote) → ArePlainNotes es → notes_of s names before es ≡ notes_of t names before es
  plain_notes before [] plain = refl
  plain_notes before (e ∷ es) plain = λ i. if is_some (number_of before e.name) then refused E13 else (both (λ n ns. n ∷ ns) (plain_maybe before [] e.note plain.0 i) (plain_notes (with_name before e.name) es plain.1 i))

  plain_rule : (r : WrittenRule) → ArePlainNotes r.context → IsPlainPattern r.left → IsPlain r.right → rule_of s names r ≡ rule_of t names r
  plain_rule r notes left right = λ i.
      both {B = PlainLeft × Tree} (λ ns sides. record { vars = length r.context; notes = ns; left = sides.0; right = sides.1 })
      (plain_notes no_names r.context notes i)
      (both (λ l w. (l, w)) (plain_left (variables_of no_names r.context) [] r.left left i) (plain_term (variables_of no_names r.context) [] r.right right i))

  plain_rules : (rs : List WrittenRule) → ArePlainRules rs → rules_of s names rs ≡ rules_of t names rs
  plain_rules [] plain = refl
  plain_rules (r ∷ rs) plain = λ i. both (λ x xs. x ∷ xs) (plain_rule r plain.0.0 plain.0.1 plain.0.2 i) (plain_rules rs plain.1 i)

  plain_asked : (asked : WrittenAsked) → IsPlainAsked asked → asked_of s names asked ≡ asked_of t names asked
  plain_asked (asked_typed w a) plain = λ i. both typed (plain_term no_names [] w plain.0 i) (plain_term no_names [] a plain.1 i)
  plain_asked (asked_alike w u) plain = λ i. both alike (plain_term no_names [] w plain.0 i) (plain_term no_names [] u plain.1 i)
  plain_asked (asked_type w) plain = ap (one type_of) (plain_term no_names [] w plain)
  plain_asked (asked_value w) plain = ap (one value_of) (plain_term no_names [] w plain)

  plain_command : (form : WrittenForm) → IsPlainForm form → command_of s names form ≡ command_of t names form
  plain_command (written_declare sort x ps typ body) plain = λ i.
      if is_some (number_of names x) then refused E11 else (one (λ d. declare sort d.typ d.body) (plain_declaration [] ps typ body plain.0 plain.1 plain.2 i))
  plain_command (written_rules rs) plain = ap (one rule_command) (plain_rules rs plain)
  plain_command (written_query demand asked) plain = ap (one (query demand)) (plain_asked asked plain)
  plain_command (written_module m) plain = refl
  plain_command (written_require m) plain = refl

pub plain_scoped : (s t : Symbols) (m n : Module) (form : WrittenForm) → IsPlainForm form → own_of s m ≡ own_of t n → scope_of s m form ≡ scope_of t n form
plain_scoped s t m n form plain same = plain_command s t (own_of s m) form plain ∙ ap (λ names. command_of t names form) same

pub own_after : (s : Symbols) (m : Module) (form : WrittenForm) → own_of (names_after s m form) m ≡ numbered_after (own_of s m) form
own_after s m (written_declare sort x ps typ body) = ap (λ b. record { numbers = if b then numbers_in s m ++ (x, s.count) ∷ [] else numbers_in s m; count = s.count + 1 }) (same_self m)
own_after s m (written_rules rs) = refl
own_after s m (written_query demand asked) = refl
own_after s m (written_module n) = refl
own_after s m (written_require n) = refl

pub others_after : (s : Symbols) (m n : Module) (form : WrittenForm) → same_module m n ≡ false → numbers_in (names_after s m form) n ≡ numbers_in s n
others_after s m n (written_declare sort x ps typ body) apart = ap (λ b. if b then numbers_in s n ++ (x, s.count) ∷ [] else numbers_in s n) apart
others_after s m n (written_rules rs) apart = refl
others_after s m n (written_query demand asked) apart = refl
others_after s m n (written_module o) apart = refl
others_after s m n (written_require o) apart = refl
