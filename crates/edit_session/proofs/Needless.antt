-- A command whose tokens have no qualified name needs no module.
use Rattle.std.proofs.Common.{List, [], ◌∷◌, ◌++◌, ℕ, ◌≡◌, Bool, true, false, ◌||◌, codes, refl, subst, if◌then◌else◌, true≢false}
use Rattle.std.specs.List.{list_any, flat_map}
use Rattle.std.specs.Str.{bytes_eq}
use Rattle.dk_model.specs.declared.limits.Limits.{Limits}
use Rattle.dk_lexer.specs.declared.token.Token.{Token}
use Rattle.dk_lexer.specs.declared.token.TokenKind.{TokenKind}
use Rattle.dk_lexer.specs.declared.token.TokenKind.TheVariants as kind
use Rattle.dk_terms.specs.declared.terminal.Terminal.{Terminal}
use Rattle.dk_terms.specs.declared.terminal.Terminal.TheVariants as terminal
use Rattle.dk_terms.specs.Grammar.{SpellsAtom, SpellsApplication, SpellsTerm, SpellsPatternAtom, SpellsPatternApplication, SpellsPattern, spells_name, spells_qualified, spells_star, spells_wildcard, spells_brackets, spells_head, spells_applied, spells_application, spells_arrow, spells_product, spells_bracketed_product, spells_bare, spells_annotated, spells_pattern_name, spells_pattern_qualified, spells_pattern_wildcard, spells_guard, spells_pattern_brackets, spells_pattern_head, spells_pattern_applied, spells_pattern_application, spells_pattern_bare}
use Rattle.dk_terms.specs.Terminals.{terminal_by, word_terminal}
use Rattle.dk_parser.specs.Grammar.{terminals, SpellsParams, spells_no_params, spells_params, SpellsEntry, spells_entry, spells_typed_entry, SpellsEntries, spells_last_entry, spells_more_entries, SpellsContext, spells_no_context, spells_context, SpellsRule, spells_rule, SpellsRules, spells_last_rule, spells_more_rules, SpellsForm, spells_static, spells_definable, spells_definition, spells_typed_definition, spells_theorem, spells_rules, spells_typed, spells_alike, spells_type_of, spells_value_of, spells_module, spells_require}
use Rattle.dk_parser.specs.Modules.{is_directive, modules_in, modules_in_pattern, modules_in_param, modules_in_note, modules_in_rule, modules_of}
use Rattle.dk_parser.specs.Reading.{TokenReading, Reads, reads_nothing, reads_front, reads_fault, reads_command}
use Rattle.dk_parser.specs.Steps.{read_tokens}
use Rattle.dk_parser.specs.Written.{Written, WrittenParam, WrittenPattern, WrittenNote, WrittenRule, WrittenForm, WrittenCommand}
use Rattle.dk_parser.proofs.Exact.{exact}
use Rattle.edit_session.specs.Texts.{is_qualified}

-- ---- terminals without a qualified name

abbrev IsPlain : Terminal → Type 0
IsPlain (terminal.Qualified m n) = ⊥
IsPlain x = Unit {0}

abbrev pub ArePlain : List Terminal → Type 0
ArePlain [] = Unit {0}
ArePlain (x ∷ xs) = IsPlain x × ArePlain xs

plain_split : (xs ys : List Terminal) → ArePlain (xs ++ ys) → ArePlain xs × ArePlain ys
plain_split [] ys h = (tt, h)
plain_split (x ∷ xs) ys h = let r : _ = plain_split xs ys h.1 in ((h.0, r.0), r.1)

-- none of the words is a qualified name
words_plain : (a b c d e f : Bool)
    → IsPlain (if a then terminal.NameWord else (if b then terminal.RequireWord else (if c then terminal.Check else (if d then terminal.Assert else (if e then terminal.Infer else (if f then terminal.Eval else terminal.Profile))))))
words_plain true b c d e f = tt
words_plain false true c d e f = tt
words_plain false false true d e f = tt
words_plain false false false true e f = tt
words_plain false false false false true f = tt
words_plain false false false false false true = tt
words_plain false false false false false false = tt

word_plain : (spelling : List ℕ) → IsPlain (word_terminal spelling)
word_plain spelling = words_plain (bytes_eq spelling (codes "#NAME")) (bytes_eq spelling (codes "#REQUIRE")) (bytes_eq spelling (codes "#CHECK")) (bytes_eq spelling (codes "#ASSERT")) (bytes_eq spelling (codes "#INFER"))
    (bytes_eq spelling (codes "#EVAL"))

kind_plain : (k : TokenKind) (spelling : List ℕ) → is_qualified k ≡ false → IsPlain (terminal_by k spelling)
kind_plain kind.Plain spelling e = tt
kind_plain kind.Quoted spelling e = tt
kind_plain kind.Qualified spelling e = absurd (true≢false e)
kind_plain kind.Wildcard spelling e = tt
kind_plain kind.Star spelling e = tt
kind_plain kind.Def spelling e = tt
kind_plain kind.Thm spelling e = tt
kind_plain kind.Profile spelling e = word_plain spelling
kind_plain (kind.Sign s) spelling e = tt

or_false : (a b : Bool) → (a || b) ≡ false → (a ≡ false) × (b ≡ false)
or_false true b e = absurd cc
or_false false b e = (refl, e)

pub tokens_plain : (ts : List Token) → list_any (λ (t : Token). is_qualified t.kind) ts ≡ false → ArePlain (terminals ts)
tokens_plain [] e = tt
tokens_plain (t ∷ ts) e = let r : _ = or_false (is_qualified t.kind) (list_any (λ (t : Token). is_qualified t.kind) ts) e in (kind_plain t.kind t.spelling r.0, tokens_plain ts r.1)

-- ---- terms and patterns

two : {xs ys : List (List ℕ)} → xs ≡ [] → ys ≡ [] → xs ++ ys ≡ []
two p q = λ i. p i ++ q i

mutual
  atom_none : {xs : List Terminal} {a : Written} → SpellsAtom xs a → ArePlain xs → modules_in a ≡ []
  atom_none spells_name h = refl
  atom_none spells_qualified h = absurd h.0
  atom_none spells_star h = refl
  atom_none spells_wildcard h = refl
  atom_none (spells_brackets {xs} t) h = term_none t (plain_split xs _ h.1).0

  application_none : {xs : List Terminal} {a : Written} → SpellsApplication xs a → ArePlain xs → modules_in a ≡ []
  application_none (spells_head a) h = atom_none a h
  application_none (spells_applied {xs} f a) h = let s : _ = plain_split xs _ h in two (application_none f s.0) (atom_none a s.1)

  term_none : {xs : List Terminal} {a : Written} → SpellsTerm xs a → ArePlain xs → modules_in a ≡ []
  term_none (spells_application a) h = application_none a h
  term_none (spells_arrow {xs} a b) h = let s : _ = plain_split xs _ h in two (application_none a s.0) (term_none b s.1.1)
  term_none (spells_product {xs} v a b) h = let s : _ = plain_split xs _ h.1.1 in two (application_none a s.0) (term_none b s.1.1)
  term_none (spells_bracketed_product {xs} v a b) h = let s : _ = plain_split xs _ h.1.1.1 in two (application_none a s.0) (term_none b s.1.1.1)
  term_none (spells_bare v b) h = term_none b h.1.1
  term_none (spells_annotated {xs} v a b) h = let s : _ = plain_split xs _ h.1.1 in two (application_none a s.0) (term_none b s.1.1)

mutual
  pattern_atom_none : {xs : List Terminal} {p : WrittenPattern} → SpellsPatternAtom xs p → ArePlain xs → modules_in_pattern p ≡ []
  pattern_atom_none spells_pattern_name h = refl
  pattern_atom_none spells_pattern_qualified h = absurd h.0
  pattern_atom_none spells_pattern_wildcard h = refl
  pattern_atom_none (spells_guard {xs} t) h = term_none t (plain_split xs _ h.1).0
  pattern_atom_none (spells_pattern_brackets {xs} p) h = pattern_none p (plain_split xs _ h.1).0

  pattern_application_none : {xs : List Terminal} {p : WrittenPattern} → SpellsPatternApplication xs p → ArePlain xs → modules_in_pattern p ≡ []
  pattern_application_none (spells_pattern_head a) h = pattern_atom_none a h
  pattern_application_none (spells_pattern_applied {xs} f a) h = let s : _ = plain_split xs _ h in two (pattern_application_none f s.0) (pattern_atom_none a s.1)

  pattern_none : {xs : List Terminal} {p : WrittenPattern} → SpellsPattern xs p → ArePlain xs → modules_in_pattern p ≡ []
  pattern_none (spells_pattern_application a) h = pattern_application_none a h
  pattern_none (spells_pattern_bare v p) h = pattern_none p h.1.1

-- ---- commands

params_none : {xs : List Terminal} {ps : List WrittenParam} → SpellsParams xs ps → ArePlain xs → flat_map modules_in_param ps ≡ []
params_none spells_no_params h = refl
params_none (spells_params {xs} v a rest) h = let s : _ = plain_split xs _ h.1.1.1 in two (term_none a s.0) (params_none rest s.1.1)

entry_none : {xs : List Terminal} {e : WrittenNote} → SpellsEntry xs e → ArePlain xs → modules_in_note e ≡ []
entry_none spells_entry h = refl
entry_none (spells_typed_entry a) h = term_none a h.1.1

entries_none : {xs : List Terminal} {es : List WrittenNote} → SpellsEntries xs es → ArePlain xs → flat_map modules_in_note es ≡ []
entries_none (spells_last_entry e) h = two (entry_none e h) refl
entries_none (spells_more_entries {xs} e rest) h = let s : _ = plain_split xs _ h in two (entry_none e s.0) (entries_none rest s.1.1)

context_none : {xs : List Terminal} {es : List WrittenNote} → SpellsContext xs es → ArePlain xs → flat_map modules_in_note es ≡ []
context_none spells_no_context h = refl
context_none (spells_context {xs} es) h = entries_none es (plain_split xs _ h.1).0

rule_none : {xs : List Terminal} {r : WrittenRule} → SpellsRule xs r → ArePlain xs → modules_in_rule r ≡ []
rule_none (spells_rule {ns} {xs} {ys} name context left right) h = let a : _ = plain_split ns _ h in
    let b : _ = plain_split xs _ a.1 in
    let c : _ = plain_split ys _ b.1 in
    two (context_none context b.0) (two (pattern_application_none left c.0) (term_none right c.1.1))

rules_none : {xs : List Terminal} {rs : List WrittenRule} → SpellsRules xs rs → ArePlain xs → flat_map modules_in_rule rs ≡ []
rules_none (spells_last_rule r) h = two (rule_none r h) refl
rules_none (spells_more_rules {xs} r rest) h = let s : _ = plain_split xs _ h in two (rule_none r s.0) (rules_none rest s.1)

pub form_none : {xs : List Terminal} {f : WrittenForm} → SpellsForm xs f → ArePlain xs → is_directive f ≡ false → modules_of f ≡ []
form_none (spells_static {xs} {ys} p a) h e = let s : _ = plain_split xs _ h.1 in
    let t : _ = plain_split ys _ s.1.1 in
    two (params_none p s.0) (two (term_none a t.0) refl)
form_none (spells_definable {xs} {ys} p a) h e = let s : _ = plain_split xs _ h.1.1 in
    let t : _ = plain_split ys _ s.1.1 in
    two (params_none p s.0) (two (term_none a t.0) refl)
form_none (spells_definition {xs} {ys} p b) h e = let s : _ = plain_split xs _ h.1.1 in
    let t : _ = plain_split ys _ s.1.1 in
    two (params_none p s.0) (two refl (term_none b t.0))
form_none (spells_typed_definition {xs} {ys} {zs} p a b) h e = let s : _ = plain_split xs _ h.1.1 in
    let t : _ = plain_split ys _ s.1.1 in
    let u : _ = plain_split zs _ t.1.1 in
    two (params_none p s.0) (two (term_none a t.0) (term_none b u.0))
form_none (spells_theorem {xs} {ys} {zs} p a b) h e = let s : _ = plain_split xs _ h.1.1 in
    let t : _ = plain_split ys _ s.1.1 in
    let u : _ = plain_split zs _ t.1.1 in
    two (params_none p s.0) (two (term_none a t.0) (term_none b u.0))
form_none (spells_rules {xs} rs) h e = rules_none rs (plain_split xs _ h).0
form_none (spells_typed {xs} {ys} d t a) h e = let s : _ = plain_split xs _ h.1 in two (application_none t s.0) (term_none a (plain_split ys _ s.1.1).0)
form_none (spells_alike {xs} {ys} d t u) h e = let s : _ = plain_split xs _ h.1 in two (application_none t s.0) (term_none u (plain_split ys _ s.1.1).0)
form_none (spells_type_of {xs} t) h e = term_none t (plain_split xs _ h.1).0
form_none (spells_value_of {xs} t) h e = term_none t (plain_split xs _ h.1).0
form_none (spells_module m) h e = refl
form_none (spells_require m) h e = absurd (true≢false e)

-- ---- what is read of tokens without a qualified name

abbrev NeedNone : List WrittenCommand → Type 0
NeedNone [] = Unit {0}
NeedNone (c ∷ cs) = (is_directive c.form ≡ false → modules_of c.form ≡ []) × NeedNone cs

map_append : (ts us : List Token) → ArePlain (terminals (ts ++ us)) → ArePlain (terminals ts) × ArePlain (terminals us)
map_append [] us h = (tt, h)
map_append (t ∷ ts) us h = let r : _ = map_append ts us h.1 in ((h.0, r.0), r.1)

read_none : {limits : Limits} {ts : List Token} {r : TokenReading} → Reads limits ts r → ArePlain (terminals ts) → NeedNone r.commands
read_none reads_nothing h = tt
read_none (reads_front f) h = tt
read_none (reads_fault t rest f x) h = tt
read_none (reads_command {ts} {us} s w rest) h = let p : _ = map_append ts us h in (form_none s.form p.0, read_none rest p.1)

pub first_none : (limits : Limits) (ts : List Token) (w : WrittenCommand) → (read_tokens limits ts).commands ≡ w ∷ [] → list_any (λ (t : Token). is_qualified t.kind) ts ≡ false → is_directive w.form ≡ false → modules_of w.form ≡ []
first_none limits ts w e q d = (subst NeedNone e (read_none (exact limits ts) (tokens_plain ts q))).0 d
