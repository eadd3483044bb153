-- A command has one dot, its last terminal.
use Rattle.std.proofs.Common.{List, [], ◌∷◌, ◌++◌, ℕ, ◌≡◌, Bool, true, false, Option, refl, ap}
use Rattle.dk_lexer.specs.declared.token.Sign.TheVariants as sign
use Rattle.dk_terms.specs.declared.terminal.Terminal.{Terminal}
use Rattle.dk_terms.specs.declared.terminal.Terminal.TheVariants as terminal
use Rattle.dk_terms.specs.Grammar.{SpellsBinder, spells_binder, spells_no_binder, SpellsAtom, SpellsApplication, SpellsTerm, SpellsPatternAtom, SpellsPatternApplication, SpellsPattern, spells_name, spells_qualified, spells_star, spells_wildcard, spells_brackets, spells_head, spells_applied, spells_application, spells_arrow, spells_product, spells_bracketed_product, spells_bare, spells_annotated, spells_pattern_name, spells_pattern_qualified, spells_pattern_wildcard, spells_guard, spells_pattern_brackets, spells_pattern_head, spells_pattern_applied, spells_pattern_application, spells_pattern_bare}
use Rattle.dk_terms.specs.Written.{Written, WrittenPattern}
use Rattle.dk_parser.specs.Grammar.{dot, arrow, double_arrow, close_bracket, close_square, close_brace, comma, long_arrow, SpellsParams, spells_no_params, spells_params, SpellsEntry, spells_entry, spells_typed_entry, SpellsEntries, spells_last_entry, spells_more_entries, SpellsContext, spells_no_context, spells_context, SpellsRuleName, spells_no_rule_name, spells_rule_name, spells_qualified_rule_name, SpellsRule, spells_rule, SpellsRules, spells_last_rule, spells_more_rules, SpellsDemand, spells_check, spells_assert, SpellsForm, spells_static, spells_definable, spells_definition, spells_typed_definition, spells_theorem, spells_rules, spells_typed, spells_alike, spells_type_of, spells_value_of, spells_module, spells_require}
use Rattle.dk_parser.specs.Written.{WrittenParam, WrittenNote, WrittenRule, WrittenForm}

abbrev pub is_dot_terminal : Terminal → Bool
is_dot_terminal (terminal.Sign sign.Dot) = true
is_dot_terminal x = false

abbrev pub Dotless : List Terminal → Type 0
Dotless [] = Unit {0}
Dotless (x ∷ xs) = (is_dot_terminal x ≡ false) × Dotless xs

-- the last terminal is a dot, and no other is
pub record HasOneDot (xs : List Terminal) : Type 0 where
  pub front : List Terminal
  pub dotless : Dotless front
  pub ends_so : xs ≡ front ++ dot ∷ []

both : (xs ys : List Terminal) → Dotless xs → Dotless ys → Dotless (xs ++ ys)
both [] ys a b = b
both (x ∷ xs) ys a b = (a.0, both xs ys a.1 b)

binder : {x : Terminal} {v : Option (List ℕ)} → SpellsBinder x v → is_dot_terminal x ≡ false
binder spells_binder = refl
binder spells_no_binder = refl

mutual
  atom : {xs : List Terminal} {a : Written} → SpellsAtom xs a → Dotless xs
  atom spells_name = (refl, tt)
  atom spells_qualified = (refl, tt)
  atom spells_star = (refl, tt)
  atom spells_wildcard = (refl, tt)
  atom (spells_brackets {xs} t) = (refl, both xs (close_bracket ∷ []) (term t) (refl, tt))

  application : {xs : List Terminal} {a : Written} → SpellsApplication xs a → Dotless xs
  application (spells_head a) = atom a
  application (spells_applied {xs} {ys} f a) = both xs ys (application f) (atom a)

  term : {xs : List Terminal} {a : Written} → SpellsTerm xs a → Dotless xs
  term (spells_application a) = application a
  term (spells_arrow {xs} {ys} a b) = both xs (arrow ∷ ys) (application a) (refl, term b)
  term (spells_product {xs} {ys} v a b) = (binder v, (refl, both xs (arrow ∷ ys) (application a) (refl, term b)))
  term (spells_bracketed_product {xs} {ys} v a b) = (refl, (binder v, (refl, both xs (close_bracket ∷ arrow ∷ ys) (application a) (refl, (refl, term b)))))
  term (spells_bare v b) = (binder v, (refl, term b))
  term (spells_annotated {xs} {ys} v a b) = (binder v, (refl, both xs (double_arrow ∷ ys) (application a) (refl, term b)))

mutual
  pattern_atom : {xs : List Terminal} {p : WrittenPattern} → SpellsPatternAtom xs p → Dotless xs
  pattern_atom spells_pattern_name = (refl, tt)
  pattern_atom spells_pattern_qualified = (refl, tt)
  pattern_atom spells_pattern_wildcard = (refl, tt)
  pattern_atom (spells_guard {xs} t) = (refl, both xs (close_brace ∷ []) (term t) (refl, tt))
  pattern_atom (spells_pattern_brackets {xs} p) = (refl, both xs (close_bracket ∷ []) (pattern p) (refl, tt))

  pattern_application : {xs : List Terminal} {p : WrittenPattern} → SpellsPatternApplication xs p → Dotless xs
  pattern_application (spells_pattern_head p) = pattern_atom p
  pattern_application (spells_pattern_applied {xs} {ys} f p) = both xs ys (pattern_application f) (pattern_atom p)

  pattern : {xs : List Terminal} {p : WrittenPattern} → SpellsPattern xs p → Dotless xs
  pattern (spells_pattern_application p) = pattern_application p
  pattern (spells_pattern_bare v p) = (binder v, (refl, pattern p))

params : {xs : List Terminal} {ps : List WrittenParam} → SpellsParams xs ps → Dotless xs
params spells_no_params = tt
params (spells_params {xs} {ys} v t ps) = (refl, (binder v, (refl, both xs (close_bracket ∷ ys) (term t) (refl, params ps))))

entry_dotless : {xs : List Terminal} {e : WrittenNote} → SpellsEntry xs e → Dotless xs
entry_dotless spells_entry = (refl, tt)
entry_dotless (spells_typed_entry t) = (refl, (refl, term t))

entries : {xs : List Terminal} {es : List WrittenNote} → SpellsEntries xs es → Dotless xs
entries (spells_last_entry e) = entry_dotless e
entries (spells_more_entries {xs} {ys} e es) = both xs (comma ∷ ys) (entry_dotless e) (refl, entries es)

context : {xs : List Terminal} {es : List WrittenNote} → SpellsContext xs es → Dotless xs
context spells_no_context = (refl, (refl, tt))
context (spells_context {xs} es) = (refl, both xs (close_square ∷ []) (entries es) (refl, tt))

rule_name : {xs : List Terminal} → SpellsRuleName xs → Dotless xs
rule_name spells_no_rule_name = tt
rule_name spells_rule_name = (refl, (refl, (refl, tt)))
rule_name spells_qualified_rule_name = (refl, (refl, (refl, tt)))

rule_dotless : {xs : List Terminal} {r : WrittenRule} → SpellsRule xs r → Dotless xs
rule_dotless (spells_rule {ns} {xs} {ys} {zs} n c l r) = both ns (xs ++ (ys ++ long_arrow ∷ zs)) (rule_name n) (both xs (ys ++ long_arrow ∷ zs) (context c) (both ys (long_arrow ∷ zs) (pattern_application l) (refl, term r)))

rules : {xs : List Terminal} {rs : List WrittenRule} → SpellsRules xs rs → Dotless xs
rules (spells_last_rule r) = rule_dotless r
rules (spells_more_rules {xs} {ys} r rs) = both xs ys (rule_dotless r) (rules rs)

demand : {w : Terminal} {d : Bool} → SpellsDemand w d → is_dot_terminal w ≡ false
demand spells_check = refl
demand spells_assert = refl

-- ---- the dot behind them

alone : HasOneDot (dot ∷ [])
alone = record { front = []; dotless = tt; ends_so = refl }

before : (x : Terminal) {xs : List Terminal} → is_dot_terminal x ≡ false → HasOneDot xs → HasOneDot (x ∷ xs)
before x h e = record { front = x ∷ e.front; dotless = (h, e.dotless); ends_so = ap (λ ys. x ∷ ys) e.ends_so }

behind : (xs : List Terminal) {ys : List Terminal} → Dotless xs → HasOneDot ys → HasOneDot (xs ++ ys)
behind [] h e = e
behind (x ∷ xs) h e = before x h.0 (behind xs h.1 e)

pub one_dot : {xs : List Terminal} {f : WrittenForm} → SpellsForm xs f → HasOneDot xs
one_dot (spells_static {xs} {ys} p t) = before _ refl (behind xs (params p) (before _ refl (behind ys (term t) alone)))
one_dot (spells_definable {xs} {ys} p t) = before _ refl (before _ refl (behind xs (params p) (before _ refl (behind ys (term t) alone))))
one_dot (spells_definition {xs} {ys} p t) = before _ refl (before _ refl (behind xs (params p) (before _ refl (behind ys (term t) alone))))
one_dot (spells_typed_definition {xs} {ys} {zs} p t u) = before _ refl (before _ refl (behind xs (params p) (before _ refl (behind ys (term t) (before _ refl (behind zs (term u) alone))))))
one_dot (spells_theorem {xs} {ys} {zs} p t u) = before _ refl (before _ refl (behind xs (params p) (before _ refl (behind ys (term t) (before _ refl (behind zs (term u) alone))))))
one_dot (spells_rules {xs} rs) = behind xs (rules rs) alone
one_dot (spells_typed {w} {xs} {ys} d t a) = before _ (demand d) (behind xs (application t) (before _ refl (behind ys (term a) alone)))
one_dot (spells_alike {w} {xs} {ys} d t u) = before _ (demand d) (behind xs (application t) (before _ refl (behind ys (term u) alone)))
one_dot (spells_type_of {xs} t) = before _ refl (behind xs (term t) alone)
one_dot (spells_value_of {xs} t) = before _ refl (behind xs (term t) alone)
one_dot (spells_module m) = before _ refl (before _ refl alone)
one_dot (spells_require m) = before _ refl (before _ refl alone)
