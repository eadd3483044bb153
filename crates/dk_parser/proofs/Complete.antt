-- The parts of a command, one terminal after the other; what is spelt so is read so.
use Rattle.std.proofs.Common.{◌≡◌, ℕ, List, [], ◌∷◌, ◌++◌, refl, sym, ap, ◌∙◌, append_assoc, append-nil}
use Rattle.std.specs.Prelude.{Option, Some, None, Bool, true, if◌then◌else◌}
use Rattle.dk_model.specs.declared.signature.SymSort.{SymSort}
use Rattle.dk_model.specs.declared.signature.SymSort.TheVariants.{Static, Definable, Theorem}
use Rattle.dk_lexer.specs.declared.token.Sign.{Sign}
use Rattle.dk_lexer.specs.declared.token.Sign.TheVariants as sign
use Rattle.dk_terms.specs.declared.terminal.Terminal.{Terminal}
use Rattle.dk_terms.specs.declared.terminal.Terminal.TheVariants as terminal
use Rattle.dk_terms.specs.Parsing.{Role, at_front, asked, domain, Application, reading, bindable, Frame, bracket_frame, wrapping, TermSoFar, term_due, asked_due, TermStep, binder_term, applied_to, end_next, term_next, PatternFrame, pattern_bracket, pattern_wrapping, LeftApplication, pattern_reading, pattern_bindable, left_due, binder_pattern, left_read, pattern_applied_to}
use Rattle.dk_parser.specs.Written.{Written, written_arrow, written_product, written_bare, written_annotated, WrittenPattern, pattern_guard, pattern_bare, WrittenParam, WrittenNote, WrittenRule, WrittenForm, written_declare, written_rules}
use Rattle.dk_lexer.specs.Spelling.{is_plain_name}
use Rattle.dk_parser.specs.declared.directive_part.Directive.{Directive}
use Rattle.dk_parser.specs.declared.directive_part.Directive.TheVariants as directive
use Rattle.dk_parser.specs.Grammar.{colon, arrow, double_arrow, open_bracket, close_bracket, open_brace, close_brace, long_arrow, SpellsBinder, spells_binder, spells_no_binder, SpellsAtom, spells_name, spells_qualified, spells_star, spells_wildcard, spells_brackets, SpellsApplication, spells_head, spells_applied, SpellsTerm, spells_application, spells_arrow, spells_product, spells_bracketed_product, spells_bare, spells_annotated, SpellsPatternAtom, spells_pattern_name, spells_pattern_qualified, spells_pattern_wildcard, spells_guard, spells_pattern_brackets, SpellsPatternApplication, spells_pattern_head, spells_pattern_applied, SpellsPattern, spells_pattern_application, spells_pattern_bare, defined, dot, open_square, close_square, comma, equal, param, rule, SpellsParams, spells_no_params, spells_params, SpellsEntry, spells_entry, spells_typed_entry, SpellsEntries, spells_last_entry, spells_more_entries, SpellsContext, spells_no_context, spells_context, spells_no_rule_name, spells_rule_name, spells_qualified_rule_name, SpellsRule, spells_rule, SpellsRules, spells_last_rule, spells_more_rules, SpellsDemand, spells_check, spells_assert, SpellsForm, spells_static, spells_definable, spells_definition, spells_typed_definition, spells_theorem, spells_rules, spells_typed, spells_alike, spells_type_of, spells_value_of, spells_module, spells_require}
use Rattle.dk_parser.specs.Parsing.{Purpose, as_guard, as_right, as_asked, as_query, Asking, asking_typed, asking_alike, asking_type, asking_value, query_form, RuleHead, CommandSoFar, in_left, in_term, in_term_by, behind_term, Head, with_entry, as_param, as_type, as_body, as_entry, command_due, head_due, binder_due, binder_colon_due, rule_name_due, square_due, context_due, entry_due, entry_named, Advance, goes, behind_entry, named_next, advanced, ends, refuses, module_due, dot_due, directive_form}

-- the part after these terminals, or the form and what is behind it, or no command
pub data Run : Type 0 where
  going : CommandSoFar → Run
  ended : WrittenForm → List Terminal → Run
  stuck : Run

abbrev pub run_by : Advance → (CommandSoFar → Run) → List Terminal → Run
run_by (goes q) more xs = more q
run_by (ends form) more xs = ended form xs
run_by refuses more xs = stuck

abbrev pub run : CommandSoFar → List Terminal → Run
run p [] = going p
run p (x ∷ xs) = run_by (advanced p x) (λ q. run q xs) xs

-- these terminals end a command of this form
abbrev pub Ends : CommandSoFar → List Terminal → WrittenForm → Type 0
Ends p xs form = run p xs ≡ ended form []

-- more terminals behind
abbrev pub run_on : Run → List Terminal → Run
run_on (going p) ys = run p ys
run_on (ended form xs) ys = ended form (xs ++ ys)
run_on stuck ys = stuck

run_by_append : (s : Advance) (xs ys : List Terminal) → ((q : CommandSoFar) → run q (xs ++ ys) ≡ run_on (run q xs) ys) → run_by s (λ q. run q (xs ++ ys)) (xs ++ ys) ≡ run_on (run_by s (λ q. run q xs) xs) ys
run_by_append (goes q) xs ys h = h q
run_by_append (ends form) xs ys h = refl
run_by_append refuses xs ys h = refl

pub run_append : (p : CommandSoFar) (xs ys : List Terminal) → run p (xs ++ ys) ≡ run_on (run p xs) ys
run_append p [] ys = refl
run_append p (x ∷ xs) ys = run_by_append (advanced p x) xs ys (λ q. run_append q xs ys)

-- more terminals behind those that lead to a part
pub run_next : (p q : CommandSoFar) (xs ys : List Terminal) → run p xs ≡ going q → run p (xs ++ ys) ≡ run q ys
run_next p q xs ys e = run_append p xs ys ∙ ap (λ (r : Run). run_on r ys) e

-- one terminal more
pub run_step : (p q : CommandSoFar) (s : Advance) (xs : List Terminal) (x : Terminal) (rest : List Terminal) → run p xs ≡ going q → advanced q x ≡ s → run p (xs ++ x ∷ rest) ≡ run_by s (λ r. run r rest) rest
run_step p q s xs x rest e n = run_next p q xs (x ∷ rest) e ∙ ap (λ (s : Advance). run_by s (λ r. run r rest) rest) n

pub no_append : (xs ys : List Terminal) (y : Terminal) → xs ++ y ∷ ys ≡ [] → ⊥
no_append [] ys y e = cc
no_append (x ∷ xs) ys y e = cc

-- a run that ends behind a whole list went on before its end
going_before : (r : Run) (form : WrittenForm) (y : Terminal) (ys : List Terminal) → run_on r (y ∷ ys) ≡ ended form [] → (p : CommandSoFar) × (r ≡ going p)
going_before (going p) form y ys e = (p, refl)
going_before (ended f zs) form y ys e =
    let behind : zs ++ y ∷ ys ≡ [] = cc in
    absurd (no_append zs ys y behind)
going_before stuck form y ys e = cc

pub front_goes : (p : CommandSoFar) (xs : List Terminal) (y : Terminal) (ys : List Terminal) (form : WrittenForm) → Ends p (xs ++ y ∷ ys) form → (q : CommandSoFar) × (run p xs ≡ going q)
front_goes p xs y ys form e = going_before (run p xs) form y ys (sym (run_append p xs (y ∷ ys)) ∙ e)

-- Terms

-- a sign that ends an application of a term
abbrev pub Enders : Sign → Type 0
Enders s = (p : TermSoFar) → term_next p (terminal.Sign s) ≡ end_next p.frames p.application s

module _ (purpose : Purpose) where
  abbrev pub at : List Frame → Application → CommandSoFar
  at fs s = in_term purpose (record { frames = fs; application = s })

  -- what ends an application stands behind a whole term in its frames
  pub ends_run : (fs : List Frame) (s : Application) (e : Sign) (rest : List Terminal) → Enders e → run (at fs s) (terminal.Sign e ∷ rest) ≡ run_by (in_term_by purpose (end_next fs s e)) (λ q. run q rest) rest
  ends_run fs s e rest h = ap (λ (t : TermStep). run_by (in_term_by purpose t) (λ q. run q rest) rest) (h (record { frames = fs; application = s }))

  -- a name or a wildcard at the front of a term is its first atom, where this stands behind it
  abbrev Follows : Role → List Terminal → Type 0
  Follows at_front zs = (fs : List Frame) (v : Option (List ℕ)) → run (at fs (bindable v)) zs ≡ run (at fs (reading at_front (Some (binder_term v)))) zs
  Follows role zs = Unit {0}

  ender_follows : (e : Sign) (rest : List Terminal) → Enders e → Follows at_front (terminal.Sign e ∷ rest)
  ender_follows e rest h fs v = ends_run fs (bindable v) e rest h ∙ sym (ends_run fs (reading at_front (Some (binder_term v))) e rest h)

  atom_follows : {ys : List Terminal} {a : Written} → SpellsAtom ys a → (role : Role) (zs : List Terminal) → Follows role (ys ++ zs)
  atom_follows k (domain w) zs = tt
  atom_follows k asked zs = tt
  atom_follows (spells_brackets k) at_front zs = λ fs v. refl
  atom_follows k at_front zs = λ fs v. refl

  abbrev AtomRuns : List Terminal → Written → Type 0
  AtomRuns ys a = (fs : List Frame) (role : Role) (o : Option Written) (zs : List Terminal) → Follows role zs → run (at fs (reading role o)) (ys ++ zs) ≡ run (at fs (reading role (Some (applied_to o a)))) zs

  abbrev ApplicationRuns : List Terminal → Written → Type 0
  ApplicationRuns xs a = (fs : List Frame) (role : Role) (zs : List Terminal) → Follows role zs → run (at fs (reading role None)) (xs ++ zs) ≡ run (at fs (reading role (Some a))) zs

  abbrev TermRuns : List Terminal → Written → Type 0
  TermRuns xs a = (fs : List Frame) (e : Sign) (rest : List Terminal) → Enders e → run (at fs (reading at_front None)) (xs ++ terminal.Sign e ∷ rest) ≡ run (at fs (reading at_front (Some a))) (terminal.Sign e ∷ rest)

  binder_runs : {x : Terminal} {v : Option (List ℕ)} → SpellsBinder x v → AtomRuns (x ∷ []) (binder_term v)
  binder_runs (spells_binder {n}) fs at_front None zs h = h fs (Some n)
  binder_runs spells_no_binder fs at_front None zs h = h fs None
  binder_runs b fs role o zs h = refl

  -- a term goes into what makes a longer one of it
  wrapped_runs : (ys : List Terminal) (b : Written) → TermRuns ys b → (g : Written → Written) (fs : List Frame) (e : Sign) (rest : List Terminal) → Enders e → run (at (wrapping g ∷ fs) (reading at_front None)) (ys ++ terminal.Sign e ∷ rest) ≡ run (at fs (reading at_front (Some (g b)))) (terminal.Sign e ∷ rest)
  wrapped_runs ys b k g fs e rest h =
      k (wrapping g ∷ fs) e rest h ∙ ends_run (wrapping g ∷ fs) (reading at_front (Some b)) e rest h ∙ sym (ends_run fs (reading at_front (Some (g b))) e rest h)

  -- a binder and its domain
  domain_runs : {x : Terminal} {v : Option (List ℕ)} (xs : List Terminal) (a : Written) → SpellsBinder x v → ApplicationRuns xs a → (fs : List Frame) (zs : List Terminal) → run (at fs (reading at_front None)) (x ∷ colon ∷ (xs ++ zs)) ≡ run (at fs (reading (domain v) (Some a))) zs
  domain_runs xs a (spells_binder {n}) h fs zs = h fs (domain (Some n)) zs tt
  domain_runs xs a spells_no_binder h fs zs = h fs (domain None) zs tt

  bare_step : {x : Terminal} {v : Option (List ℕ)} → SpellsBinder x v → (fs : List Frame) (zs : List Terminal) → run (at fs (reading at_front None)) (x ∷ double_arrow ∷ zs) ≡ run (at (wrapping (λ b. written_bare v b) ∷ fs) (reading at_front None)) zs
  bare_step spells_binder fs zs = refl
  bare_step spells_no_binder fs zs = refl

  mutual
    atom_runs : {ys : List Terminal} {a : Written} → SpellsAtom ys a → AtomRuns ys a
    atom_runs spells_name = binder_runs spells_binder
    atom_runs spells_wildcard = binder_runs spells_no_binder
    atom_runs spells_qualified = λ fs role o zs h. refl
    atom_runs spells_star = λ fs role o zs h. refl
    atom_runs (spells_brackets {xs} {a} k) = λ fs role o zs h.
        ap (run (at (bracket_frame role o ∷ fs) (reading at_front None))) (append_assoc xs (close_bracket ∷ []) zs)
        ∙ term_runs k (bracket_frame role o ∷ fs) sign.CloseBracket zs (λ p. refl)

    application_runs : {xs : List Terminal} {a : Written} → SpellsApplication xs a → ApplicationRuns xs a
    application_runs (spells_head k) = λ fs role zs h. atom_runs k fs role None zs h
    application_runs (spells_applied {xs} {ys} {f} {a} h k) = λ fs role zs j.
        ap (run (at fs (reading role None))) (append_assoc xs ys zs)
        ∙ application_runs h fs role (ys ++ zs) (atom_follows k role zs)
        ∙ atom_runs k fs role (Some f) zs j

    term_runs : {xs : List Terminal} {a : Written} → SpellsTerm xs a → TermRuns xs a
    term_runs (spells_application k) = λ fs e rest h. application_runs k fs at_front (terminal.Sign e ∷ rest) (ender_follows e rest h)
    term_runs (spells_arrow {xs} {ys} {a} {b = t} h k) = λ fs e rest j.
        ap (run (at fs (reading at_front None))) (append_assoc xs (arrow ∷ ys) (terminal.Sign e ∷ rest))
        ∙ application_runs h fs at_front (arrow ∷ (ys ++ terminal.Sign e ∷ rest)) (λ fs v. refl)
        ∙ wrapped_runs ys t (term_runs k) (λ b. written_arrow a b) fs e rest j
    term_runs (spells_product {x} {v} {xs} {ys} {a} {b = t} b h k) = λ fs e rest j.
        ap (λ zs. run (at fs (reading at_front None)) (x ∷ colon ∷ zs)) (append_assoc xs (arrow ∷ ys) (terminal.Sign e ∷ rest))
        ∙ domain_runs xs a b (application_runs h) fs (arrow ∷ (ys ++ terminal.Sign e ∷ rest))
        ∙ wrapped_runs ys t (term_runs k) (λ b. written_product v a b) fs e rest j
    term_runs (spells_bracketed_product {x} {v} {xs} {ys} {a} {b = t} b h k) = λ fs e rest j.
        ap (λ zs. run (at (bracket_frame at_front None ∷ fs) (reading at_front None)) (x ∷ colon ∷ zs)) (append_assoc xs (close_bracket ∷ arrow ∷ ys) (terminal.Sign e ∷ rest))
        ∙ domain_runs xs a b (application_runs h) (bracket_frame at_front None ∷ fs) (close_bracket ∷ arrow ∷ (ys ++ terminal.Sign e ∷ rest))
        ∙ wrapped_runs ys t (term_runs k) (λ b. written_product v a b) fs e rest j
    term_runs (spells_bare {x} {v} {ys} {b = t} b k) = λ fs e rest j.
        bare_step b fs (ys ++ terminal.Sign e ∷ rest) ∙ wrapped_runs ys t (term_runs k) (λ b. written_bare v b) fs e rest j
    term_runs (spells_annotated {x} {v} {xs} {ys} {a} {b = t} b h k) = λ fs e rest j.
        ap (λ zs. run (at fs (reading at_front None)) (x ∷ colon ∷ zs)) (append_assoc xs (double_arrow ∷ ys) (terminal.Sign e ∷ rest))
        ∙ domain_runs xs a b (application_runs h) fs (double_arrow ∷ (ys ++ terminal.Sign e ∷ rest))
        ∙ wrapped_runs ys t (term_runs k) (λ b. written_annotated v a b) fs e rest j

  -- a whole term and the sign that ends it
  pub term_complete : {xs : List Terminal} {a : Written} → SpellsTerm xs a → (e : Sign) (rest : List Terminal) → Enders e → run (in_term purpose term_due) (xs ++ terminal.Sign e ∷ rest) ≡ run_by (behind_term purpose a e) (λ q. run q rest) rest
  term_complete {a = a} k e rest h = term_runs k [] e rest h ∙ ends_run [] (reading at_front (Some a)) e rest h

  -- what a query asks of
  pub application_complete : {xs : List Terminal} {a : Written} → SpellsApplication xs a → (zs : List Terminal) → run (in_term purpose asked_due) (xs ++ zs) ≡ run (at [] (reading asked (Some a))) zs
  application_complete k zs = application_runs k [] asked zs tt

-- Left sides

module _ (h : RuleHead) where
  abbrev left_at : List PatternFrame → LeftApplication → CommandSoFar
  left_at fs s = in_left h (record { frames = fs; application = s })

  -- a name or a wildcard is the first atom, where this stands behind it
  abbrev PatternFollows : List Terminal → Type 0
  PatternFollows zs = (fs : List PatternFrame) (v : Option (List ℕ)) → run (left_at fs (pattern_bindable v)) zs ≡ run (left_at fs (pattern_reading (Some (binder_pattern v)))) zs

  guard_runs : {xs : List Terminal} {a : Written} → SpellsTerm xs a → (fs : List PatternFrame) (s : LeftApplication) (zs : List Terminal) → run (left_at fs s) ((open_brace ∷ (xs ++ close_brace ∷ [])) ++ zs) ≡ run (left_at fs (pattern_reading (Some (pattern_applied_to (left_read s) (pattern_guard a))))) zs
  guard_runs {xs} {a} k fs s zs =
      ap (λ us. run (left_at fs s) (open_brace ∷ us)) (append_assoc xs (close_brace ∷ []) zs)
      ∙ term_complete (as_guard h (record { frames = fs; application = s })) k sign.CloseBrace zs (λ p. refl)

  pattern_follows : {ys : List Terminal} {p : WrittenPattern} → SpellsPatternAtom ys p → (zs : List Terminal) → PatternFollows (ys ++ zs)
  pattern_follows (spells_guard k) zs = λ fs v. guard_runs k fs (pattern_bindable v) zs ∙ sym (guard_runs k fs (pattern_reading (Some (binder_pattern v))) zs)
  pattern_follows k zs = λ fs v. refl

  abbrev PatternAtomRuns : List Terminal → WrittenPattern → Type 0
  PatternAtomRuns ys p = (fs : List PatternFrame) (o : Option WrittenPattern) (zs : List Terminal) → PatternFollows zs → run (left_at fs (pattern_reading o)) (ys ++ zs) ≡ run (left_at fs (pattern_reading (Some (pattern_applied_to o p)))) zs

  abbrev LeftRuns : List Terminal → WrittenPattern → Type 0
  LeftRuns xs p = (fs : List PatternFrame) (zs : List Terminal) → PatternFollows zs → run (left_at fs (pattern_reading None)) (xs ++ zs) ≡ run (left_at fs (pattern_reading (Some p))) zs

  -- in a bracket, that closes behind it
  abbrev PatternRuns : List Terminal → WrittenPattern → Type 0
  PatternRuns xs p = (f : PatternFrame) (fs : List PatternFrame) (rest : List Terminal) → run (left_at (f ∷ fs) (pattern_reading None)) (xs ++ close_bracket ∷ rest) ≡ run (left_at (f ∷ fs) (pattern_reading (Some p))) (close_bracket ∷ rest)

  bound_step : {x : Terminal} {v : Option (List ℕ)} → SpellsBinder x v → (f : PatternFrame) (fs : List PatternFrame) (zs : List Terminal) → run (left_at (f ∷ fs) (pattern_reading None)) (x ∷ double_arrow ∷ zs) ≡ run (left_at (pattern_wrapping (λ p. pattern_bare v p) ∷ f ∷ fs) (pattern_reading None)) zs
  bound_step spells_binder f fs zs = refl
  bound_step spells_no_binder f fs zs = refl

  pattern_binder_runs : {x : Terminal} {v : Option (List ℕ)} → SpellsBinder x v → PatternAtomRuns (x ∷ []) (binder_pattern v)
  pattern_binder_runs (spells_binder {n}) fs None zs j = j fs (Some n)
  pattern_binder_runs spells_no_binder fs None zs j = j fs None
  pattern_binder_runs b fs o zs j = refl

  mutual
    pattern_atom_runs : {ys : List Terminal} {p : WrittenPattern} → SpellsPatternAtom ys p → PatternAtomRuns ys p
    pattern_atom_runs spells_pattern_name = pattern_binder_runs spells_binder
    pattern_atom_runs spells_pattern_wildcard = pattern_binder_runs spells_no_binder
    pattern_atom_runs spells_pattern_qualified = λ fs o zs j. refl
    pattern_atom_runs (spells_guard k) = λ fs o zs j. guard_runs k fs (pattern_reading o) zs
    pattern_atom_runs (spells_pattern_brackets {xs} {p} k) = λ fs o zs j.
        ap (run (left_at (pattern_bracket o ∷ fs) (pattern_reading None))) (append_assoc xs (close_bracket ∷ []) zs)
        ∙ pattern_runs k (pattern_bracket o) fs zs

    left_runs : {xs : List Terminal} {p : WrittenPattern} → SpellsPatternApplication xs p → LeftRuns xs p
    left_runs (spells_pattern_head k) = λ fs zs j. pattern_atom_runs k fs None zs j
    left_runs (spells_pattern_applied {xs} {ys} {f} {p} l k) = λ fs zs j.
        ap (run (left_at fs (pattern_reading None))) (append_assoc xs ys zs)
        ∙ left_runs l fs (ys ++ zs) (pattern_follows k zs)
        ∙ pattern_atom_runs k fs (Some f) zs j

    pattern_runs : {xs : List Terminal} {p : WrittenPattern} → SpellsPattern xs p → PatternRuns xs p
    pattern_runs (spells_pattern_application k) = λ f fs rest. left_runs k (f ∷ fs) (close_bracket ∷ rest) (λ fs v. refl)
    pattern_runs (spells_pattern_bare {x} {v} {xs} b k) = λ f fs rest.
        bound_step b f fs (xs ++ close_bracket ∷ rest) ∙ pattern_runs k (pattern_wrapping (λ p. pattern_bare v p)) (f ∷ fs) rest

  -- a left side and its `-->`
  pub left_complete : {xs : List Terminal} {l : WrittenPattern} → SpellsPatternApplication xs l → (rest : List Terminal) → run (in_left h left_due) (xs ++ long_arrow ∷ rest) ≡ run (in_term (as_right h l) term_due) rest
  left_complete k rest = left_runs k [] (long_arrow ∷ rest) (λ fs v. refl)

-- Declarations

abbrev pub head_of : SymSort → List ℕ → List WrittenParam → Head
head_of s n ps = record { sort = s; name = n; params = ps }

binder_complete : (h : Head) {x : Terminal} {v : Option (List ℕ)} (rest : List Terminal) → SpellsBinder x v → run (binder_due h) (x ∷ rest) ≡ run (binder_colon_due h v) rest
binder_complete h rest spells_binder = refl
binder_complete h rest spells_no_binder = refl

params_complete : (s : SymSort) (n : List ℕ) (ps : List WrittenParam) {xs : List Terminal} {qs : List WrittenParam} → SpellsParams xs qs → (rest : List Terminal) → run (head_due (head_of s n ps)) (xs ++ rest) ≡ run (head_due (head_of s n (ps ++ qs))) rest
params_complete s n ps spells_no_params rest = ap (λ qs. run (head_due (head_of s n qs)) rest) (sym (append-nil ps))
params_complete s n ps (spells_params {x} {v} {xs} {ys} {a} {ps = qs} b k h) rest =
    ap (λ zs. run (head_due (head_of s n ps)) (open_bracket ∷ x ∷ colon ∷ zs)) (append_assoc xs (close_bracket ∷ ys) rest)
    ∙ binder_complete (head_of s n ps) (colon ∷ (xs ++ close_bracket ∷ (ys ++ rest))) b
    ∙ term_complete (as_param (head_of s n ps) v) k sign.CloseBracket (ys ++ rest) (λ p. refl)
    ∙ params_complete s n (ps ++ param v a ∷ []) h rest
    ∙ ap (λ qs. run (head_due (head_of s n qs)) rest) (append_assoc ps (param v a ∷ []) qs)

body_complete : (h : Head) (typ : Option Written) {xs : List Terminal} {b : Written} → SpellsTerm xs b → Ends (in_term (as_body h typ) term_due) (xs ++ dot ∷ []) (written_declare h.sort h.name h.params typ (Some b))
body_complete h typ k = term_complete (as_body h typ) k sign.Dot [] (λ p. refl)

-- Contexts

-- an entry may begin here
abbrev TakesEntry : CommandSoFar → RuleHead → Type 0
TakesEntry p h = (n : List ℕ) (rest : List Terminal) → run p (terminal.Name n ∷ rest) ≡ run (entry_named h n) rest

abbrev rule_head : List WrittenRule → List WrittenNote → RuleHead
rule_head rules es = record { rules = rules; context = es }

entry_complete : (p : CommandSoFar) (rules : List WrittenRule) (es : List WrittenNote) {xs : List Terminal} {e : WrittenNote} → TakesEntry p (rule_head rules es) → SpellsEntry xs e → (s : Sign) (rest : List Terminal) → Enders s → ((h : RuleHead) (n : List ℕ) → named_next h n (terminal.Sign s) ≡ behind_entry (with_entry h n None) s) → run p (xs ++ terminal.Sign s ∷ rest) ≡ run_by (behind_entry (rule_head rules (es ++ e ∷ [])) s) (λ q. run q rest) rest
entry_complete p rules es t (spells_entry {n}) s rest k named = t n (terminal.Sign s ∷ rest) ∙ ap (λ (a : Advance). run_by a (λ q. run q rest) rest) (named (rule_head rules es) n)
entry_complete p rules es t (spells_typed_entry {n} {xs} b) s rest k named = t n (colon ∷ (xs ++ terminal.Sign s ∷ rest)) ∙ term_complete (as_entry (rule_head rules es) n) b s rest k

entries_complete : (p : CommandSoFar) (rules : List WrittenRule) (before : List WrittenNote) {xs : List Terminal} {es : List WrittenNote} → TakesEntry p (rule_head rules before) → SpellsEntries xs es → (rest : List Terminal) →
    run p (xs ++ close_square ∷ rest) ≡ run (in_left (rule_head rules (before ++ es)) left_due) rest
entries_complete p rules before t (spells_last_entry s) rest = entry_complete p rules before t s sign.CloseSquare rest (λ p. refl) (λ h n. refl)
entries_complete p rules before t (spells_more_entries {xs} {ys} {e} {es} s k) rest =
    ap (run p) (append_assoc xs (comma ∷ ys) (close_square ∷ rest))
    ∙ entry_complete p rules before t s sign.Comma (ys ++ close_square ∷ rest) (λ p. refl) (λ h n. refl)
    ∙ entries_complete (entry_due (rule_head rules (before ++ e ∷ []))) rules (before ++ e ∷ []) (λ n rest. refl) k rest
    ∙ ap (λ fs. run (in_left (rule_head rules fs) left_due) rest) (append_assoc before (e ∷ []) es)

-- a context may begin here
abbrev TakesContext : CommandSoFar → List WrittenRule → Type 0
TakesContext p rules = (rest : List Terminal) → run p (open_square ∷ rest) ≡ run (context_due (rule_head rules [])) rest

context_complete : (p : CommandSoFar) (rules : List WrittenRule) {cs : List Terminal} {es : List WrittenNote} → TakesContext p rules → SpellsContext cs es → (rest : List Terminal) → run p (cs ++ rest) ≡ run (in_left (rule_head rules es) left_due) rest
context_complete p rules t spells_no_context rest = t (close_square ∷ rest)
context_complete p rules t (spells_context {xs} k) rest =
    t ((xs ++ close_square ∷ []) ++ rest)
    ∙ ap (run (context_due (rule_head rules []))) (append_assoc xs (close_square ∷ []) rest)
    ∙ entries_complete (context_due (rule_head rules [])) rules [] (λ n rest. refl) k rest

-- Rules

-- a rule may begin here
abbrev TakesRule : CommandSoFar → List WrittenRule → Type 0
TakesRule p rules = TakesContext p rules × ((rest : List Terminal) → run p (open_brace ∷ rest) ≡ run (rule_name_due (rule_head rules [])) rest)

-- behind these rules and the right side of this one
abbrev behind : List WrittenRule → WrittenRule → CommandSoFar
behind rules r = at (as_right (rule_head rules r.context) r.left) [] (reading at_front (Some r.right))

rule_lists : (cs ys zs more : List Terminal) → (cs ++ (ys ++ long_arrow ∷ zs)) ++ more ≡ cs ++ (ys ++ long_arrow ∷ (zs ++ more))
rule_lists cs ys zs more = simp append_assoc

-- a rule from its context on
body_runs : (p : CommandSoFar) (rules : List WrittenRule) {cs ys zs : List Terminal} {es : List WrittenNote} {l : WrittenPattern} {r : Written} → TakesContext p rules → SpellsContext cs es → SpellsPatternApplication ys l → SpellsTerm zs r → (e : Sign) (rest : List Terminal) → Enders e →
    run p ((cs ++ (ys ++ long_arrow ∷ zs)) ++ terminal.Sign e ∷ rest) ≡ run (behind rules (rule es l r)) (terminal.Sign e ∷ rest)
body_runs p rules {cs} {ys} {zs} {es} {l} t c k r e rest enders =
    ap (run p) (rule_lists cs ys zs (terminal.Sign e ∷ rest))
    ∙ context_complete p rules t c (ys ++ long_arrow ∷ (zs ++ terminal.Sign e ∷ rest))
    ∙ left_complete (rule_head rules es) k (zs ++ terminal.Sign e ∷ rest)
    ∙ term_runs (as_right (rule_head rules es) l) r [] e rest enders

rule_runs : (p : CommandSoFar) (rules : List WrittenRule) {xs : List Terminal} {r : WrittenRule} → TakesRule p rules → SpellsRule xs r → (e : Sign) (rest : List Terminal) → Enders e → run p (xs ++ terminal.Sign e ∷ rest) ≡ run (behind rules r) (terminal.Sign e ∷ rest)
rule_runs p rules t (spells_rule spells_no_rule_name c k r) e rest enders = body_runs p rules t.0 c k r e rest enders
rule_runs p rules t (spells_rule {xs} {ys} {zs} (spells_rule_name {n}) c k r) e rest enders =
    t.1 (terminal.Name n ∷ close_brace ∷ ((xs ++ (ys ++ long_arrow ∷ zs)) ++ terminal.Sign e ∷ rest))
    ∙ body_runs (square_due (rule_head rules [])) rules (λ rest. refl) c k r e rest enders
rule_runs p rules t (spells_rule {xs} {ys} {zs} (spells_qualified_rule_name {m} {n}) c k r) e rest enders =
    t.1 (terminal.Qualified m n ∷ close_brace ∷ ((xs ++ (ys ++ long_arrow ∷ zs)) ++ terminal.Sign e ∷ rest))
    ∙ body_runs (square_due (rule_head rules [])) rules (λ rest. refl) c k r e rest enders

-- a list begins with a sign that ends an application
abbrev BeginsBySign : List Terminal → Type 0
BeginsBySign xs = (s : Sign) × (us : List Terminal) × Enders s × (xs ≡ terminal.Sign s ∷ us)

rule_begins : {xs : List Terminal} {r : WrittenRule} → SpellsRule xs r → BeginsBySign xs
rule_begins (spells_rule spells_no_rule_name spells_no_context k t) = (sign.OpenSquare, _, λ p. refl, refl)
rule_begins (spells_rule spells_no_rule_name (spells_context c) k t) = (sign.OpenSquare, _, λ p. refl, refl)
rule_begins (spells_rule name c k t) = (sign.OpenBrace, _, λ p. refl, refl)

rules_begin : {xs : List Terminal} {rs : List WrittenRule} → SpellsRules xs rs → BeginsBySign xs
rules_begin (spells_last_rule s) = rule_begins s
rules_begin (spells_more_rules {ys = ys} s k) =
    let b = rule_begins s in
    (b.0, b.1 ++ ys, b.2, ap (λ us. us ++ ys) b.3)

rules_complete : (p : CommandSoFar) (done : List WrittenRule) {xs : List Terminal} {rs : List WrittenRule} → TakesRule p done → SpellsRules xs rs → Ends p (xs ++ dot ∷ []) (written_rules (done ++ rs))
rules_complete p done t (spells_last_rule s) = rule_runs p done t s sign.Dot [] (λ p. refl)
rules_complete p done t (spells_more_rules {xs} {ys} {r} {rs} s k) =
    let b = rules_begin k in
    ap (run p) (append_assoc xs ys (dot ∷ []) ∙ ap (λ us. xs ++ (us ++ dot ∷ [])) b.3)
    ∙ rule_runs p done t s b.0 (b.1 ++ dot ∷ []) b.2
    ∙ ap (λ us. run (behind done r) (us ++ dot ∷ [])) (sym b.3)
    ∙ rules_complete (behind done r) (done ++ r ∷ []) (λ rest. refl, λ rest. refl) k
    ∙ ap (λ rs. ended (written_rules rs) []) (append_assoc done (r ∷ []) rs)

-- Directives

directive_complete : (d : Directive) (m : List ℕ) → is_plain_name m ≡ true → Ends (module_due d) (terminal.Name m ∷ dot ∷ []) (directive_form d m)
directive_complete d m plain = ap (λ b. run_by (if b then goes (dot_due d m) else refuses) (λ q. run q (dot ∷ [])) (dot ∷ [])) plain

-- Queries

demand_complete : {w : Terminal} {d : Bool} → SpellsDemand w d → (rest : List Terminal) → run command_due (w ∷ rest) ≡ run (in_term (as_asked d) asked_due) rest
demand_complete spells_check rest = refl
demand_complete spells_assert rest = refl

query_complete : (q : Asking) {xs : List Terminal} {t : Written} → SpellsTerm xs t → Ends (in_term (as_query q) term_due) (xs ++ dot ∷ []) (query_form q t)
query_complete q k = term_complete (as_query q) k sign.Dot [] (λ p. refl)

-- Commands

-- a command is read as what it spells
pub complete : {xs : List Terminal} {form : WrittenForm} → SpellsForm xs form → Ends command_due xs form
complete (spells_static {n} {xs} {ys} {ps} h k) =
    params_complete Static n [] h (colon ∷ (ys ++ dot ∷ [])) ∙ term_complete (as_type (head_of Static n ps)) k sign.Dot [] (λ p. refl)
complete (spells_definable {n} {xs} {ys} {ps} h k) =
    params_complete Definable n [] h (colon ∷ (ys ++ dot ∷ [])) ∙ term_complete (as_type (head_of Definable n ps)) k sign.Dot [] (λ p. refl)
complete (spells_definition {n} {xs} {ys} {ps} h k) =
    params_complete Definable n [] h (defined ∷ (ys ++ dot ∷ [])) ∙ body_complete (head_of Definable n ps) None k
complete (spells_typed_definition {n} {xs} {ys} {zs} {ps} {a} h k j) =
    params_complete Definable n [] h (colon ∷ (ys ++ defined ∷ (zs ++ dot ∷ [])))
    ∙ term_complete (as_type (head_of Definable n ps)) k sign.Defined (zs ++ dot ∷ []) (λ p. refl)
    ∙ body_complete (head_of Definable n ps) (Some a) j
complete (spells_theorem {n} {xs} {ys} {zs} {ps} {a} h k j) =
    params_complete Theorem n [] h (colon ∷ (ys ++ defined ∷ (zs ++ dot ∷ [])))
    ∙ term_complete (as_type (head_of Theorem n ps)) k sign.Defined (zs ++ dot ∷ []) (λ p. refl)
    ∙ body_complete (head_of Theorem n ps) (Some a) j
complete (spells_typed {d = d} {xs = xs} {ys = ys} {t = t} w k j) =
    demand_complete w (xs ++ colon ∷ (ys ++ dot ∷ [])) ∙ application_complete (as_asked d) k (colon ∷ (ys ++ dot ∷ [])) ∙ query_complete (asking_typed d t) j
complete (spells_alike {d = d} {xs = xs} {ys = ys} {t = t} w k j) =
    demand_complete w (xs ++ equal ∷ (ys ++ dot ∷ [])) ∙ application_complete (as_asked d) k (equal ∷ (ys ++ dot ∷ [])) ∙ query_complete (asking_alike d t) j
complete (spells_type_of k) = query_complete asking_type k
complete (spells_value_of k) = query_complete asking_value k
complete (spells_module {m} plain) = directive_complete directive.Name m plain
complete (spells_require {m} plain) = directive_complete directive.Require m plain
complete (spells_rules k) = rules_complete command_due [] (λ rest. refl, λ rest. refl) k
