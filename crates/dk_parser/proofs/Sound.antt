-- What is read is spelt so.
use Rattle.std.proofs.Common.{◌≡◌, ℕ, List, [], ◌∷◌, ◌++◌, refl, sym, ap, ◌∙◌, subst, append_assoc, append-nil}
use Rattle.std.specs.Prelude.{Option, Some, None, Bool, true, false, if◌then◌else◌}
use Rattle.dk_model.specs.declared.signature.SymSort.{SymSort}
use Rattle.dk_model.specs.declared.signature.SymSort.TheVariants.{Static, Definable, Theorem}
use Rattle.dk_lexer.specs.declared.token.Sign.{Sign}
use Rattle.dk_lexer.specs.declared.token.Sign.TheVariants as sign
use Rattle.dk_terms.specs.declared.terminal.Terminal.{Terminal}
use Rattle.dk_terms.specs.declared.terminal.Terminal.TheVariants as terminal
use Rattle.dk_terms.specs.Parsing.{TermSoFar, term_due, TermStep, term_goes, term_ends, term_refuses, term_next, LeftSoFar, left_due, LeftStep, left_goes, left_ends, left_refuses, left_next, with_atom}
use Rattle.dk_lexer.specs.Spelling.{is_plain_name}
use Rattle.dk_parser.specs.declared.directive_part.Directive.{Directive}
use Rattle.dk_parser.specs.declared.directive_part.Directive.TheVariants as directive
use Rattle.dk_parser.specs.Written.{Written, WrittenParam, WrittenPattern, pattern_guard, WrittenNote, WrittenRule, asked_typed, asked_alike, WrittenForm, written_declare, written_query}
use Rattle.dk_parser.specs.Grammar.{colon, defined, dot, open_bracket, close_bracket, open_square, close_square, open_brace, close_brace, comma, long_arrow, equal, param, entry, rule, SpellsBinder, spells_binder, spells_no_binder, SpellsApplication, SpellsTerm, SpellsPatternApplication, spells_guard, SpellsParams, spells_no_params, spells_params, SpellsEntry, spells_entry, spells_typed_entry, SpellsEntries, spells_last_entry, spells_more_entries, SpellsContext, spells_no_context, spells_context, SpellsRuleName, spells_no_rule_name, spells_rule_name, spells_qualified_rule_name, SpellsRule, spells_rule, SpellsRules, spells_last_rule, spells_more_rules, SpellsDemand, spells_check, spells_assert, SpellsForm, spells_static, spells_definable, spells_definition, spells_typed_definition, spells_theorem, spells_rules, spells_typed, spells_alike, spells_type_of, spells_value_of, spells_module, spells_require}
use Rattle.dk_parser.specs.Parsing.{Head, RuleHead, with_entry, Purpose, as_param, as_type, as_body, as_entry, as_guard, as_right, as_asked, as_query, asking_typed, asking_alike, asking_type, asking_value, CommandSoFar, command_due, name_due, head_due, binder_due, binder_colon_due, rule_name_due, rule_brace_due, square_due, context_due, entry_due, entry_named, in_left, in_term, Advance, goes, ends, refuses, behind_entry, behind_rule, behind_term, in_term_by, head_next, named_next, in_left_by, in_left_next, dot_behind_type, body_behind_type, module_due, dot_due, directive_form, advanced}
use Rattle.dk_parser.proofs.Complete.{ended, run, run_by, Ends}
use Rattle.dk_parser.proofs.SoundTerms.{within_lists, nested_lists, ReachedTerm, due_as, nothing_reached, SpellsWhole, whole_term, whole_application, MadeTerm, term_made, ReachedLeft, left_reached_nothing, left_atom_reached, MadeLeft, left_made}

-- What leads to a part of a command

-- the name of a declaration of this sort, with the word before it
abbrev start : SymSort → List ℕ → List Terminal
start Static n = terminal.Name n ∷ []
start Definable n = terminal.Def ∷ terminal.Name n ∷ []
start Theorem n = terminal.Thm ∷ terminal.Name n ∷ []

-- the name and the parameters
data SpellsHead : List Terminal → Head → Type 0 where
  spells_head : {s : SymSort} {n : List ℕ} {xs : List Terminal} {ps : List WrittenParam} → SpellsParams xs ps → SpellsHead (start s n ++ xs) (record { sort = s; name = n; params = ps })

-- rules, or none
data RulesSoFar : List Terminal → List WrittenRule → Type 0 where
  none_so_far : RulesSoFar [] []
  some_so_far : {xs : List Terminal} {rs : List WrittenRule} → SpellsRules xs rs → RulesSoFar xs rs

-- rules, and the name of the next one
data SpellsNamed : List Terminal → List WrittenRule → Type 0 where
  spells_named : {xs ns : List Terminal} {rs : List WrittenRule} → RulesSoFar xs rs → SpellsRuleName ns → SpellsNamed (xs ++ ns) rs

abbrev in_context : List WrittenRule → List WrittenNote → RuleHead
in_context rules es = record { rules = rules; context = es }

-- where an entry may begin, in or behind the first square bracket
data ContextSoFar : List Terminal → RuleHead → Type 0 where
  context_begins : {xs : List Terminal} {rs : List WrittenRule} → SpellsNamed xs rs → ContextSoFar (xs ++ open_square ∷ []) (in_context rs [])
  context_more : {xs ys : List Terminal} {rs : List WrittenRule} {es : List WrittenNote} → SpellsNamed xs rs → SpellsEntries ys es → ContextSoFar (xs ++ (open_square ∷ (ys ++ comma ∷ []))) (in_context rs es)

-- behind an entry
data EntriesRead : List Terminal → RuleHead → Type 0 where
  entries_read : {xs ys : List Terminal} {rs : List WrittenRule} {es : List WrittenNote} → SpellsNamed xs rs → SpellsEntries ys es → EntriesRead (xs ++ (open_square ∷ ys)) (in_context rs es)

-- behind a context
data ContextRead : List Terminal → RuleHead → Type 0 where
  context_read : {xs ys : List Terminal} {rs : List WrittenRule} {es : List WrittenNote} → SpellsNamed xs rs → SpellsContext ys es → ContextRead (xs ++ ys) (in_context rs es)

abbrev HasBody : SymSort → Type 0
HasBody Static = ⊥
HasBody s = Unit {0}

-- before a term
data Before : List Terminal → Purpose → Type 0 where
  before_param : {xs : List Terminal} {h : Head} {x : Terminal} {v : Option (List ℕ)} → SpellsHead xs h → SpellsBinder x v → Before (xs ++ (open_bracket ∷ x ∷ colon ∷ [])) (as_param h v)
  before_type : {xs : List Terminal} {h : Head} → SpellsHead xs h → Before (xs ++ colon ∷ []) (as_type h)
  before_body : {xs : List Terminal} {n : List ℕ} {ps : List WrittenParam} → SpellsParams xs ps → Before ((start Definable n ++ xs) ++ defined ∷ []) (as_body (record { sort = Definable; name = n; params = ps }) None)
  before_typed : {xs ys : List Terminal} {s : SymSort} {n : List ℕ} {ps : List WrittenParam} {a : Written} → HasBody s → SpellsParams xs ps → SpellsTerm ys a → Before ((start s n ++ xs) ++ (colon ∷ (ys ++ defined ∷ []))) (as_body (record { sort = s; name = n; params = ps }) (Some a))
  before_entry : {xs : List Terminal} {h : RuleHead} {n : List ℕ} → ContextSoFar xs h → Before (xs ++ (terminal.Name n ∷ colon ∷ [])) (as_entry h n)
  before_guard : {xs ys : List Terminal} {h : RuleHead} {part : LeftSoFar} → ContextRead xs h → ReachedLeft ys part → Before (xs ++ (ys ++ open_brace ∷ [])) (as_guard h part)
  before_right : {xs ys : List Terminal} {h : RuleHead} {l : WrittenPattern} → ContextRead xs h → SpellsPatternApplication ys l → Before (xs ++ (ys ++ long_arrow ∷ [])) (as_right h l)
  before_asked : {w : Terminal} {d : Bool} → SpellsDemand w d → Before (w ∷ []) (as_asked d)
  before_type_asked : {w : Terminal} {d : Bool} {xs : List Terminal} {t : Written} → SpellsDemand w d → SpellsApplication xs t → Before (w ∷ (xs ++ colon ∷ [])) (as_query (asking_typed d t))
  before_other_asked : {w : Terminal} {d : Bool} {xs : List Terminal} {t : Written} → SpellsDemand w d → SpellsApplication xs t → Before (w ∷ (xs ++ equal ∷ [])) (as_query (asking_alike d t))
  before_inferred : Before (terminal.Infer ∷ []) (as_query asking_type)
  before_evaluated : Before (terminal.Eval ∷ []) (as_query asking_value)

-- whether an application is read and no longer term
abbrev asks_of : Purpose → Bool
asks_of (as_asked d) = true
asks_of purpose = false

-- the word of a directive
abbrev word : Directive → Terminal
word directive.Name = terminal.NameWord
word directive.Require = terminal.RequireWord

-- these terminals lead to this part of a command
data Reached : List Terminal → CommandSoFar → Type 0 where
  at_command : Reached [] command_due
  at_def : Reached (terminal.Def ∷ []) (name_due Definable)
  at_thm : Reached (terminal.Thm ∷ []) (name_due Theorem)
  at_head : {xs : List Terminal} {h : Head} → SpellsHead xs h → Reached xs (head_due h)
  at_binder : {xs : List Terminal} {h : Head} → SpellsHead xs h → Reached (xs ++ open_bracket ∷ []) (binder_due h)
  at_binder_colon : {xs : List Terminal} {h : Head} {x : Terminal} {v : Option (List ℕ)} → SpellsHead xs h → SpellsBinder x v → Reached (xs ++ (open_bracket ∷ x ∷ [])) (binder_colon_due h v)
  at_rule_name : {xs : List Terminal} {rs : List WrittenRule} → RulesSoFar xs rs → Reached (xs ++ open_brace ∷ []) (rule_name_due (in_context rs []))
  at_rule_brace : {xs : List Terminal} {x : Terminal} {rs : List WrittenRule} → RulesSoFar xs rs → SpellsRuleName (open_brace ∷ x ∷ close_brace ∷ []) → Reached (xs ++ (open_brace ∷ x ∷ [])) (rule_brace_due (in_context rs []))
  at_square : {xs : List Terminal} {rs : List WrittenRule} → SpellsNamed xs rs → Reached xs (square_due (in_context rs []))
  at_context : {xs : List Terminal} {rs : List WrittenRule} → SpellsNamed xs rs → Reached (xs ++ open_square ∷ []) (context_due (in_context rs []))
  at_entry : {xs : List Terminal} {h : RuleHead} → ContextSoFar xs h → Reached xs (entry_due h)
  at_named : {xs : List Terminal} {h : RuleHead} {n : List ℕ} → ContextSoFar xs h → Reached (xs ++ terminal.Name n ∷ []) (entry_named h n)
  at_left : {xs ys : List Terminal} {h : RuleHead} {part : LeftSoFar} → ContextRead xs h → ReachedLeft ys part → Reached (xs ++ ys) (in_left h part)
  at_module : (d : Directive) → Reached (word d ∷ []) (module_due d)
  at_dot : {m : List ℕ} (d : Directive) → is_plain_name m ≡ true → Reached (word d ∷ terminal.Name m ∷ []) (dot_due d m)
  at_term : {xs ys : List Terminal} {purpose : Purpose} {p : TermSoFar} → Before xs purpose → ReachedTerm (asks_of purpose) ys p → Reached (xs ++ ys) (in_term purpose p)

-- what a step makes of these terminals
abbrev Made : List Terminal → Advance → Type 0
Made xs (goes q) = Reached xs q
Made xs (ends form) = SpellsForm xs form
Made xs refuses = Unit {0}

-- by another bracketing of the list
as_list : (a : Advance) {xs ys : List Terminal} → xs ≡ ys → Made xs a → Made ys a
as_list a e m = subst (λ us. Made us a) e m

there : {q : CommandSoFar} (xs ys : List Terminal) (x : Terminal) → Reached (xs ++ (ys ++ x ∷ [])) q → Reached ((xs ++ ys) ++ x ∷ []) q
there {q} xs ys x h = as_list (goes q) (sym (append_assoc xs ys (x ∷ []))) h

into_term : {xs : List Terminal} {purpose : Purpose} → Before xs purpose → Reached xs (in_term purpose (due_as (asks_of purpose)))
into_term {xs} {purpose} b = as_list (goes (in_term purpose (due_as (asks_of purpose)))) (append-nil xs) (at_term b (nothing_reached (asks_of purpose)))

into_left : {xs : List Terminal} {h : RuleHead} → ContextRead xs h → Reached xs (in_left h left_due)
into_left {xs} {h} c = as_list (goes (in_left h left_due)) (append-nil xs) (at_left c left_reached_nothing)

-- One parameter, entry or rule more

param_more : {xs ys : List Terminal} {ps : List WrittenParam} {x : Terminal} {v : Option (List ℕ)} {a : Written} → SpellsParams xs ps → SpellsBinder x v → SpellsTerm ys a → SpellsParams (xs ++ (open_bracket ∷ x ∷ colon ∷ (ys ++ close_bracket ∷ []))) (ps ++ param v a ∷ [])
param_more spells_no_params b t = spells_params b t spells_no_params
param_more {ys = ys} {x = x} {v = v} {a = a} (spells_params {x = y} {v = w} {xs = us} {ys = vs} {a = c} {ps = ps} d u h) b t =
    subst (λ zs. SpellsParams (open_bracket ∷ y ∷ colon ∷ zs) (param w c ∷ (ps ++ param v a ∷ []))) (sym (append_assoc us (close_bracket ∷ vs) (open_bracket ∷ x ∷ colon ∷ (ys ++ close_bracket ∷ []))))
    (spells_params d u (param_more h b t))

entry_more : {xs ys : List Terminal} {es : List WrittenNote} {e : WrittenNote} → SpellsEntries xs es → SpellsEntry ys e → SpellsEntries (xs ++ comma ∷ ys) (es ++ e ∷ [])
entry_more (spells_last_entry s) k = spells_more_entries s (spells_last_entry k)
entry_more {ys = ys} {e = e} (spells_more_entries {xs = us} {ys = vs} {e = d} {es = es} s h) k =
    subst (λ zs. SpellsEntries zs (d ∷ (es ++ e ∷ []))) (sym (append_assoc us (comma ∷ vs) (comma ∷ ys))) (spells_more_entries s (entry_more h k))

rule_more : {xs ys : List Terminal} {rs : List WrittenRule} {r : WrittenRule} → SpellsRules xs rs → SpellsRule ys r → SpellsRules (xs ++ ys) (rs ++ r ∷ [])
rule_more (spells_last_rule s) k = spells_more_rules s (spells_last_rule k)
rule_more {ys = ys} {r = r} (spells_more_rules {xs = us} {ys = vs} {r = q} {rs = rs} s h) k =
    subst (λ zs. SpellsRules zs (q ∷ (rs ++ r ∷ []))) (sym (append_assoc us vs ys)) (spells_more_rules s (rule_more h k))

rules_with : {xs ys : List Terminal} {rs : List WrittenRule} {r : WrittenRule} → RulesSoFar xs rs → SpellsRule ys r → SpellsRules (xs ++ ys) (rs ++ r ∷ [])
rules_with none_so_far k = spells_last_rule k
rules_with (some_so_far h) k = rule_more h k

entry_added : {xs ys : List Terminal} {h : RuleHead} {n : List ℕ} {typ : Option Written} → ContextSoFar xs h → SpellsEntry ys (entry n typ) → EntriesRead (xs ++ ys) (with_entry h n typ)
entry_added {ys = ys} {n = n} {typ = typ} (context_begins {xs} {rs} k) e =
    subst (λ us. EntriesRead us (with_entry (in_context rs []) n typ)) (sym (append_assoc xs (open_square ∷ []) ys)) (entries_read k (spells_last_entry e))
entry_added {ys = ys} {n = n} {typ = typ} (context_more {xs} {ys = zs} {rs} {es} k es_spelt) e =
    subst (λ us. EntriesRead us (with_entry (in_context rs es) n typ)) (within_lists xs (open_square ∷ zs) ys comma) (entries_read k (entry_more es_spelt e))

-- One terminal more

five_lists : (us vs ws ys zs : List Terminal) → us ++ (vs ++ (ws ++ (ys ++ zs))) ≡ (((us ++ vs) ++ ws) ++ ys) ++ zs
five_lists us vs ws ys zs = simp append_assoc

entry_made : {xs : List Terminal} {h : RuleHead} → EntriesRead xs h → (s : Sign) → Made (xs ++ terminal.Sign s ∷ []) (behind_entry h s)
entry_made (entries_read {xs} {ys} k es) sign.Comma = there xs (open_square ∷ ys) comma (at_entry (context_more k es))
entry_made (entries_read {xs} {ys} k es) sign.CloseSquare = there xs (open_square ∷ ys) close_square (into_left (context_read k (spells_context es)))
entry_made k s = tt

rules_made : {xs : List Terminal} {rs : List WrittenRule} → SpellsRules xs rs → (s : Sign) → Made (xs ++ terminal.Sign s ∷ []) (behind_rule (in_context rs []) s)
rules_made k sign.Dot = spells_rules k
rules_made {xs} {rs} k sign.OpenSquare = as_list (goes (context_due (in_context rs []))) (ap (λ us. us ++ open_square ∷ []) (append-nil xs)) (at_context (spells_named (some_so_far k) spells_no_rule_name))
rules_made k sign.OpenBrace = at_rule_name (some_so_far k)
rules_made k s = tt

rule_lists : (us ns cs ls ys : List Terminal) → us ++ (ns ++ (cs ++ (ls ++ long_arrow ∷ ys))) ≡ (((us ++ ns) ++ cs) ++ (ls ++ long_arrow ∷ [])) ++ ys
rule_lists us ns cs ls ys = simp append_assoc

rule_read : {xs ls ys : List Terminal} {h : RuleHead} {l : WrittenPattern} {r : Written} → ContextRead xs h → SpellsPatternApplication ls l → SpellsTerm ys r → SpellsRules ((xs ++ (ls ++ long_arrow ∷ [])) ++ ys) (h.rules ++ rule h.context l r ∷ [])
rule_read {ls = ls} {ys = ys} {l = l} {r = r} (context_read {ys = cs} {rs = rs} {es = es} (spells_named {xs = us} {ns} rules name) c) k t =
    subst (λ zs. SpellsRules zs (rs ++ rule es l r ∷ [])) (rule_lists us ns cs ls ys) (rules_with rules (spells_rule name c k t))

dot_made : {xs ys : List Terminal} {a : Written} (s : SymSort) (n : List ℕ) (ps : List WrittenParam) → SpellsParams xs ps → SpellsTerm ys a → Made ((((start s n ++ xs) ++ colon ∷ []) ++ ys) ++ dot ∷ []) (dot_behind_type s (record { sort = s; name = n; params = ps }) a)
dot_made {xs} {ys} {a} Static n ps h k = as_list (ends (written_declare Static n ps (Some a) None)) (five_lists (start Static n) xs (colon ∷ []) ys (dot ∷ [])) (spells_static h k)
dot_made {xs} {ys} {a} Definable n ps h k = as_list (ends (written_declare Definable n ps (Some a) None)) (five_lists (start Definable n) xs (colon ∷ []) ys (dot ∷ [])) (spells_definable h k)
dot_made Theorem n ps h k = tt

typed_made : {xs ys : List Terminal} {a : Written} (s : SymSort) (n : List ℕ) (ps : List WrittenParam) → SpellsParams xs ps → SpellsTerm ys a → Made (((((start s n ++ xs) ++ colon ∷ []) ++ ys)) ++ defined ∷ []) (body_behind_type s (record { sort = s; name = n; params = ps }) a)
typed_made Static n ps h k = tt
typed_made {xs} {ys} {a} Definable n ps h k = as_list (goes (in_term (as_body (record { sort = Definable; name = n; params = ps }) (Some a)) term_due)) (nested_lists (start Definable n ++ xs) [] ys colon defined) (into_term (before_typed tt h k))
typed_made {xs} {ys} {a} Theorem n ps h k = as_list (goes (in_term (as_body (record { sort = Theorem; name = n; params = ps }) (Some a)) term_due)) (nested_lists (start Theorem n ++ xs) [] ys colon defined) (into_term (before_typed tt h k))

body_made : {xs ys zs : List Terminal} {a b : Written} (s : SymSort) (n : List ℕ) (ps : List WrittenParam) → HasBody s → SpellsParams xs ps → SpellsTerm ys a → SpellsTerm zs b → SpellsForm ((((start s n ++ xs) ++ (colon ∷ (ys ++ defined ∷ []))) ++ zs) ++ dot ∷ []) (written_declare s n ps (Some a) (Some b))
body_made Static n ps e h k j = absurd e
body_made {xs} {ys} {zs} {a} {b} Definable n ps e h k j = as_list (ends (written_declare Definable n ps (Some a) (Some b))) (sym (append_assoc (start Definable n) xs (colon ∷ (ys ++ defined ∷ (zs ++ dot ∷ [])))) ∙ nested_lists (start Definable n ++ xs) (colon ∷ ys) zs defined dot) (spells_typed_definition h k j)
body_made {xs} {ys} {zs} {a} {b} Theorem n ps e h k j = as_list (ends (written_declare Theorem n ps (Some a) (Some b))) (sym (append_assoc (start Theorem n) xs (colon ∷ (ys ++ defined ∷ (zs ++ dot ∷ [])))) ∙ nested_lists (start Theorem n ++ xs) (colon ∷ ys) zs defined dot) (spells_theorem h k j)

query_lists : (xs ys : List Terminal) (x y : Terminal) → xs ++ x ∷ (ys ++ y ∷ []) ≡ ((xs ++ x ∷ []) ++ ys) ++ y ∷ []
query_lists xs ys x y = simp append_assoc

type_made : {w : Terminal} {d : Bool} {xs ys : List Terminal} {t a : Written} → SpellsDemand w d → SpellsApplication xs t → SpellsTerm ys a → SpellsForm (w ∷ (((xs ++ colon ∷ []) ++ ys) ++ dot ∷ [])) (written_query d (asked_typed t a))
type_made {w} {d} {xs} {ys} {t} {a} b k j = as_list (ends (written_query d (asked_typed t a))) (ap (λ zs. w ∷ zs) (query_lists xs ys colon dot)) (spells_typed b k j)

other_made : {w : Terminal} {d : Bool} {xs ys : List Terminal} {t u : Written} → SpellsDemand w d → SpellsApplication xs t → SpellsTerm ys u → SpellsForm (w ∷ (((xs ++ equal ∷ []) ++ ys) ++ dot ∷ [])) (written_query d (asked_alike t u))
other_made {w} {d} {xs} {ys} {t} {u} b k j = as_list (ends (written_query d (asked_alike t u))) (ap (λ zs. w ∷ zs) (query_lists xs ys equal dot)) (spells_alike b k j)

-- a sign behind a whole term, or behind what a query asks of
behind_made : {xs ys : List Terminal} {purpose : Purpose} {a : Written} → Before xs purpose → SpellsWhole (asks_of purpose) ys a → (s : Sign) → Made ((xs ++ ys) ++ terminal.Sign s ∷ []) (behind_term purpose a s)
behind_made {ys = ys} {a = a} (before_param {x = x} {v = v} (spells_head {s} {n} {xs} {ps} h) b) (whole_term k) sign.CloseBracket =
    as_list (goes (head_due (record { sort = s; name = n; params = ps ++ param v a ∷ [] }))) (five_lists (start s n) xs (open_bracket ∷ x ∷ colon ∷ []) ys (close_bracket ∷ [])) (at_head (spells_head (param_more h b k)))
behind_made (before_type (spells_head {s} {n} {xs} {ps} h)) (whole_term k) sign.Dot = dot_made s n ps h k
behind_made (before_type (spells_head {s} {n} {xs} {ps} h)) (whole_term k) sign.Defined = typed_made s n ps h k
behind_made {ys = ys} {a = b} (before_body {xs} {n} {ps} h) (whole_term k) sign.Dot = as_list (ends (written_declare Definable n ps None (Some b))) (five_lists (start Definable n) xs (defined ∷ []) ys (dot ∷ [])) (spells_definition h k)
behind_made (before_typed {s = s} {n = n} {ps = ps} e h t) (whole_term k) sign.Dot = body_made s n ps e h t k
behind_made {ys = ys} {a = a} (before_entry {xs} {h} {n} c) (whole_term k) s =
    subst (λ us. Made (us ++ terminal.Sign s ∷ []) (behind_entry (with_entry h n (Some a)) s)) (sym (append_assoc xs (terminal.Name n ∷ colon ∷ []) ys)) (entry_made (entry_added {n = n} c (spells_typed_entry k)) s)
behind_made {ys = ys} {a = a} (before_guard {xs} {ys = ls} {h} {part} c l) (whole_term k) sign.CloseBrace =
    as_list (goes (in_left h (with_atom part (pattern_guard a)))) (nested_lists xs ls ys open_brace close_brace) (at_left c (left_atom_reached part l (spells_guard k)))
behind_made (before_right c l) (whole_term k) s = rules_made (rule_read c l k) s
behind_made (before_asked w) (whole_application k) sign.Colon = into_term (before_type_asked w k)
behind_made (before_asked w) (whole_application k) sign.Equal = into_term (before_other_asked w k)
behind_made (before_type_asked w t) (whole_term k) sign.Dot = type_made w t k
behind_made (before_other_asked w t) (whole_term k) sign.Dot = other_made w t k
behind_made before_inferred (whole_term k) sign.Dot = spells_type_of k
behind_made before_evaluated (whole_term k) sign.Dot = spells_value_of k
behind_made b k s = tt

term_by : {xs : List Terminal} {purpose : Purpose} (ys : List Terminal) (x : Terminal) (t : TermStep) → Before xs purpose → MadeTerm (asks_of purpose) ys x t → Made ((xs ++ ys) ++ x ∷ []) (in_term_by purpose t)
term_by {xs} ys x (term_goes q) b m = there xs ys x (at_term b m)
term_by {xs} {purpose} ys x (term_ends a s) b m = subst (λ x. Made ((xs ++ ys) ++ x ∷ []) (behind_term purpose a s)) (sym m.0) (behind_made b m.1 s)
term_by ys x term_refuses b m = tt

left_by : {xs : List Terminal} {h : RuleHead} (ys : List Terminal) (x : Terminal) (t : LeftStep) → ContextRead xs h → MadeLeft ys x t → Made ((xs ++ ys) ++ x ∷ []) (in_left_by h t)
left_by {xs} ys x (left_goes q) c m = there xs ys x (at_left c m)
left_by {xs} {h} ys x (left_ends l) c m = subst (λ x. Reached ((xs ++ ys) ++ x ∷ []) (in_term (as_right h l) term_due)) (sym m.0) (there xs ys long_arrow (into_term (before_right c m.1)))
left_by ys x left_refuses c m = tt

in_left_made : {xs ys : List Terminal} {h : RuleHead} (part : LeftSoFar) (x : Terminal) → ContextRead xs h → ReachedLeft ys part → Made ((xs ++ ys) ++ x ∷ []) (in_left_next h part x)
in_left_made {xs} {ys} part (terminal.Sign sign.OpenBrace) c l = there xs ys open_brace (into_term (before_guard c l))
in_left_made {ys = ys} part x c l = left_by ys x (left_next part x) c (left_made part l x)

head_made : {xs : List Terminal} {h : Head} (x : Terminal) → SpellsHead xs h → Made (xs ++ x ∷ []) (head_next h x)
head_made (terminal.Sign sign.OpenBracket) h = at_binder h
head_made (terminal.Sign sign.Colon) h = into_term (before_type h)
head_made (terminal.Sign sign.Defined) (spells_head {s = Definable} h) = into_term (before_body h)
head_made (terminal.Sign sign.Defined) (spells_head {s = Static} h) = tt
head_made (terminal.Sign sign.Defined) (spells_head {s = Theorem} h) = tt
head_made x h = tt

named_made : {xs : List Terminal} {h : RuleHead} (n : List ℕ) (x : Terminal) → ContextSoFar xs h → Made ((xs ++ terminal.Name n ∷ []) ++ x ∷ []) (named_next h n x)
named_made {xs} n (terminal.Sign sign.Colon) c = there xs (terminal.Name n ∷ []) colon (into_term (before_entry c))
named_made n (terminal.Sign s) c = entry_made (entry_added {n = n} c spells_entry) s
named_made n x c = tt

module_made : (d : Directive) (m : List ℕ) (b : Bool) → is_plain_name m ≡ b → Made (word d ∷ terminal.Name m ∷ []) (if b then goes (dot_due d m) else refuses)
module_made d m true is = at_dot d is
module_made d m false is = tt

dot_behind_module : (d : Directive) (m : List ℕ) → is_plain_name m ≡ true → SpellsForm (word d ∷ terminal.Name m ∷ dot ∷ []) (directive_form d m)
dot_behind_module directive.Name m plain = spells_module plain
dot_behind_module directive.Require m plain = spells_require plain

made : {xs : List Terminal} {p : CommandSoFar} → Reached xs p → (x : Terminal) → Made (xs ++ x ∷ []) (advanced p x)
made at_command (terminal.Name n) = at_head (spells_head {s = Static} spells_no_params)
made at_command terminal.Def = at_def
made at_command terminal.Thm = at_thm
made at_command (terminal.Sign sign.OpenBrace) = at_rule_name none_so_far
made at_command (terminal.Sign sign.OpenSquare) = at_context (spells_named none_so_far spells_no_rule_name)
made at_command terminal.NameWord = at_module directive.Name
made at_command terminal.RequireWord = at_module directive.Require
made at_command terminal.Check = into_term (before_asked spells_check)
made at_command terminal.Assert = into_term (before_asked spells_assert)
made at_command terminal.Infer = into_term before_inferred
made at_command terminal.Eval = into_term before_evaluated
made at_def (terminal.Name n) = at_head (spells_head {s = Definable} spells_no_params)
made at_thm (terminal.Name n) = at_head (spells_head {s = Theorem} spells_no_params)
made (at_head h) x = head_made x h
made (at_binder {xs} h) (terminal.Name n) = there xs (open_bracket ∷ []) (terminal.Name n) (at_binder_colon h spells_binder)
made (at_binder {xs} h) terminal.Wildcard = there xs (open_bracket ∷ []) terminal.Wildcard (at_binder_colon h spells_no_binder)
made (at_binder_colon {xs} {x = x} h b) (terminal.Sign sign.Colon) = there xs (open_bracket ∷ x ∷ []) colon (into_term (before_param h b))
made (at_rule_name {xs} r) (terminal.Name n) = there xs (open_brace ∷ []) (terminal.Name n) (at_rule_brace r spells_rule_name)
made (at_rule_name {xs} r) (terminal.Qualified m n) = there xs (open_brace ∷ []) (terminal.Qualified m n) (at_rule_brace r spells_qualified_rule_name)
made (at_rule_brace {xs} {x} r s) (terminal.Sign sign.CloseBrace) = there xs (open_brace ∷ x ∷ []) close_brace (at_square (spells_named r s))
made (at_square k) (terminal.Sign sign.OpenSquare) = at_context k
made (at_context {xs} k) (terminal.Sign sign.CloseSquare) = there xs (open_square ∷ []) close_square (into_left (context_read k spells_no_context))
made (at_context k) (terminal.Name n) = at_named (context_begins k)
made (at_entry c) (terminal.Name n) = at_named c
made (at_named {n = n} c) x = named_made n x c
made (at_left {part = part} c l) x = in_left_made part x c l
made (at_term {ys = ys} {p = p} b t) x = term_by ys x (term_next p x) b (term_made p t x)
made (at_module d) (terminal.Name m) = module_made d m (is_plain_name m) refl
made (at_dot {m} d plain) (terminal.Sign sign.Dot) = dot_behind_module d m plain
made r x = tt

-- what is left of a list that is read
sound_by : (s : Advance) (front : List Terminal) (x : Terminal) (xs : List Terminal) (form : WrittenForm) → Made (front ++ x ∷ []) s → run_by s (λ q. run q xs) xs ≡ ended form [] → ((q : CommandSoFar) → Reached (front ++ x ∷ []) q → Ends q xs form → SpellsForm ((front ++ x ∷ []) ++ xs) form) → SpellsForm ((front ++ x ∷ []) ++ xs) form
sound_by (goes q) front x xs form m e more = more q m e
sound_by (ends f) front x [] form m e more =
    let same : f ≡ form = cc in
    subst (λ us. SpellsForm us form) (sym (append-nil (front ++ x ∷ []))) (subst (SpellsForm (front ++ x ∷ [])) same m)
sound_by (ends f) front x (y ∷ xs) form m e more = cc
sound_by refuses front x xs form m e more = cc

sound_from : (xs front : List Terminal) (p : CommandSoFar) (form : WrittenForm) → Reached front p → Ends p xs form → SpellsForm (front ++ xs) form
sound_from [] front p form r e = cc
sound_from (x ∷ xs) front p form r e =
    subst (λ us. SpellsForm us form) (append_assoc front (x ∷ []) xs) (sound_by (advanced p x) front x xs form (made r x) e (λ q k j. sound_from xs (front ++ x ∷ []) q form k j))

-- what is read is spelt so
pub sound : (xs : List Terminal) (form : WrittenForm) → Ends command_due xs form → SpellsForm xs form
sound xs form e = sound_from xs [] command_due form at_command e
