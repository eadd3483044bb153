-- The context of a rule, entry by entry, and rules.
use Rattle.std.proofs.Common.{◌≡◌, ◌∙◌, ap, sym, subst, ℕ, ◌+◌, ◌<◌, Bool, true, false, not, List, [], ◌∷◌, ◌++◌, length, map, drop, get_or, is_some, if◌then◌else◌, refl, arith}
use Rattle.std.specs.Prelude.{Option}
use Rattle.std.proofs.lemmas.List.{at_drop_more, map-append}
use Rattle.dk_model.specs.Trees.{Tree}
use Rattle.dk_model.specs.Signatures.{maybe_tree}
use Rattle.dk_model.specs.declared.term.Term.{Term}
use Rattle.dk_model.specs.declared.code.Code.TheVariants.{E13}
use Rattle.dk_model.specs.declared.code.Fault.{Fault}
use Rattle.dk_model.specs.declared.code.Fault.TheVariants.{Refused}
use Rattle.dk_model.specs.Scoping.{PlainLeft, PlainScopedRule, plain_scoped_rule}
use Rattle.dk_model.specs.declared.scoped.ScopedRule.{ScopedRule}
use Rattle.dk_parser.specs.Written.{WrittenNote, WrittenRule}
use Rattle.dk_parser.specs.RawViews.{written_note, written_rule}
use Rattle.dk_parser.specs.declared.raw.RawNote.{RawNote}
use Rattle.dk_parser.specs.declared.raw.RawRule.{RawRule}
use Rattle.scope_terms.specs.Scopes.{Numbered, Symbols, no_names, term_of, left_of, rule_of, rules_of, Scoping, scoped, refused, both, number_of, with_name, maybe_term_of, notes_of, variables_of}
use Rattle.scope_terms.specs.Answers.{IsFaultOf}
use Rattle.scope_terms.proofs.Stages.{behind, behind_more, both_scoped, both_first, one_fault, first_of}

-- what was added was new
pub new_before : (added there : Bool) → added ≡ not there → added ≡ true → there ≡ false
new_before added true is was = let e : false ≡ true = sym is ∙ was in cc
new_before added false is was = refl

module _ (symbols : Symbols) (names before after : Numbered) (context : List RawNote) (i : ℕ) (e : RawNote) (lt : i < length context) (is : e ≡ get_or context i e) (added : after ≡ with_name before e.name) where
  -- one more rule variable
  pub variables_step : (whole : Numbered) → whole ≡ variables_of before (map written_note (drop i context)) → whole ≡ variables_of after (map written_note (drop (i + 1) context))
  variables_step whole at =
      at ∙ at_drop_more (λ ns. variables_of before (map written_note ns)) context i e lt
      ∙ ap (λ (x : RawNote). variables_of (with_name before x.name) (map written_note (drop (i + 1) context))) (sym is)
      ∙ ap (λ v. variables_of v (map written_note (drop (i + 1) context))) (sym added)

  -- one more annotation
  pub notes_step : (whole : Scoping (List (Option Tree))) (done pushed : List (Option Term)) (n : Option Term) → whole ≡ behind (map maybe_tree done) (notes_of symbols names before (map written_note (drop i context))) → is_some (number_of before e.name) ≡ false → maybe_term_of symbols names before [] (written_note e).note ≡ scoped (maybe_tree n) → pushed ≡ done ++ n ∷ [] → whole ≡ behind (map maybe_tree pushed) (notes_of symbols names after (map written_note (drop (i + 1) context)))
  notes_step whole done pushed n at new note push =
      let first = map maybe_tree done in
      let rest : Numbered → Scoping (List (Option Tree)) = λ v. notes_of symbols names v (map written_note (drop (i + 1) context)) in
      let step : Bool → Scoping (Option Tree) → Scoping (List (Option Tree)) = λ found s. if found then refused E13 else (both (λ x xs. x ∷ xs) s (rest (with_name before e.name))) in
      at ∙ at_drop_more (λ ns. behind first (notes_of symbols names before (map written_note ns))) context i e lt
      ∙ ap (λ (x : RawNote). behind first (notes_of symbols names before (written_note x ∷ map written_note (drop (i + 1) context)))) (sym is)
      ∙ ap (λ found. behind first (step found (maybe_term_of symbols names before [] (written_note e).note))) new
      ∙ ap (λ s. behind first (step false s)) note
      ∙ behind_more first (maybe_tree n) (rest (with_name before e.name))
      ∙ ap (λ v. behind (first ++ maybe_tree n ∷ []) (rest v)) (sym added)
      ∙ ap (λ xs. behind xs (rest after)) (sym (ap (λ ts. map maybe_tree ts) push ∙ map-append maybe_tree done (n ∷ [])))

-- the first fault at an entry whose annotation has this one: its name stands before
pub notes_fault : (symbols : Symbols) (names before : Numbered) (context : List RawNote) (i : ℕ) (e : RawNote) → i < length context → e ≡ get_or context i e → (whole : Scoping (List (Option Tree))) (done : List (Option Term)) (fault first : Fault) → whole ≡ behind (map maybe_tree done) (notes_of symbols names before (map written_note (drop i context))) → IsFaultOf (maybe_term_of symbols names before [] (written_note e).note) fault → first ≡ (if is_some (number_of before e.name) then Refused E13 else fault) → IsFaultOf whole first
notes_fault symbols names before context i e lt is whole done fault first at note which =
    let into : List (Option Tree) → List (Option Tree) = λ xs. map maybe_tree done ++ xs in
    let here : Scoping (Option Tree) = maybe_term_of symbols names before [] (written_note e).note in
    let rest : Scoping (List (Option Tree)) = notes_of symbols names (with_name before e.name) (map written_note (drop (i + 1) context)) in
    let both_of : Scoping (List (Option Tree)) = both (λ x xs. x ∷ xs) here rest in
    let there : Bool = is_some (number_of before e.name) in
    let now = at ∙ at_drop_more (λ ns. behind (map maybe_tree done) (notes_of symbols names before (map written_note ns))) context i e lt
    ∙ ap (λ (x : RawNote). behind (map maybe_tree done) (notes_of symbols names before (written_note x ∷ map written_note (drop (i + 1) context)))) (sym is) in
    let faulty : IsFaultOf (if there then refused E13 else both_of) first = subst (λ (f : Fault). IsFaultOf (if there then refused E13 else both_of) f) (sym which) (first_of there E13 both_of fault (both_first (λ x xs. x ∷ xs) here rest fault note)) in
    subst (λ (s : Scoping (List (Option Tree))). IsFaultOf s first) (sym now) (one_fault into (if there then refused E13 else both_of) first faulty)

-- the first fault at a rule that has one
pub rules_fault : (symbols : Symbols) (names : Numbered) (rules : List RawRule) (i : ℕ) (r : RawRule) → i < length rules → r ≡ get_or rules i r → (whole : Scoping (List PlainScopedRule)) (done : List ScopedRule) (fault : Fault) → whole ≡ behind (map plain_scoped_rule done) (rules_of symbols names (map written_rule (drop i rules))) → IsFaultOf (rule_of symbols names (written_rule r)) fault → IsFaultOf whole fault
rules_fault symbols names rules i r lt is whole done fault at faulty =
    let first = map plain_scoped_rule done in
    let here : Scoping PlainScopedRule = rule_of symbols names (written_rule r) in
    let rest : Scoping (List PlainScopedRule) = rules_of symbols names (map written_rule (drop (i + 1) rules)) in
    let now = at ∙ at_drop_more (λ rs. behind first (rules_of symbols names (map written_rule rs))) rules i r lt
    ∙ ap (λ (x : RawRule). behind first (rules_of symbols names (written_rule x ∷ map written_rule (drop (i + 1) rules)))) (sym is) in
    subst (λ (s : Scoping (List PlainScopedRule)). IsFaultOf s fault) (sym now)
    (one_fault (λ ss. first ++ ss) (both (λ s ss. s ∷ ss) here rest) fault (both_first (λ s ss. s ∷ ss) here rest fault faulty))

-- each entry takes one number
pub count_variables : (before : Numbered) (es : List WrittenNote) → (variables_of before es).count ≡ before.count + length es
count_variables before [] = omega arith
count_variables before (e ∷ es) = count_variables (with_name before e.name) es ∙ omega arith

-- a rule from its parts
pub rule_scoped : (symbols : Symbols) (names variables : Numbered) (r : WrittenRule) (count : ℕ) (notes : List (Option Tree)) (left : PlainLeft) (right : Tree) → variables ≡ variables_of no_names r.context → count ≡ variables.count → notes_of symbols names no_names r.context ≡ scoped notes → left_of symbols names variables [] r.left ≡ scoped left → term_of symbols names variables [] r.right ≡ scoped right → rule_of symbols names r ≡ scoped (record { vars = count; notes = notes; left = left; right = right })
rule_scoped symbols names variables r count notes left right are counted ns l t =
    let vars : count ≡ length r.context = counted ∙ ap (λ (v : Numbered). v.count) are ∙ count_variables no_names r.context ∙ omega arith in
    let made : ℕ → PlainScopedRule = λ n. record { vars = n; notes = notes; left = left; right = right } in
    both_scoped _ _ _ notes (left, right) (made count) ns
    (both_scoped _ _ _ left right (left, right) (subst (λ (v : Numbered). left_of symbols names v [] r.left ≡ scoped left) are l) (subst (λ (v : Numbered). term_of symbols names v [] r.right ≡ scoped right) are t) refl)
    (ap made vars)
