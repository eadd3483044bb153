-- Commands that are alike have the same verdict over similar signatures, the same units, and add entries that are alike.
use Rattle.std.proofs.Common.{List, ◌∷◌, ◌++◌, ℕ, ◌≡◌, nat_lt, Bool, true, false, ◌&&◌, Option, Some, None, Result, refl, ap, subst, ◌∙◌}
use Rattle.dk_model.specs.PlainTerms.{Tree}
use Rattle.dk_model.specs.PlainEntries.{Pattern, Patterns, PlainRule, PlainSignature}
use Rattle.dk_model.specs.PlainCommands.{PlainLeft, PlainScopedRule, PlainAsked, PlainFound, PlainCommand}
use Rattle.dk_model.specs.Shapes.{bare_variables, are_distinct, applied_variable, unapplied, pattern_of, left_head, left_patterns, pattern_variables, patterns_variables, covers, covers_guards, covers_all_guards, covers_notes, is_covered, rule_with, shape_with, shape_of, is_definable, defined_shape, both_shapes, shapes_of, erased_pattern, erased_patterns, erased_rule, kept_rules}
use Rattle.dk_model.specs.Typing.{Judged, answer, refused}
use Rattle.dk_model.specs.Verdicts.{verdict, body_checked, body_type, declaration_checked, rules_checked, or_no, found_by, compared, evaluated, asked_found, query_found, command_checked, answer_of, found_of, inferred_type, entry_type_of, kept_body, entry_of}
use Rattle.dk_model.specs.declared.signature.SymSort.{SymSort}
use Rattle.dk_model.specs.declared.signature.SymSort.TheVariants.{Static, Definable, Theorem}
use Rattle.dk_model.specs.declared.code.Code.{Code}
use Rattle.dk_model.specs.declared.code.Code.TheVariants.{E21}
use Rattle.prune_theory.specs.Alike.{Each, none_left, one_more, Maybe, neither, both, InJudged, both_answer, both_refused, both_ended, InResult, both_ok, both_err, Alike, alike_kind, alike_apply, alike_bare, alike_annotated, alike_product, AlikePattern, alike_rule_variable_pattern, alike_wildcard_pattern, alike_guard_pattern, alike_symbol_pattern, alike_variable_pattern, alike_abstraction_pattern, AlikePatterns, alike_no_patterns, alike_more_patterns, AlikeRule, alike_rule, AlikeEntry, alike_symbol_entry, alike_rules_entry, AlikeLeft, alike_left_symbol, alike_left_rule_variable, alike_left_variable, alike_left_wildcard, alike_left_guard, alike_left_abstraction, alike_left_apply, AlikeScopedRule, alike_scoped_rule, AlikeAsked, alike_typed, alike_alike, alike_type_of, alike_value_of, AlikeFinding, alike_yes, alike_no, alike_of_type, alike_value, AlikeCommand, alike_declare, alike_rule_command, alike_query, AreSimilar}
use Rattle.prune_theory.proofs.Lists.{if_alike, option_alike, each_map}
use Rattle.prune_theory.proofs.Terms.{erased_alike}
use Rattle.prune_theory.proofs.Matrix.{list_alike}
use Rattle.prune_theory.proofs.Typing.{after_alike, next_alike, Passes, inferred_alike, checked_alike, sort_of_alike, as_convertible_alike, not_kind_alike}
use Rattle.prune_theory.proofs.Evaluation.{normal_alike}
use Rattle.prune_theory.proofs.RuleTyping.{rules_typed_alike}

module _ {Q : ℕ → ℕ → Type 0} where
  -- ---- shapes

  bare_variables_alike : {ps qs : Patterns} → AlikePatterns Q ps qs → bare_variables ps ≡ bare_variables qs
  bare_variables_alike alike_no_patterns = refl
  bare_variables_alike (alike_more_patterns (alike_variable_pattern {k} alike_no_patterns) ps) = λ i. elim (bare_variables_alike ps i) as (λ _. Option (List ℕ)) [ None ↦ None | Some xs ↦ Some (k ∷ xs) ]
  bare_variables_alike (alike_more_patterns (alike_variable_pattern (alike_more_patterns q qs)) ps) = refl
  bare_variables_alike (alike_more_patterns alike_rule_variable_pattern ps) = refl
  bare_variables_alike (alike_more_patterns alike_wildcard_pattern ps) = refl
  bare_variables_alike (alike_more_patterns (alike_guard_pattern t) ps) = refl
  bare_variables_alike (alike_more_patterns (alike_symbol_pattern q qs) ps) = refl
  bare_variables_alike (alike_more_patterns (alike_abstraction_pattern p) ps) = refl

  applied_itself : (vars k : ℕ) (o : Option (List ℕ)) → Maybe (AlikePattern Q) (applied_variable vars k o) (applied_variable vars k o)
  applied_itself vars k None = neither
  applied_itself vars k (Some xs) = if_alike (Maybe (AlikePattern Q)) _ _ _ _ (nat_lt k vars && are_distinct xs) (nat_lt k vars && are_distinct xs) refl (both alike_rule_variable_pattern) neither

  applied_alike : (vars k : ℕ) (o o' : Option (List ℕ)) → o ≡ o' → Maybe (AlikePattern Q) (applied_variable vars k o) (applied_variable vars k o')
  applied_alike vars k o o' e = subst (λ z. Maybe (AlikePattern Q) (applied_variable vars k o) (applied_variable vars k z)) e (applied_itself vars k o)

  unapplied_alike : {p q : Pattern} {ps qs : Patterns} → AlikePattern Q p q → AlikePatterns Q ps qs → Maybe (AlikePattern Q) (unapplied p ps) (unapplied q qs)
  unapplied_alike p alike_no_patterns = both p
  unapplied_alike p (alike_more_patterns q qs) = neither

  pattern_of_alike : (vars : ℕ) {l m : PlainLeft} {ps qs : Patterns} → AlikeLeft Q l m → AlikePatterns Q ps qs → Maybe (AlikePattern Q) (pattern_of vars l ps) (pattern_of vars m qs)
  pattern_of_alike vars (alike_left_symbol q) ps = both (alike_symbol_pattern q ps)
  pattern_of_alike vars alike_left_variable ps = both (alike_variable_pattern ps)
  pattern_of_alike vars (alike_left_rule_variable {k}) ps = applied_alike vars k _ _ (bare_variables_alike ps)
  pattern_of_alike vars alike_left_wildcard ps = unapplied_alike alike_wildcard_pattern ps
  pattern_of_alike vars (alike_left_guard t) ps = unapplied_alike (alike_guard_pattern t) ps
  pattern_of_alike vars (alike_left_abstraction l) ps = option_alike (Maybe (AlikePattern Q)) _ _ _ _ (pattern_of_alike vars l alike_no_patterns) neither (λ p q r. unapplied_alike (alike_abstraction_pattern r) ps)
  pattern_of_alike vars (alike_left_apply f a) ps = option_alike (Maybe (AlikePattern Q)) _ _ _ _ (pattern_of_alike vars a alike_no_patterns) neither (λ p q r. pattern_of_alike vars f (alike_more_patterns r ps))

  left_head_alike : {l m : PlainLeft} → AlikeLeft Q l m → Maybe Q (left_head l) (left_head m)
  left_head_alike (alike_left_symbol q) = both q
  left_head_alike (alike_left_apply f a) = left_head_alike f
  left_head_alike l = neither

  left_patterns_alike : (vars : ℕ) {l m : PlainLeft} {ps qs : Patterns} → AlikeLeft Q l m → AlikePatterns Q ps qs → Maybe (AlikePatterns Q) (left_patterns vars l ps) (left_patterns vars m qs)
  left_patterns_alike vars (alike_left_apply f a) ps = option_alike (Maybe (AlikePatterns Q)) _ _ _ _ (pattern_of_alike vars a alike_no_patterns) neither (λ p q r. left_patterns_alike vars f (alike_more_patterns r ps))
  left_patterns_alike vars (alike_left_symbol q) ps = both ps
  left_patterns_alike vars alike_left_rule_variable ps = both ps
  left_patterns_alike vars alike_left_variable ps = both ps
  left_patterns_alike vars alike_left_wildcard ps = both ps
  left_patterns_alike vars (alike_left_guard t) ps = both ps
  left_patterns_alike vars (alike_left_abstraction l) ps = both ps

  mutual
    variables_alike : {p q : Pattern} → AlikePattern Q p q → pattern_variables p ≡ pattern_variables q
    variables_alike alike_rule_variable_pattern = refl
    variables_alike alike_wildcard_pattern = refl
    variables_alike (alike_guard_pattern t) = refl
    variables_alike (alike_symbol_pattern q ps) = all_variables_alike ps
    variables_alike (alike_variable_pattern ps) = all_variables_alike ps
    variables_alike (alike_abstraction_pattern p) = variables_alike p

    all_variables_alike : {ps qs : Patterns} → AlikePatterns Q ps qs → patterns_variables ps ≡ patterns_variables qs
    all_variables_alike alike_no_patterns = refl
    all_variables_alike (alike_more_patterns p ps) = λ i. variables_alike p i ++ all_variables_alike ps i

  covers_alike : (xs : List ℕ) {t u : Tree} → Alike Q t u → covers xs t ≡ covers xs u
  covers_alike xs (alike_apply p q) = λ i. covers_alike xs p i && covers_alike xs q i
  covers_alike xs (alike_bare p) = covers_alike xs p
  covers_alike xs (alike_annotated p q) = λ i. covers_alike xs p i && covers_alike xs q i
  covers_alike xs (alike_product p q) = λ i. covers_alike xs p i && covers_alike xs q i
  covers_alike xs p = refl

  mutual
    covers_guards_alike : (xs : List ℕ) {p q : Pattern} → AlikePattern Q p q → covers_guards xs p ≡ covers_guards xs q
    covers_guards_alike xs alike_rule_variable_pattern = refl
    covers_guards_alike xs alike_wildcard_pattern = refl
    covers_guards_alike xs (alike_guard_pattern t) = covers_alike xs t
    covers_guards_alike xs (alike_symbol_pattern q ps) = covers_all_guards_alike xs ps
    covers_guards_alike xs (alike_variable_pattern ps) = covers_all_guards_alike xs ps
    covers_guards_alike xs (alike_abstraction_pattern p) = covers_guards_alike xs p

    covers_all_guards_alike : (xs : List ℕ) {ps qs : Patterns} → AlikePatterns Q ps qs → covers_all_guards xs ps ≡ covers_all_guards xs qs
    covers_all_guards_alike xs alike_no_patterns = refl
    covers_all_guards_alike xs (alike_more_patterns p ps) = λ i. covers_guards_alike xs p i && covers_all_guards_alike xs ps i

  covers_notes_alike : (xs : List ℕ) {ns ms : List (Option Tree)} → Each (Maybe (Alike Q)) ns ms → covers_notes xs ns ≡ covers_notes xs ms
  covers_notes_alike xs none_left = refl
  covers_notes_alike xs (one_more neither e) = covers_notes_alike xs e
  covers_notes_alike xs (one_more (both p) e) = λ i. covers_alike xs p i && covers_notes_alike xs e i

  covered_alike : {r s : PlainScopedRule} {ps qs : Patterns} → AlikeScopedRule Q r s → AlikePatterns Q ps qs → is_covered r ps ≡ is_covered s qs
  covered_alike {ps = ps'} {qs = qs} (alike_scoped_rule {ns} {t} n l p) ps = (λ i. covers (all_variables_alike ps i) t && (covers_all_guards (all_variables_alike ps i) ps' && covers_notes (all_variables_alike ps i) ns))
      ∙ (λ i. covers_alike (patterns_variables qs) p i && (covers_all_guards_alike (patterns_variables qs) ps i && covers_notes_alike (patterns_variables qs) n i))

  shape_with_alike : {r s : PlainScopedRule} {o o' : Option ℕ} {x y : Option Patterns} → AlikeScopedRule Q r s → Maybe Q o o' → Maybe (AlikePatterns Q) x y → InResult (AlikeRule Q) (shape_with r o x) (shape_with s o' y)
  shape_with_alike r neither x = both_err
  shape_with_alike r (both q) neither = both_err
  shape_with_alike r (both q) (both ps) = if_alike (InResult (AlikeRule Q)) _ _ _ _ _ _ (covered_alike r ps) (both_ok (made r q ps)) both_err
    where
      made : {r s : PlainScopedRule} {j k : ℕ} {ps qs : Patterns} → AlikeScopedRule Q r s → Q j k → AlikePatterns Q ps qs → AlikeRule Q (rule_with r j ps) (rule_with s k qs)
      made (alike_scoped_rule n l p) q ps = alike_rule q (list_alike ps) n p

  shape_alike : {r s : PlainScopedRule} → AlikeScopedRule Q r s → InResult (AlikeRule Q) (shape_of r) (shape_of s)
  shape_alike (alike_scoped_rule {vars} n l p) = shape_with_alike (alike_scoped_rule n l p) (left_head_alike l) (left_patterns_alike vars l alike_no_patterns)

  both_shapes_alike : {x y : Result PlainRule Code} {xs ys : Result (List PlainRule) Code} → InResult (AlikeRule Q) x y → InResult (Each (AlikeRule Q)) xs ys → InResult (Each (AlikeRule Q)) (both_shapes x xs) (both_shapes y ys)
  both_shapes_alike both_err e = both_err
  both_shapes_alike (both_ok r) both_err = both_err
  both_shapes_alike (both_ok r) (both_ok e) = both_ok (one_more r e)

  -- ---- what an accepted command adds

  mutual
    erased_pattern_alike : {p q : Pattern} → AlikePattern Q p q → AlikePattern Q (erased_pattern p) (erased_pattern q)
    erased_pattern_alike alike_rule_variable_pattern = alike_rule_variable_pattern
    erased_pattern_alike alike_wildcard_pattern = alike_wildcard_pattern
    erased_pattern_alike (alike_guard_pattern t) = alike_guard_pattern (erased_alike t)
    erased_pattern_alike (alike_symbol_pattern q ps) = alike_symbol_pattern q (erased_patterns_alike ps)
    erased_pattern_alike (alike_variable_pattern ps) = alike_variable_pattern (erased_patterns_alike ps)
    erased_pattern_alike (alike_abstraction_pattern p) = alike_abstraction_pattern (erased_pattern_alike p)

    erased_patterns_alike : {ps qs : Patterns} → AlikePatterns Q ps qs → AlikePatterns Q (erased_patterns ps) (erased_patterns qs)
    erased_patterns_alike alike_no_patterns = alike_no_patterns
    erased_patterns_alike (alike_more_patterns p ps) = alike_more_patterns (erased_pattern_alike p) (erased_patterns_alike ps)

  erased_rule_alike : (r s : PlainRule) → AlikeRule Q r s → AlikeRule Q (erased_rule r) (erased_rule s)
  erased_rule_alike r s (alike_rule q ps n t) = alike_rule q (each_map erased_pattern erased_pattern (λ a b p. erased_pattern_alike p) ps) n (erased_alike t)

  kept_rules_alike : {x y : Result (List PlainRule) Code} → InResult (Each (AlikeRule Q)) x y → Each (AlikeRule Q) (kept_rules x) (kept_rules y)
  kept_rules_alike (both_ok e) = each_map erased_rule erased_rule erased_rule_alike e
  kept_rules_alike both_err = none_left

  entry_type_alike : {A A' T T' : Option Tree} → Maybe (Alike Q) A A' → Maybe (Alike Q) T T' → Alike Q (entry_type_of A T) (entry_type_of A' T')
  entry_type_alike (both a) t = erased_alike a
  entry_type_alike neither (both t) = t
  entry_type_alike neither neither = alike_kind

  kept_body_alike : (s : SymSort) {b c : Option Tree} → Maybe (Alike Q) b c → Maybe (Alike Q) (kept_body s b) (kept_body s c)
  kept_body_alike Definable neither = neither
  kept_body_alike Definable (both p) = both (erased_alike p)
  kept_body_alike Static b = neither
  kept_body_alike Theorem b = neither

or_no_alike : {Q : ℕ → ℕ → Type 0} {x y : Judged PlainFound} → InJudged (AlikeFinding Q) x y → InJudged (AlikeFinding Q) (or_no x) (or_no y)
or_no_alike (both_answer r) = both_answer r
or_no_alike both_refused = both_answer alike_no
or_no_alike both_ended = both_ended

-- only the code or the end can tell two checks apart
pub same_verdict : {A B : Type 0} {R : A → B → Type 0} {x : Judged A} {y : Judged B} → InJudged R x y → verdict x ≡ verdict y
same_verdict (both_answer r) = refl
same_verdict both_refused = refl
same_verdict both_ended = refl

pub same_check : {x y : Judged (Unit {0})} → Passes x y → x ≡ y
same_check (both_answer {n} r) = ap (λ u. answer u n) r
same_check both_refused = refl
same_check both_ended = refl

module _ {Q : ℕ → ℕ → Type 0} {S S' : PlainSignature} (similar : AreSimilar Q S S') where
  defined_alike : {x y : Result PlainRule Code} → InResult (AlikeRule Q) x y → InResult (AlikeRule Q) (defined_shape S x) (defined_shape S' y)
  defined_alike both_err = both_err
  defined_alike (both_ok r) = if_alike (InResult (AlikeRule Q)) _ _ _ _ _ _ (definable r) (both_ok r) both_err
    where
      definable : {r s : PlainRule} → AlikeRule Q r s → is_definable S r.head ≡ is_definable S' s.head
      definable (alike_rule {j} {k} q ps n t) = similar.definable j k q

  pub shapes_alike : {rs qs : List PlainScopedRule} → Each (AlikeScopedRule Q) rs qs → InResult (Each (AlikeRule Q)) (shapes_of S rs) (shapes_of S' qs)
  shapes_alike none_left = both_ok none_left
  shapes_alike (one_more r e) = both_shapes_alike (defined_alike (shape_alike r)) (shapes_alike e)

  body_checked_alike : (n : ℕ) {A A' : Tree} {b c : Option Tree} → Alike Q A A' → Maybe (Alike Q) b c → Passes (body_checked S A b n) (body_checked S' A' c n)
  body_checked_alike n a neither = both_answer refl
  body_checked_alike n a (both p) = checked_alike similar none_left n none_left p (erased_alike a)

  body_type_alike : (n : ℕ) {b c : Tree} → Alike Q b c → InJudged (Alike Q) (body_type S b n) (body_type S' c n)
  body_type_alike n p = next_alike (inferred_alike similar none_left n none_left p) (λ t u m r. not_kind_alike m r)

  rules_checked_alike : (n : ℕ) {x y : Result (List PlainRule) Code} → InResult (Each (AlikeRule Q)) x y → Passes (rules_checked S x n) (rules_checked S' y n)
  rules_checked_alike n (both_ok e) = rules_typed_alike similar n e
  rules_checked_alike n both_err = both_refused

  declaration_alike : (n : ℕ) {A A' b b' : Option Tree} → Maybe (Alike Q) A A' → Maybe (Alike Q) b b' → Passes (declaration_checked S A b n) (declaration_checked S' A' b' n)
  declaration_alike n (both a) b = next_alike (sort_of_alike similar none_left n none_left a) (λ s t m r. body_checked_alike m a b)
  declaration_alike n neither (both b) = next_alike (body_type_alike n b) (λ s t m r. both_answer refl)
  declaration_alike n neither neither = both_answer refl

  -- ---- queries

  compared_alike : (n : ℕ) {t u v w : Tree} → Alike Q t u → Alike Q v w → Passes (compared S t v n) (compared S' u w n)
  compared_alike n p q = next_alike (inferred_alike similar none_left n none_left p) (λ T U m r. next_alike (inferred_alike similar none_left m none_left q) (λ F G i s.
      as_convertible_alike similar E21 i (erased_alike p) (erased_alike q)))

  evaluated_alike : (n : ℕ) {t u : Tree} → Alike Q t u → InJudged (Alike Q) (evaluated S t n) (evaluated S' u n)
  evaluated_alike n p = next_alike (inferred_alike similar none_left n none_left p) (λ T U m r. after_alike (normal_alike similar m (erased_alike p)) (λ v w i s. both_answer s))

  asked_alike : (n : ℕ) {a b : PlainAsked} → AlikeAsked Q a b → InJudged (AlikeFinding Q) (asked_found S a n) (asked_found S' b n)
  asked_alike n (alike_typed t a) = next_alike (declaration_alike n (both a) (both t)) (λ u v m r. both_answer alike_yes)
  asked_alike n (alike_alike t u) = next_alike (compared_alike n t u) (λ u v m r. both_answer alike_yes)
  asked_alike n (alike_type_of t) = next_alike (inferred_alike similar none_left n none_left t) (λ T U m r. both_answer (alike_of_type r))
  asked_alike n (alike_value_of t) = next_alike (evaluated_alike n t) (λ v w m r. both_answer (alike_value r))

  pub query_alike : (demand : Bool) (n : ℕ) {a b : PlainAsked} → AlikeAsked Q a b → InJudged (AlikeFinding Q) (query_found S demand a n) (query_found S' demand b n)
  query_alike true n a = asked_alike n a
  query_alike false n (alike_typed t a) = or_no_alike (asked_alike n (alike_typed t a))
  query_alike false n (alike_alike t u) = or_no_alike (asked_alike n (alike_alike t u))
  query_alike false n (alike_type_of t) = asked_alike n (alike_type_of t)
  query_alike false n (alike_value_of t) = asked_alike n (alike_value_of t)

  pub command_alike : (n : ℕ) {c d : PlainCommand} → AlikeCommand Q c d → Passes (command_checked S c n) (command_checked S' d n)
  command_alike n (alike_declare a b) = declaration_alike n a b
  command_alike n (alike_rule_command rs) = rules_checked_alike n (shapes_alike rs)
  command_alike n (alike_query {demand} a) = next_alike (query_alike demand n a) (λ f g m r. both_answer refl)

  found_alike : {x y : Judged PlainFound} → InJudged (AlikeFinding Q) x y → Maybe (AlikeFinding Q) (answer_of x) (answer_of y)
  found_alike (both_answer r) = both r
  found_alike both_refused = neither
  found_alike both_ended = neither

  pub found_of_alike : (n : ℕ) {c d : PlainCommand} → AlikeCommand Q c d → Maybe (AlikeFinding Q) (found_of S c n) (found_of S' d n)
  found_of_alike n (alike_declare a b) = neither
  found_of_alike n (alike_rule_command rs) = neither
  found_of_alike n (alike_query {demand} a) = found_alike (query_alike demand n a)

  answer_alike : {x y : Judged Tree} → InJudged (Alike Q) x y → Maybe (Alike Q) (answer_of x) (answer_of y)
  answer_alike (both_answer r) = both r
  answer_alike both_refused = neither
  answer_alike both_ended = neither

  pub inferred_type_alike : (n : ℕ) {c d : PlainCommand} → AlikeCommand Q c d → Maybe (Alike Q) (inferred_type S c n) (inferred_type S' d n)
  inferred_type_alike n (alike_declare (both a) b) = neither
  inferred_type_alike n (alike_declare neither (both b)) = answer_alike (body_type_alike n b)
  inferred_type_alike n (alike_declare neither neither) = neither
  inferred_type_alike n (alike_rule_command rs) = neither
  inferred_type_alike n (alike_query a) = neither

  pub entry_alike : {c d : PlainCommand} {T U : Option Tree} → AlikeCommand Q c d → Maybe (Alike Q) T U → AlikeEntry Q (entry_of S c T) (entry_of S' d U)
  entry_alike (alike_declare {s} a b) t = alike_symbol_entry (entry_type_alike a t) (kept_body_alike s b)
  entry_alike (alike_rule_command rs) t = alike_rules_entry (kept_rules_alike (shapes_alike rs))
  entry_alike (alike_query a) t = alike_rules_entry none_left
