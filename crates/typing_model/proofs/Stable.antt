-- Reduction is stable under bindings: where t reduces to u, t under settled bindings reduces to u under them, by steps that
-- may also replace what is bound.
use Rattle.std.specs.Prelude.{map, eqb, if◌then◌else◌, Bool, true, false}
use Rattle.std.proofs.Common.{List, [], ◌∷◌, ◌++◌, ℕ, suc, ◌+◌, ◌≡◌, ◌≤◌, Option, Some, None, refl, ap, ◌∙◌, sym as flip, subst as along, arith}
use Rattle.dk_model.specs.Trees.{Tree, star, kind, symbol, variable, rule_variable, apply, bare, annotated, product}
use Rattle.dk_model.specs.Substitution.{shift, substitute}
use Rattle.dk_model.specs.Signatures.{Pattern, Patterns, pattern_list, rule_variable_pattern, symbol_pattern, variable_pattern, PlainRule, PlainSignature}
use Rattle.dk_model.specs.Spines.{applied}
use Rattle.dk_model.specs.Captures.{capture_at, mentions_others, captured}
use Rattle.typing_model.specs.Steps.{Part, variable_part, guard_part, IsInstance, at_wildcard, at_guard, at_rule_variable, at_symbol, at_variable, at_abstraction, AreInstances, no_arguments, one_argument, capture, captured_at, instantiated, later_occurrence, condition_of, conditions_behind, conditions, StepBy, beta, by_rule, by_binding, in_function, in_argument, in_abstraction, in_annotation, in_annotated_body, in_domain, in_codomain, StepsBy, no_step, one_step, AreMetBy, no_condition, one_condition, ReducesTo, ReducesBy, AreJoinable, AreJoinableBy}
use Rattle.typing_model.specs.PlainSteps.{Step, Steps, AreMet}
use Rattle.dk_model.specs.Bindings.{Bindings, bound_or, under, under_option}
use Rattle.dk_model.proofs.Unders.{Settled, IsSettled, under_shift, under_substitute, under_mentions, under_captured, under_applied}
use Rattle.typing_model.proofs.Reduction.{steps_then, steps_raised, steps_under, joins}

abbrev pub part_under : Bindings → Part → Part
part_under s (variable_part k t) = variable_part k (under s t)
part_under s (guard_part depth g t) = guard_part depth g (under s t)

module _ (S : PlainSignature) (s : Bindings) (d : Settled s) where
  -- steps at every height
  abbrev pub Replaces : Tree → Tree → Type 0
  Replaces t u = (h : ℕ) → StepsBy S s h t u

  same_replaces : (t u : Tree) → t ≡ u → Replaces t u
  same_replaces t u e h = along (StepsBy S s h t) e no_step

  in_application : (f g a b : Tree) → Replaces f g → Replaces a b → Replaces (apply f a) (apply g b)
  in_application f g a b r q h = steps_then S s (steps_under S s (λ t. apply t a) (λ x y i. in_function i) (r h)) (steps_under S s (λ t. apply g t) (λ x y i. in_argument i) (q h))

  in_bare : (a b : Tree) → Replaces a b → Replaces (bare a) (bare b)
  in_bare a b r h = steps_under S s bare (λ x y i. in_abstraction i) (r h)

  in_annotated : (f g a b : Tree) → Replaces f g → Replaces a b → Replaces (annotated f a) (annotated g b)
  in_annotated f g a b r q h = steps_then S s (steps_under S s (λ t. annotated t a) (λ x y i. in_annotation i) (r h)) (steps_under S s (λ t. annotated g t) (λ x y i. in_annotated_body i) (q h))

  in_product : (f g a b : Tree) → Replaces f g → Replaces a b → Replaces (product f a) (product g b)
  in_product f g a b r q h = steps_then S s (steps_under S s (λ t. product t a) (λ x y i. in_domain i) (r h)) (steps_under S s (λ t. product g t) (λ x y i. in_codomain i) (q h))

  or_replaces : (k : ℕ) (o : Option Tree) → capture_at s k ≡ o → Replaces (rule_variable k) (bound_or k o)
  or_replaces k None e h = no_step
  or_replaces k (Some u) e h = one_step (by_binding k e) no_step

  -- what a rule's own rule variables capture, where the others stay
  module _ (c b : ℕ → Option Tree) (same : (k : ℕ) → b k ≡ under_option s (c k)) where
    at_captured : (inner k : ℕ) (o p : Option Tree) → p ≡ under_option s o → Replaces (captured_at inner k p) (under s (captured_at inner k o))
    at_captured inner k None p e = along (λ q. Replaces (captured_at inner k q) (bound_or k (capture_at s k))) (flip e) (or_replaces k (capture_at s k) refl)
    at_captured inner k (Some t) p e = along (λ q. Replaces (captured_at inner k q) (under s (shift 0 inner t))) (flip e) (same_replaces (shift 0 inner (under s t)) (under s (shift 0 inner t)) (flip (under_shift s d 0 inner t)))

    pub instantiated_replaces : (inner : ℕ) (t : Tree) → Replaces (instantiated b inner t) (under s (instantiated c inner t))
    instantiated_replaces inner star h = no_step
    instantiated_replaces inner kind h = no_step
    instantiated_replaces inner (symbol k) h = no_step
    instantiated_replaces inner (variable k) h = no_step
    instantiated_replaces inner (rule_variable k) h = at_captured inner k (c k) (b k) (same k) h
    instantiated_replaces inner (apply f a) h = in_application (instantiated b inner f) (under s (instantiated c inner f)) (instantiated b inner a) (under s (instantiated c inner a)) (instantiated_replaces inner f) (instantiated_replaces inner a) h
    instantiated_replaces inner (bare t) h = in_bare (instantiated b (inner + 1) t) (under s (instantiated c (inner + 1) t)) (instantiated_replaces (inner + 1) t) h
    instantiated_replaces inner (annotated n t) h = in_annotated (instantiated b inner n) (under s (instantiated c inner n)) (instantiated b (inner + 1) t) (under s (instantiated c (inner + 1) t)) (instantiated_replaces inner n) (instantiated_replaces (inner + 1) t) h
    instantiated_replaces inner (product n t) h = in_product (instantiated b inner n) (under s (instantiated c inner n)) (instantiated b (inner + 1) t) (under s (instantiated c (inner + 1) t)) (instantiated_replaces inner n) (instantiated_replaces (inner + 1) t) h

  -- a term is replaced by itself under the bindings
  pub replaces : (t : Tree) → Replaces t (under s t)
  replaces star h = no_step
  replaces kind h = no_step
  replaces (symbol k) h = no_step
  replaces (variable k) h = no_step
  replaces (rule_variable k) h = or_replaces k (capture_at s k) refl h
  replaces (apply f a) h = in_application f (under s f) a (under s a) (replaces f) (replaces a) h
  replaces (bare t) h = in_bare t (under s t) (replaces t) h
  replaces (annotated n t) h = in_annotated n (under s n) t (under s t) (replaces n) (replaces t) h
  replaces (product n t) h = in_product n (under s n) t (under s t) (replaces n) (replaces t) h

  pub reduces_under : (t : Tree) → ReducesBy S s t (under s t)
  reduces_under t = (0, replaces t 0)

  -- ---- instances

  parts_append : (xs ys : List Part) → map (part_under s) (xs ++ ys) ≡ map (part_under s) xs ++ map (part_under s) ys
  parts_append [] ys = refl
  parts_append (x ∷ xs) ys = ap (λ zs. part_under s x ∷ zs) (parts_append xs ys)

  mutual
    instance_under : {depth : ℕ} {p : Pattern} {t : Tree} {parts : List Part} → IsInstance depth p t parts → IsInstance depth p (under s t) (map (part_under s) parts)
    instance_under at_wildcard = at_wildcard
    instance_under at_guard = at_guard
    instance_under (at_rule_variable {depth} {k} {xs} {t} e) = along (λ u. IsInstance depth (rule_variable_pattern k xs) (under s t) (variable_part k u ∷ [])) (flip (under_captured s d depth xs t))
        (at_rule_variable (under_mentions s d 0 depth xs t ∙ e))
    instance_under (at_symbol {depth} {k} {ps} {ts} {parts} i) = along (λ u. IsInstance depth (symbol_pattern k ps) u (map (part_under s) parts)) (flip (under_applied s d (symbol k) ts)) (at_symbol (instances_under i))
    instance_under (at_variable {depth} {k} {ps} {ts} {parts} i) = along (λ u. IsInstance depth (variable_pattern k ps) u (map (part_under s) parts)) (flip (under_applied s d (variable k) ts)) (at_variable (instances_under i))
    instance_under (at_abstraction i) = at_abstraction (instance_under i)

    instances_under : {depth : ℕ} {ps : List Pattern} {ts : List Tree} {parts : List Part} → AreInstances depth ps ts parts → AreInstances depth ps (map (under s) ts) (map (part_under s) parts)
    instances_under no_arguments = no_arguments
    instances_under (one_argument {depth} {p} {ps} {t} {ts} {parts} {rest} i is) = along (AreInstances depth (p ∷ ps) (under s t ∷ map (under s) ts)) (flip (parts_append parts rest))
        (one_argument (instance_under i) (instances_under is))

  chosen_under : (b : Bool) (t : Tree) (o p : Option Tree) → p ≡ under_option s o → (if b then Some (under s t) else p) ≡ under_option s (if b then Some t else o)
  chosen_under true t o p e = refl
  chosen_under false t o p e = e

  capture_under : (parts : List Part) (k : ℕ) → capture (map (part_under s) parts) k ≡ under_option s (capture parts k)
  capture_under [] k = refl
  capture_under (variable_part j t ∷ parts) k = chosen_under (eqb j k) t (capture parts k) (capture (map (part_under s) parts) k) (capture_under parts k)
  capture_under (guard_part depth g t ∷ parts) k = capture_under parts k

  -- ---- conditions

  -- the pairs behind reduce to the pairs before under the bindings
  abbrev AreAhead : List (Tree × Tree) → List (Tree × Tree) → Type 0
  AreAhead [] [] = Unit {0}
  AreAhead [] (q ∷ qs) = ⊥
  AreAhead (p ∷ ps) [] = ⊥
  AreAhead (p ∷ ps) (q ∷ qs) = Replaces q.0 (under s p.0) × Replaces q.1 (under s p.1) × AreAhead ps qs

  ahead_append : (ps qs xs ys : List (Tree × Tree)) → AreAhead ps qs → AreAhead xs ys → AreAhead (ps ++ xs) (qs ++ ys)
  ahead_append [] [] xs ys a b = b
  ahead_append [] (q ∷ qs) xs ys a b = absurd a
  ahead_append (p ∷ ps) [] xs ys a b = absurd a
  ahead_append (p ∷ ps) (q ∷ qs) xs ys a b = (a.0, a.1, ahead_append ps qs xs ys a.2 b)

  module _ (c b : ℕ → Option Tree) (same : (k : ℕ) → b k ≡ under_option s (c k)) where
    shift_captured : (e depth inner k : ℕ) (o p : Option Tree) → p ≡ under_option s o → Replaces (shift e depth (captured_at inner k p)) (under s (shift e depth (captured_at inner k o)))
    shift_captured e depth inner k None p q = along (λ x. Replaces (shift e depth (captured_at inner k x)) (bound_or k (capture_at s k))) (flip q) (or_replaces k (capture_at s k) refl)
    shift_captured e depth inner k (Some t) p q = along (λ x. Replaces (shift e depth (captured_at inner k x)) (under s (shift e depth (shift 0 inner t)))) (flip q)
        (same_replaces (shift e depth (shift 0 inner (under s t))) (under s (shift e depth (shift 0 inner t))) (flip (under_shift s d e depth (shift 0 inner t) ∙ ap (shift e depth) (under_shift s d 0 inner t))))

    shifted_replaces : (e depth inner : ℕ) (t : Tree) → Replaces (shift e depth (instantiated b inner t)) (under s (shift e depth (instantiated c inner t)))
    shifted_replaces e depth inner star h = no_step
    shifted_replaces e depth inner kind h = no_step
    shifted_replaces e depth inner (symbol k) h = no_step
    shifted_replaces e depth inner (variable k) h = no_step
    shifted_replaces e depth inner (rule_variable k) h = shift_captured e depth inner k (c k) (b k) (same k) h
    shifted_replaces e depth inner (apply f a) h = in_application (shift e depth (instantiated b inner f)) (under s (shift e depth (instantiated c inner f))) (shift e depth (instantiated b inner a)) (under s (shift e depth (instantiated c inner a)))
        (shifted_replaces e depth inner f) (shifted_replaces e depth inner a) h
    shifted_replaces e depth inner (bare t) h = in_bare (shift (e + 1) depth (instantiated b (inner + 1) t)) (under s (shift (e + 1) depth (instantiated c (inner + 1) t))) (shifted_replaces (e + 1) depth (inner + 1) t) h
    shifted_replaces e depth inner (annotated n t) h = in_annotated (shift e depth (instantiated b inner n)) (under s (shift e depth (instantiated c inner n))) (shift (e + 1) depth (instantiated b (inner + 1) t)) (under s (shift (e + 1) depth (instantiated c (inner + 1) t)))
        (shifted_replaces e depth inner n) (shifted_replaces (e + 1) depth (inner + 1) t) h
    shifted_replaces e depth inner (product n t) h = in_product (shift e depth (instantiated b inner n)) (under s (shift e depth (instantiated c inner n))) (shift (e + 1) depth (instantiated b (inner + 1) t)) (under s (shift (e + 1) depth (instantiated c (inner + 1) t)))
        (shifted_replaces e depth inner n) (shifted_replaces (e + 1) depth (inner + 1) t) h

    later_ahead : (t : Tree) (o p : Option Tree) → p ≡ under_option s o → AreAhead (later_occurrence o t) (later_occurrence p (under s t))
    later_ahead t None p e = along (λ x. AreAhead [] (later_occurrence x (under s t))) (flip e) tt
    later_ahead t (Some first) p e = along (λ x. AreAhead ((first, t) ∷ []) (later_occurrence x (under s t))) (flip e)
        (same_replaces (under s first) (under s first) refl, same_replaces (under s t) (under s t) refl, tt)

    condition_ahead : (before : List Part) (part : Part) → AreAhead (condition_of c before part) (condition_of b (map (part_under s) before) (part_under s part))
    condition_ahead before (variable_part k t) = later_ahead t (capture before k) (capture (map (part_under s) before) k) (capture_under before k)
    condition_ahead before (guard_part depth g t) = (same_replaces (under s t) (under s t) refl, shifted_replaces 0 depth 0 g, tt)

    conditions_ahead : (before parts : List Part) → AreAhead (conditions_behind c before parts) (conditions_behind b (map (part_under s) before) (map (part_under s) parts))
    conditions_ahead before [] = tt
    conditions_ahead before (part ∷ parts) = ahead_append (condition_of c before part) (condition_of b (map (part_under s) before) (part_under s part)) (conditions_behind c (before ++ (part ∷ [])) parts) _
        (condition_ahead before part)
        (along (λ x. AreAhead (conditions_behind c (before ++ (part ∷ [])) parts) (conditions_behind b x (map (part_under s) parts))) (parts_append before (part ∷ [])) (conditions_ahead (before ++ (part ∷ [])) parts))

  all_ahead : (parts : List Part) → AreAhead (conditions parts) (conditions (map (part_under s) parts))
  all_ahead parts = conditions_ahead (capture parts) (capture (map (part_under s) parts)) (capture_under parts) [] parts

  -- ---- steps

  mutual
    step_stable : {h : ℕ} {t u : Tree} → Step S h t u → StepsBy S s h (under s t) (under s u)
    step_stable (beta {h} {b} {a}) = along (StepsBy S s h (apply (bare (under s b)) (under s a))) (flip (under_substitute s d 0 a b)) (one_step beta no_step)
    step_stable (by_rule {h} k r ts parts c i m) = along (λ x. StepsBy S s h x (under s (instantiated (capture parts) 0 r.right))) (flip (under_applied s d (symbol k) ts))
        (one_step (by_rule k r (map (under s) ts) (map (part_under s) parts) c (instances_under i) (met_stable m (conditions (map (part_under s) parts)) (all_ahead parts)))
        (instantiated_replaces (capture parts) (capture (map (part_under s) parts)) (capture_under parts) 0 r.right h))
    step_stable (by_binding k e) = cc
    step_stable (in_function {h} {f} {g} {a} x) = steps_under S s (λ t. apply t (under s a)) (λ y z i. in_function i) (step_stable x)
    step_stable (in_argument {h} {f} {a} {b} x) = steps_under S s (λ t. apply (under s f) t) (λ y z i. in_argument i) (step_stable x)
    step_stable (in_abstraction x) = steps_under S s bare (λ y z i. in_abstraction i) (step_stable x)
    step_stable (in_annotation {h} {a} {b} {c} x) = steps_under S s (λ t. annotated t (under s c)) (λ y z i. in_annotation i) (step_stable x)
    step_stable (in_annotated_body {h} {a} {b} {c} x) = steps_under S s (λ t. annotated (under s a) t) (λ y z i. in_annotated_body i) (step_stable x)
    step_stable (in_domain {h} {a} {b} {c} x) = steps_under S s (λ t. product t (under s c)) (λ y z i. in_domain i) (step_stable x)
    step_stable (in_codomain {h} {a} {b} {c} x) = steps_under S s (λ t. product (under s a) t) (λ y z i. in_codomain i) (step_stable x)

    steps_stable : {h : ℕ} {t u : Tree} → Steps S h t u → StepsBy S s h (under s t) (under s u)
    steps_stable no_step = no_step
    steps_stable (one_step x rest) = steps_then S s (step_stable x) (steps_stable rest)

    met_stable : {h : ℕ} {cs : List (Tree × Tree)} → AreMet S h cs → (ds : List (Tree × Tree)) → AreAhead cs ds → AreMetBy S s h ds
    met_stable no_condition [] a = no_condition
    met_stable no_condition (q ∷ ds) a = absurd a
    met_stable (one_condition lt x y rest) [] a = absurd a
    met_stable (one_condition {h} {below} {t} {u} {v} {rest} lt x y m) (q ∷ ds) a = one_condition {below = below} lt (steps_then S s (a.0 below) (steps_stable x)) (steps_then S s (a.1 below) (steps_stable y)) (met_stable m ds a.2)

  pub reduces_stable : (t u : Tree) → ReducesTo S t u → ReducesBy S s (under s t) (under s u)
  reduces_stable t u r = (r.0, steps_stable r.1)

  pub joinable_stable : (t u : Tree) → AreJoinable S t u → AreJoinableBy S s (under s t) (under s u)
  joinable_stable t u j = (j.0, (under s j.1.0, steps_stable j.1.1, steps_stable j.1.2))
