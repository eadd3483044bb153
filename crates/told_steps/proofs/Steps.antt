-- Steps of parts as steps of the whole, and steps one behind the other.
use Rattle.std.proofs.Common.{List, [], ◌∷◌, ◌++◌, ℕ, suc, ◌≡◌, ◌+◌, Option, Some, None, refl, ap, ◌∙◌, sym as flip, subst as along, arith}
use Rattle.dk_model.specs.Trees.{Tree, tree, apply, bare, annotated, product}
use Rattle.dk_model.specs.Signatures.{PlainSignature}
use Rattle.checked_steps.specs.Matching.{nodes, within, at_place}
use Rattle.checked_steps.specs.Items.{ItemStep, beta_step, rule_step, ItemSteps, no_steps, more_steps}
use Rattle.checked_steps.specs.Taken.{contracted, and_then, both_same, fired, step_taken, steps_taken, all_joined}
use Rattle.checked_steps.proofs.Complete.{first_taken, second_taken, equal_itself}
use Rattle.certificate_items.specs.declared.item.Step.{Step}
use Rattle.certificate_items.specs.declared.item.Step.TheVariants.{Rule}
use Rattle.certificate_items.specs.declared.item.Join.{Join}
use Rattle.certificate_items.specs.Views.{plain_step, plain_steps, plain_joins}
use Rattle.certificate_items.proofs.Rows.{rule_is}
use Rattle.told_steps.specs.Told.{Leads, Meet}
use Rattle.told_steps.specs.Moved.{moved_step, moved, followed_by}
use Rattle.told_steps.specs.Parts.{LeadsOn, LeadsAround, LeadsTogether}
use Rattle.told_steps.specs.Meetings.{MeetAround, MeetTogether, MeetBehind, MeetBy}
use Rattle.told_steps.specs.declared.told.Told.{Told}
use Rattle.told_steps.specs.declared.meeting.Meeting.{Meeting}

-- ---- steps of code

-- a rule's step further on
pub rule_moved : (place further number n : ℕ) (js : List Join) → further ≡ place + n → plain_step (Rule further number js) ≡ moved_step n (plain_step (Rule place number js))
rule_moved place further number n js e = rule_is further number js ∙ ap (λ p. rule_step p number (plain_joins js)) e ∙ flip (ap (moved_step n) (rule_is place number js))

pub steps_append : (xs ys : List Step) → plain_steps (xs ++ ys) ≡ followed_by (plain_steps xs) (plain_steps ys)
steps_append [] ys = refl
steps_append (x ∷ xs) ys = ap (more_steps (plain_step x)) (steps_append xs ys)

-- one more step of a list
pub steps_pushed : (xs : List Step) (x : Step) → plain_steps (xs ++ (x ∷ [])) ≡ followed_by (plain_steps xs) (more_steps (plain_step x) no_steps)
steps_pushed xs x = steps_append xs (x ∷ [])

pub moved_pushed : (n : ℕ) (xs : ItemSteps) (x : ItemStep) → moved n (followed_by xs (more_steps x no_steps)) ≡ followed_by (moved n xs) (more_steps (moved_step n x) no_steps)
moved_pushed n no_steps x = refl
moved_pushed n (more_steps y xs) x = ap (more_steps (moved_step n y)) (moved_pushed n xs x)

-- ---- a part of a term

-- what acts at a place of a part acts so many places further on in the whole
abbrev pub Carries : ℕ → (Tree → Tree) → Type 0
Carries n c = (F : Tree → Option Tree) (p : ℕ) (t u : Tree) → at_place F p t ≡ Some u → at_place F (p + n) (c t) ≡ Some (c u)

module _ (S : PlainSignature) where
  carried : (F : Tree → Option Tree) (p q : ℕ) (t u : Tree) → p ≡ q → at_place F p t ≡ Some u → at_place F q t ≡ Some u
  carried F p q t u e h = along (λ n. at_place F n t ≡ Some u) e h

  pub in_function : (a : Tree) → Carries 1 (λ f. apply f a)
  in_function a F p f g h = carried F (suc p) (p + 1) (apply f a) (apply g a) (omega arith) (first_taken S F (λ y. apply y a) (apply f) p f a g h)

  pub in_argument : (f : Tree) → Carries (1 + nodes f) (apply f)
  in_argument f F p a b h = carried F (suc (p + nodes f)) (p + (1 + nodes f)) (apply f a) (apply f b) (omega arith) (second_taken S F (λ y. apply y a) (apply f) p f a b h)

  pub in_body : Carries 1 bare
  in_body F p b c h = carried F (suc p) (p + 1) (bare b) (bare c) (omega arith) (ap (within bare) h)

  pub in_annotation : (b : Tree) → Carries 1 (λ n. annotated n b)
  in_annotation b F p n m h = carried F (suc p) (p + 1) (annotated n b) (annotated m b) (omega arith) (first_taken S F (λ y. annotated y b) (annotated n) p n b m h)

  pub in_annotated_body : (n : Tree) → Carries (1 + nodes n) (annotated n)
  in_annotated_body n F p b c h = carried F (suc (p + nodes n)) (p + (1 + nodes n)) (annotated n b) (annotated n c) (omega arith) (second_taken S F (λ y. annotated y b) (annotated n) p n b c h)

  pub in_domain : (b : Tree) → Carries 1 (λ a. product a b)
  in_domain b F p a c h = carried F (suc p) (p + 1) (product a b) (product c b) (omega arith) (first_taken S F (λ y. product y b) (product a) p a b c h)

  pub in_codomain : (a : Tree) → Carries (1 + nodes a) (product a)
  in_codomain a F p b c h = carried F (suc (p + nodes a)) (p + (1 + nodes a)) (product a b) (product a c) (omega arith) (second_taken S F (λ y. product y b) (product a) p a b c h)

  -- ---- steps

  from_then : (P : Type 0) (o : Option Tree) (xs : ItemSteps) (u : Tree) → and_then o (steps_taken S xs) ≡ Some u → ((w : Tree) → o ≡ Some w → steps_taken S xs w ≡ Some u → P) → P
  from_then P None xs u e k = cc
  from_then P (Some w) xs u e k = k w refl e

  pub step_moved : (n : ℕ) (c : Tree → Tree) → Carries n c → (x : ItemStep) (t u : Tree) → step_taken S x t ≡ Some u → step_taken S (moved_step n x) (c t) ≡ Some (c u)
  step_moved n c h (beta_step p) t u e = h contracted p t u e
  step_moved n c h (rule_step p number js) t u e = h (fired S number (all_joined S js)) p t u e

  -- steps in a part lead the whole
  pub steps_moved : (n : ℕ) (c : Tree → Tree) → Carries n c → (xs : ItemSteps) (t u : Tree) → Leads S t xs u → Leads S (c t) (moved n xs) (c u)
  steps_moved n c h no_steps t u e = let q : t ≡ u = cc in ap (λ x. Some (c x)) q
  steps_moved n c h (more_steps x xs) t u e = from_then (Leads S (c t) (moved n (more_steps x xs)) (c u)) (step_taken S x t) xs u e (λ w d g.
      ap (λ o. and_then o (steps_taken S (moved n xs))) (step_moved n c h x t w d) ∙ steps_moved n c h xs w u g)

  -- steps one behind the other
  pub steps_followed : (xs ys : ItemSteps) (t u v : Tree) → Leads S t xs u → Leads S u ys v → Leads S t (followed_by xs ys) v
  steps_followed no_steps ys t u v e d = let q : t ≡ u = cc in along (λ x. Leads S x ys v) (flip q) d
  steps_followed (more_steps x xs) ys t u v e d = from_then (Leads S t (followed_by (more_steps x xs) ys) v) (step_taken S x t) xs u e (λ w g h.
      ap (λ o. and_then o (steps_taken S (followed_by xs ys))) g ∙ steps_followed xs ys w u v h d)

  -- steps in the first part, and then in the second one
  pub parts_lead : (node : Tree → Tree → Tree) → ((u : Tree) → Carries 1 (λ t. node t u)) → ((t : Tree) → Carries (1 + nodes t) (node t))
      → (xs ys : ItemSteps) (t f u a : Tree) → Leads S t xs f → Leads S u ys a → Leads S (node t u) (followed_by (moved 1 xs) (moved (1 + nodes f) ys)) (node f a)
  parts_lead node h k xs ys t f u a d e = steps_followed (moved 1 xs) (moved (1 + nodes f) ys) (node t u) (node f u) (node f a)
      (steps_moved 1 (λ x. node x u) (h u) xs t f d) (steps_moved (1 + nodes f) (node f) (k f) ys u a e)

  -- the same with the steps and the form by other names
  pub leads_by : (xs ys : ItemSteps) (t u v : Tree) → ys ≡ xs → v ≡ u → Leads S t xs u → Leads S t ys v
  leads_by xs ys t u v e d h = ap (λ zs. steps_taken S zs t) e ∙ h ∙ ap Some (flip d)

  pub meet_in : (xs ys : ItemSteps) (t u v : Tree) → Leads S t xs v → Leads S u ys v → Meet S t xs u ys
  meet_in xs ys t u v d e = ap (λ o. both_same o (steps_taken S ys u)) d ∙ ap (both_same (Some v)) e ∙ equal_itself v

-- ---- what is told

pub leads_on : (first second told : Told) → plain_steps told.steps ≡ followed_by (plain_steps first.steps) (plain_steps second.steps) → tree told.form ≡ tree second.form → LeadsOn first second told
leads_on first second told e d = λ S t a b. leads_by S (followed_by (plain_steps first.steps) (plain_steps second.steps)) (plain_steps told.steps) t (tree second.form) (tree told.form) e d
    (steps_followed S (plain_steps first.steps) (plain_steps second.steps) t (tree first.form) (tree second.form) a b)

-- the steps of two parts as those of the whole
abbrev pub AreTogether : Told → Told → Told → Type 0
AreTogether first second told = plain_steps told.steps ≡ followed_by (moved 1 (plain_steps first.steps)) (moved (1 + nodes (tree first.form)) (plain_steps second.steps))

together : (node : Tree → Tree → Tree) → ((u : Tree) → Carries 1 (λ t. node t u)) → ((t : Tree) → Carries (1 + nodes t) (node t))
    → (first second told : Told) → AreTogether first second told → tree told.form ≡ node (tree first.form) (tree second.form) → LeadsTogether node first second told
together node h k first second told e d = λ S t u a b.
    leads_by S (followed_by (moved 1 (plain_steps first.steps)) (moved (1 + nodes (tree first.form)) (plain_steps second.steps))) (plain_steps told.steps) (node t u) (node (tree first.form) (tree second.form)) (tree told.form) e d
    (parts_lead S node h k (plain_steps first.steps) (plain_steps second.steps) t (tree first.form) u (tree second.form) a b)

pub application_leads : (first second told : Told) → AreTogether first second told → tree told.form ≡ apply (tree first.form) (tree second.form) → LeadsTogether apply first second told
application_leads first second told e d = λ S. together apply (in_function S) (in_argument S) first second told e d S

pub annotated_leads : (first second told : Told) → AreTogether first second told → tree told.form ≡ annotated (tree first.form) (tree second.form) → LeadsTogether annotated first second told
annotated_leads first second told e d = λ S. together annotated (in_annotation S) (in_annotated_body S) first second told e d S

pub product_leads : (first second told : Told) → AreTogether first second told → tree told.form ≡ product (tree first.form) (tree second.form) → LeadsTogether product first second told
product_leads first second told e d = λ S. together product (in_domain S) (in_codomain S) first second told e d S

pub body_leads : (body told : Told) → plain_steps told.steps ≡ moved 1 (plain_steps body.steps) → tree told.form ≡ bare (tree body.form) → LeadsAround bare body told
body_leads body told e d = λ S t a. leads_by S (moved 1 (plain_steps body.steps)) (plain_steps told.steps) (bare t) (bare (tree body.form)) (tree told.form) e d
    (steps_moved S 1 bare (in_body S) (plain_steps body.steps) t (tree body.form) a)

-- ---- what meets

pub met_by : (met : Meeting) (join : Join) → plain_steps join.first ≡ plain_steps met.first → plain_steps join.second ≡ plain_steps met.second → MeetBy met join
met_by met join d e = λ S t u a. meet_in S (plain_steps join.first) (plain_steps join.second) t u (tree met.form)
    (leads_by S (plain_steps met.first) (plain_steps join.first) t (tree met.form) (tree met.form) d refl a.0)
    (leads_by S (plain_steps met.second) (plain_steps join.second) u (tree met.form) (tree met.form) e refl a.1)

pub meet_behind : (first second : Told) (behind met : Meeting) → plain_steps met.first ≡ followed_by (plain_steps first.steps) (plain_steps behind.first)
    → plain_steps met.second ≡ followed_by (plain_steps second.steps) (plain_steps behind.second) → tree met.form ≡ tree behind.form → MeetBehind first second behind met
meet_behind first second behind met d e f = λ S t u a b c. (
  leads_by S (followed_by (plain_steps first.steps) (plain_steps behind.first)) (plain_steps met.first) t (tree behind.form) (tree met.form) d f
      (steps_followed S (plain_steps first.steps) (plain_steps behind.first) t (tree first.form) (tree behind.form) a c.0),
  leads_by S (followed_by (plain_steps second.steps) (plain_steps behind.second)) (plain_steps met.second) u (tree behind.form) (tree met.form) e f
      (steps_followed S (plain_steps second.steps) (plain_steps behind.second) u (tree second.form) (tree behind.form) b c.1),
)

-- the steps of one side of two parts that meet
abbrev pub AreBoth : Tree → ItemSteps → ItemSteps → ItemSteps → Type 0
AreBoth form xs ys zs = zs ≡ followed_by (moved 1 xs) (moved (1 + nodes form) ys)

both_meet : (node : Tree → Tree → Tree) → ((u : Tree) → Carries 1 (λ t. node t u)) → ((t : Tree) → Carries (1 + nodes t) (node t))
    → (first second met : Meeting) → AreBoth (tree first.form) (plain_steps first.first) (plain_steps second.first) (plain_steps met.first)
    → AreBoth (tree first.form) (plain_steps first.second) (plain_steps second.second) (plain_steps met.second) → tree met.form ≡ node (tree first.form) (tree second.form) → MeetTogether node first second met
both_meet node h k first second met d e f = λ S t u v w a b. (
  leads_by S (followed_by (moved 1 (plain_steps first.first)) (moved (1 + nodes (tree first.form)) (plain_steps second.first))) (plain_steps met.first) (node t v) (node (tree first.form) (tree second.form)) (tree met.form) d f
      (parts_lead S node h k (plain_steps first.first) (plain_steps second.first) t (tree first.form) v (tree second.form) a.0 b.0),
  leads_by S (followed_by (moved 1 (plain_steps first.second)) (moved (1 + nodes (tree first.form)) (plain_steps second.second))) (plain_steps met.second) (node u w) (node (tree first.form) (tree second.form)) (tree met.form) e f
      (parts_lead S node h k (plain_steps first.second) (plain_steps second.second) u (tree first.form) w (tree second.form) a.1 b.1),
)

pub applications_meet : (first second met : Meeting) → AreBoth (tree first.form) (plain_steps first.first) (plain_steps second.first) (plain_steps met.first)
    → AreBoth (tree first.form) (plain_steps first.second) (plain_steps second.second) (plain_steps met.second) → tree met.form ≡ apply (tree first.form) (tree second.form) → MeetTogether apply first second met
applications_meet first second met d e f = λ S. both_meet apply (in_function S) (in_argument S) first second met d e f S

pub products_meet : (first second met : Meeting) → AreBoth (tree first.form) (plain_steps first.first) (plain_steps second.first) (plain_steps met.first)
    → AreBoth (tree first.form) (plain_steps first.second) (plain_steps second.second) (plain_steps met.second) → tree met.form ≡ product (tree first.form) (tree second.form) → MeetTogether product first second met
products_meet first second met d e f = λ S. both_meet product (in_domain S) (in_codomain S) first second met d e f S

pub bodies_meet : (body met : Meeting) → plain_steps met.first ≡ moved 1 (plain_steps body.first) → plain_steps met.second ≡ moved 1 (plain_steps body.second) → tree met.form ≡ bare (tree body.form) → MeetAround bare body met
bodies_meet body met d e f = λ S t u a. (
  leads_by S (moved 1 (plain_steps body.first)) (plain_steps met.first) (bare t) (bare (tree body.form)) (tree met.form) d f (steps_moved S 1 bare (in_body S) (plain_steps body.first) t (tree body.form) a.0),
  leads_by S (moved 1 (plain_steps body.second)) (plain_steps met.second) (bare u) (bare (tree body.form)) (tree met.form) e f (steps_moved S 1 bare (in_body S) (plain_steps body.second) u (tree body.form) a.1),
)
