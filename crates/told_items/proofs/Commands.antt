-- What typing that writes down its calls answers for a command: its items, its type, and the verdict.
use Rattle.std.proofs.Common.{List, [], append-nil, ℕ, ◌≡◌, Option, Some, None, refl, ap, ◌∙◌, sym as flip, subst as along}
use Rattle.dk_model.specs.PlainTerms.{Tree}
use Rattle.dk_model.specs.PlainEntries.{PlainSignature}
use Rattle.dk_model.specs.PlainCommands.{PlainCommand, declare, rule_command, query}
use Rattle.dk_model.specs.Bindings.{Bindings}
use Rattle.dk_model.specs.Shapes.{shapes_of}
use Rattle.dk_model.specs.ByUnits.{by_units}
use Rattle.dk_model.specs.TypingOver.{Evaluator, JudgedIn, answer, refused, ended, next}
use Rattle.dk_model.specs.CommandTypingOver.{body_type, declaration_checked, rules_checked}
use Rattle.dk_model.specs.Verdicts.{verdict, verdict_of, answer_of, inferred_type}
use Rattle.dk_model.specs.declared.code.Verdict.{Verdict}
use Rattle.dk_model.specs.declared.stop.TypeFault.{TypeFault}
use Rattle.dk_model.specs.declared.stop.TypeFault.TheVariants.{Refused, Ended, NoMemory}
use Rattle.dk_model.proofs.RelatedTyping.{IsRespected, declaration_related, body_type_related, rules_checked_related}
use Rattle.checked_steps.specs.Items.{Item}
use Rattle.checked_steps.specs.Checked.{by_items, checked_by_items, IsChecked}
use Rattle.checked_steps.specs.Certificates.{type_by_items}
use Rattle.tree_typing.specs.Given.{Fails}
use Rattle.tree_commands.specs.Commands.{command_type}
use Rattle.told_items.specs.declared.answered.Answered.{Answered}
use Rattle.told_items.specs.Calls.{PlainCall, Log, by_calls}
use Rattle.told_items.specs.Logs.{calls_of, items_of}
use Rattle.told_items.specs.Faults.{IsFaultOf}
use Rattle.told_items.proofs.Answers.{AreAnswered, are_answered}
use Rattle.told_items.proofs.Telling.{units_of, AsWithUnits, as_with_units, solved_with_units, AsByItems, as_by_items, solved_by_items}

-- ---- the check of a command with its type

module _ {X Y : Type 0} (Q : (A : Type 0) → (X → JudgedIn X A) → (Y → JudgedIn Y A) → Type 0) (E : Evaluator X) (E' : Evaluator Y) (R : IsRespected Q E E')
    (solve_related : (s : Bindings) (t u : Tree) → Q Bindings (λ n. E.solve n s t u) (λ n. E'.solve n s t u)) (S : PlainSignature) where
  command_related : (c : PlainCommand) → Q (Option Tree) (command_type E S c) (command_type E' S c)
  command_related (declare s (Some A) b) = R.goes_on _ _ _ _ _ _ (declaration_related Q E E' R S (Some A) b) (λ u. R.answers _ None)
  command_related (declare s None (Some b)) = R.goes_on _ _ _ _ _ _ (body_type_related Q E E' R S b) (λ T. R.answers _ (Some T))
  command_related (declare s None None) = R.answers _ None
  command_related (rule_command rs) = R.goes_on _ _ _ _ _ _ (rules_checked_related Q E E' R solve_related S (shapes_of S rs)) (λ u. R.answers _ None)
  command_related (query demand a) = R.answers _ None

-- without its type, and the type alone
abbrev untyped : {X A : Type 0} → JudgedIn X A → JudgedIn X (Unit {0})
untyped x = next x (λ a n. answer tt n)

abbrev given : {X A : Type 0} → JudgedIn X (Option A) → Option A
given (answer o n) = o
given (refused c n) = None
given ended = None

-- a check that gives no type
abbrev no_type : {X : Type 0} → JudgedIn X (Unit {0}) → JudgedIn X (Option Tree)
no_type x = next x (λ u m. answer None m)

abbrev nothing_asked : {X : Type 0} → X → JudgedIn X (Option Tree)
nothing_asked n = answer None n

untyped_none : {X : Type 0} (x : JudgedIn X (Unit {0})) → untyped (no_type x) ≡ x
untyped_none (answer u n) = refl
untyped_none (refused c n) = refl
untyped_none ended = refl

untyped_some : {X : Type 0} (x : JudgedIn X Tree) → untyped (next x (λ T m. answer (Some T) m)) ≡ untyped x
untyped_some (answer a n) = refl
untyped_some (refused c n) = refl
untyped_some ended = refl

given_none : {X : Type 0} (x : JudgedIn X (Unit {0})) → given (no_type x) ≡ None
given_none (answer u n) = refl
given_none (refused c n) = refl
given_none ended = refl

given_some : {X : Type 0} (x : JudgedIn X Tree) → given (next x (λ T m. answer (Some T) m)) ≡ answer_of x
given_some (answer a n) = refl
given_some (refused c n) = refl
given_some ended = refl

-- the verdict where there is a fault
fault_of_check : {X : Type 0} (f : TypeFault) (x : JudgedIn X (Option Tree)) (left : X) → Fails f x left → IsFaultOf (verdict (untyped x)) f
fault_of_check (Refused c) x left e = ap (λ y. verdict (untyped y)) e
fault_of_check Ended x left e = ap (λ y. verdict (untyped y)) e
fault_of_check NoMemory x left e = tt

no_fault : {X : Type 0} (f : TypeFault) (n left : X) (v : Verdict) → Fails f (nothing_asked n) left → IsFaultOf v f
no_fault (Refused c) n left v e = cc
no_fault Ended n left v e = cc
no_fault NoMemory n left v e = tt

module _ (S : PlainSignature) where
  -- ---- by items

  checked_is : (c : PlainCommand) (items : List Item) → untyped (command_type (by_items S) S c items) ≡ checked_by_items S c items
  checked_is (declare s (Some A) b) items = untyped_none (declaration_checked (by_items S) S (Some A) b items)
  checked_is (declare s None (Some b)) items = untyped_some (body_type (by_items S) S b items)
  checked_is (declare s None None) items = refl
  checked_is (rule_command rs) items = untyped_none (rules_checked (by_items S) S (shapes_of S rs) items)
  checked_is (query demand a) items = refl

  given_by_items : (c : PlainCommand) (items : List Item) → given (command_type (by_items S) S c items) ≡ type_by_items S c items
  given_by_items (declare s (Some A) b) items = given_none (declaration_checked (by_items S) S (Some A) b items)
  given_by_items (declare s None (Some b)) items = given_some (body_type (by_items S) S b items)
  given_by_items (declare s None None) items = refl
  given_by_items (rule_command rs) items = given_none (rules_checked (by_items S) S (shapes_of S rs) items)
  given_by_items (query demand a) items = refl

  -- ---- with units

  given_with_units : (c : PlainCommand) (n : ℕ) → given (command_type (by_units S) S c n) ≡ inferred_type S c n
  given_with_units (declare s (Some A) b) n = given_none (declaration_checked (by_units S) S (Some A) b n)
  given_with_units (declare s None (Some b)) n = given_some (body_type (by_units S) S b n)
  given_with_units (declare s None None) n = refl
  given_with_units (rule_command rs) n = given_none (rules_checked (by_units S) S (shapes_of S rs) n)
  given_with_units (query demand a) n = refl

  fault_is : (c : PlainCommand) (n left : ℕ) (f : TypeFault) → Fails f (command_type (by_units S) S c n) left → IsFaultOf (verdict_of S c n) f
  fault_is (declare s (Some A) b) n left f e = along (λ x. IsFaultOf (verdict x) f) (untyped_none (declaration_checked (by_units S) S (Some A) b n))
      (fault_of_check f (command_type (by_units S) S (declare s (Some A) b) n) left e)
  fault_is (declare s None (Some b)) n left f e = along (λ x. IsFaultOf (verdict x) f) (untyped_some (body_type (by_units S) S b n))
      (fault_of_check f (command_type (by_units S) S (declare s None (Some b)) n) left e)
  fault_is (declare s None None) n left f e = no_fault f n left _ e
  fault_is (rule_command rs) n left f e = along (λ x. IsFaultOf (verdict x) f) (untyped_none (rules_checked (by_units S) S (shapes_of S rs) n))
      (fault_of_check f (command_type (by_units S) S (rule_command rs) n) left e)
  fault_is (query demand a) n left f e = no_fault f n left _ e

  fails_with_units : (f : TypeFault) (x : JudgedIn Log (Option Tree)) (y : JudgedIn ℕ (Option Tree)) (left : Log) → units_of x ≡ y → Fails f x left → Fails f y left.0
  fails_with_units (Refused c) x y left u e = flip u ∙ ap units_of e
  fails_with_units Ended x y left u e = flip u ∙ ap units_of e
  fails_with_units NoMemory x y left u e = tt

  -- ---- what is told

  module _ (c : PlainCommand) where
    with_units : AsWithUnits (Option Tree) (command_type (by_calls S) S c) (command_type (by_units S) S c)
    with_units = command_related AsWithUnits (by_calls S) (by_units S) (as_with_units S) (solved_with_units S) S c

    -- the items of all calls give the same
    told_by_items : (n : ℕ) (T : Option Tree) (y : Log) (items : List Item) → command_type (by_calls S) S c (n, []) ≡ answer T y → AreAnswered y.1 items
        → command_type (by_items S) S c items ≡ answer T []
    told_by_items n T y items e h =
        let w : _ = command_related AsByItems (by_calls S) (by_items S) (as_by_items S) (solved_by_items S) S c (n, []) y T e in
        flip (ap (command_type (by_items S) S c) (append-nil items)) ∙ w.2 items [] (along (λ calls. AreAnswered calls items) w.1 h)

    -- from a log with no call
    none_before : {A : Type 0} (f : Log → JudgedIn Log A) (x : JudgedIn Log A) (n : ℕ) (before : List Answered) → before ≡ [] → f (n, calls_of before) ≡ x → f (n, []) ≡ x
    none_before f x n before e h = flip (ap (λ (b : List Answered). f (n, calls_of b)) e) ∙ h

    module _ (n left : ℕ) (before told : List Answered) (T : Option Tree) (none : before ≡ []) (e : command_type (by_calls S) S c (n, calls_of before) ≡ answer T (left, calls_of told)) where
      begun : command_type (by_calls S) S c (n, []) ≡ answer T (left, calls_of told)
      begun = none_before (command_type (by_calls S) S c) (answer T (left, calls_of told)) n before none e

      items_tell : (items : List Item) → items ≡ items_of told → command_type (by_items S) S c items ≡ answer T []
      items_tell items i = told_by_items n T (left, calls_of told) items begun (along (AreAnswered (calls_of told)) (flip i) (are_answered told))

      pub told_checked : (items : List Item) → items ≡ items_of told → IsChecked S c items
      told_checked items i = flip (checked_is c items) ∙ ap untyped (items_tell items i)

      pub told_type : (items : List Item) → items ≡ items_of told → T ≡ type_by_items S c items
      told_type items i = flip (ap given (items_tell items i)) ∙ given_by_items c items

      pub told_inferred : (budget : ℕ) → n ≡ budget → T ≡ inferred_type S c budget
      told_inferred budget start = flip (ap given (flip (with_units (n, [])) ∙ ap units_of begun)) ∙ given_with_units c n ∙ ap (inferred_type S c) start

    pub told_fault : (n budget left : ℕ) (before : List Answered) (calls : List PlainCall) (f : TypeFault) → before ≡ [] → n ≡ budget
        → Fails f (command_type (by_calls S) S c (n, calls_of before)) (left, calls) → IsFaultOf (verdict_of S c budget) f
    told_fault n budget left before calls f none start e = along (λ b. IsFaultOf (verdict_of S c b) f) start
        (fault_is c n left f (fails_with_units f (command_type (by_calls S) S c (n, [])) (command_type (by_units S) S c n) (left, calls) (with_units (n, []))
        (along (λ (b : List Answered). Fails f (command_type (by_calls S) S c (n, calls_of b)) (left, calls)) none e)))
