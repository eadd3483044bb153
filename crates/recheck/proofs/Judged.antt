-- The check of a command with its type, by items: what it says of the items and of the type.
use Rattle.std.proofs.Common.{List, [], ◌≡◌, refl, ap, ◌∙◌, Option, Some, None, sym as flip}
use Rattle.dk_model.specs.PlainTerms.{Tree}
use Rattle.dk_model.specs.PlainEntries.{PlainSignature}
use Rattle.dk_model.specs.PlainCommands.{PlainCommand, declare, rule_command, query}
use Rattle.dk_model.specs.Shapes.{shapes_of}
use Rattle.dk_model.specs.TypingOver.{JudgedIn, answer, refused, ended, next}
use Rattle.dk_model.specs.CommandTypingOver.{body_type, declaration_checked, rules_checked}
use Rattle.dk_model.specs.Verdicts.{answer_of}
use Rattle.dk_model.specs.declared.stop.TypeFault.{TypeFault}
use Rattle.dk_model.specs.declared.stop.TypeFault.TheVariants.{Refused, Ended, NoMemory}
use Rattle.checked_steps.specs.Items.{Item}
use Rattle.checked_steps.specs.Checked.{by_items, checked_by_items, IsChecked}
use Rattle.checked_steps.specs.Certificates.{type_by_items}
use Rattle.tree_typing.specs.Given.{Fails}
use Rattle.tree_commands.specs.Commands.{command_type}
use Rattle.recheck.specs.declared.wrong.Wrong.TheVariants.{Rejected}
use Rattle.recheck.specs.Wrongs.{type_wrong}

-- the check without its type
abbrev untyped : {X A : Type 0} → JudgedIn X A → JudgedIn X (Unit {0})
untyped x = next x (λ a n. answer tt n)

-- the type, where there is one
abbrev given : {X A : Type 0} → JudgedIn X (Option A) → Option A
given (answer o n) = o
given (refused c n) = None
given ended = None

-- a check that gives no type
abbrev no_type : {X : Type 0} → JudgedIn X (Unit {0}) → JudgedIn X (Option Tree)
no_type x = next x (λ u m. answer None m)

untyped_none : {X : Type 0} (x : JudgedIn X (Unit {0})) → untyped (no_type x) ≡ x
untyped_none (answer u n) = refl
untyped_none (refused c n) = refl
untyped_none ended = refl

untyped_some : {X A : Type 0} (x : JudgedIn X A) → untyped (next x (λ T m. answer (Some T) m)) ≡ untyped x
untyped_some (answer a n) = refl
untyped_some (refused c n) = refl
untyped_some ended = refl

given_none : {X : Type 0} (x : JudgedIn X (Unit {0})) → given (no_type x) ≡ None
given_none (answer u n) = refl
given_none (refused c n) = refl
given_none ended = refl

given_some : {X A : Type 0} (x : JudgedIn X A) → given (next x (λ T m. answer (Some T) m)) ≡ answer_of x
given_some (answer a n) = refl
given_some (refused c n) = refl
given_some ended = refl

module _ (S : PlainSignature) where
  checked_is : (c : PlainCommand) (items : List Item) → untyped (command_type (by_items S) S c items) ≡ checked_by_items S c items
  checked_is (declare s (Some A) b) items = untyped_none (declaration_checked (by_items S) S (Some A) b items)
  checked_is (declare s None (Some b)) items = untyped_some (body_type (by_items S) S b items)
  checked_is (declare s None None) items = refl
  checked_is (rule_command rs) items = untyped_none (rules_checked (by_items S) S (shapes_of S rs) items)
  checked_is (query demand a) items = refl

  given_is : (c : PlainCommand) (items : List Item) → given (command_type (by_items S) S c items) ≡ type_by_items S c items
  given_is (declare s (Some A) b) items = given_none (declaration_checked (by_items S) S (Some A) b items)
  given_is (declare s None (Some b)) items = given_some (body_type (by_items S) S b items)
  given_is (declare s None None) items = refl
  given_is (rule_command rs) items = given_none (rules_checked (by_items S) S (shapes_of S rs) items)
  given_is (query demand a) items = refl

  -- ---- what an answer, a refusal and the end say

  pub answer_checked : (c : PlainCommand) (items rest : List Item) (T : Option Tree) → command_type (by_items S) S c items ≡ answer T rest → rest ≡ [] → IsChecked S c items
  answer_checked c items rest T e l = flip (checked_is c items) ∙ ap untyped e ∙ ap (λ r. answer tt r) l

  pub answer_given : (c : PlainCommand) (items rest : List Item) (T : Option Tree) → command_type (by_items S) S c items ≡ answer T rest → T ≡ type_by_items S c items
  answer_given c items rest T e = flip (ap given e) ∙ given_is c items

  answer_left : (c : PlainCommand) (items rest : List Item) (T : Option Tree) → command_type (by_items S) S c items ≡ answer T rest → IsChecked S c items → rest ≡ []
  answer_left c items rest T e h = let q : answer tt rest ≡ answer tt [] = flip (ap untyped e) ∙ checked_is c items ∙ h in cc

  pub answer_over : (c : PlainCommand) (items rest : List Item) (T : Option Tree) → command_type (by_items S) S c items ≡ answer T rest → ¬ (rest ≡ []) → ¬ IsChecked S c items
  answer_over c items rest T e n h = n (answer_left c items rest T e h)

  pub fault_not : (c : PlainCommand) (items rest : List Item) (f : TypeFault) → Fails f (command_type (by_items S) S c items) rest → type_wrong f ≡ Rejected → ¬ IsChecked S c items
  fault_not c items rest (Refused code) e w h = let q : refused code rest ≡ answer tt [] = flip (ap untyped e) ∙ checked_is c items ∙ h in cc
  fault_not c items rest Ended e w h = let q : ended ≡ answer tt [] = flip (ap untyped e) ∙ checked_is c items ∙ h in cc
  fault_not c items rest NoMemory e w h = cc
