-- Rules that are checked have their shapes, so that their entry isn't refused.
use Rattle.std.specs.Prelude.{Result, Ok, Err}
use Rattle.std.proofs.Common.{◌≡◌, List, [], refl}
use Rattle.dk_model.specs.PlainEntries.{PlainRule, PlainSignature}
use Rattle.dk_model.specs.PlainCommands.{PlainCommand, declare, rule_command, query}
use Rattle.dk_model.specs.Shapes.{shapes_of}
use Rattle.dk_model.specs.TypingOver.{Evaluator, answer}
use Rattle.dk_model.specs.CommandTypingOver.{rules_checked}
use Rattle.dk_model.specs.declared.code.Code.{Code}
use Rattle.dk_model.specs.declared.stop.TypeFault.{TypeFault}
use Rattle.dk_model.specs.declared.stop.TypeFault.TheVariants.{Refused, Ended, NoMemory}
use Rattle.command_kinds.specs.Faults.{IsEntryFault}
use Rattle.checked_steps.specs.Items.{Item}
use Rattle.checked_steps.specs.Checked.{by_items, IsChecked}
use Rattle.recheck_theory.specs.Parts.{HasShapes}

shapes_told : {X : Type 0} (E : Evaluator X) (S : PlainSignature) (due made : Result (List PlainRule) Code) (n m : X) → due ≡ made → rules_checked E S made n ≡ answer tt m → (shapes : List PlainRule) × (due ≡ Ok shapes)
shapes_told E S due (Ok shapes) n m q e = (shapes, q)
shapes_told E S due (Err c) n m q e = absurd cc

pub checked_shapes : (S : PlainSignature) (command : PlainCommand) (items : List Item) → IsChecked S command items → HasShapes S command
checked_shapes S (declare s A b) items e = tt
checked_shapes S (rule_command rs) items e = shapes_told (by_items S) S (shapes_of S rs) (shapes_of S rs) items [] refl e
checked_shapes S (query demand a) items e = tt

pub entry_fault : (S : PlainSignature) (command : PlainCommand) (f : TypeFault) → HasShapes S command → IsEntryFault S command f → f ≡ NoMemory
entry_fault S (declare s A b) f h e = e
entry_fault S (rule_command rs) (Refused c) h e = absurd (let q : shapes_of S rs ≡ Ok h.0 = h.1 in let r : shapes_of S rs ≡ Err c = e in cc)
entry_fault S (rule_command rs) Ended h e = absurd e
entry_fault S (rule_command rs) NoMemory h e = refl
entry_fault S (query demand a) f h e = e
