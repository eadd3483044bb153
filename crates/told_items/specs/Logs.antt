-- For proofs: the calls that are answered, and the items that answer them.
use Rattle.std.specs.Prelude.{List, [], ◌∷◌, ◌++◌}
use Rattle.checked_steps.specs.Items.{Item}
use Rattle.certificate_items.specs.Views.{plain_items}
use Rattle.told_items.specs.declared.answered.Answered.{Answered}
use Rattle.told_items.specs.Calls.{PlainCall}
use Rattle.told_items.specs.Views.{plain_call}

abbrev pub calls_of : List Answered → List PlainCall
calls_of [] = []
calls_of (a ∷ told) = plain_call a.call ∷ calls_of told

abbrev pub items_of : List Answered → List Item
items_of [] = []
items_of (a ∷ told) = plain_items a.items.items ++ items_of told
