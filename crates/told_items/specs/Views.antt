-- For proofs: what the code holds, as the plain data of the definitions.
use Rattle.dk_model.specs.Trees.{tree}
use Rattle.signature_log.specs.Versions.{entries_of}
use Rattle.tree_typing.specs.Given.{bindings}
use Rattle.told_items.specs.declared.call.Call.{Call}
use Rattle.told_items.specs.declared.call.Call.TheVariants.{Reduced, Joined, Resolved}
use Rattle.told_items.specs.Calls.{PlainCall, reduced, joined, resolved}

abbrev pub plain_call : Call → PlainCall
plain_call (Reduced v t u) = reduced (entries_of v.value) (tree t.value) (tree u.value)
plain_call (Joined v t u) = joined (entries_of v.value) (tree t.value) (tree u.value)
plain_call (Resolved v s t u r) = resolved (entries_of v.value) (bindings s.value) (tree t.value) (tree u.value) (bindings r.value)
