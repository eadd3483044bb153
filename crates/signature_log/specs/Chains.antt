-- For proofs: values in links, each behind those before it.
use Rattle.std.specs.Prelude.{Option, Some, None, List, [], ◌∷◌, ◌++◌}
use Rattle.std.specs.declared.sync.Arc.{Arc}
use Rattle.signature_log.specs.declared.chain.Link.{Link}

-- the last one behind those before it
abbrev pub linked : {A Z : Type 0} → Option (Arc (Link A) Z) → List A
linked None = []
linked (Some link) = link.value.before ++ link.value.value ∷ []
