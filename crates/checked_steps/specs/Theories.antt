-- Trusted: the commands of a theory, each with a derivation over the entries of those before it (docs/derivations.md).
use Rattle.std.specs.Prelude.{◌≡◌, Option, Some, None, List, [], ◌∷◌, ◌++◌}
use Rattle.dk_model.specs.PlainTerms.{Tree}
use Rattle.dk_model.specs.PlainEntries.{PlainSignature}
use Rattle.dk_model.specs.PlainCommands.{PlainCommand, declare, rule_command, query}
use Rattle.dk_model.specs.Verdicts.{entry_of}
use Rattle.typing_model.specs.Derivations.{HasType, HasDerivation}

-- the type of a definition without a declared one is one that its body has; other commands ask for none
abbrev pub IsTypeOf : PlainSignature → PlainCommand → Option Tree → Type 0
IsTypeOf S (declare s None (Some b)) typ = (T : Tree) × (typ ≡ Some T) × HasType S [] [] b T
IsTypeOf S (declare s None None) typ = typ ≡ None
IsTypeOf S (declare s (Some A) b) typ = typ ≡ None
IsTypeOf S (rule_command rs) typ = typ ≡ None
IsTypeOf S (query demand a) typ = typ ≡ None

-- commands one after the other, each with a derivation over the entries of those before it
pub data HaveDerivations : PlainSignature → List PlainCommand → Type 0 where
  none_derives : {S : PlainSignature} → HaveDerivations S []
  one_derives : {S : PlainSignature} {command : PlainCommand} {commands : List PlainCommand} (typ : Option Tree)
      → HasDerivation S command → IsTypeOf S command typ → HaveDerivations (S ++ (entry_of S command typ ∷ [])) commands → HaveDerivations S (command ∷ commands)
