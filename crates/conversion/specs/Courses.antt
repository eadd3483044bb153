-- For proofs: an evaluation under way, and how far it came.
use Rattle.std.specs.Prelude.{ℕ, ◌≡◌, ◌<◌, Some, None, Result, Ok, Err, List, length}
use Rattle.dk_model.specs.Trees.{Tree}
use Rattle.dk_model.specs.Signatures.{PlainSignature}
use Rattle.dk_model.specs.SymbolRules.{rules_of}
use Rattle.dk_model.specs.Units.{Units}
use Rattle.dk_model.specs.declared.stop.Stop.{Stop}
use Rattle.dk_model.specs.declared.stop.Stop.TheVariants.{Ended, NoMemory}
use Rattle.shared_term.specs.declared.id.TermId.{TermId}
use Rattle.shared_term.specs.Pools.{Node, term}
use Rattle.conversion.specs.declared.evaluate.Course.{Course}
use Rattle.conversion.specs.declared.evaluate.Reached.{Reached}
use Rattle.conversion.specs.declared.evaluate.Reached.TheVariants.{Value, Wants}
use Rattle.conversion.specs.declared.selection.Selection.{Selection}
use Rattle.conversion.specs.Machine.{AreWithin, behind}
use Rattle.conversion.specs.Pausing.{rewritten_by, IsSelection, ArePauses, Await}
use Rattle.conversion.specs.Turning.{IsDue, IsNext, rule_due}

-- it comes to `whole`
abbrev pub Comes : PlainSignature → List Node → Course → ℕ → Units Tree → Type 0
Comes S ns c n whole = (due : Units Tree) × Await S ns whole c.pauses.items due × IsDue S ns c.next c.stack.items n due

-- an evaluation with so many units left, of terms of a pool
pub record IsCourse (S : PlainSignature) (ns : List Node) (c : Course) (n : ℕ) : Type 0 where
  pub comes : (whole : Units Tree) × Comes S ns c n whole
  pub next : IsNext S (length ns) c.next
  pub stack : AreWithin (length ns) c.stack.items
  pub pauses : ArePauses S (length ns) c.pauses.items

-- one that comes to `whole` is there, or is at the turn of a symbol, whose unit is taken
abbrev pub Reaches : PlainSignature → Units Tree → List Node → Result Reached Stop → ℕ → Type 0
Reaches S whole ns (Ok (Value v)) left = whole ≡ Some (term ns v, left)
Reaches S whole ns (Ok (Wants k ps ids)) left = Await S ns whole ps.items (rule_due S k (behind ns ids.items) left)
Reaches S whole ns (Err Ended) left = (whole ≡ None) × (left ≡ 0)
Reaches S whole ns (Err NoMemory) left = Unit {0}

-- what it reached is of a pool of so many nodes; a tree is wanted where there is room, of a symbol with rules
abbrev pub IsReached : PlainSignature → ℕ → ℕ → Reached → Type 0
IsReached S n room (Value v) = v.0 < n
IsReached S n room (Wants k ps ids) = (0 < room) × (0 < length (rules_of S k)) × ArePauses S n ps.items × AreWithin n ids.items

-- the selection of a symbol at its start
abbrev pub Begins : PlainSignature → List Node → ℕ → List TermId → Selection → Type 0
Begins S ns k ids s = ((n : ℕ) → rule_due S k (behind ns ids) n ≡ rewritten_by S ns s ids n) × IsSelection S (length ns) s
