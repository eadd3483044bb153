-- For proofs: what a turn of the weak head form gives, by the cases of its result. Want of memory says nothing.
use Rattle.std.specs.Prelude.{ℕ, ◌≡◌, ◌<◌, Some, None, Result, Ok, Err, List, [], length}
use Rattle.dk_model.specs.Trees.{Tree, symbol}
use Rattle.dk_model.specs.Signatures.{PlainSignature}
use Rattle.dk_model.specs.Units.{Units, bind}
use Rattle.dk_model.specs.Evaluation.{whnf_of, columns, rows}
use Rattle.dk_model.specs.Equations.{selection_of, after_selection}
use Rattle.dk_model.specs.declared.stop.Stop.{Stop}
use Rattle.dk_model.specs.declared.stop.Stop.TheVariants.{Ended, NoMemory}
use Rattle.shared_term.specs.declared.id.TermId.{TermId}
use Rattle.shared_term.specs.Pools.{Node, term}
use Rattle.conversion.specs.declared.evaluate.Next.{Next}
use Rattle.conversion.specs.declared.evaluate.Next.TheVariants.{Whole, Goes as GoesOn, Told}
use Rattle.conversion.specs.declared.turn.Turn.{Turn}
use Rattle.conversion.specs.declared.turn.Turn.TheVariants.{Goes, Stands, Begins, Selects, Asks}
use Rattle.conversion.specs.Machine.{behind, wound}
use Rattle.conversion.specs.Pausing.{rewritten_by, Continues, awaited, Await, IsSelection, IsPause}
use Rattle.conversion.specs.declared.pauses.Pause.{Pause}

-- the weak head form of a symbol before arguments, whose turn took its unit already and whose selection begins
abbrev pub rule_due : PlainSignature → ℕ → List Tree → ℕ → Units Tree
rule_due S k xs n = bind (selection_of S n (columns S k (wound (symbol k) xs)) (rows S k (wound (symbol k) xs))) (after_selection S (wound (symbol k) xs))

-- the weak head form `due` over a stack of arguments: of a term, of a symbol once its selection is made, or of one that waited
-- and is told a weak head form
abbrev pub IsDue : PlainSignature → List Node → Next → List TermId → ℕ → Units Tree → Type 0
IsDue S ns (Whole t) ids n due = due ≡ whnf_of S n (wound (term ns t) (behind ns ids))
IsDue S ns (GoesOn s) ids n due = due ≡ rewritten_by S ns s ids n
IsDue S ns (Told p v) ids n due = Continues S ns p due × (awaited S ns p ≡ Some (term ns v, n))

-- what is due is of a pool of so many nodes
abbrev pub IsNext : PlainSignature → ℕ → Next → Type 0
IsNext S k (Whole t) = t.0 < k
IsNext S k (GoesOn s) = IsSelection S k s
IsNext S k (Told p v) = IsPause S k p × (v.0 < k)

-- whether the turn's unit was taken already
abbrev pub next_rank : Next → ℕ
next_rank (Whole t) = 0
next_rank (GoesOn s) = 1
next_rank (Told p v) = 1

-- whether a selection may go on without a unit
abbrev pub told_rank : Next → ℕ
told_rank (Whole t) = 0
told_rank (GoesOn s) = 0
told_rank (Told p v) = 1

-- how much is done next, beside two for a selection that waits
abbrev pub next_weight : Next → ℕ
next_weight (Whole t) = 0
next_weight (GoesOn s) = 3
next_weight (Told p v) = 4

-- how the weak head form `due` is got from the turn, with the stack and the units as they then are
abbrev pub TurnsTo : PlainSignature → Units Tree → List Node → Result Turn Stop → List TermId → ℕ → Type 0
TurnsTo S due ns (Ok (Goes t)) ids left = (due ≡ whnf_of S left (wound (term ns t) (behind ns ids))) × (t.0 < length ns)
TurnsTo S due ns (Ok (Stands h)) ids left = (due ≡ Some (wound (term ns h) (behind ns ids), left)) × (h.0 < length ns)
TurnsTo S due ns (Ok (Begins k)) ids left = due ≡ rule_due S k (behind ns ids) left
TurnsTo S due ns (Ok (Selects s)) ids left = (due ≡ rewritten_by S ns s ids left) × IsSelection S (length ns) s
TurnsTo S due ns (Ok (Asks p)) ids left = Continues S ns p due × (p.start ≡ left) × (ids ≡ []) × IsPause S (length ns) p
TurnsTo S due ns (Err Ended) ids left = (due ≡ None) × (left ≡ 0)
TurnsTo S due ns (Err NoMemory) ids left = Unit {0}

-- a unit was taken where a selection begins or was answered, and else none needs to be
abbrev pub turn_rank : Turn → ℕ
turn_rank (Goes t) = 0
turn_rank (Stands h) = 0
turn_rank (Begins k) = 1
turn_rank (Selects s) = 1
turn_rank (Asks p) = 0

-- what is done next gives what the last one of these selections waits for, and the first one gives `whole`
abbrev pub GoesNext : PlainSignature → List Node → Units Tree → Result Next Stop → List Pause → ℕ → Type 0
GoesNext S ns whole (Ok next) ps left = (due : Units Tree) × Await S ns whole ps due × IsDue S ns next [] left due
GoesNext S ns whole (Err Ended) ps left = (whole ≡ None) × (left ≡ 0)
GoesNext S ns whole (Err NoMemory) ps left = Unit {0}
