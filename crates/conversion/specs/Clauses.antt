-- For proofs: the facts that the contracts of this crate state, over a version and a reducer before and after a call.
use Rattle.std.specs.Prelude.{ℕ, ◌≡◌, ◌<◌, Option, Bool, Result, Ok, List, drop, length}
use Rattle.std.specs.declared.vec.Vec.{Vec}
use Rattle.std.specs.declared.alloc.Global.{Global}
use Rattle.dk_model.specs.Trees.{Tree}
use Rattle.dk_model.specs.Units.{Units}
use Rattle.dk_model.specs.Signatures.{PlainRule}
use Rattle.dk_model.specs.Captures.{filled}
use Rattle.dk_model.specs.Spines.{applied}
use Rattle.dk_model.specs.Evaluation.{whnf_of, comparison_of, normal_of}
use Rattle.dk_model.specs.declared.stop.Stop.{Stop}
use Rattle.dk_model.specs.declared.signature.Entry.{Entry}
use Rattle.shared_term.specs.declared.id.TermId.{TermId}
use Rattle.shared_term.specs.declared.stored.Stored.{Stored}
use Rattle.shared_term.specs.Pools.{term}
use Rattle.shared_term.specs.Changes.{captured_terms}
use Rattle.signature_log.specs.Versions.{entries_of}
use Rattle.conversion.specs.declared.state.PoolReducer.{PoolReducer}
use Rattle.conversion.specs.declared.evaluate.Next.{Next}
use Rattle.conversion.specs.declared.evaluate.Course.{Course}
use Rattle.conversion.specs.declared.evaluate.Reached.{Reached}
use Rattle.conversion.specs.declared.turn.Turn.{Turn}
use Rattle.conversion.specs.declared.selection.Selection.{Selection}
use Rattle.conversion.specs.declared.compare.Look.{Look}
use Rattle.conversion.specs.declared.compare.Step.{Step}
use Rattle.conversion.specs.declared.normal.Frame.{Frame}
use Rattle.conversion.specs.declared.normal.Next.{Next as Part}
use Rattle.conversion.specs.declared.pauses.Waiter.{Waiter}
use Rattle.conversion.specs.declared.pauses.Pause.{Pause}
use Rattle.rule_match.specs.declared.matcher.Answer.TheVariants.{Normal}
use Rattle.conversion.specs.Machine.{behind, wound, from_top}
use Rattle.conversion.specs.Given.{GivesTerm, GivesBool}
use Rattle.conversion.specs.Pausing.{rewritten_by, GoesOnWith, GoesOnWhether, Continues, Await}
use Rattle.conversion.specs.Pending.{look_due}
use Rattle.conversion.specs.Waiting.{resumed, next_due as part_due}
use Rattle.conversion.specs.Turning.{IsDue, GoesNext, rule_due, TurnsTo}
use Rattle.conversion.specs.Courses.{Comes, Reaches}

abbrev pub Entries : Type 0
Entries = List (Entry Stored)

-- the weak head form of a term
abbrev pub Evaluates : Entries → PoolReducer → TermId → ℕ → Result TermId Stop → PoolReducer → ℕ → Type 0
Evaluates v old t n result new left = GivesTerm (whnf_of (entries_of v) n (term old.pool t)) new.pool result left

-- the normal form of a term
abbrev pub Normalises : Entries → PoolReducer → TermId → ℕ → Result TermId Stop → PoolReducer → ℕ → Type 0
Normalises v old t n result new left = GivesTerm (normal_of (entries_of v) n (term old.pool t)) new.pool result left

-- whether two terms are alike
abbrev pub Compares : Entries → PoolReducer → TermId → TermId → ℕ → Result Bool Stop → ℕ → Type 0
Compares v old t u n result left = GivesBool (comparison_of (entries_of v) n (term old.pool t) (term old.pool u)) result left

-- the weak head form that an evaluation under way comes to
abbrev pub Completes : Entries → PoolReducer → Course → ℕ → Result TermId Stop → PoolReducer → ℕ → Type 0
Completes v old c n result new left = (whole : Units Tree) → Comes (entries_of v) old.pool c n whole → GivesTerm whole new.pool result left

-- the same up to a symbol that is to have a tree
abbrev pub TurnsOn : Entries → PoolReducer → Course → ℕ → Result Reached Stop → PoolReducer → ℕ → Type 0
TurnsOn v old c n result new left = (whole : Units Tree) → Comes (entries_of v) old.pool c n whole → Reaches (entries_of v) whole new.pool result left

-- turns

-- a turn, with the stack and the units after it
abbrev pub Turns : Entries → PoolReducer → Next → Vec TermId Global → ℕ → Result Turn Stop → PoolReducer → Vec TermId Global → ℕ → Type 0
Turns v old next ids n turn new ids' left = (due : Units Tree) → IsDue (entries_of v) old.pool next ids.items n due → TurnsTo (entries_of v) due new.pool turn ids'.items left

-- the turn of a head
abbrev pub TurnsHead : Entries → PoolReducer → TermId → Vec TermId Global → ℕ → Result Turn Stop → PoolReducer → Vec TermId Global → ℕ → Type 0
TurnsHead v old h ids n turn new ids' left = TurnsTo (entries_of v) (whnf_of (entries_of v) n (wound (term old.pool h) (behind old.pool ids.items))) new.pool turn ids'.items left

-- the same of a symbol, whose turn took its unit already
abbrev pub TurnsSymbol : Entries → PoolReducer → ℕ → List TermId → PoolReducer → Turn → Type 0
TurnsSymbol v old k ids new turn = (n : ℕ) → TurnsTo (entries_of v) (rule_due (entries_of v) k (behind old.pool ids) n) new.pool (Ok turn) ids n

-- the same by a selection from the symbol's rules
abbrev pub TurnsSelection : Entries → PoolReducer → Selection → Vec TermId Global → ℕ → Result Turn Stop → PoolReducer → Vec TermId Global → ℕ → Type 0
TurnsSelection v old s ids n turn new ids' left = TurnsTo (entries_of v) (rewritten_by (entries_of v) old.pool s ids.items n) new.pool turn ids'.items left

-- the right side under the captures stands before the arguments that the patterns leave over
abbrev pub PutsRight : PoolReducer → List (Option TermId) → PlainRule → Vec TermId Global → PoolReducer → TermId → Vec TermId Global → Type 0
PutsRight old taken r ids new t ids' =
    (wound (term new.pool t) (behind new.pool ids'.items) ≡ applied (filled (captured_terms old.pool taken) 0 r.right) (drop (length r.pats) (from_top (behind old.pool ids.items)))) × (t.0 < length new.pool)

-- the same by a selection that waited and is told a weak head form
abbrev pub TurnsTold : Entries → PoolReducer → Pause → Result Turn Stop → PoolReducer → Vec TermId Global → ℕ → Type 0
TurnsTold v old p turn new ids left = (due : Units Tree) → Continues (entries_of v) old.pool p due → TurnsTo (entries_of v) due new.pool turn ids.items left

-- the same by one that waits for a comparison, or for a normal form
abbrev pub TurnsCompared : Entries → PoolReducer → Waiter → Look → Vec Step Global → ℕ → Result Turn Stop → PoolReducer → Vec TermId Global → ℕ → Type 0
TurnsCompared v old w look steps n turn new ids left = (due : Units Tree) → GoesOnWhether (entries_of v) old.pool w (look_due (entries_of v) old.pool look n steps.items) due
    → TurnsTo (entries_of v) due new.pool turn ids.items left

abbrev pub TurnsNormal : Entries → PoolReducer → Waiter → Part → Vec Frame Global → ℕ → Result Turn Stop → PoolReducer → Vec TermId Global → ℕ → Type 0
TurnsNormal v old w next frames n turn new ids left = (due : Units Tree)
    → GoesOnWith (entries_of v) old.pool w (λ u. Normal u) (resumed (entries_of v) old.pool frames.items (part_due (entries_of v) old.pool next n)) due
    → TurnsTo (entries_of v) due new.pool turn ids.items left

-- a selection waits, or goes on at once, where the first one of those before gives `whole`
abbrev pub LetsWait : Entries → PoolReducer → Pause → Vec Pause Global → Result Next Stop → Vec Pause Global → ℕ → Type 0
LetsWait v r p old next new left = (whole due : Units Tree) → Await (entries_of v) r.pool whole old.items due → Continues (entries_of v) r.pool p due
    → GoesNext (entries_of v) r.pool whole next new.items left
