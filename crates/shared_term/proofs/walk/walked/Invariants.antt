-- The walk stands where it will give what was asked for, and each turn leaves fewer.
use Rattle.shared_term.specs.Pools.{Extends}
use Rattle.shared_term.specs.Changes.{wanted}
use Rattle.shared_term.specs.Memos.{AreDone, AreLasting}
use Rattle.shared_term.specs.Walks.{Stands, turns_left}
use Rattle.shared_term.proofs.walk.walked.Given as goal

abbrev pub invariant-loop-state : goal.invariant-loop-state
invariant-loop-state l = record {
  keeps : Extends l.fn.nodes l.nodes;
  lasting : AreLasting l.nodes l.memos.lasting;
  passing : AreDone l.nodes l.given l.memos.passing;
  stands : Stands l.nodes l.given (wanted l.fn.nodes l.given l.fn.start) l.frames.items l.state;
}

abbrev pub decreases-loop-state : goal.decreases-loop-state
decreases-loop-state l = turns_left l.nodes l.given l.frames.items l.state
