-- What is left of both is the same as all is.
use Rattle.std.proofs.Common.{◌≡◌, length, map}
use Rattle.std.specs.Arc.{arc_value}
use Rattle.edit_session.specs.Grounds.{same_texts}
use Rattle.edit_session.proofs.grounds.same_texts.Given as goal

abbrev pub invariant-loop-first : goal.invariant-loop-first
invariant-loop-first l = same_texts (map arc_value l.olds) (map arc_value l.news) ≡ same_texts (map arc_value l.fn.old) (map arc_value l.fn.new)

abbrev pub decreases-loop-first : goal.decreases-loop-first
decreases-loop-first l = length l.olds
