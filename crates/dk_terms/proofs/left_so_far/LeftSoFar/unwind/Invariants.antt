use Rattle.std.proofs.Common.{◌≡◌, length}
use Rattle.dk_terms.specs.Parsing.{left_ended}
use Rattle.dk_terms.specs.RawViews.{written_pattern}
use Rattle.dk_terms.specs.Views.{plain_pattern_frames}
use Rattle.dk_terms.proofs.left_so_far.LeftSoFar.unwind.Given as goal

abbrev pub invariant-loop-frame : goal.invariant-loop-frame
invariant-loop-frame l = left_ended (plain_pattern_frames l.self.frames) (written_pattern l.pattern) l.fn.sign ≡ left_ended (plain_pattern_frames l.fn.self.frames) (written_pattern l.fn.p) l.fn.sign

abbrev pub decreases-loop-frame : goal.decreases-loop-frame
decreases-loop-frame l = length l.self.frames
