use Rattle.std.proofs.Common.{◌≡◌, true, vec_len}
use Rattle.dk_terms.specs.declared.frame.Application.TheVariants as application
use Rattle.dk_terms.specs.declared.frame.Role.TheVariants as role
use Rattle.dk_terms.specs.Parts.{HasRoom, parts}
use Rattle.dk_terms.specs.Views.{ended_over}
use Rattle.dk_terms.proofs.term_so_far.TermSoFar.unwind.Given as goal

abbrev pub invariant-loop-frame : goal.invariant-loop-frame
invariant-loop-frame l = record {
  same : ended_over (parts l.self.list) l.self.frames.items l.fn.sign ≡ ended_over (parts l.fn.self.list) l.fn.self.frames.items l.fn.sign;
  room : HasRoom l.self.list;
  at_front : l.self.application ≡ application.Reading role.Front true;
}

abbrev pub decreases-loop-frame : goal.decreases-loop-frame
decreases-loop-frame l = vec_len l.self.frames
