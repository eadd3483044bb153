use Rattle.std.proofs.Common.{◌≡◌, ◌<◌, take}
use Rattle.scope_terms.specs.Binding.{class_of}
use Rattle.scope_terms.proofs.binders.class_of.Given as goal

abbrev pub invariant-loop-byte : goal.invariant-loop-byte
invariant-loop-byte l = record {
  same : l.class ≡ class_of (take l.byte-index l.name);
  small : l.class < 16;
}
