use Rattle.signature_log.proofs.Ruled.{ruled_more}
use Rattle.signature_log.proofs.version.Version.append_counted.Goals as goal

pub invariant_of-result : goal.invariant_of-result
invariant_of-result g c =
    ruled_more c.self.inside.entries c.in_ok-entries.entries c.new-held.result c.self.inside.rules c.in_ok-rules.rules c.in_ok-entries.ensures.entries c.self.invariant c.in_ok-rules.ensures
