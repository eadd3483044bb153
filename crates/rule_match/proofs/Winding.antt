-- Pools that grow one after the other.
use Rattle.std.proofs.Common.{List}
use Rattle.shared_term.specs.Pools.{Node, Extends}
use Rattle.shared_term.proofs.Growth.{extends-further, extends-same}

pub extends_more : (old mid new : List Node) → Extends old mid → Extends mid new → Extends old new
extends_more old mid new h k = extends-further old mid new h k

pub extends_none : (ns : List Node) → Extends ns ns
extends_none ns = extends-same ns
