-- It owns nothing, so any thread may share it.
use denote.RattleType.{RattleType}
use denote.Param.Send.{IsSync, part_keyless}
use Rattle.board_core.specs.contracts.past.Past.{the_row}
use Rattle.board_core.proofs.past.Past.TheSendSync.Send.{send}

pub sync : (J : RattleType) → IsSync (the_row J)
sync J = record { shared = λ d b o κ q. part_keyless (the_row J) (send J) q d b o }
