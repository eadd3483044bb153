-- A job may go to any thread, and any thread may share it.
use denote.RattleType.{RattleType}
use denote.Param.Send.{IsSend, IsSync, part_keyless, sendable}
use denote.Param.SendFields.{declared_send}
use Rattle.std.proofs.Crossing.{crosses}
use Rattle.dk_model.proofs.term.Term.TheLaws.TheKnot as TermKnot
use Rattle.dk_model.proofs.scoped.Left.TheLaws.TheKnot as LeftKnot
use Rattle.dk_model.specs.contracts.scoped.Asked as Asked
use Rattle.dk_model.specs.contracts.scoped.Left as Left
use Rattle.dk_model.specs.contracts.scoped.ScopedRule as ScopedRule
use Rattle.board_core.specs.contracts.past.Past as Past
use Rattle.shared_term.specs.contracts.command.StoredCommand as StoredCommand
use Rattle.file_check.specs.contracts.job.Job as Job
use Rattle.file_check.specs.contracts.job.Worker as Worker
use Rattle.split_check.proofs.Crosses.{term_send, term_sync, stored_send, stored_sync, version_send, version_sync}
use Rattle.split_check.proofs.Pools.{reducer_send}

past_send : (J : RattleType) → IsSend (Past.the_row J)
past_send J = record { owned = λ d vs. ((λ vss. (tt, ((λ uss. (tt, tt)), tt))), tt); leaving = λ k f vs. tt }

past_sync : (J : RattleType) → IsSync (Past.the_row J)
past_sync J = record { shared = λ d b o κ q. part_keyless (Past.the_row J) (past_send J) q d b o }

left_send : IsSend Left.the_row
left_send = let a = term_send in search (sendable, crosses, LeftKnot.crosses, TermKnot.crosses) depth 40

left_sync : IsSync Left.the_row
left_sync = let a = term_sync in search (sendable, crosses, LeftKnot.crosses, TermKnot.crosses) depth 40

rule_send : IsSend ScopedRule.the_row
rule_send = let a = term_send in let b = left_send in search (sendable, crosses, LeftKnot.crosses, TermKnot.crosses) depth 40 fits 20000

rule_sync : IsSync ScopedRule.the_row
rule_sync = let a = term_sync in let b = left_sync in search (sendable, crosses, LeftKnot.crosses, TermKnot.crosses) depth 40 fits 20000

asked_send : IsSend Asked.the_field.row
asked_send = let a = term_send in search (sendable, crosses, TermKnot.crosses) depth 40 fits 20000

asked_sync : IsSync Asked.the_field.row
asked_sync = let a = term_sync in search (sendable, crosses, TermKnot.crosses) depth 40 fits 20000

command_send : IsSend StoredCommand.the_field.row
command_send = let a = rule_send in let b = stored_send in let q = asked_send in search (sendable, crosses) depth 40 fits 20000

command_sync : IsSync StoredCommand.the_field.row
command_sync = let a = rule_sync in let b = stored_sync in let q = asked_sync in search (sendable, crosses) depth 40 fits 20000

pub job_send : IsSend Job.the_row
job_send = let a = version_send in let b = command_send in search (sendable, crosses, past_send) depth 20

pub job_sync : IsSync Job.the_row
job_sync = let a = version_sync in let b = command_sync in search (sendable, crosses, past_sync) depth 20

pub worker_send : IsSend Worker.the_row
worker_send = declared_send Worker.the_type (reducer_send, tt)
