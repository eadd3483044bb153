use Rattle.std.proofs.Common.{◌≡◌, ◌∷◌, ◌++◌, [], List, Bool, ap, sym, subst, ◌∙◌}
use Rattle.board_core.specs.Machine.{MaySettle}
use Rattle.verdict_book.specs.declared.title.Title.{Title}
use Rattle.file_check.specs.declared.job.Job.{Job}
use Rattle.file_check.specs.Jobs.{due, early}
use Rattle.file_check.specs.Desks.{IsSound, known_at}
use Rattle.file_check.proofs.Desking.{before_last, sound_kept, sound_put}
use Rattle.file_check.proofs.desk.Desk.put.Goals as goal

pub put-requires-clause-settled : goal.put-requires-clause-settled
put-requires-clause-settled g c = subst (λ (j : Job). MaySettle due early (j, c.args.prepared.settled)) (sym c.in-Ok.ensures.ok) c.requires.settled

pub returns-in-Ok-put-clause-sound : goal.returns-in-Ok-put-clause-sound
returns-in-Ok-put-clause-sound g c =
    let p = c.args.prepared in
    let limits = c.args.self.now.limits in
    let known = known_at c.args.self.now in
    let known_is : c.put.new.pass.seat.me.0.known ≡ known ++ (p.job, p.settled) ∷ [] =
    c.in-Ok-put.ensures.ok.known ∙ ap (λ (j : Job). known ++ (j, p.settled) ∷ []) c.in-Ok.ensures.ok in
    subst (λ (ts : List Title). IsSound limits ts c.put.new.pass.seat.me.0.known) (sym c.in-Ok-push.ensures.ok)
    (subst (λ (js : List (Job × Bool)). IsSound limits (c.args.self.now.titles ++ p.title ∷ []) js) (sym known_is)
    (sound_put limits c.args.self.now.titles p.title known p.job p.settled c.requires.sound c.requires.few c.requires.title))

pub returns-in-Err-Stopped-clause-puts : goal.returns-in-Err-Stopped-clause-puts
returns-in-Err-Stopped-clause-puts g c =
    let refused = c.in-Err-Stopped.ensures.refused in
    let reason = rw c.in-Err-Stopped.field-0-is at refused.reason in (
      record { jobs = refused.known; titles = c.pop.ensures ∙ before_last c.args.self.now.titles c.push.new.self c.args.prepared.title c.in-Ok-push.ensures.ok },
      reason.1,
    )

pub returns-in-Err-Stopped-clause-sound : goal.returns-in-Err-Stopped-clause-sound
returns-in-Err-Stopped-clause-sound g c =
    let old = c.args.self.now in
    sound_kept old.limits old.titles c.pop.new.self (known_at old) c.put.new.pass.seat.me.0.known c.requires.sound
    (c.pop.ensures ∙ before_last old.titles c.push.new.self c.args.prepared.title c.in-Ok-push.ensures.ok)
    c.in-Err-Stopped.ensures.refused.known

pub returns-in-Err-NoMemory-clause-sound : goal.returns-in-Err-NoMemory-clause-sound
returns-in-Err-NoMemory-clause-sound g c =
    let old = c.args.self.now in
    sound_kept old.limits old.titles c.pop-in-Err-NoMemory.new.self (known_at old) c.put.new.pass.seat.me.0.known c.requires.sound
    (c.pop-in-Err-NoMemory.ensures ∙ before_last old.titles c.push.new.self c.args.prepared.title c.in-Ok-push.ensures.ok)
    c.in-Err-NoMemory.ensures.refused.known
