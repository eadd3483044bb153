-- What a step of the desk leaves, and how the board is sealed behind it.
use Rattle.std.proofs.Common.{◌≡◌, ℕ, zero, ◌+◌, ◌<◌, ◌≤◌, All, Bool, false, List, [], ◌∷◌, ◌++◌, length, take, ◌-◌, refl, sym, ap, subst, ◌∙◌, arith, length-append}
use Rattle.std.specs.Prelude.{Some}
use Rattle.std.specs.List.{Any, list_any}
use Rattle.std.proofs.Math.Seq.{take-append_seam}
use Rattle.std.proofs.lemmas.List.{map-append}
use Rattle.dk_model.specs.declared.limits.Limits.{Limits}
use Rattle.board_core.specs.declared.event.End.{End}
use Rattle.board_core.specs.declared.event.Event.{Event}
use Rattle.board_core.specs.declared.event.Event.TheVariants.{Seal}
use Rattle.board_core.specs.Events.{end_of, is_seal}
use Rattle.board_core.proofs.Histories.{end_append, first_of, unsealed}
use Rattle.task_board.specs.Histories.{events_in, tagged}
use Rattle.verdict_book.specs.declared.title.Title.{Title}
use Rattle.file_report.specs.Outcomes.{Theory}
use Rattle.file_report.specs.Jobs.{job_titles}
use Rattle.file_check.specs.declared.desk.Desk.{Desk}
use Rattle.file_check.specs.declared.job.Job.{Job}
use Rattle.file_check.specs.Jobs.{job_of}
use Rattle.file_check.specs.Desks.{IsFresh, IsReady, IsSound}

-- what stands before the last
pub before_last : (titles more : List Title) (last : Title) → more ≡ titles ++ last ∷ [] → take (length more - 1) more ≡ titles
before_last titles more last is = ap (λ ts. take (length ts - 1) ts) is ∙ ap (λ n. take (n - 1) (titles ++ last ∷ [])) (length-append titles (last ∷ [])) ∙ (let n : length titles + 1 - 1 ≡ length titles = omega arith in ap (λ k. take k (titles ++ last ∷ [])) n) ∙ take-append_seam titles (last ∷ [])

pub sound_kept : (limits : Limits) (titles back : List Title) (jobs known : List (Job × Bool)) → IsSound limits titles jobs → back ≡ titles → known ≡ jobs → IsSound limits back known
sound_kept limits titles back jobs known sound same_titles same_jobs =
    subst (λ (ts : List Title). IsSound limits ts known) (sym same_titles) (subst (λ (js : List (Job × Bool)). IsSound limits titles js) (sym same_jobs) sound)

-- one job more, with its title
pub sound_put : (limits : Limits) (titles : List Title) (title : Title) (jobs : List (Job × Bool)) (job : Job) (settled : Bool) → IsSound limits titles jobs → length titles < limits.commands
    → title ≡ (job_of job).title → IsSound limits (titles ++ title ∷ []) (jobs ++ (job, settled) ∷ [])
sound_put limits titles title jobs job settled sound room title_is =
    let more = length-append titles (title ∷ []) in
    let more_jobs = length-append jobs ((job, settled) ∷ []) in
    let as_many = sound.as_many in
    record {
      limit = sound.limit;
      few = omega (arith, more_jobs, as_many, room);
      as_many = omega (arith, more, more_jobs, as_many);
      titled =
          ap (λ ts. ts ++ title ∷ []) sound.titled
          ∙ ap (λ t. job_titles job_of jobs ++ t ∷ []) title_is
          ∙ sym (map-append (λ (j : Job × Bool). (job_of j.0).title) jobs ((job, settled) ∷ []));
    }

-- a desk to which no command was handed over is ready
pub fresh_ready : (desk : Desk) → IsFresh desk → IsReady desk
fresh_ready desk fresh = record {
  sound = record {
    limit = fresh.limit;
    few = subst (λ js. length js ≤ desk.limits.commands) (sym fresh.jobs) (omega arith);
    as_many = ap length fresh.titles ∙ sym (ap length fresh.jobs);
    titled = fresh.titles ∙ sym (ap (job_titles job_of) fresh.jobs);
  };
  counted = ap (λ (T : Theory). T.names.count) fresh.theory ∙ sym (ap length fresh.titles);
}

-- ---- the seal

end_sealed : (es : List Event) (e : End) → list_any is_seal es ≡ false → end_of (es ++ Seal e ∷ []) ≡ Some e
end_sealed es e open_ = end_append es (Seal e ∷ []) ∙ ap (λ o. first_of o (Some e)) (unsealed es open_)

-- the reader's own events end with the seal
pub own_sealed : (mine new : List (ℕ × Event)) (e : End) → new ≡ mine ++ tagged (Seal e) ∷ [] → list_any is_seal (events_in mine) ≡ false → end_of (events_in new) ≡ Some e
own_sealed mine new e is open_ =
    ap (λ l. end_of (events_in l)) is
    ∙ ap end_of (map-append (λ (x : ℕ × Event). x.1) mine (tagged (Seal e) ∷ []))
    ∙ end_sealed (events_in mine) e open_

-- ---- the passes that are back

-- what holds of each holds of some, where there is one
pub some_of : {A : Type 0} (P : A → Type 0) (xs : List A) → 0 < length xs → All P xs → Any P xs
some_of P [] some all = absurd (omega (arith, some))
some_of P (x ∷ xs) some all = (0, x, omega arith, refl, all zero x (omega arith))
