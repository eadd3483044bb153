-- A history that the law speaks of.
use Rattle.std.proofs.Common.{◌≡◌, inl, ℕ, zero, suc, ◌<◌, true, false, List, [], ◌∷◌, Option, refl, sym, subst, arith}
use Rattle.std.specs.Prelude.{All}
use Rattle.dk_model.specs.declared.limits.Limits.{Limits}
use Rattle.dk_model.specs.declared.code.Verdict.TheVariants.{Memory}
use Rattle.theory_walk.specs.Walks.{Placed, Walk}
use Rattle.board_core.specs.declared.event.End.TheVariants.{Stopped}
use Rattle.board_core.specs.declared.event.Event.TheVariants.{Put, Claim, Answer, Seal}
use Rattle.board_core.specs.Machine.{IsDue, IsLawful, MaySettle}
use Rattle.file_report.specs.Outcomes.{no_theory}
use Rattle.file_report.specs.Jobs.{AreJobsBehind, IsJobAt, TheoryJob, due_on, is_early_on}
use Rattle.file_report.specs.Histories.{ChecksTheory, EndsReading}

lawful : IsLawful (false ∷ []) (Put 1 ∷ Claim 1 1 ∷ Answer 1 1 Memory ∷ Seal Stopped ∷ [])
lawful = (
  (refl, refl, refl),
  (
    ((λ n h. (let t : false ≡ true = h in cc)), ((omega arith, omega arith, refl, refl), (λ m f. f.0), (λ m h. (let t : false ≡ true = h in cc)))),
    ((refl, refl), ((refl, refl), tt)),
  ),
)

pub memory_checks : (limits : Limits) (budget : ℕ) (own : Option (List ℕ)) (w : Walk) (c : Placed) (later : List Placed) (job : TheoryJob)
    → w.commands ≡ c ∷ later → IsJobAt limits budget own no_theory c job → 0 < limits.commands
    → ChecksTheory limits budget own (λ j. j) w ((job, false) ∷ []) (Put 1 ∷ Claim 1 1 ∷ Answer 1 1 Memory ∷ Seal Stopped ∷ [])
memory_checks limits budget own w c later job commands is some = record {
  checks = record {
    legal = record {
      lawful = lawful;
      all_put = refl;
      verdicts_due = due;
      settled_early = open_job;
    };
    finished = record {
      sealed = refl;
      answered = λ n pos put unsettled below. absurd (let lt : n < 1 = below 1 refl in omega arith);
    };
    few = some;
    jobs_are = subst (λ cs. AreJobsBehind limits budget own no_theory cs (job ∷ [])) (sym commands) (is, tt);
  };
  ends = λ e at. let same : Stopped ≡ e = cc in subst (λ x. EndsReading limits budget own w 1 x) same tt;
}
  where
    due : All (IsDue due_on ((job, false) ∷ [])) (Put 1 ∷ Claim 1 1 ∷ Answer 1 1 Memory ∷ Seal Stopped ∷ [])
    due zero d lt = tt
    due (suc zero) d lt = tt
    due (suc (suc zero)) d lt = inl refl
    due (suc (suc (suc zero))) d lt = tt
    due (suc (suc (suc (suc i)))) d lt = absurd (let l : suc (suc (suc (suc i))) < 4 = lt in omega arith)

    open_job : All (MaySettle due_on is_early_on) ((job, false) ∷ [])
    open_job zero d lt = λ h. (let t : false ≡ true = h in cc)
    open_job (suc i) d lt = absurd (let l : suc i < 1 = lt in omega arith)
