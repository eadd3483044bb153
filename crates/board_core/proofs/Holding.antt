-- The same with the jobs themselves, which wait with their numbers.
use Rattle.std.proofs.Common.{◌≡◌, ℕ, suc, ◌+◌, ◌-◌, ◌*◌, ◌^◌, ◌<◌, ◌≤◌, Bool, true, false, List, [], ◌∷◌, ◌++◌, length, refl, ap, ◌∙◌, subst, arith, inl, inr, append-nil, Option, Some, None}
use Rattle.std.specs.Prelude.{slice_get, is_some}
use Rattle.std.specs.List.{list_any}
use Rattle.std.proofs.lemmas.List.{map-append}
use Rattle.dk_model.specs.declared.code.Verdict.{Verdict}
use Rattle.board_core.specs.declared.event.End.{End}
use Rattle.board_core.specs.declared.event.Event.{Event}
use Rattle.board_core.specs.declared.event.Event.TheVariants.{Put, Claim}
use Rattle.board_core.specs.Events.{is_seal, is_fault, end_of}
use Rattle.board_core.specs.Machine.{HoldsNone, Allowed, marks_of}
use Rattle.board_core.specs.Shown.{HoldsGiven, Shown, ClaimReply, IsDrained}
use Rattle.board_core.specs.Kept.{Keeps, IsFaultOf, Each, IsOwn, numbers}
use Rattle.board_core.specs.Parts.{reaches, Blocked, idle_reply, newcomers}
use Rattle.board_core.proofs.Histories.{sealed, open_end}
use Rattle.board_core.proofs.Keeping.{each_map, each_snoc, get_left, get_last, newcomer, drained, may_claim, claim_room, claim_keeps, put_keeps}

marks_snoc : {J : Type 0} (jobs : List (J × Bool)) (j : J) (s : Bool) → marks_of (jobs ++ (j, s) ∷ []) ≡ marks_of jobs ++ s ∷ []
marks_snoc jobs j s = map-append (λ x. x.1) jobs ((j, s) ∷ [])

numbers_snoc : {J : Type 0} (ws : List (ℕ × J)) (j : J) (s : Bool) (n : ℕ) → numbers (ws ++ newcomers n j s) ≡ numbers ws ++ newcomer s n
numbers_snoc ws j true n = map-append (λ w. w.0) ws []
numbers_snoc ws j false n = map-append (λ w. w.0) ws ((n, j) ∷ [])

pub count_marks : {J : Type 0} (jobs : List (J × Bool)) → length (marks_of jobs) ≡ length jobs
count_marks [] = refl
count_marks (j ∷ jobs) = ap suc (count_marks jobs)

own_then : {J : Type 0} (jobs : List (J × Bool)) (ws : List (ℕ × J)) (j : J) (s : Bool) → Each (IsOwn jobs) ws
    → Each (IsOwn (jobs ++ (j, s) ∷ [])) (ws ++ newcomers (length jobs + 1) j s)
own_then jobs ws j true h = rw append-nil (each_map (IsOwn jobs) (IsOwn (jobs ++ (j, true) ∷ [])) (λ w t. get_left jobs ((j, true) ∷ []) (w.0 - 1) (w.1, false) t) ws h)
own_then jobs ws j false h = each_snoc (IsOwn (jobs ++ (j, false) ∷ [])) ws (length jobs + 1, j)
    (each_map (IsOwn jobs) (IsOwn (jobs ++ (j, false) ∷ [])) (λ w t. get_left jobs ((j, false) ∷ []) (w.0 - 1) (w.1, false) t) ws h)
    (let i : (length jobs + 1) - 1 ≡ length jobs = omega arith in ap (λ k. slice_get (jobs ++ (j, false) ∷ []) k) i ∙ get_last jobs (j, false))

module _ {J : Type 0} {room : ℕ} (jobs : List (J × Bool)) (ws : List (ℕ × J)) {verdicts : List (Option Verdict)} {fault : Option (ℕ × Verdict)} {end : Option End} {es : List Event} where
  pub put_holds : Keeps room (marks_of jobs) (numbers ws) verdicts fault end es → Each (IsOwn jobs) ws → (room' n : ℕ) (j : J) (s : Bool)
      → n ≡ length jobs + 1 → 3 * (length jobs + 1) + 1 ≤ room' → length jobs < 2 ^ 32 - 2 → list_any is_seal es ≡ false → list_any is_fault es ≡ false
      → (jobs' : List (J × Bool)) (ws' : List (ℕ × J)) (verdicts' : List (Option Verdict)) (es' : List Event)
      → jobs' ≡ jobs ++ (j, s) ∷ [] → ws' ≡ ws ++ newcomers n j s → verdicts' ≡ verdicts ++ None ∷ [] → es' ≡ es ++ Put n ∷ []
      → Keeps room' (marks_of jobs') (numbers ws') verdicts' fault end es' × Each (IsOwn jobs') ws'
  put_holds k h room' n j s is more few unsealed good jobs' ws' verdicts' es' ej ew ev ee = let count = count_marks jobs in let is' : n ≡ length (marks_of jobs) + 1 = omega (arith, is, count) in
      rw (ej, ew, ev, ee) (
        rw (marks_snoc jobs j s, numbers_snoc ws j s n, is') (put_keeps k room' s (omega (arith, count, more)) (omega (arith, count, few)) unsealed good),
        rw is (own_then jobs ws j s h),
      )

  pub claim_holds : Keeps room (marks_of jobs) (numbers ws) verdicts fault end es → Each (IsOwn jobs) ws → (w n : ℕ) (j : J) (rest : List (ℕ × J))
      → ws ≡ (n, j) ∷ rest → reaches fault n ≡ false → HoldsNone w es
      → (length es < room) × Allowed (marks_of jobs) es (Claim w n) × (slice_get jobs (n - 1) ≡ Some (j, false)) × Keeps room (marks_of jobs) (numbers rest) verdicts fault end (es ++ Claim w n ∷ []) × Each (IsOwn jobs) rest
  claim_holds k h w n j rest e r none = let k' = subst (λ l. Keeps room (marks_of jobs) (numbers l) verdicts fault end es) e k in let h' = subst (Each (IsOwn jobs)) e h in
      let ok = may_claim k' w r none in (claim_room k', ok, h'.0, claim_keeps k' w ok, h'.1)

idle_replies : {J : Type 0} (b : Shown J) (w : ℕ) (end : Option End) (fault : Option (ℕ × Verdict)) → end_of b.events ≡ end → IsFaultOf b.events fault → IsDrained b → ClaimReply b w (idle_reply (is_some end) fault) b
idle_replies b w (Some x) f s h none = (refl, none, inl (sealed b.events x s))
idle_replies b w None None s h none = (refl, none, open_end b.events s, h)
idle_replies b w None (Some f) s h none = (refl, none, inr h.1)

pub idles : {J : Type 0} (b : Shown J) {room : ℕ} {waiting : List ℕ} {verdicts : List (Option Verdict)} {fault : Option (ℕ × Verdict)} {end : Option End} (w : ℕ)
    → Keeps room (marks_of b.jobs) waiting verdicts fault end b.events → Blocked fault waiting → ClaimReply b w (idle_reply (is_some end) fault) b
idles b {waiting = waiting} {fault = fault} {end = end} w k blocked = idle_replies b w end fault k.end_kept k.fault_kept (drained waiting k blocked)

pub idle_holds : (J : Type 0) (w : ℕ) (sealed : Bool) (fault : Option (ℕ × Verdict)) (es : List Event) → HoldsNone w es → HoldsGiven {J = J} w (idle_reply sealed fault) es
idle_holds J w true f es h = h
idle_holds J w false None es h = h
idle_holds J w false (Some f) es h = h
