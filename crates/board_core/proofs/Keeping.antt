-- Each call keeps what the fields of a book say.
use Rattle.std.proofs.Common.{◌≡◌, ◌≢◌, ◌⊎◌, ℕ, zero, suc, ◌+◌, ◌-◌, ◌*◌, ◌^◌, ◌<◌, ◌≤◌, Bool, true, false, not, ◌||◌, cond, eqb, List, [], ◌∷◌, ◌++◌, length, get_or, set, sym, refl, ap, ◌∙◌, subst, arith, inl, inr, ⊎_elim, append_assoc, append-nil, length-set, length-append, get_or-set_other, leb, eq-eqb, le-leb, lt_of_not-le, ne_eqb, Option, Some, None}
use Rattle.std.specs.Prelude.{is_none, slice_get}
use Rattle.std.specs.List.{list_any}
use Rattle.std.proofs.lemmas.List.Folds.{list_any-append}
use Rattle.std.proofs.lemmas.List.Sums.{sum_by-append}
use Rattle.std.proofs.lemmas.List.{get_or_append_left}
use Rattle.std.proofs.Math.Seq.{get_or-append_seam}
use Rattle.std.proofs.lemmas.Grind.{get_or-set_at}
use Rattle.std.proofs.lemmas.Bool.{lt-leb, eqb-true, leb-true, leb-false}
use mathlib.Core.Logic.{dite}
use native.Mathlib.Decide.{dec_le, ℕ_discrete}
use Rattle.dk_model.specs.declared.code.Verdict.{Verdict}
use Rattle.board_core.specs.declared.event.End.{End}
use Rattle.board_core.specs.declared.event.Event.{Event}
use Rattle.board_core.specs.declared.event.Event.TheVariants.{Put, Claim, Answer, Seal}
use Rattle.board_core.specs.Events.{is_accepted, is_put, is_seal, is_fault, claims, claims_by, faults, puts, answered_verdict, is_settled}
use Rattle.board_core.specs.Machine.{IsFree, IsBelowFaults, IsClaimable, HoldsNone, Allowed, AllowedFrom}
use Rattle.board_core.specs.Kept.{Keeps, IsFaultOf, Each, Ascends}
use Rattle.board_core.specs.Parts.{lesser, fault_with, reaches, Blocked}
use Rattle.board_core.proofs.Histories.{or_left, kept_or, or_right, not_before, not_after, and_left, not_true, any_snoc, any_same, any_kept, any_hit, any_cases, puts_snoc, claimed_by, no_fault, fault_any, first_of, unanswered, verdict_same, verdict_new, verdict_kept, verdict_faults, unsealed, end_append, end_same, count_answered}
use Rattle.board_core.proofs.Lawful.{lawful_snoc, not_answered}

pub each_map : {X : Type 0} (P Q : X → Type 0) → ((x : X) → P x → Q x) → (xs : List X) → Each P xs → Each Q xs
each_map P Q f [] h = tt
each_map P Q f (x ∷ xs) h = (f x h.0, each_map P Q f xs h.1)

pub each_both : {X : Type 0} (P Q R : X → Type 0) → ((x : X) → P x → Q x → R x) → (xs : List X) → Each P xs → Each Q xs → Each R xs
each_both P Q R f [] h i = tt
each_both P Q R f (x ∷ xs) h i = (f x h.0 i.0, each_both P Q R f xs h.1 i.1)

pub each_snoc : {X : Type 0} (P : X → Type 0) (xs : List X) (y : X) → Each P xs → P y → Each P (xs ++ y ∷ [])
each_snoc P [] y h p = (p, tt)
each_snoc P (x ∷ xs) y h p = (h.0, each_snoc P xs y h.1 p)

each_at : (P : ℕ → Type 0) (ns : List ℕ) (m : ℕ) → Each P ns → list_any (λ n. eqb n m) ns ≡ true → P m
each_at P [] m h i = cc
each_at P (n ∷ ns) m h i = ⊎_elim (λ t. subst P (eqb-true n m t) h.0) (λ t. each_at P ns m h.1 t) (or_left (eqb n m) (list_any (λ k. eqb k m) ns) i)

ascends_snoc : (ns : List ℕ) (m : ℕ) → Ascends ns → Each (λ n. n < m) ns → Ascends (ns ++ m ∷ [])
ascends_snoc [] m a h = (tt, tt)
ascends_snoc (n ∷ ns) m a h = (each_snoc (λ k. n < k) ns m a.0 h.0, ascends_snoc ns m a.1 h.1)

-- an event that puts and claims nothing frees nothing
quiet : (marks : List Bool) (es : List Event) (e : Event) → is_put e ≡ false → ((n : ℕ) → claims n e ≡ false) → (n : ℕ) → IsFree marks es n → IsFree marks (es ++ e ∷ []) n
quiet marks es e p c n f = let t = puts_snoc es e in let u : ◌≡◌ {A = ℕ} (cond (is_put e) 1 0) 0 = ap (λ b. cond b 1 0) p in let v = f.1 in (f.0, omega (arith, t, u, v), f.2, any_same (claims n) es e (c n) ∙ f.3)

unquiet : (marks : List Bool) (es : List Event) (e : Event) → is_put e ≡ false → ((n : ℕ) → claims n e ≡ false) → (n : ℕ) → IsFree marks (es ++ e ∷ []) n → IsFree marks es n
unquiet marks es e p c n f = let t = puts_snoc es e in let u : ◌≡◌ {A = ℕ} (cond (is_put e) 1 0) 0 = ap (λ b. cond b 1 0) p in let v = f.1 in (f.0, omega (arith, t, u, v), f.2, sym (any_same (claims n) es e (c n)) ∙ f.3)

-- an event that is no fault changes no first fault
fault_same : (es : List Event) (e : Event) (f : Option (ℕ × Verdict)) → is_fault e ≡ false → IsFaultOf es f → IsFaultOf (es ++ e ∷ []) f
fault_same es e None q h = any_same is_fault es e q ∙ h
fault_same es e (Some f) q h = (
  (verdict_kept f.0 f.1 es (e ∷ []) h.0.0, h.0.1, λ m t. ⊎_elim (h.0.2 m) (λ u. let n = no_fault m e q in cc) (any_cases (faults m) es e t)),
  any_kept is_fault es (e ∷ []) h.1,
)

faults_same : (m w n : ℕ) (v : Verdict) → faults m (Answer w n v) ≡ true → n ≡ m
faults_same m w n v u = eqb-true n m (and_left (eqb n m) (not (is_accepted v)) u)

fault_new : (es : List Event) (w n : ℕ) (v : Verdict) (f : Option (ℕ × Verdict)) → is_accepted v ≡ false → answered_verdict n es ≡ None → IsFaultOf es f → IsFaultOf (es ++ Answer w n v ∷ []) (lesser f n v)
fault_new es w n v None q none h = let e = Answer w n v in (
  (verdict_new w n v es [] none, q, λ m t. ⊎_elim (λ u. let bad = fault_any m es u in cc) (λ u. let same = faults_same m w n v u in omega arith) (any_cases (faults m) es e t)),
  any_hit is_fault es e (ap not q),
)
fault_new es w n v (Some f) q none h = let e = Answer w n v in
    let least : (m : ℕ) → list_any (faults m) (es ++ e ∷ []) ≡ true → (f.0 ≤ m) ⊎ (n ≡ m) = λ m t. ⊎_elim (λ u. inl (h.0.2 m u)) (λ u. inr (faults_same m w n v u)) (any_cases (faults m) es e t) in
    let bad : list_any is_fault (es ++ e ∷ []) ≡ true = any_hit is_fault es e (ap not q) in
    pick least bad (dec_le f.0 n)
  where
    pick : ((m : ℕ) → list_any (faults m) (es ++ Answer w n v ∷ []) ≡ true → (f.0 ≤ m) ⊎ (n ≡ m)) → list_any is_fault (es ++ Answer w n v ∷ []) ≡ true → Dec (f.0 ≤ n)
        → IsFaultOf (es ++ Answer w n v ∷ []) (cond (leb f.0 n) (Some f) (Some (n, v)))
    pick least bad (yes d) = rw le-leb ((verdict_kept f.0 f.1 es (Answer w n v ∷ []) h.0.0, h.0.1, λ m t. ⊎_elim (λ u. u) (λ u. omega arith) (least m t)), bad)
    pick least bad (no d) = let lt : n < f.0 = lt_of_not-le d in rw lt-leb ((verdict_new w n v es [] none, q, λ m t. ⊎_elim (λ u. omega arith) (λ u. omega arith) (least m t)), bad)

fault_answered : (es : List Event) (w n : ℕ) (v : Verdict) (f : Option (ℕ × Verdict)) (b : Bool) → is_accepted v ≡ b → answered_verdict n es ≡ None → IsFaultOf es f → IsFaultOf (es ++ Answer w n v ∷ []) (cond b f (lesser f n v))
fault_answered es w n v f true q none h = fault_same es (Answer w n v) f (ap not q) h
fault_answered es w n v f false q none h = fault_new es w n v f q none h

pub get_left : {X : Type 0} (xs ys : List X) (i : ℕ) (x : X) → slice_get xs i ≡ Some x → slice_get (xs ++ ys) i ≡ Some x
get_left [] ys i x h = cc
get_left (y ∷ xs) ys zero x h = h
get_left (y ∷ xs) ys (suc i) x h = get_left xs ys i x h

pub get_last : {X : Type 0} (xs : List X) (y : X) → slice_get (xs ++ y ∷ []) (length xs) ≡ Some y
get_last [] y = refl
get_last (x ∷ xs) y = get_last xs y

past : (es : List Event) (f : Option (ℕ × Verdict)) → IsFaultOf es f → (n : ℕ) → reaches f n ≡ false → IsBelowFaults es n
past es None h n r m bad = let t = fault_any m es bad in cc
past es (Some f) h n r m bad = let t = h.0.2 m bad in let u = leb-false f.0 n r in omega (arith, t, u)

not_past : (es : List Event) (f : Option (ℕ × Verdict)) → IsFaultOf es f → (n m : ℕ) → reaches f n ≡ true → n ≤ m → ¬ IsBelowFaults es m
not_past es None h n m r above all = cc
not_past es (Some f) h n m r above all = let t = all f.0 (verdict_faults f.0 f.1 es h.0.0 h.0.1) in let u = leb-true f.0 n r in omega (arith, t, u)

module _ {room : ℕ} {marks : List Bool} {waiting : List ℕ} {verdicts : List (Option Verdict)} {fault : Option (ℕ × Verdict)} {end : Option End} {es : List Event} (k : Keeps room marks waiting verdicts fault end es) where
  -- a claimed number has its place
  pub inside : (w n : ℕ) → list_any (claims_by w n) es ≡ true → (0 < n) × (n ≤ length marks)
  inside w n by = k.only_put n (claimed_by w n es by)

  pub at_verdict : (w n : ℕ) (v : Verdict) → Allowed marks es (Answer w n v) → (0 < n) × (n - 1 < length verdicts) × (get_or verdicts (n - 1) None ≡ None) × (answered_verdict n es ≡ None)
  at_verdict w n v ok = let here = inside w n ok.0 in let none = unanswered n es (not_answered marks es k.lawful w n ok.0 ok.1) in
      (here.0, omega (arith, k.as_many, here), k.verdicts_kept n here.0 ∙ none, none)

  -- an answer has its place in the history
  pub answer_room : (w n : ℕ) (v : Verdict) → Allowed marks es (Answer w n v) → length es < room
  answer_room w n v ok = let t = at_verdict w n v ok in let one = count_answered verdicts (n - 1) v t.1 t.2 in omega (arith, one, k.few_events, k.has_room)

  pub answer_keeps : (w n : ℕ) (v : Verdict) → Allowed marks es (Answer w n v) → Keeps room marks waiting (set verdicts (n - 1) (Some v)) (fault_with fault n v) end (es ++ Answer w n v ∷ [])
  answer_keeps w n v ok = let e = Answer w n v in let at = at_verdict w n v ok in let inside = at.1 in let one = count_answered verdicts (n - 1) v at.1 at.2 in record {
    few = k.few;
    as_many = length-set verdicts (n - 1) (Some v) ∙ k.as_many;
    all_put = (let t = puts_snoc es e in let u = k.all_put in omega (arith, t, u));
    only_put = λ m h. k.only_put m (sym (any_same (claims m) es e refl) ∙ h);
    waits = each_map (IsFree marks es) (IsFree marks (es ++ e ∷ [])) (quiet marks es e refl (λ m. refl)) waiting k.waits;
    all_wait = λ m h. k.all_wait m (unquiet marks es e refl (λ m. refl) m h);
    in_order = k.in_order;
    verdicts_kept = λ m h. dite (ℕ_discrete m n)
        (λ i. let j : m - 1 ≡ n - 1 = omega arith in get_or-set_at verdicts (n - 1) (m - 1) (Some v) None j inside ∙ sym (subst (λ z. answered_verdict z (es ++ e ∷ []) ≡ Some v) (sym i) (verdict_new w n v es [] at.3)))
        (λ ne. let pos = at.0 in let o : (m - 1) ≢ (n - 1) = λ x. ne (omega (arith, x, pos, h)) in let miss : eqb n m ≡ false = ne_eqb n m (λ x. ne (sym x)) in get_or-set_other verdicts (n - 1) (m - 1) (Some v) None o ∙ (k.verdicts_kept m h ∙ sym (verdict_same m es e miss)));
    fault_kept = fault_answered es w n v fault (is_accepted v) refl at.3 k.fault_kept;
    end_kept = end_same es e refl ∙ k.end_kept;
    few_events = (let t = length-append es (e ∷ []) in let u = k.few_events in omega (arith, t, u, one));
    has_room = k.has_room;
    lawful = lawful_snoc marks [] es e k.lawful ok;
  }

  no_end : list_any is_seal es ≡ false → end ≡ None
  no_end h = sym k.end_kept ∙ unsealed es h

  pub seal_room : list_any is_seal es ≡ false → length es < room
  seal_room h = let one : ◌≡◌ {A = ℕ} (cond (is_none end) 1 0) 1 = ap (λ x. cond (is_none x) 1 0) (no_end h) in omega (arith, one, k.few_events, k.has_room)

  pub seal_keeps : (x : End) → Allowed marks es (Seal x) → Keeps room marks waiting verdicts fault (Some x) (es ++ Seal x ∷ [])
  seal_keeps x ok = let e = Seal x in let one : ◌≡◌ {A = ℕ} (cond (is_none end) 1 0) 1 = ap (λ x. cond (is_none x) 1 0) (no_end ok.0) in record {
    few = k.few;
    as_many = k.as_many;
    all_put = (let t = puts_snoc es e in let u = k.all_put in omega (arith, t, u));
    only_put = λ m h. k.only_put m (sym (any_same (claims m) es e refl) ∙ h);
    waits = each_map (IsFree marks es) (IsFree marks (es ++ e ∷ [])) (quiet marks es e refl (λ m. refl)) waiting k.waits;
    all_wait = λ m h. k.all_wait m (unquiet marks es e refl (λ m. refl) m h);
    in_order = k.in_order;
    verdicts_kept = λ m h. k.verdicts_kept m h ∙ sym (verdict_same m es e refl);
    fault_kept = fault_same es e fault refl k.fault_kept;
    end_kept = end_append es (e ∷ []) ∙ ap (λ o. first_of o (Some x)) (unsealed es ok.0);
    few_events = (let t = length-append es (e ∷ []) in let u = k.few_events in omega (arith, t, u, one));
    has_room = k.has_room;
    lawful = lawful_snoc marks [] es e k.lawful ok;
  }

  pub roomier : (room' : ℕ) → room ≤ room' → Keeps room' marks waiting verdicts fault end es
  roomier room' more = let h = k.has_room in record {
    few = k.few;
    as_many = k.as_many;
    all_put = k.all_put;
    only_put = k.only_put;
    waits = k.waits;
    all_wait = k.all_wait;
    in_order = k.in_order;
    verdicts_kept = k.verdicts_kept;
    fault_kept = k.fault_kept;
    end_kept = k.end_kept;
    few_events = k.few_events;
    has_room = omega (arith, h, more);
    lawful = k.lawful;
  }

module _ {room : ℕ} {marks : List Bool} {verdicts : List (Option Verdict)} {fault : Option (ℕ × Verdict)} {end : Option End} {es : List Event} where
  -- nothing waits, or the first that waits lies past the fault
  pub drained : (waiting : List ℕ) → Keeps room marks waiting verdicts fault end es → Blocked fault waiting → (n : ℕ) → ¬ IsClaimable marks es n
  drained [] k b n c = let t = k.all_wait n c.0 in cc
  drained (m ∷ ns) k b n c = not_past es fault k.fault_kept m n b (first_least m ns k n c.0) c.2
    where
      first_least : (m : ℕ) (ns : List ℕ) → Keeps room marks (m ∷ ns) verdicts fault end es → (n : ℕ) → IsFree marks es n → m ≤ n
      first_least m ns k n f = ⊎_elim (λ t. let i = eqb-true m n t in omega arith) (λ t. let i = each_at (λ n. m < n) ns n k.in_order.0 t in omega arith) (or_left (eqb m n) (list_any (λ j. eqb j n) ns) (k.all_wait n f))

  module _ {n : ℕ} {ns : List ℕ} (k : Keeps room marks (n ∷ ns) verdicts fault end es) where
    first_least : (m : ℕ) → IsFree marks es m → n ≤ m
    first_least m f = ⊎_elim (λ t. let i = eqb-true n m t in omega arith) (λ t. let i = each_at (λ m. n < m) ns m k.in_order.0 t in omega arith) (or_left (eqb n m) (list_any (λ j. eqb j m) ns) (k.all_wait m f))

    pub may_claim : (w : ℕ) → reaches fault n ≡ false → HoldsNone w es → Allowed marks es (Claim w n)
    may_claim w r none = (none, (k.waits.0, first_least, past es fault k.fault_kept n r))

    pub claim_room : length es < room
    claim_room = omega (arith, k.few_events, k.has_room)

    pub claim_keeps : (w : ℕ) → Allowed marks es (Claim w n) → Keeps room marks ns verdicts fault end (es ++ Claim w n ∷ [])
    claim_keeps w ok = let e = Claim w n in record {
      few = k.few;
      as_many = k.as_many;
      all_put = (let t = puts_snoc es e in let u = k.all_put in omega (arith, t, u));
      only_put = λ m h. ⊎_elim (k.only_put m) (λ u. let i = eqb-true n m u in let f = k.waits.0 in let a = f.0 in let b = f.1 in let c = k.all_put in (omega (arith, i, a), omega (arith, i, b, c))) (any_cases (claims m) es e h);
      waits = each_both (IsFree marks es) (λ m. n < m) (IsFree marks (es ++ e ∷ [])) (λ m f above. let t = puts_snoc es e in let b = f.1 in (f.0, omega (arith, t, b), f.2, any_same (claims m) es e (ne_eqb n m (λ x. omega arith)) ∙ f.3)) ns k.waits.1 k.in_order.0;
      all_wait = λ m f. let un : list_any (claims m) es ≡ false = not_before (list_any (claims m) es) (eqb n m) (sym (any_snoc (claims m) es e) ∙ f.3) in
          let other : eqb n m ≡ false = not_after (list_any (claims m) es) (eqb n m) (sym (any_snoc (claims m) es e) ∙ f.3) in
          let t = puts_snoc es e in let b = f.1 in
          ⊎_elim (λ u. cc) (λ u. u) (or_left (eqb n m) (list_any (λ j. eqb j m) ns) (k.all_wait m (f.0, omega (arith, t, b), f.2, un)));
      in_order = k.in_order.1;
      verdicts_kept = λ m h. k.verdicts_kept m h ∙ sym (verdict_same m es e refl);
      fault_kept = fault_same es e fault refl k.fault_kept;
      end_kept = end_same es e refl ∙ k.end_kept;
      few_events = (let t = length-append es (e ∷ []) in let u = k.few_events in omega (arith, t, u));
      has_room = k.has_room;
      lawful = lawful_snoc marks [] es e k.lawful ok;
    }

get_snoc : {X : Type 0} (xs : List X) (d : X) (i : ℕ) → get_or (xs ++ d ∷ []) i d ≡ get_or xs i d
get_snoc [] d zero = refl
get_snoc [] d (suc i) = refl
get_snoc (x ∷ xs) d zero = refl
get_snoc (x ∷ xs) d (suc i) = get_snoc xs d i

settled_before : (marks : List Bool) (s : Bool) (n : ℕ) → 0 < n → n ≤ length marks → is_settled (marks ++ s ∷ []) n ≡ is_settled marks n
settled_before marks s n a b = get_or_append_left marks (s ∷ []) false (n - 1) (omega arith)

settled_last : (marks : List Bool) (s : Bool) → is_settled (marks ++ s ∷ []) (length marks + 1) ≡ s
settled_last marks s = let i : (length marks + 1) - 1 ≡ length marks = omega arith in ap (λ j. get_or (marks ++ s ∷ []) j false) i ∙ get_or-append_seam marks s [] false

free_wider : (marks : List Bool) (s : Bool) (before : List Event) (n : ℕ) → puts before ≤ length marks → IsFree marks before n → IsFree (marks ++ s ∷ []) before n
free_wider marks s before n few f = let a = f.0 in let b = f.1 in (a, b, settled_before marks s n a (omega arith) ∙ f.2, f.3)

free_back : (marks : List Bool) (s : Bool) (before : List Event) (n : ℕ) → puts before ≤ length marks → IsFree (marks ++ s ∷ []) before n → IsFree marks before n
free_back marks s before n few f = let a = f.0 in let b = f.1 in (a, b, sym (settled_before marks s n a (omega arith)) ∙ f.2, f.3)

allowed_wider : (marks : List Bool) (s : Bool) (before : List Event) (e : Event) → puts before ≤ length marks → Allowed marks before e → Allowed (marks ++ s ∷ []) before e
allowed_wider marks s before (Put n) few a = a
allowed_wider marks s before (Claim w n) few a = (a.0, (free_wider marks s before n few a.1.0, (λ m f. a.1.1 m (free_back marks s before m few f)), a.1.2))
allowed_wider marks s before (Answer w n v) few a = a
allowed_wider marks s before (Seal e) few a = a

lawful_wider : (marks : List Bool) (s : Bool) (before es : List Event) → puts (before ++ es) ≤ length marks → AllowedFrom marks before es → AllowedFrom (marks ++ s ∷ []) before es
lawful_wider marks s before [] few a = tt
lawful_wider marks s before (x ∷ es) few a = let p = sum_by-append (λ e. cond (is_put e) 1 0) before (x ∷ es) in
    (allowed_wider marks s before x (omega (arith, p, few)) a.0, lawful_wider marks s (before ++ x ∷ []) es (rw append_assoc few) a.1)

-- the number that comes to wait, unless it is settled
abbrev pub newcomer : Bool → ℕ → List ℕ
newcomer true n = []
newcomer false n = n ∷ []

module _ {room : ℕ} {marks : List Bool} {waiting : List ℕ} {verdicts : List (Option Verdict)} {fault : Option (ℕ × Verdict)} {end : Option End} {es : List Event} (k : Keeps room marks waiting verdicts fault end es) where
  abbrev the_number : ℕ
  the_number = length marks + 1

  unclaimed : list_any (claims the_number) es ≡ false
  unclaimed = not_true (list_any (claims the_number) es) (λ h. let t = k.only_put the_number h in omega (arith, t))

  old_free : (s : Bool) (m : ℕ) → IsFree marks es m → IsFree (marks ++ s ∷ []) (es ++ Put the_number ∷ []) m
  old_free s m f = let t = puts_snoc es (Put the_number) in let a = f.0 in let b = f.1 in let put = k.all_put in
      (a, omega (arith, t, b), settled_before marks s m a (omega (arith, b, put)) ∙ f.2, any_same (claims m) es (Put the_number) refl ∙ f.3)

  was_free : (s : Bool) (m : ℕ) → IsFree (marks ++ s ∷ []) (es ++ Put the_number ∷ []) m → m ≤ length marks → IsFree marks es m
  was_free s m f within = let a = f.0 in let put = k.all_put in
      (a, omega (arith, put, within), sym (settled_before marks s m a within) ∙ f.2, sym (any_same (claims m) es (Put the_number) refl) ∙ f.3)

  new_free : IsFree (marks ++ false ∷ []) (es ++ Put the_number ∷ []) the_number
  new_free = let t = puts_snoc es (Put the_number) in let put = k.all_put in
      (omega arith, omega (arith, t, put), settled_last marks false, any_same (claims the_number) es (Put the_number) refl ∙ unclaimed)

  waits_then : (s : Bool) → Each (IsFree (marks ++ s ∷ []) (es ++ Put the_number ∷ [])) (waiting ++ newcomer s the_number)
  waits_then true = rw append-nil (each_map (IsFree marks es) (IsFree (marks ++ true ∷ []) (es ++ Put the_number ∷ [])) (old_free true) waiting k.waits)
  waits_then false = each_snoc (IsFree (marks ++ false ∷ []) (es ++ Put the_number ∷ [])) waiting the_number (each_map (IsFree marks es) (IsFree (marks ++ false ∷ []) (es ++ Put the_number ∷ [])) (old_free false) waiting k.waits) new_free

  all_wait_then : (s : Bool) (m : ℕ) → IsFree (marks ++ s ∷ []) (es ++ Put the_number ∷ []) m → list_any (λ j. eqb j m) (waiting ++ newcomer s the_number) ≡ true
  all_wait_then s m f = dite (dec_le m (length marks))
      (λ within. list_any-append (λ j. eqb j m) waiting (newcomer s the_number) ∙ kept_or (list_any (λ j. eqb j m) waiting) (list_any (λ j. eqb j m) (newcomer s the_number)) (k.all_wait m (was_free s m f within)))
      (λ above. let t = puts_snoc es (Put the_number) in let put = k.all_put in let b = f.1 in let is : m ≡ the_number = omega (arith, t, put, b, above) in last s (subst (λ z. is_settled (marks ++ s ∷ []) z ≡ false) is f.2) is)
    where
      last : (s : Bool) → is_settled (marks ++ s ∷ []) the_number ≡ false → m ≡ the_number → list_any (λ j. eqb j m) (waiting ++ newcomer s the_number) ≡ true
      last true h is = let t = settled_last marks true in cc
      last false h is = list_any-append (λ j. eqb j m) waiting (the_number ∷ []) ∙ or_right (list_any (λ j. eqb j m) waiting) (eqb the_number m || false) (kept_or (eqb the_number m) false (eq-eqb the_number m (sym is)))

  in_order_then : (s : Bool) → Ascends (waiting ++ newcomer s the_number)
  in_order_then true = rw append-nil k.in_order
  in_order_then false = ascends_snoc waiting the_number k.in_order (each_map (IsFree marks es) (λ n. n < the_number) (λ n f. let b = f.1 in let put = k.all_put in omega (arith, b, put)) waiting k.waits)

  fewer : (s : Bool) → length (waiting ++ newcomer s the_number) ≤ length waiting + 1
  fewer true = rw append-nil (omega arith)
  fewer false = omega (arith, length-append waiting (the_number ∷ []))

  pub put_keeps : (room' : ℕ) (s : Bool) → 3 * (length marks + 1) + 1 ≤ room' → length marks < 2 ^ 32 - 2 → list_any is_seal es ≡ false → list_any is_fault es ≡ false
      → Keeps room' (marks ++ s ∷ []) (waiting ++ newcomer s the_number) (verdicts ++ None ∷ []) fault end (es ++ Put the_number ∷ [])
  put_keeps room' s more few unsealed good = let e = Put the_number in let put = k.all_put in
      let wide : length (marks ++ s ∷ []) ≡ length marks + 1 = omega (arith, length-append marks (s ∷ [])) in record {
        few = omega (arith, wide, few);
        as_many = (let t = length-append verdicts (None ∷ []) in omega (arith, t, wide, k.as_many));
        all_put = (let t = puts_snoc es e in omega (arith, t, put, wide));
        only_put = λ m h. let t = k.only_put m (sym (any_same (claims m) es e refl) ∙ h) in (t.0, omega (arith, t, wide));
        waits = waits_then s;
        all_wait = all_wait_then s;
        in_order = in_order_then s;
        verdicts_kept = λ m h. get_snoc verdicts None (m - 1) ∙ (k.verdicts_kept m h ∙ sym (verdict_same m es e refl));
        fault_kept = fault_same es e fault refl k.fault_kept;
        end_kept = end_same es e refl ∙ k.end_kept;
        few_events = (let a = length-append es (e ∷ []) in let b = fewer s in let c = sum_by-append (λ x. cond (is_none x) 1 0) verdicts (None ∷ []) in let u = k.few_events in omega (arith, a, b, c, u, wide));
        has_room = omega (arith, wide, more);
        lawful = lawful_snoc (marks ++ s ∷ []) [] es e (lawful_wider marks s [] es (omega (arith, put)) k.lawful) (omega (arith, put), unsealed, good);
      }
