-- A lawful history, event by event, over the jobs put so far.
use Rattle.std.proofs.Common.{◌≡◌, ℕ, zero, suc, ◌+◌, ◌-◌, ◌<◌, ◌≤◌, Bool, false, cond, List, [], ◌∷◌, ◌++◌, length, take, drop, get_or, sym, refl, ap, ◌∙◌, subst, arith, add-zero, Some}
use Rattle.std.specs.Prelude.{slice_get}
use Rattle.std.specs.List.{list_any}
use Rattle.std.proofs.lemmas.List.{take_more, get_or-take, take-map, take-append-drop, length-take-le}
use Rattle.std.proofs.Math.Seq.{take-length}
use Rattle.std.proofs.lemmas.List.Sums.{sum_by-append}
use Rattle.board_core.specs.declared.event.Event.{Event}
use Rattle.board_core.specs.declared.event.Event.TheVariants.{Put, Claim, Answer, Seal}
use Rattle.board_core.specs.Events.{is_put, is_seal, is_fault, puts, is_settled}
use Rattle.board_core.specs.Machine.{IsFree, Allowed, IsLawful, marks_of}
use Rattle.board_core.specs.Shown.{Shown, added, put_on, part_of}
use Rattle.board_core.proofs.Histories.{puts_snoc}
use Rattle.board_core.proofs.Lawful.{allowed_at, lawful_before}

settled_within : (marks : List Bool) (p n : ℕ) → 0 < n → n ≤ p → is_settled (take p marks) n ≡ is_settled marks n
settled_within marks p n a b = get_or-take p marks (n - 1) false (omega arith)

free_narrow : (marks : List Bool) (es : List Event) (n : ℕ) → IsFree marks es n → IsFree (take (puts es) marks) es n
free_narrow marks es n f = (f.0, f.1, settled_within marks (puts es) n f.0 f.1 ∙ f.2, f.3)

free_wide : (marks : List Bool) (es : List Event) (n : ℕ) → IsFree (take (puts es) marks) es n → IsFree marks es n
free_wide marks es n f = (f.0, f.1, sym (settled_within marks (puts es) n f.0 f.1) ∙ f.2, f.3)

-- what is allowed at all jobs is allowed at those put so far
allowed_narrow : (marks : List Bool) (es : List Event) (e : Event) → Allowed marks es e → Allowed (take (puts es) marks) es e
allowed_narrow marks es (Put n) a = a
allowed_narrow marks es (Claim w n) a = (a.0, (free_narrow marks es n a.1.0, (λ m f. a.1.1 m (free_wide marks es m f)), a.1.2))
allowed_narrow marks es (Answer w n v) a = a
allowed_narrow marks es (Seal x) a = a

-- an element read with itself as its default
pub got : {X : Type 0} (l : List X) (i : ℕ) (x : X) → slice_get l i ≡ Some x → get_or l i x ≡ x
got [] i x h = refl
got (y ∷ l) zero x h = cc
got (y ∷ l) (suc i) x h = got l i x h

module _ {J : Type 0} (jobs : List (J × Bool)) (b : Shown J) (part : b ≡ part_of jobs b.events) where
  pub jobs_then : b.jobs ≡ take (puts b.events) jobs
  jobs_then = ap (λ c. c.jobs) part

  pub allowed_next : (e : Event) → IsLawful (marks_of jobs) (b.events ++ e ∷ []) → Allowed (marks_of b.jobs) b.events e
  allowed_next e a = let t = allowed_narrow (marks_of jobs) b.events e (allowed_at (marks_of jobs) b.events e [] a) in
      subst (λ m. Allowed m b.events e) (take-map (λ x. x.1) (puts b.events) jobs ∙ sym (ap marks_of jobs_then)) t

  -- an event that puts nothing
  pub part_next : (e : Event) → is_put e ≡ false → added b e ≡ part_of jobs (b.events ++ e ∷ [])
  part_next e h = let p : puts (b.events ++ e ∷ []) ≡ puts b.events = puts_snoc b.events e ∙ (ap (λ c. puts b.events + cond c 1 0) h ∙ add-zero (puts b.events)) in
      λ i. record { jobs = (jobs_then ∙ ap (λ n. take n jobs) (sym p)) i; events = b.events ++ e ∷ [] }

  pub least_same : (w n m : ℕ) → Allowed (marks_of b.jobs) b.events (Claim w n) → Allowed (marks_of b.jobs) b.events (Claim w m) → m ≡ n
  least_same w n m a c = let i = a.1.1 m c.1.0 in let j = c.1.1 n a.1.0 in omega arith

  pub put_place : (n : ℕ) → IsLawful (marks_of jobs) (b.events ++ Put n ∷ []) → puts (b.events ++ Put n ∷ []) ≤ length jobs
      → (n ≡ puts b.events + 1) × (puts b.events < length jobs) × (length b.jobs ≡ puts b.events) × (list_any is_seal b.events ≡ false) × (list_any is_fault b.events ≡ false)
  put_place n a within = let ok = allowed_next (Put n) a in let t = puts_snoc b.events (Put n) in let lt : puts b.events < length jobs = omega (arith, t, within) in
      (ok.0, lt, ap length jobs_then ∙ length-take-le (puts b.events) jobs (omega arith), ok.1, ok.2)

  pub put_next : (n m : ℕ) (x : J × Bool) → n ≡ puts b.events + 1 → puts b.events < length jobs → slice_get jobs (n - 1) ≡ Some x → m ≡ length b.jobs + 1 → length b.jobs ≡ puts b.events
      → put_on b x.0 x.1 m ≡ part_of jobs (b.events ++ Put n ∷ [])
  put_next n m x is lt at new count = let p : puts (b.events ++ Put n ∷ []) ≡ puts b.events + 1 = puts_snoc b.events (Put n) in
      let same : m ≡ n = omega arith in let here : n - 1 ≡ puts b.events = omega arith in
      let js : b.jobs ++ x ∷ [] ≡ take (puts (b.events ++ Put n ∷ [])) jobs = ap (λ l. l ++ x ∷ []) jobs_then ∙ (ap (λ y. take (puts b.events) jobs ++ y ∷ []) (sym (got jobs (puts b.events) x (ap (slice_get jobs) (sym here) ∙ at))) ∙ (sym (take_more jobs (puts b.events) x lt) ∙ ap (λ k. take k jobs) (sym p))) in
      λ i. record { jobs = js i; events = b.events ++ Put (same i) ∷ [] }

-- the part that begins, and the part that is all
pub part_none : {J : Type 0} (jobs : List (J × Bool)) → record { jobs = []; events = [] } ≡ part_of jobs []
part_none jobs = refl

pub part_all : {J : Type 0} (b : Shown J) → puts b.events ≡ length b.jobs → part_of b.jobs b.events ≡ b
part_all b h = λ i. record { jobs = (ap (λ n. take n b.jobs) h ∙ take-length b.jobs) i; events = b.events }

puts_part : (es fs : List Event) → puts es ≤ puts (es ++ fs)
puts_part es fs = omega (arith, sum_by-append (λ e. cond (is_put e) 1 0) es fs)

-- the first events and the next one
read_within : (es : List Event) (i : ℕ) (e : Event) → slice_get es i ≡ Some e → i < length es
read_within [] i e h = cc
read_within (x ∷ es) zero e h = omega arith
read_within (x ∷ es) (suc i) e h = let t = read_within es i e h in omega (arith, t)

take_next : (es : List Event) (i : ℕ) (e : Event) → slice_get es i ≡ Some e → take (i + 1) es ≡ take i es ++ e ∷ []
take_next es i e at = take_more es i e (read_within es i e at) ∙ ap (λ x. take i es ++ x ∷ []) (got es i e at)

lawful_next : (marks : List Bool) (es : List Event) (i : ℕ) (e : Event) → slice_get es i ≡ Some e → IsLawful marks es → IsLawful marks (take i es ++ e ∷ [])
lawful_next marks es i e at a = subst (IsLawful marks) (take_next es i e at) (lawful_before marks (take (i + 1) es) (drop (i + 1) es) (subst (IsLawful marks) (sym (take-append-drop (i + 1) es)) a))

puts_next : (es : List Event) (i : ℕ) (e : Event) → slice_get es i ≡ Some e → puts (take i es ++ e ∷ []) ≤ puts es
puts_next es i e at = let t = puts_part (take (i + 1) es) (drop (i + 1) es) in let u = ap puts (take-append-drop (i + 1) es) in let v = ap puts (take_next es i e at) in omega (arith, t, u, v)

-- the book so far, told by its own events
pub part_own : {J : Type 0} (jobs : List (J × Bool)) (b : Shown J) (es : List Event) → b ≡ part_of jobs es → b ≡ part_of jobs b.events
part_own jobs b es h = h ∙ ap (part_of jobs) (sym (ap (λ c. c.events) h))

module _ {J : Type 0} (jobs : List (J × Bool)) (b : Shown J) (es : List Event) (i : ℕ) (e : Event) (part : b ≡ part_of jobs (take i es)) (at : slice_get es i ≡ Some e) where
  pub next_lawful : (marks : List Bool) → IsLawful marks es → IsLawful marks (b.events ++ e ∷ [])
  next_lawful marks a = subst (λ l. IsLawful marks (l ++ e ∷ [])) (sym (ap (λ c. c.events) part)) (lawful_next marks es i e at a)

  pub next_within : puts es ≡ length jobs → puts (b.events ++ e ∷ []) ≤ length jobs
  next_within count = let t = puts_next es i e at in let v = ap (λ c. puts (c.events ++ e ∷ [])) part in omega (arith, t, v, count)

  pub part_step : (c : Shown J) → c ≡ part_of jobs (b.events ++ e ∷ []) → c ≡ part_of jobs (take (i + 1) es)
  part_step c is = is ∙ ap (part_of jobs) (ap (λ x. x.events ++ e ∷ []) part ∙ sym (take_next es i e at))

pub part_end : {J : Type 0} (all b : Shown J) (i : ℕ) → b ≡ part_of all.jobs (take i all.events) → i ≡ length all.events → puts all.events ≡ length all.jobs → b ≡ all
part_end all b i h last count = h ∙ (ap (part_of all.jobs) (ap (λ n. take n all.events) last ∙ take-length all.events) ∙ part_all all count)
