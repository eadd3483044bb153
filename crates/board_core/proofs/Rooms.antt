-- The room for one more job.
use Rattle.std.proofs.Common.{◌≡◌, ◌↔◌, ℕ, zero, suc, ◌+◌, ◌*◌, ◌/◌, ◌%◌, ◌^◌, ◌<◌, ◌≤◌, Bool, true, false, List, [], ◌∷◌, length, sym, refl, ap, ◌∙◌, subst, arith, Option, None}
use Rattle.std.specs.Prelude.{IsTrue, nat_eq}
use Rattle.std.proofs.lemmas.Bool.{eqb-true}
use Rattle.dk_model.specs.declared.code.Verdict.{Verdict}
use Rattle.board_core.specs.declared.event.End.{End}
use Rattle.board_core.specs.declared.event.Event.{Event}
use Rattle.board_core.specs.Machine.{IsFree}
use Rattle.board_core.specs.Kept.{IsPowerOfTwo, IsWide, Each, Ascends, Keeps, numbers, waiters_in}
use Rattle.board_core.specs.declared.book.Waiting.{Waiting}

double : (k : ℕ) → 2 ^ suc k ≡ 2 * 2 ^ k
double k = omega arith

at_least_one : (k : ℕ) → 1 ≤ 2 ^ k
at_least_one zero = omega arith
at_least_one (suc k) = let d = double k in let one = at_least_one k in omega (arith, d, one)

pub twice : (n : ℕ) → IsPowerOfTwo n → IsPowerOfTwo (2 * n)
twice n p = (suc p.0, ap (λ m. 2 * m) p.1 ∙ sym (double p.0))

half_of : (n m k : ℕ) → n ≡ 2 * m → 0 < m → n ≡ 2 ^ k → IsPowerOfTwo m
half_of n m zero is some e = absurd (omega (arith, is, some, e))
half_of n m (suc k) is some e = let d = double k in (k, omega (arith, is, e, d))

-- an even number is a power of two where its half is
pub halves : (n : ℕ) → n % 2 ≡ 0 → 0 < n → IsPowerOfTwo n ↔ IsPowerOfTwo (n / 2)
halves n even some = let is : n ≡ 2 * (n / 2) = omega (arith, even) in let half : 0 < n / 2 = omega (arith, even, some) in
    ((λ p. half_of n (n / 2) p.0 is half p.1), (λ p. subst IsPowerOfTwo (sym is) (twice (n / 2) p)))

odd_of : (n k : ℕ) → ¬ (n % 2 ≡ 0) → n ≡ 2 ^ k → n ≡ 1
odd_of n zero odd e = e
odd_of n (suc k) odd e = let d = double k in absurd (odd (omega (arith, e, d)))

pub odd_power : (n : ℕ) → ¬ (n % 2 ≡ 0) → IsPowerOfTwo n → n ≡ 1
odd_power n odd p = odd_of n p.0 odd p.1

pub one_is_power : (n : ℕ) → ¬ (n % 2 ≡ 0) → IsTrue (nat_eq n 1) ↔ IsPowerOfTwo n
one_is_power n odd = ((λ t. subst IsPowerOfTwo (sym (eqb-true n 1 t)) (0, refl)), (λ p. ap (λ k. nat_eq k 1) (odd_power n odd p)))

pub none_is_zero : IsPowerOfTwo 0 → ⊥
none_is_zero p = let one = at_least_one p.0 in let is = p.1 in omega (arith, one, is)

-- a place is left, where the number of jobs isn't the number of places
pub place_left : (n a b c d : ℕ) → ¬ IsPowerOfTwo n → IsWide n a b c d → IsWide (n + 1) a b c d
place_left n a b c d full w = record {
  places = w.places;
  power = w.power;
  enough = let e = w.enough in let other : ¬ (n ≡ w.places) = λ is. full (subst IsPowerOfTwo (sym is) w.power) in omega (arith, e, other);
  jobs_fit = w.jobs_fit;
  waiting_fit = w.waiting_fit;
  verdicts_fit = w.verdicts_fit;
  history_fit = w.history_fit;
}

-- lists that are twice as long have a place
pub twice_wide : (n a b c d : ℕ) → IsPowerOfTwo n → 2 * n ≤ a → 2 * n ≤ b → 2 * n ≤ c → 3 * (2 * n) + 1 ≤ d → IsWide (n + 1) a b c d
twice_wide n a b c d p fa fb fc fd = record {
  places = 2 * n;
  power = twice n p;
  enough = let one = at_least_one p.0 in let is = p.1 in omega (arith, one, is);
  jobs_fit = fa;
  waiting_fit = fb;
  verdicts_fit = fc;
  history_fit = fd;
}

count_ascending : (ns : List ℕ) (low high : ℕ) → low ≤ high → Ascends ns → Each (λ n. low < n) ns → Each (λ n. n ≤ high) ns → length ns + low ≤ high
count_ascending [] low high le up above below = omega (arith, le)
count_ascending (n ∷ ns) low high le up above below = let rest = count_ascending ns n high below.0 up.1 up.0 below.1 in let a = above.0 in omega (arith, rest, a)

each_of : {X : Type 0} (P Q : X → Type 0) → ((x : X) → P x → Q x) → (xs : List X) → Each P xs → Each Q xs
each_of P Q f [] h = tt
each_of P Q f (x ∷ xs) h = (f x h.0, each_of P Q f xs h.1)

-- no more wait than were put
pub few_wait : {room : ℕ} {marks : List Bool} {waiting : List ℕ} {verdicts : List (Option Verdict)} {fault : Option (ℕ × Verdict)} {end : Option End} {es : List Event} → Keeps room marks waiting verdicts fault end es → length waiting ≤ length marks
few_wait {marks = marks} {waiting = waiting} {es = es} k = let all = k.all_put in
    let count = count_ascending waiting 0 (length marks) (omega arith) k.in_order (each_of (IsFree marks es) (λ n. 0 < n) (λ n f. f.0) waiting k.waits) (each_of (IsFree marks es) (λ n. n ≤ length marks) (λ n f. let le = f.1 in omega (arith, le, all)) waiting k.waits) in omega (arith, count)

-- nothing was put
pub empty_keeps : (room : ℕ) → 1 ≤ room → Keeps room [] [] [] None None []
empty_keeps room some = record {
  few = omega arith;
  as_many = refl;
  all_put = refl;
  only_put = λ n h. let z : false ≡ true = h in cc;
  waits = tt;
  all_wait = λ n f. let a = f.0 in let b = f.1 in absurd (omega (arith, a, b));
  in_order = tt;
  verdicts_kept = λ n h. refl;
  fault_kept = refl;
  end_kept = refl;
  few_events = omega arith;
  has_room = omega (arith, some);
  lawful = tt;
}

-- what a place is good for, where m wait
pub has_place : (n m a b c d : ℕ) → IsWide (n + 1) a b c d → m ≤ n → (n < a) × (m < b) × (n < c) × (3 * (n + 1) + 1 ≤ d)
has_place n m a b c d w le = let e = w.enough in let fa = w.jobs_fit in let fb = w.waiting_fit in let fc = w.verdicts_fit in let fd = w.history_fit in
    (omega (arith, e, fa), omega (arith, e, fb, le), omega (arith, e, fc), omega (arith, e, fd))

pub count_waiting : {J : Type 0} (ws : List (Waiting J)) → length (numbers (waiters_in ws)) ≡ length ws
count_waiting [] = refl
count_waiting (w ∷ ws) = ap suc (count_waiting ws)
