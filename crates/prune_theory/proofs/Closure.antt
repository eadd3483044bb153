-- What a command rests on is closed, and no closed set with the command has less.
use Rattle.std.proofs.Common.{List, [], ◌∷◌, length, slice_get, Contains, ℕ, suc, ◌≡◌, ◌<◌, ◌≤◌, ◌+◌, Bool, true, false, Some, refl, ap, sym, subst, ◌∙◌, true≢false, arith, eq-or-lt_of_le, ◌⊎◌, inl, inr}
use Rattle.dk_model.specs.PlainCommands.{PlainCommand}
use Rattle.prune_theory.specs.Mentions.{symbols_of, heads_of, Rests, itself, by_mention, by_head, IsClosed}
use Rattle.prune_theory.proofs.Scoping.{AreKept, IsWhole}
use Rattle.prune_theory.proofs.Entries.{AreLeft}
use Rattle.prune_theory.proofs.Folds.{IsClosedFrom}

-- in each set that is closed and has command `k`, all is that it rests on
pub rests_least : (commands : List PlainCommand) (k : ℕ) (keep : ℕ → Bool) → IsClosed commands k keep → keep k ≡ true → {i : ℕ} → Rests commands k i → keep i ≡ true
rests_least commands k keep h e itself = e
rests_least commands k keep h e (by_mention {i} {j} c r g m) = h.mentions i j c (rests_least commands k keep h e r) g m
rests_least commands k keep h e (by_head {i} {j} c r l g m) = h.rules i j c (rests_least commands k keep h e r) l g m

-- a test for what the command rests on is closed
pub rests_closed : (commands : List PlainCommand) (k : ℕ) (keep : ℕ → Bool) → ((i : ℕ) → keep i ≡ true → Rests commands k i) → ((i : ℕ) → Rests commands k i → keep i ≡ true) → IsClosed commands k keep
rests_closed commands k keep f g = record {
  mentions = λ i j c e s m. g j (by_mention c (f i e) s m);
  rules = λ i j c e l s m. g j (by_head c (f i e) l s m);
}

later : (xs : List ℕ) (x j : ℕ) → Contains xs j → Contains (x ∷ xs) j
later xs x j m = (suc m.0, omega arith, m.2)

all_kept : (keep : ℕ → Bool) (xs : List ℕ) → ((j : ℕ) → Contains xs j → keep j ≡ true) → AreKept keep xs
all_kept keep [] h = tt
all_kept keep (x ∷ xs) h = (h x (0, omega arith, refl), all_kept keep xs (λ j m. h j (later xs x j m)))

all_left : (keep : ℕ → Bool) (xs : List ℕ) → ((j : ℕ) → Contains xs j → keep j ≡ false) → AreLeft keep xs
all_left keep [] h = tt
all_left keep (x ∷ xs) h = (h x (0, omega arith, refl), all_left keep xs (λ j m. h j (later xs x j m)))

abbrev pub AreWhole : List PlainCommand → Type 0
AreWhole [] = Unit {0}
AreWhole (c ∷ cs) = IsWhole c × AreWhole cs

not_true : (b : Bool) → ¬ (b ≡ true) → b ≡ false
not_true true h = absurd (h refl)
not_true false h = refl

-- the commands up to `k`, from `n` on
pub closed_from : (commands : List PlainCommand) (k : ℕ) (keep : ℕ → Bool) → IsClosed commands k keep → keep k ≡ true → (cs : List PlainCommand) (n : ℕ) → n + length cs ≤ suc k
    → ((i : ℕ) (c : PlainCommand) → slice_get cs i ≡ Some c → slice_get commands (n + i) ≡ Some c) → AreWhole cs → IsClosedFrom keep n cs
closed_from commands k keep h e [] n l at w = tt
closed_from commands k keep h e (c ∷ cs) n l at w = (
  λ q. (w.0, all_kept keep (symbols_of c) (λ j m. h.mentions n j c q here m)),
  λ q. all_left keep (heads_of c) (λ j m. not_true (keep j) (λ t. true≢false (sym (h.rules j n c t (before q) here m) ∙ q))),
  closed_from commands k keep h e cs (suc n) (omega arith) (λ i d g. subst (λ z. slice_get commands z ≡ Some d) (let r : n + suc i ≡ suc n + i = omega arith in r) (at (suc i) d g)) w.1,
)
  where
    here : slice_get commands n ≡ Some c
    here = subst (λ z. slice_get commands z ≡ Some c) (let r : n + 0 ≡ n = omega arith in r) (at 0 c refl)

    before : keep n ≡ false → n < k
    before q = by (eq-or-lt_of_le (let r : n ≤ k = omega arith in r))
      where
        by : (n ≡ k) ⊎ (n < k) → n < k
        by (inl r) = absurd (true≢false (sym e ∙ sym (ap keep r) ∙ q))
        by (inr r) = r
