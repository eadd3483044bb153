-- The commands on which one rests are accepted by themselves, each with the units that it had.
use Rattle.std.proofs.Common.{List, [], ◌∷◌, take, length, slice_get, ℕ, zero, suc, ◌≡◌, ◌≤◌, ◌+◌, Bool, true, false, Some, refl, ap, sym, subst, ◌∙◌, arith, if◌then◌else◌}
use Rattle.dk_model.specs.PlainCommands.{PlainCommand}
use Rattle.prune_theory.specs.Alike.{Each, AlikeCommand}
use Rattle.prune_theory.specs.Renumbering.{Renumbers, picked}
use Rattle.prune_theory.specs.Mentions.{IsClosed}
use Rattle.prune_theory.specs.Laws.{HaveTypeOrBody, TestsRests, Left}
use Rattle.prune_theory.specs.Folds.{Stated, Declared, nothing_declared, AreAccepted, accepts_none, accepts_more}
use Rattle.prune_theory.proofs.Folds.{Pruned, pruned_accepted, nothing_cut}
use Rattle.prune_theory.proofs.Closure.{AreWhole, closed_from, rests_closed}
use Rattle.prune_theory.proofs.Whole.{scoped_whole}

pub accepted_whole : {budget : ℕ} {T U : Declared} {fs : List Stated} {cs : List PlainCommand} {ns : List ℕ} → AreAccepted budget T fs cs ns U → HaveTypeOrBody fs → AreWhole cs
accepted_whole accepts_none h = tt
accepted_whole (accepts_more {T} {f} {c} e a rest) h = (scoped_whole T.names f.place f.form c h.0 e, accepted_whole rest h.1)

take_whole : (i : ℕ) (cs : List PlainCommand) → AreWhole cs → AreWhole (take i cs)
take_whole zero cs h = tt
take_whole (suc i) [] h = tt
take_whole (suc i) (c ∷ cs) h = (h.0, take_whole i cs h.1)

pub record Front (budget : ℕ) (T : Declared) (fs : List Stated) (cs : List PlainCommand) (ns : List ℕ) (i : ℕ) : Type 0 where
  pub after : Declared
  pub accepted : AreAccepted budget T (take i fs) (take i cs) (take i ns) after

pub accepted_front : {budget : ℕ} (i : ℕ) {T U : Declared} {fs : List Stated} {cs : List PlainCommand} {ns : List ℕ} → AreAccepted budget T fs cs ns U → Front budget T fs cs ns i
accepted_front zero {T} a = record { after = T; accepted = accepts_none }
accepted_front (suc i) {T} accepts_none = record { after = T; accepted = accepts_none }
accepted_front (suc i) (accepts_more e a rest) = let r : _ = accepted_front i rest in record { after = r.after; accepted = accepts_more e a r.accepted }

-- nothing is picked behind the last place that is kept
pub picked_front : {A : Type 0} (keep : ℕ → Bool) (n i : ℕ) (xs : List A) → ((j : ℕ) → n + i ≤ j → keep j ≡ false) → picked keep n xs ≡ picked keep n (take i xs)
picked_front keep n zero [] h = refl
picked_front keep n zero (x ∷ xs) h = ap (λ b. if b then x ∷ picked keep (suc n) xs else picked keep (suc n) xs) (h n (omega arith)) ∙ picked_front keep (suc n) zero xs (λ j l. h j (omega arith))
picked_front keep n (suc i) [] h = refl
picked_front keep n (suc i) (x ∷ xs) h = ap (λ z. if keep n then x ∷ z else z) (picked_front keep (suc n) i xs (λ j l. h j (omega arith)))

got : (i n : ℕ) (cs : List PlainCommand) (c : PlainCommand) → slice_get (take n cs) i ≡ Some c → slice_get cs (0 + i) ≡ Some c
got i n cs c e = subst (λ z. slice_get cs z ≡ Some c) (let q : i ≡ 0 + i = omega arith in q) (by i n cs e)
  where
    by : (i n : ℕ) (cs : List PlainCommand) → slice_get (take n cs) i ≡ Some c → slice_get cs i ≡ Some c
    by i zero cs e = absurd cc
    by i (suc n) [] e = e
    by zero (suc n) (d ∷ cs) e = e
    by (suc i) (suc n) (d ∷ cs) e = by i n cs e

short : {A : Type 0} (n : ℕ) (xs : List A) → length (take n xs) ≤ n
short zero xs = omega arith
short (suc n) [] = omega arith
short (suc n) (x ∷ xs) = let q : length (take n xs) ≤ n = short n xs in omega arith

pub closed_accepted : (budget k : ℕ) (keep : ℕ → Bool) {U : Declared} {fs : List Stated} {cs : List PlainCommand} {ns : List ℕ} → AreAccepted budget nothing_declared fs cs ns U → HaveTypeOrBody fs
    → IsClosed cs k keep → keep k ≡ true → ((j : ℕ) → suc k ≤ j → keep j ≡ false) → Left budget keep fs cs ns
closed_accepted budget k keep {fs} {cs} {ns} a h closed e behind = let front : Front budget nothing_declared fs cs ns (suc k) = accepted_front (suc k) a in
    let p : Pruned keep budget 0 nothing_declared front.after (take (suc k) fs) (take (suc k) cs) (take (suc k) ns) = pruned_accepted keep budget 0 front.accepted nothing_declared (nothing_cut keep)
    (closed_from cs k keep closed e (take (suc k) cs) 0 (let q : length (take (suc k) cs) ≤ suc k = short (suc k) cs in omega arith) (λ i c g. got i (suc k) cs c g) (take_whole (suc k) cs (accepted_whole a h))) in
    record {
      commands = p.commands;
      after = p.after;
      accepted = subst (λ z. AreAccepted budget nothing_declared z p.commands (picked keep 0 ns) p.after) (sym (picked_front keep 0 (suc k) fs (λ j l. behind j (omega arith))))
          (subst (λ z. AreAccepted budget nothing_declared (picked keep 0 (take (suc k) fs)) p.commands z p.after) (sym (picked_front keep 0 (suc k) ns (λ j l. behind j (omega arith)))) p.accepted);
      alike = subst (λ z. Each (AlikeCommand (Renumbers keep)) z p.commands) (sym (picked_front keep 0 (suc k) cs (λ j l. behind j (omega arith)))) p.alike;
    }

pub tests_closed : (commands : List PlainCommand) (k : ℕ) (keep : ℕ → Bool) → TestsRests commands k keep → IsClosed commands k keep
tests_closed commands k keep t = rests_closed commands k keep t.rests t.all
