-- Texts that a sink takes, one after another.
use Rattle.std.proofs.Common.{◌≡◌, ◌+◌, ℕ, List, [], ◌∷◌, ◌++◌, length, take, ap, refl, subst, sym, ◌∙◌}
use Rattle.std.specs.Prelude.{Option, Some, None, Ok, Err}
use Rattle.std.proofs.Math.Seq.{take-append-add}
use Rattle.dk_io.specs.Bytes.{added}
use Rattle.dk_io.specs.Causes.{HasCause, Rose}
use Rattle.dk_io.specs.Writing.{Wrote}
use Rattle.dk_io.proofs.Adds.{added-added}
use Rattle.dk_io.proofs.Gather.{adds_longer}
use Rattle.replay_script.specs.Standing.{Cuts, Output, Sends}

no_more : (xs : List ℕ) → xs ++ [] ≡ xs
no_more [] = refl
no_more (x ∷ xs) = ap (λ ys. x ∷ ys) (no_more xs)

added_none : (o : Option (List ℕ)) → o ≡ added o []
added_none None = refl
added_none (Some bytes) = ap Some (sym (no_more bytes))

pub sends_none : (o : Output) → Sends o o []
sends_none o = record { taken = added_none o.taken; faults = refl }

-- nothing was called
pub sends_same : (a b : Output) → b ≡ a → Sends a b []
sends_same a b same = subst (λ (o : Output). Sends a o []) (sym same) (sends_none a)

pub sends_then : {a b c : Output} {s t : List ℕ} → Sends a b s → Sends b c t → Sends a c (s ++ t)
sends_then {a = a} {s = s} {t = t} first second = record {
  taken = second.taken ∙ ap (λ o. added o t) first.taken ∙ added-added a.taken s t;
  faults = second.faults ∙ first.faults;
}

pub cuts_then : {a b c : Output} {s t : List ℕ} → Sends a b s → Cuts b c t → Cuts a c (s ++ t)
cuts_then {a = a} {c = c} {s = s} {t = t} first second = record {
  taken = (
    length s + second.taken.0,
    second.taken.1 ∙ ap (λ o. added o (take second.taken.0 t)) first.taken ∙ added-added a.taken s (take second.taken.0 t)
        ∙ ap (added a.taken) (sym (take-append-add s t second.taken.0)),
  );
  faults = subst (λ n. Rose n c.faults) first.faults second.faults;
}

-- what was taken of a part was taken of the whole
pub cuts_longer : {a b : Output} {s : List ℕ} (t : List ℕ) → Cuts a b s → Cuts a b (s ++ t)
cuts_longer {a = a} {b = b} {s = s} t first = record { taken = adds_longer a.taken b.taken s t first.taken; faults = first.faults }

pub sends_text : {a b : Output} {s t : List ℕ} → s ≡ t → Sends a b s → Sends a b t
sends_text {a = a} {b = b} e w = subst (Sends a b) e w

pub cuts_text : {a b : Output} {s t : List ℕ} → s ≡ t → Cuts a b s → Cuts a b t
cuts_text {a = a} {b = b} e w = subst (Cuts a b) e w

-- a text that was written whole, or cut
pub sent : {E : Type 0} (a b : Output) (s : List ℕ) (u : Unit {0}) → Wrote {E = E} a.taken b.taken s (Ok u) → HasCause {T = Unit {0}} {E = E} a.faults b.faults (Ok u) → Sends a b s
sent a b s u wrote cause = record { taken = wrote.whole; faults = cause.stands }

pub cut_short : {E : Type 0} (a b : Output) (s : List ℕ) (e : E) → Wrote {E = E} a.taken b.taken s (Err e) → HasCause {T = Unit {0}} {E = E} a.faults b.faults (Err e) → Cuts a b s
cut_short a b s e wrote cause = record { taken = wrote.front; faults = cause.failed }
