-- For proofs: what typing has asked of an evaluation, with the answers; and evaluation with units that writes them down.
use Rattle.std.specs.Prelude.{ℕ, Option, Some, None, Bool, true, false, ◌&&◌, List, [], ◌∷◌, ◌++◌}
use Rattle.dk_model.specs.PlainTerms.{Tree}
use Rattle.dk_model.specs.PlainEntries.{PlainSignature}
use Rattle.dk_model.specs.Substitution.{equal}
use Rattle.dk_model.specs.Bindings.{Bindings}
use Rattle.dk_model.specs.Evaluation.{whnf_of, comparison_of, normal_of}
use Rattle.dk_model.specs.TypingOver.{Evaluator, JudgedIn, answer, refused, ended}
use Rattle.dk_model.specs.Solving.{solved}
use Rattle.checked_steps.specs.Items.{Item, reduction, joining}
use Rattle.checked_steps.specs.Taken.{both_same, steps_taken}
use Rattle.checked_steps.specs.Checked.{next_solution}

-- a call over these entries, with its answer: a term and a form of it; two terms that are convertible; bindings, the sides of
-- an equation, and the bindings once it is solved
pub data PlainCall : Type 0 where
  reduced : PlainSignature → Tree → Tree → PlainCall
  joined : PlainSignature → Tree → Tree → PlainCall
  resolved : PlainSignature → Bindings → Tree → Tree → Bindings → PlainCall

-- ---- items that answer a call, and none is left over

abbrev pub binding_same : Option Tree → Option Tree → Bool
binding_same None None = true
binding_same None (Some u) = false
binding_same (Some t) None = false
binding_same (Some t) (Some u) = equal t u

abbrev pub bindings_same : Bindings → Bindings → Bool
bindings_same [] [] = true
bindings_same [] (p ∷ s) = false
bindings_same (o ∷ r) [] = false
bindings_same (o ∷ r) (p ∷ s) = binding_same o p && bindings_same r s

abbrev pub solves_to : Bindings → JudgedIn (List Item) Bindings → Bool
solves_to r (answer s []) = bindings_same s r
solves_to r (answer s (x ∷ items)) = false
solves_to r (refused c items) = false
solves_to r ended = false

abbrev pub is_answered : PlainCall → List Item → Bool
is_answered (reduced S t u) (reduction xs ∷ []) = both_same (steps_taken S xs t) (Some u)
is_answered (joined S t u) (joining xs ys ∷ []) = both_same (steps_taken S xs t) (steps_taken S ys u)
is_answered (resolved S s t u r) items = solves_to r (next_solution S items s t u)
is_answered call items = false

-- ---- what is spent is units, and what is written down grows

-- the units that are left, and the calls so far
abbrev pub Log : Type 0
Log = ℕ × List PlainCall

abbrev pub with_reduced : PlainSignature → Tree → List PlainCall → Option (Tree × ℕ) → Option (Tree × Log)
with_reduced S t calls None = None
with_reduced S t calls (Some p) = Some (p.0, (p.1, calls ++ (reduced S t p.0 ∷ [])))

-- a comparison that says no is not written down: no item says so
abbrev pub joined_if : PlainSignature → Tree → Tree → Bool → List PlainCall
joined_if S t u true = joined S t u ∷ []
joined_if S t u false = []

abbrev pub with_joined : PlainSignature → Tree → Tree → List PlainCall → Option (Bool × ℕ) → Option (Bool × Log)
with_joined S t u calls None = None
with_joined S t u calls (Some p) = Some (p.0, (p.1, calls ++ joined_if S t u p.0))

abbrev pub with_resolved : PlainSignature → Bindings → Tree → Tree → List PlainCall → JudgedIn ℕ Bindings → JudgedIn Log Bindings
with_resolved S s t u calls (answer r n) = answer r (n, calls ++ (resolved S s t u r ∷ []))
with_resolved S s t u calls (refused c n) = refused c (n, calls)
with_resolved S s t u calls ended = ended

abbrev pub by_calls : PlainSignature → Evaluator Log
by_calls S = record {
  whnf = λ x t. with_reduced S t x.1 (whnf_of S x.0 t);
  same = λ x t u. with_joined S t u x.1 (comparison_of S x.0 t u);
  normal = λ x t. with_reduced S t x.1 (normal_of S x.0 t);
  solve = λ x s t u. with_resolved S s t u x.1 (solved S s t u x.0);
}
