-- One equation, and those that are left.
use Rattle.std.specs.Prelude.{Result, Ok, Err, IsErrAnd, map}
use Rattle.std.proofs.Common.{List, ◌∷◌, ℕ, ◌≡◌, ap, ◌∙◌, sym as flip, subst as along}
use Rattle.dk_model.specs.PlainTerms.{Tree}
use Rattle.dk_model.specs.PlainEntries.{PlainSignature}
use Rattle.dk_model.specs.Bindings.{Bindings}
use Rattle.dk_model.specs.Solving.{each_solved, solved}
use Rattle.dk_model.specs.TypingOver.{JudgedIn}
use Rattle.dk_model.specs.declared.stop.TypeFault.{TypeFault}
use Rattle.checked_steps.specs.Items.{Item}
use Rattle.checked_steps.specs.Checked.{next_solution}
use Rattle.certificate_items.specs.Views.{plain_items}
use Rattle.tree_steps.specs.declared.pairs.Pair.{Pair}
use Rattle.tree_steps.specs.Views.{pair, bindings as plain}
use Rattle.tree_typing.specs.Given.{Fails}
use Rattle.told_items.specs.declared.equations.Solving.{Solving}
use Rattle.told_items.specs.Equations.{one_solved}
use Rattle.told_items.specs.Solvings.{given, GoesOn, AreLeft}
use Rattle.told_items.proofs.Solving.{each_fails}

-- a fault of one equation is one of all
pub goes_wrong : (S : PlainSignature) (f : TypeFault) (r : Result Solving TypeFault) (s : Bindings) (t u : Tree) (ps : List (Tree × Tree)) (n m : ℕ) → IsErrAnd r (λ e. e ≡ f)
    → Fails f (one_solved S s t u n) m → GoesOn S (each_solved (solved S) ((t, u) ∷ ps) s n) r m
goes_wrong S f (Err e) s t u ps n m i h = along (λ x. Fails x (each_solved (solved S) ((t, u) ∷ ps) s n) m) (flip i) (each_fails S f s t u ps n m h)
goes_wrong S f (Ok v) s t u ps n m i h = absurd i

-- where one is taken off and replaced, they still give the same
pub goes_round : (S : PlainSignature) (s : Bindings) (t u : Tree) (first n m : ℕ) (old new : Solving) (x : Pair) (others : List Pair) → old.left ≡ x ∷ others
    → given S old n ≡ solved S s t u first → AreLeft S (λ items. next_solution S items s t u) (plain_items old.items.items) (map pair old.left) (plain old.bindings)
    → each_solved (solved S) (pair x ∷ map pair others) (plain old.bindings) n ≡ given S new m
    → ((due : List Item → JudgedIn (List Item) Bindings) → AreLeft S due (plain_items old.items.items) (pair x ∷ map pair others) (plain old.bindings)
    → AreLeft S due (plain_items new.items.items) (map pair new.left) (plain new.bindings))
    → (given S new m ≡ solved S s t u first) × AreLeft S (λ items. next_solution S items s t u) (plain_items new.items.items) (map pair new.left) (plain new.bindings)
goes_round S s t u first n m old new x others e due told goes go = (
  flip goes ∙ ap (λ (l : List Pair). each_solved (solved S) (map pair l) (plain old.bindings) n) (flip e) ∙ due,
  go (λ items. next_solution S items s t u) (along (λ (l : List Pair). AreLeft S (λ items. next_solution S items s t u) (plain_items old.items.items) (map pair l) (plain old.bindings)) e told),
)
