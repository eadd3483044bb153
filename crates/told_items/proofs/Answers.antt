-- Items that answer a call answer it before any others.
use Rattle.std.specs.Prelude.{Bool, true, false, ◌&&◌, if◌then◌else◌}
use Rattle.std.proofs.Common.{List, [], ◌∷◌, ◌++◌, append_assoc, ◌≡◌, Option, Some, None, refl, ap, ◌∙◌, sym as flip}
use Rattle.dk_model.specs.PlainTerms.{Tree}
use Rattle.dk_model.specs.PlainEntries.{PlainSignature}
use Rattle.dk_model.specs.Bindings.{Bindings}
use Rattle.dk_model.specs.TypingOver.{JudgedIn, answer, refused, ended}
use Rattle.typing_model.proofs.Evaluation.{equal_trees}
use Rattle.checked_steps.specs.Items.{ItemSteps, Item, reduction, joining, equation}
use Rattle.checked_steps.specs.Taken.{Solved, both_same, steps_taken, equation_taken}
use Rattle.checked_steps.specs.Checked.{with_rest, solving_on, next_reduction, next_joining, solutions_taken, next_solution}
use Rattle.checked_steps.proofs.Steps.{same_if}
use Rattle.checked_steps.proofs.Complete.{equal_itself}
use Rattle.told_items.specs.declared.answered.Answered.{Answered}
use Rattle.told_items.specs.Calls.{PlainCall, reduced, joined, binding_same, bindings_same, solves_to, is_answered}
use Rattle.told_items.specs.Views.{plain_call}
use Rattle.told_items.specs.Logs.{calls_of, items_of}

-- ---- bindings that are the same

both_true : (b c : Bool) → b && c ≡ true → (b ≡ true) × (c ≡ true)
both_true true c e = (refl, e)
both_true false c e = cc

binding_itself : (o : Option Tree) → binding_same o o ≡ true
binding_itself None = refl
binding_itself (Some t) = equal_itself t

bindings_itself : (s : Bindings) → bindings_same s s ≡ true
bindings_itself [] = refl
bindings_itself (o ∷ s) = rw (binding_itself o, bindings_itself s) refl

binding_exact : (o p : Option Tree) → binding_same o p ≡ true → o ≡ p
binding_exact None None e = refl
binding_exact None (Some u) e = cc
binding_exact (Some t) None e = cc
binding_exact (Some t) (Some u) e = ap Some (equal_trees t u e)

bindings_exact : (r s : Bindings) → bindings_same r s ≡ true → r ≡ s
bindings_exact [] [] e = refl
bindings_exact [] (p ∷ s) e = cc
bindings_exact (o ∷ r) [] e = cc
bindings_exact (o ∷ r) (p ∷ s) e = let h : (binding_same o p ≡ true) × (bindings_same r s ≡ true) = both_true (binding_same o p) (bindings_same r s) e in
    ap (λ q. q ∷ r) (binding_exact o p h.0) ∙ ap (λ z. p ∷ z) (bindings_exact r s h.1)

-- ---- an answer is told

pub led : (S : PlainSignature) (xs : ItemSteps) (t u : Tree) → steps_taken S xs t ≡ Some u → both_same (steps_taken S xs t) (Some u) ≡ true
led S xs t u e = ap (λ o. both_same o (Some u)) e ∙ equal_itself u

pub solves : (r : Bindings) (x : JudgedIn (List Item) Bindings) → x ≡ answer r [] → solves_to r x ≡ true
solves r x e = ap (solves_to r) e ∙ bindings_itself r

pub calls_append : (told : List Answered) (a : Answered) → calls_of (told ++ (a ∷ [])) ≡ calls_of told ++ (plain_call a.call ∷ [])
calls_append [] a = refl
calls_append (b ∷ told) a = ap (λ calls. plain_call b.call ∷ calls) (calls_append told a)

-- ---- what is told answers

module _ (S : PlainSignature) where
  pub reduces : (t u : Tree) (xs : List Item) → is_answered (reduced S t u) xs ≡ true → (rest : List Item) → next_reduction S (xs ++ rest) t ≡ Some (u, rest)
  reduces t u [] e rest = cc
  reduces t u (reduction zs ∷ []) e rest = let h : (v : Tree) × (steps_taken S zs t ≡ Some v) × (Some u ≡ Some v) = same_if S (steps_taken S zs t) (Some u) e in
      ap (with_rest rest) (h.1 ∙ flip h.2)
  reduces t u (reduction zs ∷ y ∷ ys) e rest = cc
  reduces t u (joining zs ys ∷ xs) e rest = cc
  reduces t u (equation w zs ys ∷ xs) e rest = cc

  pub joins : (t u : Tree) (xs : List Item) → is_answered (joined S t u) xs ≡ true → (rest : List Item) → next_joining S (xs ++ rest) t u ≡ Some (true, rest)
  joins t u [] e rest = cc
  joins t u (joining zs ys ∷ []) e rest = ap (λ b. if b then Some (true, rest) else None) e
  joins t u (joining zs ys ∷ x ∷ xs) e rest = cc
  joins t u (reduction zs ∷ xs) e rest = cc
  joins t u (equation w zs ys ∷ xs) e rest = cc

  -- items that are left over stay behind the others
  solved_longer : (items rest left : List Item) (r : Bindings) (ps : List (Tree × Tree))
      → ((z : Bindings) (qs : List (Tree × Tree)) → solutions_taken S items z (qs ++ ps) ≡ answer r left → solutions_taken S (items ++ rest) z (qs ++ ps) ≡ answer r (left ++ rest))
      → (o : Option Solved) → solving_on o (λ z qs. solutions_taken S items z (qs ++ ps)) ≡ answer r left
      → solving_on o (λ z qs. solutions_taken S (items ++ rest) z (qs ++ ps)) ≡ answer r (left ++ rest)
  solved_longer items rest left r ps h None e = cc
  solved_longer items rest left r ps h (Some q) e = h q.0 q.1 e

  longer : (items rest left : List Item) (s r : Bindings) (ps : List (Tree × Tree)) → solutions_taken S items s ps ≡ answer r left → solutions_taken S (items ++ rest) s ps ≡ answer r (left ++ rest)
  longer items rest left s r [] e = let p : s ≡ r = cc in let q : items ≡ left = cc in ap (λ z. answer z (items ++ rest)) p ∙ ap (λ z. answer r (z ++ rest)) q
  longer [] rest left s r (p ∷ ps) e = cc
  longer (reduction xs ∷ items) rest left s r (p ∷ ps) e = cc
  longer (joining xs ys ∷ items) rest left s r (p ∷ ps) e = cc
  longer (equation w xs ys ∷ items) rest left s r (p ∷ ps) e = solved_longer items rest left r ps (λ z qs. longer items rest left z r (qs ++ ps)) (equation_taken S w xs ys s p.0 p.1) e

  pub resolves : (s : Bindings) (t u : Tree) (r : Bindings) (xs : List Item) → solves_to r (next_solution S xs s t u) ≡ true → (rest : List Item) → next_solution S (xs ++ rest) s t u ≡ answer r rest
  resolves s t u r xs e rest = by_case (next_solution S xs s t u) refl e
    where
      by_case : (x : JudgedIn (List Item) Bindings) → next_solution S xs s t u ≡ x → solves_to r x ≡ true → next_solution S (xs ++ rest) s t u ≡ answer r rest
      by_case (answer q []) i e' = longer xs rest [] s q ((t, u) ∷ []) i ∙ ap (λ z. answer z rest) (bindings_exact q r e')
      by_case (answer q (y ∷ ys)) i e' = cc
      by_case (refused c ys) i e' = cc
      by_case ended i e' = cc

-- ---- calls, one after the other

abbrev pub AreAnswered : List PlainCall → List Item → Type 0
AreAnswered [] items = items ≡ []
AreAnswered (c ∷ calls) items = (xs : List Item) × (ys : List Item) × (items ≡ xs ++ ys) × (is_answered c xs ≡ true) × AreAnswered calls ys

pub are_answered : (told : List Answered) → AreAnswered (calls_of told) (items_of told)
are_answered [] = refl
are_answered (a ∷ told) = (_, items_of told, refl, a.told, are_answered told)

-- the items of calls in two parts
pub in_two : (calls more : List PlainCall) (items : List Item) → AreAnswered (calls ++ more) items
    → (xs : List Item) × (ys : List Item) × (items ≡ xs ++ ys) × AreAnswered calls xs × AreAnswered more ys
in_two [] more items h = ([], items, refl, refl, h)
in_two (c ∷ calls) more items h =
    let k : (xs : List Item) × (ys : List Item) × (h.1 ≡ xs ++ ys) × AreAnswered calls xs × AreAnswered more ys = in_two calls more h.1 h.4 in
    (h.0 ++ k.0, k.1, h.2 ∙ ap (λ z. h.0 ++ z) k.2 ∙ flip (append_assoc h.0 k.0 k.1), (h.0, k.0, refl, h.3, k.3), k.4)
