-- An application, argument by argument, and the symbols of its parts.
use Rattle.std.proofs.Common.{ℕ, List, [], ◌∷◌, ◌++◌, ◌≡◌, ◌+◌, refl, ap, sym, ◌∙◌, append_assoc, append-nil, arith}
use Rattle.std.specs.Borrow.{Bor}
use Rattle.dk_model.specs.Trees.{Tree, tree}
use Rattle.dk_model.specs.declared.term.Term.{Term}
use Rattle.dk_model.specs.declared.scoped.Left.{Left}
use Rattle.dk_model.specs.PlainCommands.{PlainLeft, left_apply}
use Rattle.dk_model.specs.Scoping.{plain_left}
use Rattle.dk_model.specs.Winding.{wound, behind_references}
use Rattle.prune_theory.specs.Mentions.{term_symbols, left_symbols}
use Rattle.prune_theory.specs.Stacks.{stack_symbols, left_stack_symbols, left_wound, left_size, left_total, lefts_behind}

-- one part more in front of others
with_part : (xs as' bs cs : List ℕ) → xs ++ (as' ++ bs) ≡ cs → (xs ++ as') ++ bs ≡ cs
with_part xs as' bs cs e = append_assoc xs as' bs ∙ e

wound_symbols : (t : Tree) (ts : List Tree) → term_symbols t ++ stack_symbols ts ≡ term_symbols (wound t ts)
wound_symbols t [] = append-nil (term_symbols t)
wound_symbols t (u ∷ ts) = sym (append_assoc (term_symbols t) (stack_symbols ts) (term_symbols u)) ∙ ap (λ (ks : List ℕ). ks ++ term_symbols u) (wound_symbols t ts)

-- the symbols of the head, and then those of the arguments
pub wound_added : (xs ys : List ℕ) (t w : Tree) (ts : List Tree) → wound t ts ≡ w → ys ≡ xs ++ term_symbols t → ys ++ stack_symbols ts ≡ xs ++ term_symbols w
wound_added xs ys t w ts e f = ap (λ (ks : List ℕ). ks ++ stack_symbols ts) f ∙ with_part xs (term_symbols t) (stack_symbols ts) _ (ap (λ (ks : List ℕ). xs ++ ks) (wound_symbols t ts ∙ ap term_symbols e))

-- the argument on top comes first
pub stack_pushed : (rs : List (Bor Term)) (r : Bor Term) → stack_symbols (behind_references (rs ++ r ∷ [])) ≡ term_symbols (tree r.now) ++ stack_symbols (behind_references rs)
stack_pushed [] r = sym (append-nil (term_symbols (tree r.now)))
stack_pushed (x ∷ rs) r = ap (λ (ks : List ℕ). ks ++ term_symbols (tree x.now)) (stack_pushed rs r) ∙ append_assoc (term_symbols (tree r.now)) (stack_symbols (behind_references rs)) (term_symbols (tree x.now))

-- ---- the same of left sides

pub left_pushed : (h : PlainLeft) (rs : List (Bor Left)) (r : Bor Left) → left_wound h (lefts_behind (rs ++ r ∷ [])) ≡ left_wound (left_apply h (plain_left r.now)) (lefts_behind rs)
left_pushed h [] r = refl
left_pushed h (x ∷ rs) r = ap (λ (l : PlainLeft). left_apply l (plain_left x.now)) (left_pushed h rs r)

pub left_total_pushed : (rs : List (Bor Left)) (r : Bor Left) → left_total (lefts_behind (rs ++ r ∷ [])) ≡ left_total (lefts_behind rs) + left_size (plain_left r.now)
left_total_pushed [] r = omega arith
left_total_pushed (x ∷ rs) r = let q : left_total (lefts_behind (rs ++ r ∷ [])) ≡ left_total (lefts_behind rs) + left_size (plain_left r.now) = left_total_pushed rs r in omega (arith, q)

left_wound_symbols : (h : PlainLeft) (ls : List PlainLeft) → left_symbols h ++ left_stack_symbols ls ≡ left_symbols (left_wound h ls)
left_wound_symbols h [] = append-nil (left_symbols h)
left_wound_symbols h (l ∷ ls) = sym (append_assoc (left_symbols h) (left_stack_symbols ls) (left_symbols l)) ∙ ap (λ (ks : List ℕ). ks ++ left_symbols l) (left_wound_symbols h ls)

pub left_wound_added : (xs ys : List ℕ) (h w : PlainLeft) (ls : List PlainLeft) → left_wound h ls ≡ w → ys ≡ xs ++ left_symbols h → ys ++ left_stack_symbols ls ≡ xs ++ left_symbols w
left_wound_added xs ys h w ls e f = ap (λ (ks : List ℕ). ks ++ left_stack_symbols ls) f ∙ with_part xs (left_symbols h) (left_stack_symbols ls) _ (ap (λ (ks : List ℕ). xs ++ ks) (left_wound_symbols h ls ∙ ap left_symbols e))

pub left_stack_pushed : (rs : List (Bor Left)) (r : Bor Left) → left_stack_symbols (lefts_behind (rs ++ r ∷ [])) ≡ left_symbols (plain_left r.now) ++ left_stack_symbols (lefts_behind rs)
left_stack_pushed [] r = sym (append-nil (left_symbols (plain_left r.now)))
left_stack_pushed (x ∷ rs) r = ap (λ (ks : List ℕ). ks ++ left_symbols (plain_left x.now)) (left_stack_pushed rs r) ∙ append_assoc (left_symbols (plain_left r.now)) (left_stack_symbols (lefts_behind rs)) (left_symbols (plain_left x.now))
