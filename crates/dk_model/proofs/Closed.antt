-- A term that mentions no variable from a depth on is not changed there.
use Rattle.std.proofs.Common.{◌≡◌, ℕ, ◌+◌, ◌<◌, ◌≤◌, nat_lt, if◌then◌else◌, refl, ap, arith}
use Rattle.std.proofs.lemmas.Bool.Decides.{nat_tests}
use Rattle.dk_model.specs.Trees.{Tree, star, kind, symbol, variable, rule_variable, apply, bare, annotated, product}
use Rattle.dk_model.specs.Substitution.{shift, substitute, substituted_variable}
use Rattle.dk_model.specs.Bounds.{IsClosedAt}

pub closed_further : (c d : ℕ) (t : Tree) → c ≤ d → IsClosedAt c t → IsClosedAt d t
closed_further c d star l h = tt
closed_further c d kind l h = tt
closed_further c d (symbol k) l h = tt
closed_further c d (variable k) l h = omega arith
closed_further c d (rule_variable k) l h = tt
closed_further c d (apply f a) l h = (closed_further c d f l h.0, closed_further c d a l h.1)
closed_further c d (bare b) l h = closed_further (c + 1) (d + 1) b (omega arith) h
closed_further c d (annotated n b) l h = (closed_further c d n l h.0, closed_further (c + 1) (d + 1) b (omega arith) h.1)
closed_further c d (product a b) l h = (closed_further c d a l h.0, closed_further (c + 1) (d + 1) b (omega arith) h.1)

shifted_variable : (cut by k : ℕ) → k < cut → variable (if nat_lt k cut then k else (k + by)) ≡ variable k
shifted_variable cut by k l = grind (arith, nat_tests)

pub shift_closed : (cut by : ℕ) (t : Tree) → IsClosedAt cut t → shift cut by t ≡ t
shift_closed cut by star h = refl
shift_closed cut by kind h = refl
shift_closed cut by (symbol k) h = refl
shift_closed cut by (variable k) h = shifted_variable cut by k h
shift_closed cut by (rule_variable k) h = refl
shift_closed cut by (apply f a) h = let e = shift_closed cut by f h.0 in let g = shift_closed cut by a h.1 in cc
shift_closed cut by (bare b) h = ap bare (shift_closed (cut + 1) by b h)
shift_closed cut by (annotated n b) h = let e = shift_closed cut by n h.0 in let g = shift_closed (cut + 1) by b h.1 in cc
shift_closed cut by (product a b) h = let e = shift_closed cut by a h.0 in let g = shift_closed (cut + 1) by b h.1 in cc

below_depth : (d : ℕ) (u : Tree) (k : ℕ) → k < d → substituted_variable d u k ≡ variable k
below_depth d u k l = grind (arith, nat_tests)

pub substitute_closed : (d : ℕ) (u t : Tree) → IsClosedAt d t → substitute d u t ≡ t
substitute_closed d u star h = refl
substitute_closed d u kind h = refl
substitute_closed d u (symbol k) h = refl
substitute_closed d u (variable k) h = below_depth d u k h
substitute_closed d u (rule_variable k) h = refl
substitute_closed d u (apply f a) h = let e = substitute_closed d u f h.0 in let g = substitute_closed d u a h.1 in cc
substitute_closed d u (bare b) h = ap bare (substitute_closed (d + 1) u b h)
substitute_closed d u (annotated n b) h = let e = substitute_closed d u n h.0 in let g = substitute_closed (d + 1) u b h.1 in cc
substitute_closed d u (product a b) h = let e = substitute_closed d u a h.0 in let g = substitute_closed (d + 1) u b h.1 in cc
