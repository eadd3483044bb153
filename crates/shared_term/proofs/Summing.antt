-- A summary of parts is one of the whole.
use Rattle.std.proofs.Common.{◌≡◌, ◌-◌, max, Bool, true, false, ◌||◌, refl, true≢false, arith}
use Rattle.dk_model.specs.Trees.{Tree, apply, bare, annotated, product}
use Rattle.dk_model.proofs.Closed.{closed_further}
use Rattle.shared_term.specs.declared.summary.Summary.{Summary}
use Rattle.shared_term.specs.Summaries.{IsSummary, both, inside}

neither : (a b : Bool) → a || b ≡ false → (a ≡ false) × (b ≡ false)
neither true b e = absurd (true≢false e)
neither false b e = (refl, e)

pub both_right : (s u : Summary) (f a : Tree) → IsSummary s f → IsSummary u a → IsSummary (both s u) (apply f a)
both_right s u f a h k = record {
  closed = (closed_further s.bound _ f (omega arith) h.closed, closed_further u.bound _ a (omega arith) k.closed);
  ruled = λ e. (h.ruled (neither s.rule_variables u.rule_variables e).0, k.ruled (neither s.rule_variables u.rule_variables e).1);
  plain = λ e. (h.plain (neither s.annotations u.annotations e).0, k.plain (neither s.annotations u.annotations e).1);
}

pub inside_right : (s : Summary) (b : Tree) → IsSummary s b → IsSummary (inside s) (bare b)
inside_right s b h = record { closed = closed_further s.bound _ b (omega arith) h.closed; ruled = h.ruled; plain = h.plain }

pub product_right : (s u : Summary) (a b : Tree) → IsSummary s a → IsSummary u b → IsSummary (both s (inside u)) (product a b)
product_right s u a b h k = record {
  closed = (closed_further s.bound _ a (omega arith) h.closed, closed_further u.bound _ b (omega arith) k.closed);
  ruled = λ e. (h.ruled (neither s.rule_variables u.rule_variables e).0, k.ruled (neither s.rule_variables u.rule_variables e).1);
  plain = λ e. (h.plain (neither s.annotations u.annotations e).0, k.plain (neither s.annotations u.annotations e).1);
}

pub annotated_right : (s u : Summary) (a b : Tree) → IsSummary s a → IsSummary u b
    → IsSummary (record { bound = max s.bound (u.bound - 1); rule_variables = s.rule_variables || u.rule_variables; annotations = true }) (annotated a b)
annotated_right s u a b h k = record {
  closed = (closed_further s.bound _ a (omega arith) h.closed, closed_further u.bound _ b (omega arith) k.closed);
  ruled = λ e. (h.ruled (neither s.rule_variables u.rule_variables e).0, k.ruled (neither s.rule_variables u.rule_variables e).1);
  plain = λ e. absurd (true≢false e);
}
