-- An answer of the kind that was asked for.
use Rattle.std.proofs.Common.{◌≡◌, ◌<◌, ℕ}
use Rattle.shared_term.specs.declared.id.TermId.{TermId}
use Rattle.rule_match.specs.declared.matcher.Ask.TheVariants.{Evaluate, Escape, Same}
use Rattle.rule_match.specs.declared.matcher.Stage.{Stage}
use Rattle.rule_match.specs.declared.matcher.Stage.TheVariants.{Begins, Evaluates, Escapes, Compares, Guards, Ends}
use Rattle.rule_match.specs.declared.matcher.Answer.TheVariants.{Begin, Value, Yes, No, Normal}
use Rattle.rule_match.specs.Matching.{Awaits, IsAnswer}

pub value_fits : (n : ℕ) (st : Stage) (i : ℕ) (v : TermId) → Awaits st (Evaluate i) → v.0 < n → IsAnswer n st (Value v)
value_fits n Begins i v h l = h
value_fits n (Evaluates j) i v h l = l
value_fits n (Escapes j) i v h l = h
value_fits n (Compares j) i v h l = h
value_fits n (Guards j) i v h l = h
value_fits n Ends i v h l = h

pub normal_fits : (n : ℕ) (st : Stage) (t v : TermId) → Awaits st (Escape t) → v.0 < n → IsAnswer n st (Normal v)
normal_fits n Begins t v h l = h
normal_fits n (Evaluates j) t v h l = h
normal_fits n (Escapes j) t v h l = l
normal_fits n (Compares j) t v h l = h
normal_fits n (Guards j) t v h l = h
normal_fits n Ends t v h l = h

pub alike_fits : (n : ℕ) (st : Stage) (a b : TermId) → Awaits st (Same a b) → IsAnswer n st Yes × IsAnswer n st No
alike_fits n Begins a b h = (h, h)
alike_fits n (Evaluates j) a b h = (h, h)
alike_fits n (Escapes j) a b h = (h, h)
alike_fits n (Compares j) a b h = (tt, tt)
alike_fits n (Guards j) a b h = (tt, tt)
alike_fits n Ends a b h = (h, h)

pub begin_fits : (n : ℕ) (st : Stage) → st ≡ Begins → IsAnswer n st Begin
begin_fits n Begins e = tt
begin_fits n (Evaluates j) e = cc
begin_fits n (Escapes j) e = cc
begin_fits n (Compares j) e = cc
begin_fits n (Guards j) e = cc
begin_fits n Ends e = cc
