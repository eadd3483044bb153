-- A call of a matcher as its callers see it.
use Rattle.std.proofs.Common.{List, [], ◌∷◌, ◌≡◌, ◌<◌, ℕ, zero, suc, Option, Some, None, refl, ap, map, length, arith}
use Rattle.std.proofs.lemmas.List.{length-map}
use Rattle.std.specs.Prelude.{IfOk, OnOk, Result, Ok, Err, slice_get, if◌then◌else◌}
use Rattle.dk_model.specs.Signatures.{PlainRule, PlainSignature}
use Rattle.dk_model.specs.Units.{Units}
use Rattle.dk_model.specs.Selection.{Selected}
use Rattle.dk_model.specs.declared.memory.NoMemory.{NoMemory}
use Rattle.shared_term.specs.Pools.{Node}
use Rattle.rule_match.specs.declared.matcher.Answer.TheVariants.{Yes, No}
use Rattle.rule_match.specs.declared.matcher.Ask.{Ask}
use Rattle.rule_match.specs.declared.matcher.Ask.TheVariants.{Evaluate, Escape, Same, Take, Nothing}
use Rattle.rule_match.specs.declared.matcher.Matcher.{Matcher}
use Rattle.rule_match.specs.declared.matcher.Stage.{Stage}
use Rattle.rule_match.specs.declared.matcher.Stage.TheVariants.{Begins, Evaluates, Escapes, Compares, Guards, Ends}
use Rattle.rule_match.specs.declared.value.Column.{Column}
use Rattle.rule_match.specs.Matching.{IsMatcher, IsStage, Awaits, Stands, Asks, AsksFor}
use Rattle.rule_match.specs.Selecting.{AwaitsAnswer, ComesTo, Comes, terms_in}
use Rattle.rule_match.proofs.Larger.{value_told, value_ends, normal_told, normal_ends, alike_told, alike_ends, rule_taken, none_taken, alike_answers}
use Rattle.rule_match.proofs.Telling.{value_fits, normal_fits}

-- each answer fits

column_asked : (n k : ℕ) (m : Matcher) (st : Stage) (i : ℕ) → IsStage (length m.columns.items) k st → Awaits st (Evaluate i) → i < length (terms_in m)
column_asked n k m Begins i h w = absurd w
column_asked n k m (Evaluates j) i h w = let q : length (terms_in m) ≡ length m.columns.items = length-map m.columns.items (λ (c : Column). c.term) in omega (arith, h, w, q)
column_asked n k m (Escapes j) i h w = absurd w
column_asked n k m (Compares j) i h w = absurd w
column_asked n k m (Guards j) i h w = absurd w
column_asked n k m Ends i h w = absurd w

fitting : (n : ℕ) (m : Matcher) (ask : Ask) → IsMatcher n m → Awaits m.stage ask → AwaitsAnswer m ask
fitting n m (Evaluate i) h w = (column_asked n (length m.row.cells.items) m m.stage i h.stage w, λ k v l. value_fits k m.stage i v w l)
fitting n m (Escape t) h w = λ k v l. normal_fits k m.stage t v w l
fitting n m (Same a b) h w = λ k alike. alike_answers k m.stage a b alike (if alike then Yes else No) w refl
fitting n m (Take at cs) h w = tt
fitting n m Nothing h w = tt

pub each_fits : (result : Result Ask NoMemory) (n : ℕ) (m : Matcher) → OnOk result (IsMatcher n m) → IfOk result (Awaits m.stage) → IfOk result (AwaitsAnswer m)
each_fits (Ok ask) n m h w = fitting n m ask h w
each_fits (Err stop) n m h w = tt

-- the selection goes on with each answer

comes_to : (S : PlainSignature) (rules : List PlainRule) (ns : List Node) (m : Matcher) (ask : Ask) (due : ℕ → Units (Option Selected)) → IsMatcher (length ns) m → Awaits m.stage ask → AsksFor S rules ns m m.stage ask due
    → ComesTo S rules ns m ask due
comes_to S rules ns m (Evaluate i) due w a h = λ t q. record {
  ends = λ n e. value_ends S rules ns m m.stage i t due n a q h e;
  goes = λ n k new v x e. value_told S rules ns new m x w m.stage i t v due n k a q h e;
}
comes_to S rules ns m (Escape t) due w a h = record {
  ends = λ n e. normal_ends S rules ns m m.stage t due n h e;
  goes = λ n k new v x e. normal_told S rules ns new m x w m.stage t v due n k h e;
}
comes_to S rules ns m (Same p q) due w a h = record {
  ends = λ n e. alike_ends S rules ns m m.stage p q due n h e;
  goes = λ n k new alike x e. alike_told S rules ns new m x w m.stage p q due n k alike (if alike then Yes else No) h e refl;
}
comes_to S rules ns m (Take at cs) due w a h = rule_taken S rules ns m m.stage at cs due h
comes_to S rules ns m Nothing due w a h = none_taken S rules ns m m.stage due h

pub seen : (result : Result Ask NoMemory) (ns : List Node) (m m0 : Matcher) (due : List PlainRule → PlainSignature → ℕ → Units (Option Selected)) → OnOk result (IsMatcher (length ns) m) → IfOk result (Awaits m.stage)
    → IfOk result (λ ask. (rules : List PlainRule) → Stands rules m0 → Asks rules ns m ask (due rules))
    → IfOk result (λ ask. (rules : List PlainRule) → Stands rules m0 → Comes rules ns m ask (due rules))
seen (Ok ask) ns m m0 due w a h = λ rules s. let c : Asks rules ns m ask (due rules) = h rules s in record { stands = c.stands; to = λ S. comes_to S rules ns m ask (due rules S) w a (c.asks S) }
seen (Err stop) ns m m0 due w a h = tt

-- the terms of the columns

pub seen_in_column : (cols : List Column) (i : ℕ) (c : Column) → slice_get cols i ≡ Some c → slice_get (map (λ (c : Column). c.term) cols) i ≡ Some c.term
seen_in_column [] i c e = cc
seen_in_column (d ∷ cols) zero c e = ap (λ (o : Option Column). elim o [ None ↦ None | Some d ↦ Some d.term ]) e
seen_in_column (d ∷ cols) (suc i) c e = seen_in_column cols i c e
