-- A selection that asks for something waits with the arguments of its symbol.
use Rattle.std.proofs.Common.{◌≡◌, ℕ, Vec, Global, sym as flip, subst}
use Rattle.dk_model.specs.Signatures.{PlainSignature}
use Rattle.dk_model.specs.SymbolRules.{rules_of}
use Rattle.shared_term.specs.declared.id.TermId.{TermId}
use Rattle.rule_match.specs.declared.matcher.Matcher.{Matcher}
use Rattle.rule_match.specs.Selecting.{IsMatcher, Stands}
use Rattle.conversion.specs.declared.pauses.Waiter.{Waiter}
use Rattle.conversion.specs.Machine.{AreWithin}
use Rattle.conversion.specs.Pausing.{IsWaiter}

pub waiter_made : (S : PlainSignature) (n k : ℕ) (m : Matcher) (stack : Vec TermId Global) (w : Waiter) → w ≡ record { symbol = k; matcher = m; stack = stack } → IsMatcher n m → Stands (rules_of S k) m
    → AreWithin n stack.items → IsWaiter S n w
waiter_made S n k m stack w e h s l = subst (IsWaiter S n) (flip e) (record { matcher = h; stands = s; stack = l })
