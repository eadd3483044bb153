use Rattle.std.proofs.Common.{◌≡◌, ◌≤◌, ℕ, List, length}
use Rattle.dk_lexer.specs.declared.token.Token.{Token}
use Rattle.one_lexer.specs.Lexers.{Knows}
use Rattle.one_lexer.specs.Reading.{last_of}
use Rattle.one_lexer.proofs.lexer.Lexer.steps.Given as goal

abbrev pub invariant-loop-rest : goal.invariant-loop-rest
invariant-loop-rest l = record {
  within : length l.rest ≤ length l.bytes;
  front : l.rest ≡ last_of (length l.rest) l.bytes;
  limits : l.self.limits ≡ l.fn.self.limits;
  knows : (before : List ℕ) (ts : List Token) → Knows l.over before ts l.bytes l.fn.self → Knows l.over before ts l.rest l.self;
}

abbrev pub decreases-loop-rest : goal.decreases-loop-rest
decreases-loop-rest l = length l.rest
