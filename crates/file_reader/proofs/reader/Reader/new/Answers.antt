use Rattle.std.proofs.Common.{◌≡◌, [], refl, arith}
use Rattle.dk_lexer.specs.Tokens.{broken, whole}
use Rattle.file_reader.proofs.Loading.{starts}
use Rattle.file_reader.proofs.reader.Reader.new.Goals as goal

pub returns-clause-begun : goal.returns-clause-begun
returns-clause-begun c = record {
  limits = c.args.limits;
  given = [];
  done = [];
  holds = starts c.args.limits _ c.new.ensures.limits (c.new.ensures.knows []) c.new-2.ensures c.new-3.ensures refl;
  counted = omega arith;
}

pub returns-clause-behind : goal.returns-clause-behind
returns-clause-behind c = λ bytes. record {
  given = [];
  rest = bytes;
  bytes_are = refl;
  left_is = refl;
  last = λ is. absurd (let bad : broken ≡ whole = is in cc);
  holds = starts c.args.limits _ c.new.ensures.limits (c.new.ensures.knows []) c.new-2.ensures c.new-3.ensures refl;
}
