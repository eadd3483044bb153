use Rattle.std.proofs.Common.{◌≡◌, ◌<◌, length, arith}
use Rattle.std.proofs.lemmas.Bool.Decides.{nat_tests}
use Rattle.one_lexer.proofs.Words.{is_word, word_longer, word_waits}
use Rattle.one_lexer.proofs.word.goes_on.Goals as goal

pub returns-clause-longer : goal.returns-clause-longer
returns-clause-longer c e h n size =
    let some : 0 < c.args.known = omega (arith, c.if-known-eq0.false) in
    let lt : c.args.known < length c.args.bytes.now = omega (arith, c.if-bytes-known.false) in
    let n_is : c.letters.result ≡ length c.split_at.result.1.now = grind (arith, nat_tests) in
    word_longer n c.args.bytes.now size (is_word c.args.known c.letters.result c.args.bytes.now c.split_at.result.1.now some lt c.split_at.ensures.back n_is c.letters.ensures.front c.letters.ensures.back h)

pub returns-clause-waits : goal.returns-clause-waits
returns-clause-waits c e h limit =
    let some : 0 < c.args.known = omega (arith, c.if-known-eq0.false) in
    let lt : c.args.known < length c.args.bytes.now = omega (arith, c.if-bytes-known.false) in
    let n_is : c.letters.result ≡ length c.split_at.result.1.now = grind (arith, nat_tests) in
    word_waits limit c.args.bytes.now (is_word c.args.known c.letters.result c.args.bytes.now c.split_at.result.1.now some lt c.split_at.ensures.back n_is c.letters.ensures.front c.letters.ensures.back h)
