use Rattle.std.proofs.Common.{rules, ◌≡◌, ◌∷◌}
use Rattle.one_lexer.proofs.Words.{begins_word}
use Rattle.one_lexer.proofs.word.word_begun.Goals as goal

pub returns-then-first-eq35 : goal.returns-then-first-eq35
returns-then-first-eq35 c =
    let at : c.args.bytes.now ≡ c.in_ok-first.first.now ∷ c.in_ok-first.rest.now = search rules in
    let hash : c.in_ok-first.first.now ≡ 35 = search rules in
    begins_word c.letters.result c.in_ok-first.first.now c.in_ok-first.rest.now c.args.bytes.now at hash c.letters.ensures.within c.letters.ensures.front
