use Rattle.term_print.specs.Named.{spellings}
use Rattle.term_print.proofs.Walked.{part_popped}
use Rattle.term_print.proofs.spellings.spellings_of.Goals as goal

pub parts-preserved : goal.parts-preserved
parts-preserved g c =
    part_popped (g.S.Source.denotes c.args.source.now) (g.W.Words.word c.args.words.now) (spellings (g.W.Words.word c.args.words.now) (g.S.Source.denotes c.args.source.now c.args.whole)) c.parts.search.found c.find_in.new.search.found
    c.parts.search.left.items c.pop.new.self.items c.find_in.new.search.left.items c.in-Some.term c.in-Some.ensures.items c.parts.invariant c.in_ok-find_in.ensures.spelt
