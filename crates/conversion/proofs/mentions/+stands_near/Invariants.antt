use Rattle.conversion.proofs.mentions.+stands_near.Given as goal

abbrev pub decreases-stands_near : goal.decreases-stands_near
decreases-stands_near l = l.depth
