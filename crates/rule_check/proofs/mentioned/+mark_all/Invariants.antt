use Rattle.rule_check.proofs.mentioned.+mark_all.Given as goal

abbrev pub decreases-mark_all : goal.decreases-mark_all
decreases-mark_all g l = l.depth
