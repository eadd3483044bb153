use Rattle.conversion.proofs.state.PoolReducer.+complete.Given as goal

abbrev pub decreases-complete : goal.decreases-complete
decreases-complete l = l.trees.room
