use Rattle.df_search.proofs.tests.plain_walk.PlainSystem.+push_walk.Given as goal

abbrev pub decreases-push_walk : goal.decreases-push_walk
decreases-push_walk l = l.left
