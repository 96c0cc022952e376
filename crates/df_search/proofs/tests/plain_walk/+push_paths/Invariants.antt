use Rattle.df_search.proofs.tests.plain_walk.+push_paths.Given as goal

abbrev pub decreases-push_paths : goal.decreases-push_paths
decreases-push_paths l = l.left
