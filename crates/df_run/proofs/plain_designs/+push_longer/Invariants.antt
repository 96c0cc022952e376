use Rattle.df_run.proofs.plain_designs.+push_longer.Given as goal

abbrev pub decreases-push_longer : goal.decreases-push_longer
decreases-push_longer g l = l.left
