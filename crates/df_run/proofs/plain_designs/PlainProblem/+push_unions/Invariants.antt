use Rattle.df_run.proofs.plain_designs.PlainProblem.+push_unions.Given as goal

abbrev pub decreases-push_unions : goal.decreases-push_unions
decreases-push_unions g l = l.left
