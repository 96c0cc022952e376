use Rattle.df_walk.proofs.WalkSolutions.{solutions_in-walk}
use Rattle.df_walk.proofs.WalkLogs.{walk-proves}
use Rattle.df_walk.proofs.laws.walks_are_logs.Goals as goal

pub returns : goal.returns
returns c = λ rules s ok. rw (← solutions_in-walk rules s ok) (walk-proves rules s)
