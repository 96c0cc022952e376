use Rattle.df_walk.proofs.SettledDecisions.{settled_one}
use Rattle.df_walk.proofs.laws.settled_is_one.Goals as goal

pub returns : goal.returns
returns c = settled_one
