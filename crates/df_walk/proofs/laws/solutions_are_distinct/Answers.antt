use Rattle.df_walk.proofs.NeedBounds.{solution_once}
use Rattle.df_walk.proofs.laws.solutions_are_distinct.Goals as goal

pub returns : goal.returns
returns c = solution_once
