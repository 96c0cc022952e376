use Rattle.df_walk.proofs.NeedBounds.{need_within}
use Rattle.df_walk.proofs.laws.solutions_bound_needs.Goals as goal

pub returns : goal.returns
returns c = need_within
