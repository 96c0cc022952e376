use Rattle.df_walk.proofs.DecisionLaws.{sums_bounded}
use Rattle.df_walk.proofs.laws.sums_are_bounded.Goals as goal

pub returns : goal.returns
returns c = sums_bounded
