use Rattle.df_walk.proofs.DecisionSplits.{column_split}
use Rattle.df_walk.proofs.laws.columns_split.Goals as goal

pub returns : goal.returns
returns c = column_split
