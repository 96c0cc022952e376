use Rattle.df_walk.proofs.DecisionSplits.{path_split}
use Rattle.df_walk.proofs.laws.paths_split.Goals as goal

pub returns : goal.returns
returns c = path_split
