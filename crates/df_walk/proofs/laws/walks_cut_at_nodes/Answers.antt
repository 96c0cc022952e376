use Rattle.df_walk.proofs.WalkCuts.{walk_cut_at_node}
use Rattle.df_walk.proofs.laws.walks_cut_at_nodes.Goals as goal

pub returns : goal.returns
returns c = walk_cut_at_node
