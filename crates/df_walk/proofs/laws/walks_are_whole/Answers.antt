use Rattle.df_walk.proofs.WalkSolutions.{solutions_in-walk}
use Rattle.df_walk.proofs.WalkNodes.{nodes_in-walk}
use Rattle.df_walk.proofs.laws.walks_are_whole.Goals as goal

pub returns : goal.returns
returns c = λ rules s ok. record {
  solutions_are = solutions_in-walk rules s ok;
  nodes_are = nodes_in-walk rules s;
}
