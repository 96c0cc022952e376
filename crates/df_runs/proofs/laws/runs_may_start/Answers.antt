use Rattle.std.proofs.Common.{arith}
use Rattle.df_walk.proofs.NodeVisits.{start_of}
use Rattle.df_runs.proofs.laws.runs_may_start.Goals as goal

pub returns : goal.returns
returns c = λ rules s. record {
  empty = record { short = omega arith; visited = tt };
  node = start_of rules s;
}
