use Rattle.df_runs.proofs.WalkRuns.{run_of_all, run_to_node, run_to_unpaid}
use Rattle.df_runs.proofs.laws.steps_are_runs.Goals as goal

pub returns : goal.returns
returns c = λ rules s p h. record {
  whole = λ n few. run_of_all rules s p n h few;
  spent = λ q e taken more joined node. run_to_node rules s p q e taken more h joined node;
  unpaid = λ q e taken more joined counts. run_to_unpaid rules s p q e taken more h joined counts;
}
