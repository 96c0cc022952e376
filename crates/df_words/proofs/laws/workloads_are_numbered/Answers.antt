use Rattle.df_words.proofs.Workloads.{workloads_numbered}
use Rattle.df_words.proofs.laws.workloads_are_numbered.Goals as goal

pub returns : goal.returns
returns c = workloads_numbered
