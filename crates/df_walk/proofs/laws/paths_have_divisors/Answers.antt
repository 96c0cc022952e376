use Rattle.std.proofs.Common.{ap}
use Rattle.df_walk.specs.Systems.{entries}
use Rattle.df_walk.specs.Assignments.{common_divisor}
use Rattle.df_walk.proofs.DecisionLaws.{open_values-decided}
use Rattle.df_walk.proofs.laws.paths_have_divisors.Goals as goal

pub returns : goal.returns
returns c = λ s p row. ap common_divisor (open_values-decided (entries s row) p)
