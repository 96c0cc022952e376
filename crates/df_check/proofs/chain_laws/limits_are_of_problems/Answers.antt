use Rattle.df_check.proofs.LimitsTold.{limits_told}
use Rattle.df_check.proofs.chain_laws.limits_are_of_problems.Goals as goal

pub returns : goal.returns
returns c = limits_told
