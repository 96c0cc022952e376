use Rattle.df_lists.proofs.LeastLaws.{leasts}
use Rattle.df_lists.proofs.sums_over_least_members.Goals as goal

pub returns : goal.returns
returns c = leasts
