use Rattle.df_group.proofs.SubgroupLaws.{are_subgroups}
use Rattle.df_group.proofs.laws.subgroups_are_closed.Goals as goal

pub returns : goal.returns
returns c = are_subgroups
