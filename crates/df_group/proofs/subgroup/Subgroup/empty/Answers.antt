use Rattle.df_group.specs.Subgroups.{IsStored}
use Rattle.df_group.proofs.subgroup.Subgroup.empty.Goals as goal

pub returns-clause-stored : goal.returns-clause-stored
unfolding IsStored
returns-clause-stored c = c.empty.ensures.set
