use Rattle.df_group.proofs.ElementLaws.{is_group}
use Rattle.df_group.proofs.laws.products_are_groups.Goals as goal

pub returns : goal.returns
returns c = is_group
