use Rattle.df_group.proofs.MultipleLaws.{are_units}
use Rattle.df_group.proofs.laws.units_are_undone.Goals as goal

pub returns : goal.returns
returns c = are_units
