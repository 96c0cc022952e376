use Rattle.df_maps.proofs.MapsFacts.{are_group}
use Rattle.df_maps.proofs.laws.maps_are_groups.Goals as goal

pub returns : goal.returns
returns c = are_group
