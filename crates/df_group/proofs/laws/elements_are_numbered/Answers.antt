use Rattle.df_group.proofs.PlaceLaws.{are_numbered}
use Rattle.df_group.proofs.laws.elements_are_numbered.Goals as goal

pub returns : goal.returns
returns c = are_numbered
