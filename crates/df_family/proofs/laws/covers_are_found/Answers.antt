use Rattle.df_family.proofs.BalanceLaws.{covers_found}
use Rattle.df_family.proofs.laws.covers_are_found.Goals as goal

pub returns : goal.returns
returns c = covers_found
