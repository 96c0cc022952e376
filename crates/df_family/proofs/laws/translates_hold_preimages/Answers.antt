use Rattle.df_family.proofs.BalanceLaws.{preimage}
use Rattle.df_family.proofs.laws.translates_hold_preimages.Goals as goal

pub returns : goal.returns
returns c = preimage
