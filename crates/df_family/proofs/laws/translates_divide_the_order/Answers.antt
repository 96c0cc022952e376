use Rattle.df_family.proofs.BalanceLaws.{translates_divide}
use Rattle.df_family.proofs.laws.translates_divide_the_order.Goals as goal

pub returns : goal.returns
returns c = translates_divide
