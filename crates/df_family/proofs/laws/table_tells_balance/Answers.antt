use Rattle.df_family.proofs.BalanceLaws.{balance}
use Rattle.df_family.proofs.laws.table_tells_balance.Goals as goal

pub returns : goal.returns
returns c = balance
