use Rattle.df_mixed.proofs.PairBalance.{pair_balance}
use Rattle.df_mixed.proofs.laws.pair_table_tells_balance.Goals as goal

pub returns : goal.returns
returns c = pair_balance
