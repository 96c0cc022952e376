use Rattle.df_mixed.proofs.PairBalance.{one_row}
use Rattle.df_mixed.proofs.laws.orbits_have_one_row.Goals as goal

pub returns : goal.returns
returns c = one_row
