use Rattle.df_lists.proofs.TotalLaws.{total_swap}
use Rattle.df_lists.proofs.totals_swap.Goals as goal

pub returns : goal.returns
returns c = total_swap
