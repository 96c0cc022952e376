use Rattle.df_lists.proofs.TotalLaws.{total_turn}
use Rattle.df_lists.proofs.totals_turn.Goals as goal

pub returns : goal.returns
returns c = total_turn
