use Rattle.df_kramer_mesner.proofs.RowLists.{are_rows}
use Rattle.df_kramer_mesner.proofs.rows_are_pairs_and_needed.Goals as goal

pub returns : goal.returns
returns c = are_rows
