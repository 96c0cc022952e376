use Rattle.df_kramer_mesner.proofs.ToldCells.{cells_told}
use Rattle.df_kramer_mesner.proofs.cells_are_told_by_entries.Goals as goal

pub returns : goal.returns
returns c = cells_told
