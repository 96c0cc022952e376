use Rattle.df_walk.proofs.ColumnWidths.{cells_within}
use Rattle.df_walk.proofs.laws.columns_are_no_wider.Goals as goal

pub returns : goal.returns
returns c = cells_within
