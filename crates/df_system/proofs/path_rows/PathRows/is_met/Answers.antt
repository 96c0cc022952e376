use Rattle.df_system.proofs.PathRowLaws.{tells_met}
use Rattle.df_system.proofs.path_rows.PathRows.is_met.Goals as goal

pub returns : goal.returns
returns c = rw (← c.self.view_is) (tells_met c.self.invariant.rows_are c.is_unmet.result c.is_unmet.ensures)
