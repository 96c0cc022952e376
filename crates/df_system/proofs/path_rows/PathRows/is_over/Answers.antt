use Rattle.df_system.proofs.PathRowLaws.{tells_over}
use Rattle.df_system.proofs.path_rows.PathRows.is_over.Goals as goal

pub returns : goal.returns
returns c = rw (← c.self.view_is) (tells_over c.self.invariant.rows_are c.is_over.result c.is_over.ensures)
