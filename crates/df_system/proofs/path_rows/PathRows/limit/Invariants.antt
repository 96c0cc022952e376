use Rattle.std.proofs.Common.{length}
use Rattle.df_system.proofs.PathRowLaws.{LimitOf}
use Rattle.df_system.proofs.path_rows.PathRows.limit.Given as goal

abbrev pub invariant-loop-row : goal.invariant-loop-row
invariant-loop-row l = LimitOf (length l.self.system.columns) l.row-items l.row-index l.limit
