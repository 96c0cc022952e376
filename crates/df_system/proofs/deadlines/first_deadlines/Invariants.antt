use Rattle.std.proofs.Common.{◌+◌}
use Rattle.df_system.proofs.DeadlineTables.{FirstSet}
use Rattle.df_system.proofs.deadlines.first_deadlines.Given as goal

abbrev pub invariant-loop-row : goal.invariant-loop-row
invariant-loop-row l = FirstSet l.rows l.width l.row (l.columns + 1) l.deadlines.items
