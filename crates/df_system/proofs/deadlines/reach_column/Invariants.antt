use Rattle.std.proofs.Common.{take}
use Rattle.df_system.specs.Deadlines.{AreReachedBy}
use Rattle.df_system.proofs.DeadlineTables.{part_of}
use Rattle.df_system.proofs.deadlines.reach_column.Given as goal

abbrev pub invariant-loop-cell : goal.invariant-loop-cell
invariant-loop-cell l = AreReachedBy l.system l.width (part_of l.system l.column (take l.cell-index l.cell-items)) l.counts.items l.deadlines.items
