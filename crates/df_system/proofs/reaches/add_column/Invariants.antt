use Rattle.std.proofs.Common.{take}
use Rattle.df_system.specs.Reaches.{AreReaching}
use Rattle.df_system.proofs.DeadlineTables.{part_of}
use Rattle.df_system.proofs.reaches.add_column.Given as goal

abbrev pub invariant-loop-cell : goal.invariant-loop-cell
invariant-loop-cell l = AreReaching l.system (part_of l.system l.column (take l.cell-index l.cell-items)) l.reaches.items
