use Rattle.std.proofs.Common.{◌≡◌, ◌++◌, take}
use Rattle.df_system.specs.Storage.{positive_cells}
use Rattle.df_system.proofs.columns.push_positive.Given as goal

abbrev pub invariant-loop-row : goal.invariant-loop-row
invariant-loop-row l = l.cells.items ≡ l.initial.cells.items ++ positive_cells 0 (take l.row l.entries)
