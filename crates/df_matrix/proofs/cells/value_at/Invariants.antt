use Rattle.std.proofs.Common.{◌≡◌, drop}
use Rattle.df_walk.specs.Systems.{entry_of}
use Rattle.df_matrix.proofs.cells.value_at.Given as goal

abbrev pub invariant-loop-cell : goal.invariant-loop-cell
invariant-loop-cell l = entry_of (drop l.cell-index l.cells) l.row ≡ entry_of l.cells l.row
