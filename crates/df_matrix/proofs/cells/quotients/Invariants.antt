use Rattle.std.proofs.Common.{◌≡◌, map, take}
use Rattle.df_matrix.specs.MatrixParts.{quotient_cell}
use Rattle.df_matrix.proofs.cells.quotients.Given as goal

abbrev pub invariant-loop-cell : goal.invariant-loop-cell
invariant-loop-cell l = l.cells.items ≡ map (quotient_cell l.orbits l.size) (take l.cell-index l.tally)
