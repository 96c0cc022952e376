use Rattle.df_matrix.proofs.Tallies.{IsTelling}
use Rattle.df_matrix.proofs.cells.tally.Given as goal

abbrev pub invariant-loop-i : goal.invariant-loop-i
invariant-loop-i l = IsTelling l.rows l.i l.count l.cells.items
