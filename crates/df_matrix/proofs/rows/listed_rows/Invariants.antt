use Rattle.df_matrix.specs.MatrixParts.{AreRowsOf, pairs_before}
use Rattle.df_matrix.proofs.rows.listed_rows.Given as goal

abbrev pub invariant-loop-i : goal.invariant-loop-i
invariant-loop-i l = AreRowsOf l.orbits (pairs_before l.i l.block) l.rows.items
