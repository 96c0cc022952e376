use Rattle.std.proofs.Common.{arith}
use Rattle.df_dossier.proofs.LinesShort.{rows_more}
use Rattle.df_dossier.proofs.lengths.rows_are_short.Goals as goal

pub loop-row-preserved : goal.loop-row-preserved
loop-row-preserved c = omega (arith, c.loop-row.invariant, rows_more c.args.rows.now c.loop-row.row-index _ c.loop-row-test.true c.row_is_short.ensures)
