use Rattle.std.proofs.Common.{arith, ap, length}
use Rattle.df_system.proofs.PathRowLaws.{limit_is}
use Rattle.df_system.proofs.path_rows.PathRows.limit.Goals as goal

pub returns : goal.returns
returns c =
    let long = ap length c.rows-row-items.ensures in
    rw (← c.self.view_is) (limit_is c.loop-row.row-index c.loop-row.limit c.self.invariant.rows_are (omega (arith, long, c.loop-row-test.false)) (omega (arith, long, c.loop-row.auto.row-index-end)) (rw (← c.self.view_is, c.rows-row-items.ensures) at c.loop-row.invariant))
