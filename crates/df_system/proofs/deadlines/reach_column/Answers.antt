use Rattle.std.proofs.Common.{arith}
use Rattle.std.proofs.lemmas.List.{take_all}
use Rattle.df_system.proofs.DeadlineTables.{reached_begin, reached_more, reached_end}
use Rattle.df_system.proofs.deadlines.reach_column.Goals as goal

pub loop-cell-init : goal.loop-cell-init
loop-cell-init c = reached_begin c.args.column c.requires.reached

pub loop-cell-preserved : goal.loop-cell-preserved
loop-cell-preserved c =
    reached_more c.args.column c.column-cell-items.result.now c.loop-cell.cell-index c.requires.column c.column-cell-items.ensures.value c.column-cell-items.ensures.sorted c.loop-cell-test.true c.loop-cell.invariant c.reach_cell.new.counts.items c.reach_cell.new.deadlines.items c.reach_cell.ensures.counts c.reach_cell.ensures.long c.reach_cell.ensures.set

pub returns : goal.returns
returns c =
    let all = c.column-cell-items.result.now in
    reached_end c.args.column all c.requires.column c.column-cell-items.ensures.value (rw (take_all c.loop-cell.cell-index all (omega (arith, c.loop-cell-test.false))) at c.loop-cell.invariant)
