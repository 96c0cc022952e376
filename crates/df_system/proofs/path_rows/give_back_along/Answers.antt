use Rattle.std.proofs.Common.{◌<◌, ◌-◌, ◌∙◌, get_or, length, arith, ap}
use Rattle.df_system.specs.declared.counted_rows.PathRow.{PathRow}
use Rattle.df_system.specs.CountedRows.{without_entry}
use Rattle.df_system.proofs.SortedCells.{blank}
use Rattle.df_system.proofs.RowChanges.{row_untouched, entry_at_cell, rows_more, deadlines_more}
use Rattle.df_system.proofs.path_rows.give_back_along.Goals as goal

pub overflow_sub-taken : goal.overflow_sub-taken
overflow_sub-taken g c =
    let column = c.column-cell-items.result.now in
    let k = c.loop-cell.cell-index in
    let cell = get_or column k blank in
    let sorted = c.column-cell-items.ensures.sorted in
    let untouched = row_untouched without_entry (λ t. omega arith) _ column k c.args.rows.now c.loop-cell.rows sorted c.loop-cell-test.true c.requires.long c.loop-cell.invariant.along in
    let here = entry_at_cell without_entry (λ t. omega arith) _ column k c.args.rows.now c.loop-cell.rows sorted c.loop-cell-test.true c.requires.long c.loop-cell.invariant.along in
    let can = rw (← c.column-cell-items.ensures.value) at c.requires.taken in
    let enough = can cell.row (omega (arith, sorted.in_range k blank c.loop-cell-test.true, c.requires.long)) in
    rw c.get-before.ensures (omega (arith, untouched, here, enough))

pub row_with-after-requires-clause-goal : goal.row_with-after-requires-clause-goal
row_with-after-requires-clause-goal g c =
    let column = c.column-cell-items.result.now in
    let k = c.loop-cell.cell-index in
    let cell = get_or column k blank in
    let within : cell.row < length c.args.rows.now = omega (arith, c.column-cell-items.ensures.sorted.in_range k blank c.loop-cell-test.true, c.requires.long) in
    ap (λ (r : PathRow). r.target) c.get-before.ensures ∙ c.loop-cell.invariant.along.same cell.row within ∙ c.requires.targets cell.row within

pub loop-cell-preserved : goal.loop-cell-preserved
loop-cell-preserved g c =
    let column = c.column-cell-items.result.now in
    let k = c.loop-cell.cell-index in
    let cell = get_or column k blank in
    let i = c.loop-cell.invariant in
    let after = c.row_with-after.ensures in
    record {
      along = rw c.set.ensures (rows_more without_entry (λ t. omega arith) _ column k c.args.rows.now c.loop-cell.rows c.column-cell-items.ensures.sorted c.loop-cell-test.true c.requires.long i.along c.row_with-after.result (after.target ∙ ap (λ (r : PathRow). r.target) c.get-before.ensures) (after.taken ∙ ap (λ (r : PathRow). r.taken - cell.value) c.get-before.ensures));
      due = rw c.set.ensures (deadlines_more c.args.system.now c.args.rules c.loop-cell.rows cell.row c.row_with-after.result i.due (rw (after.target, after.taken) after.due));
      cost = omega (arith, c.tick.ensures, i.cost);
    }
