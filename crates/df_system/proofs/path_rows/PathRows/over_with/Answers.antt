use Rattle.std.proofs.Common.{◌<◌, length, get_or, arith, rules, sym}
use Rattle.df_system.proofs.SortedCells.{blank}
use Rattle.df_system.proofs.PathRowLaws.{taken_fits, over_with_cell, none_over_with}
use Rattle.df_system.proofs.path_rows.PathRows.over_with.Goals as goal

pub overflow_add-row : goal.overflow_add-row
overflow_add-row g c =
    let i = c.self.invariant in
    let k = c.loop-cell.cell-index in
    let cell = get_or c.column-cell-items.result.now k blank in
    let small : cell.value < 4294967296 = search rules in
    let within : cell.row < length c.self.inside.rows = omega (arith, c.column-cell-items.ensures.sorted.in_range k blank c.loop-cell-test.true, i.rows_are.long) in
    let fits = taken_fits cell.row i.few_columns i.stacked i.rows_are within in
    rw c.get-row.ensures (omega (arith, fits, small))

pub returns-then-row-cell-clause-row : goal.returns-then-row-cell-clause-row
returns-then-row-cell-clause-row g c =
    rw (← c.self.view_is) (sym (over_with_cell c.args.column c.column-cell-items.result.now c.self.invariant.rows_are c.column-cell-items.ensures.value c.column-cell-items.ensures.sorted (rw (← c.self.view_is) at c.requires.none_over) c.loop-cell.cell-index c.loop-cell-test.true c.loop-cell.invariant.fit (rw c.get-row.ensures at c.if-row-cell.true)))

pub returns-clause-row : goal.returns-clause-row
returns-clause-row g c =
    rw (← c.self.view_is) (sym (none_over_with c.args.column c.column-cell-items.result.now c.self.invariant.rows_are c.column-cell-items.ensures.value c.column-cell-items.ensures.sorted (rw (← c.self.view_is) at c.requires.none_over) c.loop-cell.cell-index c.loop-cell-test.false c.loop-cell.invariant.fit))
