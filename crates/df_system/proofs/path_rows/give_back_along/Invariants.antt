use Rattle.std.proofs.Common.{◌≡◌, ◌+◌, take}
use Rattle.df_system.specs.CountedRows.{RowsAlong, HaveDeadlines, without_entry}
use Rattle.df_system.proofs.path_rows.give_back_along.Given as goal

abbrev pub invariant-loop-cell : goal.invariant-loop-cell
invariant-loop-cell g l = record {
  along : RowsAlong without_entry (take l.cell-index l.cell-items) l.initial.rows l.rows;
  due : HaveDeadlines l.system l.rules l.rows;
  cost : l.steps ≡ l.initial.steps + l.cell-index;
}
