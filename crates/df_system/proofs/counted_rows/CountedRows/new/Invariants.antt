use Rattle.std.proofs.Common.{◌≡◌, ◌≤◌, take}
use Rattle.df_system.specs.CountedRows.{rows_passing, is_over_row, is_unmet_row}
use Rattle.df_system.proofs.counted_rows.CountedRows.new.Given as goal

abbrev pub invariant-loop-row : goal.invariant-loop-row
invariant-loop-row l = record {
  over : l.over ≡ rows_passing is_over_row (take l.row l.rows.items);
  unmet : l.unmet ≡ rows_passing is_unmet_row (take l.row l.rows.items);
  over_few : l.over ≤ l.row;
  unmet_few : l.unmet ≤ l.row;
}
