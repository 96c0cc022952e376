use Rattle.std.proofs.Common.{◌≡◌, ◌≤◌, ◌+◌, ◌<◌, ℕ, get_or}
use Rattle.df_system.specs.CountedRows.{row_at}
use Rattle.df_system.proofs.SortedCells.{blank}
use Rattle.df_system.proofs.path_rows.PathRows.over_with.Given as goal

abbrev pub invariant-loop-cell : goal.invariant-loop-cell
invariant-loop-cell g l = record {
  fit : (k : ℕ) → k < l.cell-index → (row_at l.self-inside.rows (get_or l.cell-items k blank).row).taken + (get_or l.cell-items k blank).value ≤ (row_at l.self-inside.rows (get_or l.cell-items k blank).row).target;
  cost : l.steps ≡ l.initial.steps + l.cell-index;
}
