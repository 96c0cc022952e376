use Rattle.std.proofs.Common.{◌≡◌, ◌+◌, ◌<◌, ℕ, take, drop, length}
use Rattle.df_walk.specs.Systems.{entry_of}
use Rattle.df_system.specs.CountedRows.{RowsAlong, HaveDeadlines, BarFullRows, with_entry}
use Rattle.df_system.proofs.path_rows.take_along.Given as goal

abbrev pub invariant-loop-cell : goal.invariant-loop-cell
invariant-loop-cell g l = record {
  along : RowsAlong with_entry (take l.cell-index l.cell-items) l.initial.rows l.rows;
  due : HaveDeadlines l.system l.rules l.rows;
  small : (row : ℕ) → entry_of (take l.cell-index l.cell-items) row < 4294967296;
  same : l.barred.system ≡ l.initial.barred.system;
  lower : drop 1 l.barred.levels ≡ drop 1 l.initial.barred.levels;
  depth : length l.barred.levels ≡ length l.initial.barred.levels;
  bar : BarFullRows l.barred.levels l.rows;
  cost : l.steps ≡ l.initial.steps + l.cell-index;
}
