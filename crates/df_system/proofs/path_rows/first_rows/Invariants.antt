use Rattle.std.proofs.Common.{◌≡◌, ◌<◌, ℕ, length}
use Rattle.df_walk.specs.Systems.{target, entries}
use Rattle.df_system.specs.CountedRows.{row_at}
use Rattle.df_system.specs.Deadlines.{IsDeadline}
use Rattle.df_system.proofs.path_rows.first_rows.Given as goal

abbrev pub invariant-loop-row : goal.invariant-loop-row
invariant-loop-row l = record {
  long : length l.rows.items ≡ l.row;
  targets : (k : ℕ) → k < l.row → (row_at l.rows.items k).target ≡ target l.system k;
  taken : (k : ℕ) → k < l.row → (row_at l.rows.items k).taken ≡ 0;
  due : (k : ℕ) → k < l.row → IsDeadline l.rules (entries l.system k) (row_at l.rows.items k).target (row_at l.rows.items k).taken (row_at l.rows.items k).due;
}
