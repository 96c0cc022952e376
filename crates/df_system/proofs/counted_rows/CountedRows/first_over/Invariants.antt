use Rattle.std.proofs.Common.{◌≡◌, ℕ, ◌<◌, false}
use Rattle.df_system.specs.CountedRows.{is_over_row, row_at}
use Rattle.df_system.proofs.counted_rows.CountedRows.first_over.Given as goal

abbrev pub invariant-loop-row : goal.invariant-loop-row
invariant-loop-row l = (k : ℕ) → k < l.row → is_over_row (row_at l.self-inside.rows.items k) ≡ false
