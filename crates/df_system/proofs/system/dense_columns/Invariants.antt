use Rattle.std.proofs.Common.{◌≡◌, map}
use Rattle.std.specs.List.{range_with_len}
use Rattle.df_system.specs.Storage.{positive_cells, column_entries}
use Rattle.df_system.proofs.system.dense_columns.Given as goal

abbrev pub invariant-loop-column : goal.invariant-loop-column
invariant-loop-column l = l.columns ≡ map (λ k. positive_cells 0 (column_entries l.rows l.entries k)) (range_with_len 0 l.column)
