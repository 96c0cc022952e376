use Rattle.std.proofs.Common.{◌≡◌, ◌++◌, Some, map, drop}
use Rattle.df_walk.specs.Solutions.{yes_columns_from, chosen_columns}
use Rattle.df_tell.proofs.listing.yes_columns.Given as goal

-- the columns of the list and the yes columns that are left are all
abbrev pub invariant-loop-column : goal.invariant-loop-column
invariant-loop-column l = record { all : l.chosen.items ++ yes_columns_from l.column (map Some (drop l.column l.decisions)) ≡ chosen_columns l.decisions }
