use Rattle.std.proofs.Common.{◌≡◌, ◌-◌, ◌++◌, map}
use Rattle.std.specs.List.{range_with_len}
use Rattle.df_family.specs.declared.table.Row.TheVariants.{Diff}
use Rattle.df_family.specs.Tables.{entry}
use Rattle.df_family.proofs.table.push_differences.Given as goal

abbrev pub invariant-loop-d : goal.invariant-loop-d
invariant-loop-d l = l.entries.items ≡ l.fn.entries.items ++ map (entry l.problem) (map Diff (range_with_len 1 (l.d - 1)))
