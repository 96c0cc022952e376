use Rattle.std.proofs.Common.{◌≡◌, ◌-◌, ◌++◌, map}
use Rattle.std.specs.List.{range_with_len}
use Rattle.df_family.specs.declared.table.Row.TheVariants.{WithFixed}
use Rattle.df_family.specs.Tables.{entry}
use Rattle.df_family.proofs.table.push_singles.Given as goal

abbrev pub invariant-loop-i : goal.invariant-loop-i
invariant-loop-i l = l.entries.items ≡ l.fn.entries.items ++ map (entry l.problem) (map WithFixed (range_with_len 1 (l.i - 1)))
