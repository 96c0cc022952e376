use Rattle.std.proofs.Common.{◌≡◌, ◌+◌, ◌-◌, ◌++◌, map}
use Rattle.std.specs.List.{range_with_len}
use Rattle.df_family.specs.declared.table.Row.TheVariants.{TwoFixed}
use Rattle.df_family.specs.Tables.{entry}
use Rattle.df_family.proofs.table.push_pairs_of.Given as goal

abbrev pub invariant-loop-j : goal.invariant-loop-j
invariant-loop-j l = l.entries.items ≡ l.fn.entries.items ++ map (entry l.problem) (map (TwoFixed l.i) (range_with_len (l.i + 1) (l.j - (l.i + 1))))
