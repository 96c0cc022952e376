use Rattle.std.proofs.Common.{◌≡◌, ◌-◌, ◌++◌, map}
use Rattle.std.specs.List.{range_with_len, flat_map}
use Rattle.df_family.specs.Tables.{entry, pairs_of}
use Rattle.df_family.proofs.table.push_pairs.Given as goal

abbrev pub invariant-loop-i : goal.invariant-loop-i
invariant-loop-i l = l.entries.items ≡ l.fn.entries.items ++ map (entry l.problem) (flat_map (pairs_of l.problem) (range_with_len 1 (l.i - 1)))
