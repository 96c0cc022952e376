use Rattle.std.proofs.Common.{◌≡◌, map, filter}
use Rattle.std.specs.List.{range_with_len, flat_map}
use Rattle.df_mixed.specs.PairOrbits.{shifts_of, is_row, pairs_from}
use Rattle.df_mixed.specs.MixedTables.{pair_entry}
use Rattle.df_mixed.proofs.table.pair_table.Given as goal

abbrev pub invariant-loop-p : goal.invariant-loop-p
invariant-loop-p l = l.entries.items ≡ map (pair_entry l.problem (shifts_of l.problem)) (filter (is_row l.problem (shifts_of l.problem)) (flat_map (pairs_from l.problem) (range_with_len 0 l.p)))
