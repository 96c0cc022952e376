use Rattle.std.proofs.Common.{◌≡◌, ◌≤◌, filter, length}
use Rattle.std.specs.List.{range_with_len}
use Rattle.df_lists.specs.NumberSets.{has_member}
use Rattle.df_mixed.specs.Origins.{origins_of}
use Rattle.df_mixed.proofs.pairs.origins.Given as goal

abbrev pub invariant-loop-number : goal.invariant-loop-number
invariant-loop-number l = record {
  pairs : l.origins.items ≡ origins_of l.problem (filter (has_member l.shifts) (range_with_len 0 l.number)) l.p l.q;
  few : length l.origins.items ≤ l.number;
}
