use Rattle.std.proofs.Common.{◌≡◌, ◌+◌, ◌-◌, ◌^◌, ◌<◌, ◌≤◌}
use Rattle.std.specs.List.{range_with_len}
use Rattle.df_lists.specs.Bits.{weight}
use Rattle.df_subsets.proofs.subsets.below_top.Given as goal

abbrev pub invariant-loop-top : goal.invariant-loop-top
invariant-loop-top l = record {
  fits : l.top ≤ l.v;
  small : l.low < 2 ^ (l.v - l.top);
  split : l.low + weight (range_with_len (l.v - l.top) l.top) ≡ l.bits;
}

abbrev pub decreases-loop-top : goal.decreases-loop-top
decreases-loop-top l = l.v - l.top
