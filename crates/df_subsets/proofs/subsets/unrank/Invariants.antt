use Rattle.std.proofs.Common.{◌≡◌, ◌-◌, ◌<◌, ◌++◌, [], get_or}
use Rattle.std.specs.List.{range_with_len}
use Rattle.df_lists.specs.NumberSets.{Rises}
use Rattle.df_subsets.specs.Subsets.{choose, subsets, binomial}
use Rattle.df_subsets.proofs.subsets.unrank.Given as goal

abbrev pub invariant-loop-p : goal.invariant-loop-p
invariant-loop-p l = record {
  stands : get_or (subsets l.fn.v l.fn.k) l.fn.place [] ≡ l.block ++ get_or (choose (range_with_len l.p (l.fn.v - l.p)) l.left) l.place [];
  below : l.place < binomial (l.fn.v - l.p) l.left;
  rises : Rises 0 l.p l.block;
}
