use Rattle.std.proofs.Common.{arith}
use Rattle.df_lists.proofs.SetLaws.{same_points}
use Rattle.df_subsets.proofs.BlockLaws.{block_of_below}
use Rattle.df_lists.proofs.RisingLists.{Rises-bound, length_fits}
use Rattle.df_lists.proofs.RisingLists.{point_below}
use Rattle.df_subsets.proofs.laws.blocks_are_sets.Goals as goal

pub returns : goal.returns
returns c = record {
  inside = Rises-bound 0;
  at = λ v b i d r h. point_below 0 v b i d r h;
  few = λ v b r. let f = length_fits 0 v b (omega arith) r in omega (arith, f);
  same = same_points 0;
  below = block_of_below;
}
