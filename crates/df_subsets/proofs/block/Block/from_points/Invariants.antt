use Rattle.std.proofs.Common.{◌≡◌, true, take}
use Rattle.df_lists.specs.NumberSets.{set_of}
use Rattle.df_subsets.specs.Blocks.{are_apart}
use Rattle.df_subsets.proofs.block.Block.from_points.Given as goal

abbrev pub invariant-loop-p : goal.invariant-loop-p
invariant-loop-p l = (l.block ≡ set_of 128 (take l.p-index l.points)) × (are_apart 128 (take l.p-index l.points) ≡ true)
