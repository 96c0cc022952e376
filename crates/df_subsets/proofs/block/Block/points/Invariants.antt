use Rattle.std.proofs.Common.{◌≡◌, ◌++◌, length}
use Rattle.df_subsets.proofs.block.Block.points.Given as goal

abbrev pub invariant-loop-p : goal.invariant-loop-p
invariant-loop-p l = l.points.items ++ l.rest ≡ l.self

abbrev pub decreases-loop-p : goal.decreases-loop-p
decreases-loop-p l = length l.rest
