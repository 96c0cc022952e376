use Rattle.std.proofs.Common.{◌≡◌, take}
use Rattle.std.specs.List.{sum_by}
use Rattle.df_subsets.specs.Subsets.{binomial}
use Rattle.df_orbits.proofs.orbits.count_blocks.Given as goal

abbrev pub invariant-loop-size : goal.invariant-loop-size
invariant-loop-size l = l.sum ≡ sum_by (binomial l.points) (take l.size-index l.sizes)
