use Rattle.std.proofs.Common.{◌≡◌, length}
use Rattle.df_lists.specs.NumberSets.{IsSet}
use Rattle.df_subsets.proofs.tests.goes_through_all_blocks.Given as goal

abbrev pub invariant-loop-bits : goal.invariant-loop-bits
invariant-loop-bits g l = IsSet l.v l.block × (length l.block ≡ l.k)
