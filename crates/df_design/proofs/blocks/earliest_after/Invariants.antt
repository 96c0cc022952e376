use Rattle.std.proofs.Common.{length}
use Rattle.df_design.specs.LeftBlocks.{AreGathered}
use Rattle.df_design.proofs.blocks.earliest_after.Given as goal

abbrev pub invariant-loop-base : goal.invariant-loop-base
invariant-loop-base l = AreGathered l.matrix l.chosen l.last l.ready.items l.reps

abbrev pub decreases-loop-base : goal.decreases-loop-base
decreases-loop-base l = length l.reps
