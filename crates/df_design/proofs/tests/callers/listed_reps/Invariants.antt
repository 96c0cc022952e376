use Rattle.std.proofs.Common.{◌≡◌, ◌++◌, length}
use Rattle.df_design.proofs.tests.callers.listed_reps.Given as goal

abbrev pub invariant-loop-block : goal.invariant-loop-block
invariant-loop-block l = l.listed.items ++ l.reps ≡ l.initial.reps

abbrev pub decreases-loop-block : goal.decreases-loop-block
decreases-loop-block l = length l.reps
