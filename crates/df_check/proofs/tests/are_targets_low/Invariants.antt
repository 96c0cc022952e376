use Rattle.std.proofs.Common.{ℕ, ◌<◌, ◌≤◌}
use Rattle.df_walk.specs.Systems.{target}
use Rattle.df_check.proofs.tests.are_targets_low.Given as goal

abbrev pub invariant-loop-row : goal.invariant-loop-row
invariant-loop-row l = (k : ℕ) → k < l.row → target l.system k ≤ 8000000
