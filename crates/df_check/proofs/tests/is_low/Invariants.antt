use Rattle.std.proofs.Common.{ℕ, ◌<◌, ◌≤◌}
use Rattle.df_walk.specs.Systems.{entry}
use Rattle.df_check.proofs.tests.is_low.Given as goal

abbrev pub invariant-loop-row : goal.invariant-loop-row
invariant-loop-row g l = (k : ℕ) → k < l.row → entry l.system k l.column ≤ 8000000
