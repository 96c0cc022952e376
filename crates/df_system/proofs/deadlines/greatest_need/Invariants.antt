use Rattle.std.proofs.Common.{◌<◌, ◌≤◌, ℕ, min}
use Rattle.df_walk.specs.Systems.{entries, target}
use Rattle.df_walk.specs.Assignments.{total}
use Rattle.df_system.proofs.deadlines.greatest_need.Given as goal

abbrev pub invariant-loop-row : goal.invariant-loop-row
invariant-loop-row l = (k : ℕ) → k < l.row → min (target l.system k) (total (entries l.system k)) ≤ l.most
