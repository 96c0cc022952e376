use Rattle.std.proofs.Common.{◌≡◌, ℕ, ◌<◌, false}
use Rattle.std.specs.Prelude.{not}
use Rattle.df_walk.specs.Assignments.{is_met}
use Rattle.df_check.proofs.judge.least_unmet.Given as goal

abbrev pub invariant-loop-row : goal.invariant-loop-row
invariant-loop-row l = (k : ℕ) → k < l.row → not (is_met l.partial.system l.partial.decisions k) ≡ false
