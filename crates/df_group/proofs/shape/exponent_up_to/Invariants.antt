use Rattle.std.proofs.Common.{◌≡◌, ℕ, ◌<◌, ◌≤◌, false}
use Rattle.df_group.specs.Subgroups.{is_common_multiple}
use Rattle.df_group.proofs.shape.exponent_up_to.Given as goal

abbrev pub invariant-loop-n : goal.invariant-loop-n
invariant-loop-n l = (k : ℕ) → 1 ≤ k → k < l.n → is_common_multiple l.factors k ≡ false
