use Rattle.std.proofs.Common.{◌≡◌, ℕ, ◌<◌, ◌≤◌, false}
use Rattle.df_group.specs.Subgroups.{divides_both}
use Rattle.df_group.proofs.shape.Shape.is_unit.Given as goal

abbrev pub invariant-loop-d : goal.invariant-loop-d
invariant-loop-d l = (k : ℕ) → 2 ≤ k → k < l.d → divides_both l.exponent l.m k ≡ false
