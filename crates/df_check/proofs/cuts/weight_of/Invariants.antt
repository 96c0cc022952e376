use Rattle.std.proofs.Common.{◌≡◌, ◌≤◌, ◌+◌, ◌*◌, length, drop}
use Rattle.std.specs.Prelude.{unsigned_abs}
use Rattle.df_walk.specs.Systems.{cells}
use Rattle.df_walk.specs.Cuts.{weight_of}
use Rattle.df_check.proofs.cuts.weight_of.Given as goal

abbrev pub invariant-loop-place : goal.invariant-loop-place
invariant-loop-place g l = record {
  within : l.place ≤ length l.rows;
  sum : l.sum ≡ weight_of (drop l.place l.rows) (cells l.system l.column);
  small : unsigned_abs l.sum + l.place * 262144000000 ≤ length l.rows * 262144000000;
}

abbrev pub decreases-loop-place : goal.decreases-loop-place
decreases-loop-place g l = l.place
