use Rattle.std.proofs.Common.{◌≡◌, ◌≤◌, ◌+◌, ◌*◌, length, drop}
use Rattle.std.specs.Prelude.{unsigned_abs}
use Rattle.df_walk.specs.Cuts.{weighted_need}
use Rattle.df_check.proofs.cuts.weighted_need.Given as goal

abbrev pub invariant-loop-place : goal.invariant-loop-place
invariant-loop-place l = record {
  within : l.place ≤ length l.rows;
  sum : l.sum ≡ weighted_need l.system l.partial.decisions (drop l.place l.rows);
  small : unsigned_abs l.sum + l.place * 17180131328000000 ≤ length l.rows * 17180131328000000;
}

abbrev pub decreases-loop-place : goal.decreases-loop-place
decreases-loop-place l = l.place
