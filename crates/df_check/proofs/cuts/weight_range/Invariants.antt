use Rattle.std.proofs.Common.{◌≡◌, ◌≤◌, ◌+◌, ◌*◌, length}
use Rattle.std.specs.Prelude.{unsigned_abs}
use Rattle.df_walk.specs.Cuts.{negatives, positives}
use Rattle.df_check.proofs.CutSums.{open_from}
use Rattle.df_check.proofs.cuts.weight_range.Given as goal

abbrev pub invariant-loop-column : goal.invariant-loop-column
invariant-loop-column g l = record {
  within : l.column ≤ length l.system.columns;
  least : l.least ≡ negatives (open_from l.system l.partial.decisions l.rows l.column);
  greatest : l.greatest ≡ positives (open_from l.system l.partial.decisions l.rows l.column);
  least_small : unsigned_abs l.least + l.column * 4194304000000 ≤ length l.system.columns * 4194304000000;
  greatest_small : unsigned_abs l.greatest + l.column * 4194304000000 ≤ length l.system.columns * 4194304000000;
}

abbrev pub decreases-loop-column : goal.decreases-loop-column
decreases-loop-column g l = l.column
