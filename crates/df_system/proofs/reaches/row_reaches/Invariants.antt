use Rattle.std.proofs.Common.{◌≡◌, ◌<◌, ◌≤◌, ℕ, [], length}
use Rattle.df_system.specs.Reaches.{list_at, AreReachingFrom}
use Rattle.df_system.proofs.reaches.row_reaches.Given as goal

abbrev pub invariant-loop : goal.invariant-loop
invariant-loop l = record {
  long : length l.reaches.items ≡ l.counter;
  none : (k : ℕ) → k < length l.reaches.items → list_at l.reaches.items k ≡ [];
}

abbrev pub invariant-loop-column : goal.invariant-loop-column
invariant-loop-column l = record {
  reaching : AreReachingFrom l.system l.column l.reaches.items;
  within : l.column ≤ length l.system.columns;
}

abbrev pub decreases-loop-column : goal.decreases-loop-column
decreases-loop-column l = l.column
