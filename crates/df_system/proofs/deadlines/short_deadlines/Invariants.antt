use Rattle.std.proofs.Common.{◌≤◌, length}
use Rattle.df_system.specs.Deadlines.{AreReached}
use Rattle.df_system.proofs.deadlines.short_deadlines.Given as goal

abbrev pub invariant-loop-column : goal.invariant-loop-column
invariant-loop-column l = record {
  reached : AreReached l.system l.width l.column l.counts.items l.deadlines.items;
  within : l.column ≤ length l.system.columns;
}

abbrev pub decreases-loop-column : goal.decreases-loop-column
decreases-loop-column l = l.column
