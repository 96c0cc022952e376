use Rattle.std.proofs.Common.{◌+◌, ◌-◌, ◌*◌, ◌≤◌}
use Rattle.df_walk.specs.Systems.{widest}
use Rattle.df_search.specs.Leaps.{Leaps}
use Rattle.df_search.proofs.held_path.HeldPath.leap.Given as goal

abbrev pub invariant-loop-column : goal.invariant-loop-column
invariant-loop-column g l = record {
  from : l.start ≤ l.column;
  within : l.column ≤ l.stop;
  leaps : Leaps l.fn.self.rules l.fn.self.system l.fn.self.path (l.column - l.start);
  rises : l.initial.steps ≤ l.steps;
  cost : l.steps ≤ l.initial.steps + widest l.fn.self.system.columns * (l.column - l.start);
}

abbrev pub decreases-loop-column : goal.decreases-loop-column
decreases-loop-column g l = l.stop - l.column
