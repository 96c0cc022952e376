use Rattle.std.proofs.Common.{◌+◌, ◌-◌, ◌*◌, ◌≤◌, length, []}
use Rattle.df_walk.specs.Systems.{widest}
use Rattle.df_search.specs.Searches.{Passes}
use Rattle.df_search.proofs.search.Search.next.Given as goal

abbrev pub invariant-loop-self : goal.invariant-loop-self
invariant-loop-self g l = record {
  passes : Passes l.initial.self l.initial.budget l.self l.budget [];
  rises : l.initial.steps ≤ l.steps;
  cost : l.steps + widest l.initial.self.system.columns * length l.self.path ≤ l.initial.steps + widest l.initial.self.system.columns * (3 * (length l.initial.self.rest - length l.self.rest) + length l.initial.self.path);
}

abbrev pub decreases-loop-self : goal.decreases-loop-self
decreases-loop-self g l = length l.self.rest
