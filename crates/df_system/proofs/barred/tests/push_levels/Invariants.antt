use Rattle.std.proofs.Common.{◌≡◌, ◌+◌, length}
use Rattle.df_system.proofs.barred.tests.push_levels.Given as goal

abbrev pub invariant-loop : goal.invariant-loop
invariant-loop l = record {
  levels : length l.barred.levels ≡ length l.initial.barred.levels + l.counter;
  system : l.barred.system ≡ l.initial.barred.system;
}
