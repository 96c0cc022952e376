use Rattle.std.proofs.Common.{◌≡◌, ◌≤◌, ◌+◌, length}
use Rattle.df_system.proofs.path_rows.tests.take_all.Given as goal

abbrev pub invariant-loop-column : goal.invariant-loop-column
invariant-loop-column g l = record {
  system : l.rows.system ≡ l.initial.rows.system;
  few : length l.rows.chosen ≤ l.column;
}

abbrev pub invariant-loop-column-2 : goal.invariant-loop-column-2
invariant-loop-column-2 g l = l.rows.system ≡ l.initial.rows.system

abbrev pub decreases-loop-column-2 : goal.decreases-loop-column-2
decreases-loop-column-2 g l = length l.rows.chosen
