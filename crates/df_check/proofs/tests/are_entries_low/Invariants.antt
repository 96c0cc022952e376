use Rattle.std.proofs.Common.{ℕ, ◌<◌, ◌≤◌, length}
use Rattle.df_walk.specs.Systems.{entry}
use Rattle.df_check.proofs.tests.are_entries_low.Given as goal

abbrev pub invariant-loop-column : goal.invariant-loop-column
invariant-loop-column g l = (row k : ℕ) → k < l.column → row < length l.system.targets → entry l.system row k ≤ 8000000
