use Rattle.std.proofs.Common.{◌≡◌, ℕ, ◌*◌, ◌<◌, length}
use Rattle.df_walk.specs.Systems.{entry}
use Rattle.df_system.specs.BarredWords.{HasColumn, SetsArePositive}
use Rattle.df_system.proofs.barred.row_sets.Given as goal

abbrev pub invariant-loop-column : goal.invariant-loop-column
invariant-loop-column l = record {
  long : length l.sets.items ≡ length l.system.targets * l.words;
  positive : SetsArePositive l.system l.words l.sets.items;
  done : (row column : ℕ) → column < l.column → 0 < entry l.system row column → HasColumn l.sets.items (row * l.words) column;
}
