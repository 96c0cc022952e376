use Rattle.std.proofs.Common.{◌≡◌, ℕ, ◌*◌, ◌<◌, length, get_or}
use Rattle.df_system.specs.BarredWords.{HasBit, HasColumn, SetsArePositive}
use Rattle.df_system.proofs.SortedCells.{blank}
use Rattle.df_system.proofs.barred.set_column.Given as goal

abbrev pub invariant-loop-cell : goal.invariant-loop-cell
invariant-loop-cell l = record {
  long : length l.sets.items ≡ length l.initial.sets.items;
  positive : SetsArePositive l.system l.words l.sets.items;
  kept : (place bit : ℕ) → bit < 64 → HasBit l.initial.sets.items place bit → HasBit l.sets.items place bit;
  done : (k : ℕ) → k < l.cell-index → HasColumn l.sets.items ((get_or l.cell-items k blank).row * l.words) l.column;
}
