use Rattle.std.proofs.Common.{◌≡◌, ◌<◌, ℕ, length, take, get_or}
use Rattle.df_walk.specs.Systems.{entry_of}
use Rattle.df_system.specs.Reaches.{as_word}
use Rattle.df_system.proofs.deadlines.row_totals.Given as goal

abbrev pub invariant-loop-cell : goal.invariant-loop-cell
invariant-loop-cell l = record {
  long : length l.totals.items ≡ length l.system.targets;
  each : (row : ℕ) → row < length l.system.targets → get_or l.totals.items row 0 ≡ as_word (entry_of (take l.cell-index l.cell-items) row);
}
