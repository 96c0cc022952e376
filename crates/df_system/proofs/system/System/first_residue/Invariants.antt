use Rattle.std.proofs.Common.{◌≡◌, ◌+◌, ◌-◌, ◌<◌, ◌≤◌, ℕ, length, false}
use Rattle.df_system.specs.Storage.{columns_of}
use Rattle.df_system.specs.Divisors.{IsHead, entries_from}
use Rattle.df_system.specs.PathRows.{leaves_residue}
use Rattle.df_system.proofs.system.System.first_residue.Given as goal

abbrev pub invariant-loop-low : goal.invariant-loop-low
invariant-loop-low l = record {
  head : IsHead (columns_of l.self-inside.starts.items l.self-inside.cells.items) l.self-inside.divisors.links.items l.low l.row l.place;
  before : (from : ℕ) → from < l.low → from ≤ length (columns_of l.self-inside.starts.items l.self-inside.cells.items) → leaves_residue (entries_from (columns_of l.self-inside.starts.items l.self-inside.cells.items) l.row 0) from l.need 0 ≡ false;
}

abbrev pub decreases-loop-low : goal.decreases-loop-low
decreases-loop-low l = l.place + (l.columns + 1 - l.low)
