use Rattle.std.proofs.Common.{◌≡◌, ◌<◌, ℕ, false}
use Rattle.df_system.specs.PathRows.{is_short_from}
use Rattle.df_system.proofs.path_rows.PathRows.least_short.Given as goal

abbrev pub invariant-loop-row : goal.invariant-loop-row
invariant-loop-row l = (k : ℕ) → k < l.row → is_short_from l.self l.from k ≡ false
