use Rattle.std.proofs.Common.{◌≡◌, ◌<◌, ℕ, false}
use Rattle.df_system.specs.PathRows.{has_residue_from}
use Rattle.df_system.proofs.path_rows.PathRows.first_residue.Given as goal

abbrev pub invariant-loop-row : goal.invariant-loop-row
invariant-loop-row l = (k : ℕ) → k < l.row → has_residue_from l.self l.from k ≡ false
