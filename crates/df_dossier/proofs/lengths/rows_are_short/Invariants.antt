use Rattle.std.proofs.Common.{◌≤◌, ◌+◌, ◌*◌, length, drop}
use Rattle.std.specs.List.{flat_map}
use Rattle.df_dossier.specs.Entries.{row_tokens}
use Rattle.df_dossier.specs.Tokens.{after_spaces}
use Rattle.df_dossier.proofs.lengths.rows_are_short.Given as goal

abbrev pub invariant-loop-row : goal.invariant-loop-row
invariant-loop-row l =
    length (flat_map (λ w. after_spaces (row_tokens w)) l.rows) ≤ length (flat_map (λ w. after_spaces (row_tokens w)) (drop l.row-index l.rows)) + 18 * l.row-index
