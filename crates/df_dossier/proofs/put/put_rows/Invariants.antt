use Rattle.std.proofs.Common.{◌≡◌, ◌++◌, drop}
use Rattle.std.specs.List.{flat_map}
use Rattle.df_dossier.specs.Entries.{row_tokens}
use Rattle.df_dossier.specs.Tokens.{after_spaces}
use Rattle.df_dossier.proofs.put.put_rows.Given as goal

abbrev pub invariant-loop-row : goal.invariant-loop-row
invariant-loop-row l = l.buf.items ++ flat_map (λ w. after_spaces (row_tokens w)) (drop l.row-index l.rows) ≡ l.fn.buf.items ++ flat_map (λ w. after_spaces (row_tokens w)) l.rows
