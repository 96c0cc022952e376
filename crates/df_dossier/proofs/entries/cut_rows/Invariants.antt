use Rattle.std.proofs.Common.{◌≡◌, ◌≤◌, [], length}
use Rattle.df_io.specs.Lines.{left}
use Rattle.df_dossier.specs.Entries.{cut_from}
use Rattle.df_dossier.proofs.entries.cut_rows.Given as goal

abbrev pub invariant-loop-token : goal.invariant-loop-token
invariant-loop-token l =
    (cut_from l.rows.items (left l.tokens) ≡ cut_from [] (left l.fn.tokens))
    × (length l.rows.items ≤ 16)

abbrev pub decreases-loop-token : goal.decreases-loop-token
decreases-loop-token l = length (left l.tokens)
