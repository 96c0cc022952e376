use Rattle.df_dossier.specs.Entries.{row_tokens}
use Rattle.df_dossier.specs.Tokens.{after_spaces}
use Rattle.df_dossier.proofs.Joins.{room_next}
use Rattle.df_dossier.proofs.put.put_rows.Goals as goal

pub put_row-requires : goal.put_row-requires
put_row-requires c =
    room_next (λ w. after_spaces (row_tokens w)) c.args.rows.now c.loop-row.row-index _ c.loop-row.buf.items c.args.buf.now.items c.loop-row-test.true c.loop-row.invariant c.requires
