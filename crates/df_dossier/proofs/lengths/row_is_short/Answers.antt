use Rattle.std.proofs.Common.{rules}
use Rattle.df_dossier.proofs.LinesShort.{row_short}
use Rattle.df_dossier.proofs.lengths.row_is_short.Goals as goal

pub returns : goal.returns
returns c = row_short c.args.row (search rules) c.path_piece_is_short.ensures
