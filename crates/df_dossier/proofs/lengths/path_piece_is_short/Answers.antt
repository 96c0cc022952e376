use Rattle.std.proofs.Common.{arith}
use Rattle.df_dossier.proofs.LinesShort.{number_short}
use Rattle.df_dossier.proofs.lengths.path_piece_is_short.Goals as goal

pub returns : goal.returns
returns c = omega (arith, number_short c.args.number c.ranges.number.fits)
