use Rattle.df_dossier.proofs.LinesShort.{end_short}
use Rattle.df_dossier.proofs.lengths.end_text_is_short.Goals as goal

pub returns : goal.returns
returns c = end_short c.args.finished c.args.designs c.args.nodes c.ranges.designs.fits c.ranges.nodes.fits
