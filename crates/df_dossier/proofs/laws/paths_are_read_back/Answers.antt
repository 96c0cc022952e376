use Rattle.df_dossier.proofs.PathsBack.{paths_back}
use Rattle.df_dossier.proofs.laws.paths_are_read_back.Goals as goal

pub returns : goal.returns
returns c = paths_back
