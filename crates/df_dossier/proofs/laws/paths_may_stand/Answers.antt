use Rattle.df_dossier.proofs.RunPaths.{paths_stand}
use Rattle.df_dossier.proofs.laws.paths_may_stand.Goals as goal

pub returns : goal.returns
returns c = paths_stand
