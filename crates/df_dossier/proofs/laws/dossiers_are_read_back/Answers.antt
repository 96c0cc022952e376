use Rattle.df_dossier.proofs.DossiersBack.{dossiers_back}
use Rattle.df_dossier.proofs.laws.dossiers_are_read_back.Goals as goal

pub returns : goal.returns
returns c = dossiers_back
