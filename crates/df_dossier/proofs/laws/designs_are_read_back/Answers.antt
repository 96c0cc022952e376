use Rattle.df_dossier.proofs.DesignsBack.{designs_back}
use Rattle.df_dossier.proofs.laws.designs_are_read_back.Goals as goal

pub returns : goal.returns
returns c = designs_back c.points_are_read_back.ensures
