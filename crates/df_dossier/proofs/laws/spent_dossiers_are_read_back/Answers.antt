use Rattle.df_dossier.proofs.SpentTexts.{spent_back}
use Rattle.df_dossier.proofs.laws.spent_dossiers_are_read_back.Goals as goal

pub returns : goal.returns
returns c = spent_back
