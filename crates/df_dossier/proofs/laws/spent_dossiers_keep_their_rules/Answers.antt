use Rattle.df_dossier.proofs.SpentKept.{spent_kept}
use Rattle.df_dossier.proofs.laws.spent_dossiers_keep_their_rules.Goals as goal

pub returns : goal.returns
returns c = spent_kept
