use Rattle.df_dossier.proofs.TextsBack.{texts_back}
use Rattle.df_dossier.proofs.laws.texts_are_read_back.Goals as goal

pub returns : goal.returns
returns c = texts_back
