use Rattle.df_dossier.proofs.DossierOrder.{dossiers_agree}
use Rattle.df_dossier.proofs.piece_laws.pieces_are_those_of_dossiers.Goals as goal

pub returns : goal.returns
returns c = dossiers_agree
