use Rattle.df_check.proofs.LogMoves.{leaves_move as lemma}
use Rattle.df_check.proofs.laws.leaves_move.Goals as goal

pub returns : goal.returns
returns c = lemma
