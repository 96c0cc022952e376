use Rattle.df_check.proofs.LogMoves.{entries_move as lemma}
use Rattle.df_check.proofs.laws.entries_move.Goals as goal

pub returns : goal.returns
returns c = lemma
