use Rattle.df_check.proofs.LogMoves.{completing_leaf as lemma}
use Rattle.df_check.proofs.laws.faulty_leaves_end.Goals as goal

pub returns : goal.returns
returns c = lemma
