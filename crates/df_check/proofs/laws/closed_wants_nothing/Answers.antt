use Rattle.df_check.proofs.LogMoves.{closed_is as lemma}
use Rattle.df_check.proofs.laws.closed_wants_nothing.Goals as goal

pub returns : goal.returns
returns c = lemma
