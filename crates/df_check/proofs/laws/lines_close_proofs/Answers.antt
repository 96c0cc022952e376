use Rattle.df_check.proofs.LogMoves.{lines_closed as lemma}
use Rattle.df_check.proofs.laws.lines_close_proofs.Goals as goal

pub returns : goal.returns
returns c = lemma c.logs_are_one.ensures
