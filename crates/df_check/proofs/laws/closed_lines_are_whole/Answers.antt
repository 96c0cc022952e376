use Rattle.df_check.proofs.LogMoves.{lines_whole as lemma}
use Rattle.df_check.proofs.laws.closed_lines_are_whole.Goals as goal

pub returns : goal.returns
returns c = lemma c.logs_are_one.ensures c.logs_are_complete.ensures
