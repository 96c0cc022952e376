use Rattle.df_check.proofs.LogMoves.{completing_entry as lemma}
use Rattle.df_check.proofs.laws.faulty_entries_end.Goals as goal

pub returns : goal.returns
returns c = lemma
