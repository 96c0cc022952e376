use Rattle.df_check.proofs.LogMoves.{new_wants as lemma}
use Rattle.df_check.proofs.laws.new_checkers_want_proofs.Goals as goal

pub returns : goal.returns
returns c = lemma c.logs_are_one.ensures
