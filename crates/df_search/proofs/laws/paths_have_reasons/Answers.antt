use Rattle.df_search.proofs.Reasons.{has_reason}
use Rattle.df_search.proofs.laws.paths_have_reasons.Goals as goal

pub returns : goal.returns
returns c = has_reason
