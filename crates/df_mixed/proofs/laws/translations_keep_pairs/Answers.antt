use Rattle.df_mixed.proofs.PairBalance.{kept_pairs}
use Rattle.df_mixed.proofs.laws.translations_keep_pairs.Goals as goal

pub returns : goal.returns
returns c = kept_pairs
