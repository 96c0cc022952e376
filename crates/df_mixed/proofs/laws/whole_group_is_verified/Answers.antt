use Rattle.df_mixed.proofs.VerdictLaws.{whole_group}
use Rattle.df_mixed.proofs.laws.whole_group_is_verified.Goals as goal

pub returns : goal.returns
returns c = whole_group
