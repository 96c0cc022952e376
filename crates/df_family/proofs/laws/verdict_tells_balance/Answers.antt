use Rattle.df_family.proofs.VerdictLaws.{verdict_law}
use Rattle.df_family.proofs.laws.verdict_tells_balance.Goals as goal

pub returns : goal.returns
returns c = verdict_law
