use Rattle.df_walk.proofs.LogForms.{Completes-from_AreLogs, AreLogs-from_Completes}
use Rattle.df_walk.proofs.laws.logs_complete.Goals as goal

pub returns : goal.returns
returns c = λ s wanted E L. (Completes-from_AreLogs s wanted E L, AreLogs-from_Completes s wanted E L)
