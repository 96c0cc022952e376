use Rattle.std.proofs.Common.{None, length}
use Rattle.std.proofs.lemmas.List.{length-replicate}
use Rattle.df_walk.proofs.LogSoundness.{Proves-sound}
use Rattle.df_walk.proofs.PaddedPaths.{solutions_with-none}
use Rattle.df_walk.proofs.laws.logs_are_complete.Goals as goal

pub returns : goal.returns
returns c = λ s E L ok proof. rw (← solutions_with-none s) (Proves-sound ok (length-replicate (length s.columns) None) proof)
