use Rattle.df_kramer_mesner.proofs.OrbitNumbers.{entry_counted}
use Rattle.df_kramer_mesner.proofs.entries_are_counts.Goals as goal

pub returns : goal.returns
returns c = entry_counted
