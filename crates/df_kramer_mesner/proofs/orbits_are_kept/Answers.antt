use Rattle.df_kramer_mesner.proofs.KeptOrbits.{kept_where}
use Rattle.df_kramer_mesner.proofs.orbits_are_kept.Goals as goal

pub returns : goal.returns
returns c = kept_where
