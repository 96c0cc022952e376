use Rattle.df_maps.proofs.MadeLaws.{made}
use Rattle.df_maps.proofs.laws.maps_are_made.Goals as goal

pub returns : goal.returns
returns c = made
