use Rattle.df_orbits.proofs.OrbitNumbers.{places_found}
use Rattle.df_orbits.proofs.laws.places_are_found.Goals as goal

pub returns : goal.returns
returns c = places_found
