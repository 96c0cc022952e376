use Rattle.df_kramer_mesner.proofs.OrbitNumbers.{are_numbered}
use Rattle.df_kramer_mesner.proofs.ProblemMaps.{problem_group}
use Rattle.df_kramer_mesner.proofs.orbits_are_numbered.Goals as goal

pub returns : goal.returns
returns c = λ s is. are_numbered c.blocks_are_sets.ensures c.representatives_tell_orbits.ensures c.places_are_found.ensures s (problem_group c.maps_are_made.ensures c.maps_are_groups.ensures s is)
