-- How `Designs` keeps what remains.
use Rattle.std.specs.Prelude.{◌≡◌}
use Rattle.df_search.specs.Searches.{Searching}
use Rattle.df_maps.specs.FullMaps.{MapGroup}
use Rattle.df_lang.specs.Problems.{Stated}
use Rattle.df_kramer_mesner.specs.OrbitSystems.{maps_of_problem, orbit_system}

-- the search goes through the orbit system of the problem, and the maps are those of the problem
pub record AreHeld (s : Stated) (maps : MapGroup) (search : Searching) : Type 0 where
  pub system_is : search.system ≡ orbit_system s
  pub maps_are : maps ≡ maps_of_problem s
