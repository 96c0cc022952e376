-- Orbits by the numbers of the maps.
use Rattle.std.proofs.Common.{◌≡◌, ℕ, List, length, ap, ◌∙◌}
use Rattle.std.specs.List.{list_any, range_with_len}
use Rattle.df_lists.proofs.TestLaws.{any_map}
use Rattle.df_subsets.specs.Subsets.{same_list}
use Rattle.df_maps.specs.FullMaps.{MapGroup, image, map_number, full_maps}
use Rattle.df_maps.specs.Laws.{AreGroup}
use Rattle.df_orbits.specs.Orbits.{are_in_one_orbit}

pub by_numbers : (M : MapGroup) (b y : List ℕ) → AreGroup M → are_in_one_orbit M b y ≡ list_any (λ j. same_list (image M (map_number M j) b) y) (range_with_len 0 (length (full_maps M)))
by_numbers M b y is = ap (list_any (λ g. same_list (image M g b) y)) is.numbered ∙ any_map (λ g. same_list (image M g b) y) (map_number M) (range_with_len 0 (length (full_maps M)))
