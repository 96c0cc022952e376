-- The laws, each the contract of a function.
use Rattle.std.specs.Prelude.{◌≡◌, ◌<◌, ◌≤◌, ℕ, ◌+◌, ◌*◌, true, List, map, length}
use Rattle.std.specs.List.{range_with_len}
use Rattle.df_lists.specs.Membership.{In, count}
use Rattle.df_lists.specs.NumberSets.{IsSet}
use Rattle.df_group.specs.Elements.{group_of, order_of, IsShape, shifted}
use Rattle.df_group.specs.Subgroups.{exponent_of, is_unit, IsSubgroup}
use Rattle.df_subsets.specs.Subsets.{subsets, same_list}
use Rattle.df_acting.specs.Orbits.{IsMapGroup, in_one_orbit_by}
use Rattle.df_acting.specs.Images.{IsInvariant}
use Rattle.df_maps.specs.Products.{products, AreProducts}
use Rattle.df_maps.specs.FullMaps.{MapGroup, IsMaps, maps_of, point_count, full_maps, map_number, carried, image, multiplied}

-- the residues of products are those of all lists
abbrev pub ProductsAreAll : Type 0
ProductsAreAll = (e : ℕ) (stated : List ℕ) → 0 < e → AreProducts e stated (products e stated)

-- the products of units with the members of a subgroup are such a group of maps
abbrev pub MapsAreMade : Type 0
MapsAreMade = (factors : List ℕ) (fixed : ℕ) (shifts stated : List ℕ) → IsShape factors → order_of factors + fixed ≤ 128 → IsSubgroup factors shifts → ((m : ℕ) → In stated m → is_unit (exponent_of factors) m ≡ true) → IsMaps (maps_of factors fixed shifts stated)

-- the maps are closed under composition and inverse, map 0 moves nothing, they are numbered in their order, the maps that fix a block times its different images are all the maps, and no two maps agree on all points
pub record AreGroup (M : MapGroup) : Type 0 where
  pub group : IsMapGroup (carried M) (λ p. p < point_count M) (full_maps M)
  pub numbered : full_maps M ≡ map (map_number M) (range_with_len 0 (length (full_maps M)))
  pub identity : map_number M 0 ≡ (1, 0)
  pub fixes : (p : ℕ) → p < point_count M → carried M (1, 0) p ≡ p
  pub orbits : (b : List ℕ) → IsSet (point_count M) b → length (full_maps M) ≡ count (λ g. same_list (image M g b) b) (full_maps M) * count (in_one_orbit_by same_list (image M) (full_maps M) b) (subsets (point_count M) (length b))
  pub apart : (i j : ℕ) → i < length (full_maps M) → j < length (full_maps M) → ((p : ℕ) → p < point_count M → carried M (map_number M i) p ≡ carried M (map_number M j) p) → i ≡ j

abbrev pub MapsAreGroups : Type 0
MapsAreGroups = (M : MapGroup) → IsMaps M → AreGroup M

-- a list of blocks is invariant under the prescribed maps exactly where it is under the full maps
pub record KeepTheSame (factors : List ℕ) (fixed : ℕ) (shifts stated : List ℕ) (blocks : List (List ℕ)) : Type 0 where
  pub full : IsInvariant (shifted (group_of factors)) (order_of factors + fixed) shifts blocks → IsInvariant (multiplied (group_of factors)) (order_of factors + fixed) stated blocks
      → IsInvariant (carried (maps_of factors fixed shifts stated)) (order_of factors + fixed) (full_maps (maps_of factors fixed shifts stated)) blocks
  pub prescribed : IsInvariant (carried (maps_of factors fixed shifts stated)) (order_of factors + fixed) (full_maps (maps_of factors fixed shifts stated)) blocks
      → IsInvariant (shifted (group_of factors)) (order_of factors + fixed) shifts blocks × IsInvariant (multiplied (group_of factors)) (order_of factors + fixed) stated blocks

abbrev pub PrescribedAreEnough : Type 0
PrescribedAreEnough = (factors : List ℕ) (fixed : ℕ) (shifts stated : List ℕ) → IsShape factors → IsSubgroup factors shifts → (blocks : List (List ℕ)) → ((b : List ℕ) → In blocks b → IsSet (order_of factors + fixed) b)
    → KeepTheSame factors fixed shifts stated blocks
