-- Orbits of blocks under a group of maps, and their representatives (Kramer and Mesner 1976, for t = 2).
use Rattle.std.specs.Prelude.{ℕ, Bool, List, [], map, slice_index, slice_index_or}
use Rattle.df_lists.specs.Membership.{count}
use Rattle.df_subsets.specs.Blocks.{before}
use Rattle.df_subsets.specs.Subsets.{subsets, candidates, same_list, place_of}
use Rattle.df_acting.specs.Orbits.{in_one_orbit_by}
use Rattle.df_acting.specs.Representatives.{representatives_by, representative_by}
use Rattle.df_maps.specs.FullMaps.{MapGroup, full_maps, image, point_count}

-- two blocks, or two pairs, are in one orbit where a full map carries one to the other
abbrev pub are_in_one_orbit : MapGroup → List ℕ → List ℕ → Bool
are_in_one_orbit M a b = in_one_orbit_by same_list (image M) (full_maps M) a b

-- those of the blocks that have no earlier member in their orbit
abbrev pub representatives_of : MapGroup → List (List ℕ) → List (List ℕ)
representatives_of M blocks = representatives_by before (image M) (full_maps M) blocks

-- how many of the blocks are in the orbit of b
abbrev pub orbit_size_in : MapGroup → List (List ℕ) → List ℕ → ℕ
orbit_size_in M blocks b = count (λ c. are_in_one_orbit M c b) blocks

-- the orbits of the blocks, each by its representative and its size, in the order of the representatives
abbrev pub orbits_with_sizes : MapGroup → List (List ℕ) → List (List ℕ × ℕ)
orbits_with_sizes M blocks = map (λ b. (b, orbit_size_in M blocks b)) (representatives_of M blocks)

-- the orbits of pairs of points
abbrev pub pair_orbits : MapGroup → List (List ℕ × ℕ)
pair_orbits M = orbits_with_sizes M (subsets (point_count M) 2)

-- the orbits of all blocks that have one of the sizes
abbrev pub block_orbits : MapGroup → List ℕ → List (List ℕ × ℕ)
block_orbits M sizes = orbits_with_sizes M (candidates (point_count M) sizes)

-- the representatives, and the sizes, of listed orbits
abbrev pub listed_representatives : List (List ℕ × ℕ) → List (List ℕ)
listed_representatives orbits = map (λ c. c.0) orbits

abbrev pub orbit_sizes : List (List ℕ × ℕ) → List ℕ
orbit_sizes orbits = map (λ c. c.1) orbits

-- the representative of the orbit of b: its earliest member
abbrev pub representative_of : MapGroup → List ℕ → List ℕ
representative_of M b = representative_by before (image M) (full_maps M) b

-- the representative, and the size, of the orbit of this number, from 0
abbrev pub representative_at : List (List ℕ × ℕ) → ℕ → List ℕ
representative_at orbits i = slice_index_or (listed_representatives orbits) i []

abbrev pub size_at : List (List ℕ × ℕ) → ℕ → ℕ
size_at orbits i = slice_index (orbit_sizes orbits) i

-- the number of the orbit of b among listed orbits: the place of its representative
abbrev pub orbit_number : MapGroup → List (List ℕ × ℕ) → List ℕ → ℕ
orbit_number M orbits b = place_of (representative_of M b) (listed_representatives orbits)
