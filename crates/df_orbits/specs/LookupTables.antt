-- Tables that answer by one look: the images of points, the number of later blocks, the numbers of pairs.
use Rattle.std.specs.Prelude.{◌≡◌, ◌<◌, ◌≤◌, ◌+◌, ◌-◌, ◌*◌, ◌==◌, ℕ, List, ◌∷◌, [], length, slice_index, slice_get, Some}
use Rattle.df_subsets.specs.Subsets.{binomial}
use Rattle.df_maps.specs.FullMaps.{MapGroup, full_maps, map_number, carried, point_count}
use Rattle.df_maps.specs.Laws.{AreGroup}
use Rattle.df_orbits.specs.declared.orbits.TheConstants.{MOST_SUMMED}
use Rattle.df_orbits.specs.Orbits.{are_in_one_orbit, representative_of, pair_orbits, listed_representatives, orbit_number}

-- the image of point p under map number i stands at place i * points + p
pub record AreImages (M : MapGroup) (points count : ℕ) (table : List ℕ) : Type 0 where
  pub maps : AreGroup M
  pub points_are : points ≡ point_count M
  pub two : 2 ≤ points
  pub small : points ≤ 128
  pub count_is : count ≡ length (full_maps M)
  pub some : 0 < count
  pub few : count ≤ 16384
  pub long : length table ≡ count * points
  pub images : (i p : ℕ) → i < count → p < points → slice_index table (i * points + p) ≡ carried M (map_number M i) p

-- at place j * points + p stands in how many ways points after p are chosen for the places from j on of a block of `size` points
pub record AreLater (points size all : ℕ) (table : List ℕ) : Type 0 where
  pub small : points ≤ 128
  pub some : 1 ≤ size
  pub within : size ≤ points
  pub all_is : all ≡ binomial points size
  pub few : all ≤ MOST_SUMMED
  pub long : length table ≡ (size + 1) * points
  pub later : (j p : ℕ) → j ≤ size → p < points → j ≤ p + 1 → slice_index table (j * points + p) ≡ binomial (points - 1 - p) (size - j)

-- r is the number of the orbit of b among the orbits of pairs
pub record IsPairNumber (M : MapGroup) (b : List ℕ) (r : ℕ) : Type 0 where
  pub number : r ≡ orbit_number M (pair_orbits M) b
  pub within : r < length (pair_orbits M)
  pub representative : slice_get (listed_representatives (pair_orbits M)) r ≡ Some (representative_of M b)
  pub orbit : (i : ℕ) (c : List ℕ) → slice_get (listed_representatives (pair_orbits M)) i ≡ Some c → are_in_one_orbit M b c ≡ (i == r)

-- the number of the orbit of the pair of p and q, where p is below q, stands at place p * points + q
pub record AreNumbered (M : MapGroup) (points : ℕ) (numbers : List ℕ) : Type 0 where
  pub points_are : points ≡ point_count M
  pub long : length numbers ≡ points * points
  pub numbered : (p q : ℕ) → p < q → q < points → IsPairNumber M (p ∷ q ∷ []) (slice_index numbers (p * points + q))
