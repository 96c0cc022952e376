-- What an orbit matrix keeps beside its problem, and how it is found.
use Rattle.std.specs.Prelude.{◌≡◌, ℕ, zero, suc, ◌*◌, ◌/◌, ◌==◌, ◌<◌, ◌≤◌, Bool, List, [], ◌∷◌, ◌++◌, map, length, filter, All, Some, slice_get, slice_index_or}
use Rattle.std.specs.List.{range_with_len}
use Rattle.df_lists.specs.Membership.{count}
use Rattle.df_lang.specs.Problems.{Stated, IsStated}
use Rattle.df_maps.specs.FullMaps.{MapGroup}
use Rattle.df_maps.specs.Laws.{AreGroup}
use Rattle.df_orbits.specs.declared.orbits.TheConstants.{MOST_SUMMED}
use Rattle.df_orbits.specs.Orbits.{pair_orbits, block_orbits}
use Rattle.df_matrix.specs.declared.matrix.TheConstants.{MOST_COLUMNS}
use Rattle.df_walk.specs.declared.Cell.{Cell}
use Rattle.df_walk.specs.Systems.{System}
use Rattle.df_system.specs.Storage.{positive_cells}
use Rattle.df_kramer_mesner.specs.OrbitSystems.{maps_of_problem, in_one_orbit, all_blocks, pairs_of, orbits_of, pair_at, has_in_orbit, row_size, orbit_cover, is_kept, orbit_system}

-- the maps, the orbits of pairs and of blocks, and the maps of the numbers of pairs, are those of the problem, and there are few blocks
pub record AreOrbits (s : Stated) (maps : MapGroup) (pairs : List (List ℕ × ℕ)) (numbers : MapGroup) (orbits : List (List ℕ × ℕ)) : Type 0 where
  pub maps_are : maps ≡ maps_of_problem s
  pub pairs_are : pairs ≡ pair_orbits (maps_of_problem s)
  pub numbers_are : numbers ≡ maps_of_problem s
  pub orbits_are : orbits ≡ block_orbits (maps_of_problem s) s.sizes
  pub stated : IsStated s
  pub group : AreGroup (maps_of_problem s)
  pub few : length (all_blocks s) ≤ MOST_SUMMED

-- the pairs of listed points whose first one is among the first k
abbrev pub pairs_before : ℕ → List ℕ → List (List ℕ)
pairs_before zero b = []
pairs_before (suc k) [] = []
pairs_before (suc k) (p ∷ b) = map (λ q. p ∷ q ∷ []) b ++ pairs_before k b

-- the rows are those of the pairs: each row is listed as often as pairs are in its orbit
pub record AreRowsOf (s : Stated) (pairs : List (List ℕ)) (rows : List ℕ) : Type 0 where
  pub long : length rows ≡ length pairs
  pub within : All (λ row. row < length (pairs_of s)) rows
  pub tally : (i : ℕ) (pair : List ℕ) → slice_get (pairs_of s) i ≡ Some pair → count (λ row. row == i) rows ≡ count (λ p. in_one_orbit s p pair) pairs

-- the entry of an orbit of so many blocks, where so many pairs of a block of it are in the row
abbrev pub quotient_cell : Stated → ℕ → Cell → Cell
quotient_cell s size cell = record { row = cell.row; value = (size * cell.value) / row_size s (pair_at s cell.row) }

-- the positive entries of an orbit in the rows of pairs
abbrev pub pair_cells : Stated → List ℕ → List Cell
pair_cells s b = positive_cells 0 (map (orbit_cover s b) (pairs_of s))

-- the places of the listed blocks that pass a test, increasing
abbrev pub places_where : (List ℕ → Bool) → List (List ℕ) → List ℕ
places_where test blocks = filter (λ i. test (slice_index_or blocks i [])) (range_with_len 0 (length blocks))

-- the numbers of the orbits that have a required block, and of those that are kept
abbrev pub needed_places : Stated → List ℕ
needed_places s = places_where (has_in_orbit s s.required) (orbits_of s)

abbrev pub kept_places : Stated → List ℕ
kept_places s = places_where (is_kept s) (orbits_of s)

pub record AreColumns (s : Stated) (needed kept : List ℕ) (system : System) : Type 0 where
  pub needed_are : needed ≡ needed_places s
  pub kept_are : kept ≡ kept_places s
  pub few : length kept ≤ MOST_COLUMNS
  pub system_is : system ≡ orbit_system s
