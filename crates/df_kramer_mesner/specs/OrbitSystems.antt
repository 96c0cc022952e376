-- The orbit system of a problem: rows of pairs and of required orbits, and columns of orbits (Kramer and Mesner 1976, for t = 2).
use Rattle.std.specs.Prelude.{ℕ, ◌&&◌, not, nat_le, Bool, List, [], ◌++◌, map, filter, slice_index, slice_index_or, Option, Some, None, if◌then◌else◌}
use Rattle.std.specs.List.{list_any, list_all, zip}
use Rattle.df_lists.specs.Membership.{count}
use Rattle.df_subsets.specs.Subsets.{subsets, choose, candidates, same_list, place_of}
use Rattle.df_acting.specs.Images.{contains}
use Rattle.df_maps.specs.FullMaps.{MapGroup, maps_of}
use Rattle.df_lang.specs.Problems.{Stated, point_count}
use Rattle.df_lang.specs.Targets.{subgroup_at, target}
use Rattle.df_orbits.specs.Orbits.{are_in_one_orbit, representative_of, representatives_of, orbit_size_in}
use Rattle.df_walk.specs.declared.Cell.{Cell}
use Rattle.df_walk.specs.Systems.{System}
use Rattle.df_system.specs.Storage.{positive_cells}

-- the full maps of a problem: x -> mx + h with m a product of its multipliers and h in the subgroup of `shift`
abbrev pub maps_of_problem : Stated → MapGroup
maps_of_problem s = maps_of s.group s.fixed (subgroup_at s s.shift) s.mults

-- all pairs of points, as blocks of two points
abbrev pub all_pairs : Stated → List (List ℕ)
all_pairs s = subsets (point_count s) 2

-- all blocks of the stated sizes
abbrev pub all_blocks : Stated → List (List ℕ)
all_blocks s = candidates (point_count s) s.sizes

-- one map carries the first to the second
abbrev pub in_one_orbit : Stated → List ℕ → List ℕ → Bool
in_one_orbit s a b = are_in_one_orbit (maps_of_problem s) a b

-- the pairs, and the blocks, that have no earlier member in their orbit
abbrev pub pairs_of : Stated → List (List ℕ)
pairs_of s = representatives_of (maps_of_problem s) (all_pairs s)

abbrev pub orbits_of : Stated → List (List ℕ)
orbits_of s = representatives_of (maps_of_problem s) (all_blocks s)

-- one of the listed blocks is in the orbit of b
abbrev pub has_in_orbit : Stated → List (List ℕ) → List ℕ → Bool
has_in_orbit s blocks b = list_any (λ c. in_one_orbit s c b) blocks

-- the orbits that have a required block
abbrev pub needed_of : Stated → List (List ℕ)
needed_of s = filter (has_in_orbit s s.required) (orbits_of s)

-- the target of a pair
abbrev pub pair_target : Stated → List ℕ → ℕ
pair_target s pair = target s (slice_index pair 0) (slice_index pair 1)

-- how many blocks of the orbit of b hold both points of the pair
abbrev pub orbit_cover : Stated → List ℕ → List ℕ → ℕ
orbit_cover s b pair = count (λ c. in_one_orbit s c b && contains c pair) (all_blocks s)

-- 1 where the orbit is the needed one
abbrev pub needed_entry : List ℕ → List ℕ → ℕ
needed_entry b needed = if same_list b needed then 1 else 0

-- the entries of an orbit, one for each row: the rows are the pairs, and then the needed orbits
abbrev pub entries_of : Stated → List ℕ → List ℕ
entries_of s b = map (orbit_cover s b) (pairs_of s) ++ map (needed_entry b) (needed_of s)

-- the entry of a row, and all positive entries in the order of their rows
abbrev pub entry_at : Stated → ℕ → List ℕ → ℕ
entry_at s row b = slice_index (entries_of s b) row

abbrev pub cells_of : Stated → List ℕ → List Cell
cells_of s b = positive_cells 0 (entries_of s b)

-- the targets of the rows
abbrev pub targets_of : Stated → List ℕ
targets_of s = map (pair_target s) (pairs_of s) ++ map (λ needed. 1) (needed_of s)

-- no entry is above its row's target, and the orbit has no forbidden block
abbrev pub is_kept : Stated → List ℕ → Bool
is_kept s b = list_all (λ e. nat_le e.0 e.1) (zip (entries_of s b) (targets_of s)) && not (has_in_orbit s s.forbidden b)

-- the kept orbits, in order: the columns
abbrev pub columns_of : Stated → List (List ℕ)
columns_of s = filter (is_kept s) (orbits_of s)

-- the system: a target for each row, and the positive entries of each column
abbrev pub orbit_system : Stated → System
orbit_system s = record { targets = targets_of s; columns = map (λ b. positive_cells 0 (entries_of s b)) (columns_of s) }

-- how many pairs of the block's points are in the orbit of the pair
abbrev pub pairs_within : Stated → List ℕ → List ℕ → ℕ
pairs_within s b pair = count (λ p. in_one_orbit s p pair) (choose b 2)

-- how many pairs are in the orbit of the pair, and how many blocks in that of the block
abbrev pub row_size : Stated → List ℕ → ℕ
row_size s pair = orbit_size_in (maps_of_problem s) (all_pairs s) pair

abbrev pub orbit_size : Stated → List ℕ → ℕ
orbit_size s b = orbit_size_in (maps_of_problem s) (all_blocks s) b

-- the representative of the orbit of a block, or of a pair
abbrev pub representative : Stated → List ℕ → List ℕ
representative s b = representative_of (maps_of_problem s) b

-- the representatives of a row of pairs, of a needed orbit, of an orbit and of a column, by their numbers from 0
abbrev pub pair_at : Stated → ℕ → List ℕ
pair_at s row = slice_index_or (pairs_of s) row []

abbrev pub needed_at : Stated → ℕ → List ℕ
needed_at s needed = slice_index_or (needed_of s) needed []

abbrev pub orbit_at : Stated → ℕ → List ℕ
orbit_at s orbit = slice_index_or (orbits_of s) orbit []

abbrev pub column_at : Stated → ℕ → List ℕ
column_at s column = slice_index_or (columns_of s) column []

-- the number of the row of a pair, and of the orbit of a block
abbrev pub row_number : Stated → List ℕ → ℕ
row_number s pair = place_of (representative s pair) (pairs_of s)

abbrev pub orbit_number : Stated → List ℕ → ℕ
orbit_number s b = place_of (representative s b) (orbits_of s)

-- the number of the column of a representative, where its orbit is kept
abbrev pub column_number : Stated → List ℕ → Option ℕ
column_number s b = if is_kept s b then Some (place_of b (columns_of s)) else None
