-- The laws, each the contract of a function.
use Rattle.std.specs.Prelude.{◌≡◌, ◌<◌, ◌≤◌, ℕ, ◌+◌, ◌-◌, ◌*◌, ◌/◌, true, false, List, [], ◌∷◌, length, slice_get, slice_index, slice_index_or, Some, sum_by}
use Rattle.df_lists.specs.Membership.{In}
use Rattle.df_lang.specs.Problems.{Stated, IsStated, IsBlock, point_count}
use Rattle.df_walk.specs.declared.Cell.{Cell}
use Rattle.df_walk.specs.Systems.{IsSystem, AreCells, entry_of, entry}
use Rattle.df_subsets.specs.Subsets.{binomial, same_list}
use Rattle.df_system.specs.Storage.{positive_cells}
use Rattle.df_kramer_mesner.specs.OrbitSystems.{all_pairs, all_blocks, in_one_orbit, has_in_orbit, pairs_of, orbits_of, needed_of, pair_target, orbit_cover, needed_entry, entries_of, targets_of, is_kept, pairs_within, row_size, orbit_size, orbit_system, columns_of, entry_at, representative, orbit_number, column_at, column_number}

-- the entry of a row and an orbit, times the pairs of the row's orbit, is the blocks of the orbit times the pairs of one of them that lie in the row's orbit
pub record IsQuotient (s : Stated) (b pair : List ℕ) : Type 0 where
  pub product : orbit_cover s b pair * row_size s pair ≡ orbit_size s b * pairs_within s b pair
  pub some : 0 < row_size s pair
  -- so the division leaves no rest
  pub quotient : orbit_cover s b pair ≡ (orbit_size s b * pairs_within s b pair) / row_size s pair
  -- and the entry is the same for each pair of the orbit
  pub same : (other : List ℕ) → in_one_orbit s pair other ≡ true → orbit_cover s b other ≡ orbit_cover s b pair

abbrev pub EntriesAreQuotients : Type 0
EntriesAreQuotients = (s : Stated) → IsStated s → (b pair : List ℕ) → In (all_blocks s) b → In (all_pairs s) pair → IsQuotient s b pair

-- each column has a positive entry, and the cells of the columns are positive and in the order of their rows
abbrev pub OrbitSystemsAreSystems : Type 0
OrbitSystemsAreSystems = (s : Stated) → IsStated s → IsSystem (orbit_system s)

-- cells in the order of their rows are told by the entries of the rows
abbrev pub CellsAreTold : Type 0
CellsAreTold = (rows : ℕ) (cells : List Cell) (entries : List ℕ) → length entries ≡ rows → AreCells rows cells → ((row : ℕ) → row < rows → entry_of cells row ≡ slice_index entries row) → cells ≡ positive_cells 0 entries

-- the rows are those of the pairs, and then those of the needed orbits
pub record AreRows (s : Stated) (b : List ℕ) : Type 0 where
  pub entries : length (entries_of s b) ≡ length (pairs_of s) + length (needed_of s)
  pub targets : length (targets_of s) ≡ length (pairs_of s) + length (needed_of s)
  pub pair : (row : ℕ) → row < length (pairs_of s) → slice_index (entries_of s b) row ≡ orbit_cover s b (slice_index_or (pairs_of s) row [])
  pub needed : (row : ℕ) → length (pairs_of s) ≤ row → row < length (pairs_of s) + length (needed_of s) → slice_index (entries_of s b) row ≡ needed_entry b (slice_index_or (needed_of s) (row - length (pairs_of s)) [])
  pub pair_target : (row : ℕ) → row < length (pairs_of s) → slice_index (targets_of s) row ≡ pair_target s (slice_index_or (pairs_of s) row [])
  pub needed_target : (row : ℕ) → length (pairs_of s) ≤ row → row < length (pairs_of s) + length (needed_of s) → slice_index (targets_of s) row ≡ 1

abbrev pub RowsArePairsAndNeeded : Type 0
RowsArePairsAndNeeded = (s : Stated) (b : List ℕ) → AreRows s b

-- an orbit is kept exactly where no row's entry is above its target and the orbit has no forbidden block
pub record IsKeptWhere (s : Stated) (b : List ℕ) : Type 0 where
  pub within : is_kept s b ≡ true → (row : ℕ) → row < length (targets_of s) → slice_index (entries_of s b) row ≤ slice_index (targets_of s) row
  pub allowed : is_kept s b ≡ true → has_in_orbit s s.forbidden b ≡ false
  pub kept : ((row : ℕ) → row < length (targets_of s) → slice_index (entries_of s b) row ≤ slice_index (targets_of s) row) → has_in_orbit s s.forbidden b ≡ false → is_kept s b ≡ true

abbrev pub OrbitsAreKept : Type 0
OrbitsAreKept = (s : Stated) (b : List ℕ) → IsKeptWhere s b

-- two points in order
pub record IsPair (v : ℕ) (pair : List ℕ) : Type 0 where
  pub points : pair ≡ slice_index pair 0 ∷ slice_index pair 1 ∷ []
  pub order : slice_index pair 0 < slice_index pair 1
  pub within : slice_index pair 1 < v

-- what the numbers of pairs, blocks and entries lie below
pub record AreFew (s : Stated) : Type 0 where
  pub pairs : length (pairs_of s) ≤ 8128
  pub pair : (pair : List ℕ) → In (pairs_of s) pair → IsPair (point_count s) pair
  pub orbit : (b : List ℕ) → In (orbits_of s) b → IsBlock (point_count s) s.sizes b
  pub orbit_low : (b : List ℕ) → In (orbits_of s) b → 2 ≤ length b
  pub orbit_high : (b : List ℕ) → In (orbits_of s) b → length b ≤ 16
  pub blocks : length (all_blocks s) ≡ sum_by (binomial (point_count s)) s.sizes
  pub entry : (b pair : List ℕ) → orbit_cover s b pair ≤ length (all_blocks s)
  pub size : (b : List ℕ) → orbit_size s b ≤ length (all_blocks s)

abbrev pub NumbersAreFew : Type 0
NumbersAreFew = (s : Stated) → IsStated s → AreFew s

-- how many rows of needed orbits there are, and how many cells a column has: one for each two points of the block at most, and one for the orbit itself
pub record AreSparse (s : Stated) : Type 0 where
  pub needed : length (needed_of s) ≤ length s.required
  pub rows : length (targets_of s) ≤ 12224
  pub cells : (b : List ℕ) → In (orbits_of s) b → length (positive_cells 0 (entries_of s b)) ≤ 121

abbrev pub ColumnsAreSparse : Type 0
ColumnsAreSparse = (s : Stated) → IsStated s → AreSparse s

-- the entries of the system are the counts of the definition
abbrev pub EntriesAreCounts : Type 0
EntriesAreCounts = (s : Stated) (row column : ℕ) → row < length (targets_of s) → column < length (columns_of s) → entry (orbit_system s) row column ≡ entry_at s row (column_at s column)

-- numbers tell orbits and columns
pub record AreNumbered (s : Stated) : Type 0 where
  -- the representative of a block is an orbit, stands at the block's number, and is the only orbit that is in one orbit with the block
  pub listed : (b : List ℕ) → IsBlock (point_count s) s.sizes b → In (orbits_of s) (representative s b)
  pub place : (b : List ℕ) → IsBlock (point_count s) s.sizes b → slice_get (orbits_of s) (orbit_number s b) ≡ Some (representative s b)
  pub alone : (b c : List ℕ) → IsBlock (point_count s) s.sizes b → In (orbits_of s) c → in_one_orbit s b c ≡ same_list (representative s b) c
  -- a representative is its own, and has the number of its place
  pub own : (b : List ℕ) → In (orbits_of s) b → representative s b ≡ b
  pub orbit : (i : ℕ) (b : List ℕ) → slice_get (orbits_of s) i ≡ Some b → orbit_number s b ≡ i
  -- a kept one has the number of its column
  pub column : (i : ℕ) (b : List ℕ) → slice_get (columns_of s) i ≡ Some b → column_number s b ≡ Some i
  pub kept : (i : ℕ) (b : List ℕ) → In (orbits_of s) b → column_number s b ≡ Some i → slice_get (columns_of s) i ≡ Some b

abbrev pub OrbitsAreNumbered : Type 0
OrbitsAreNumbered = (s : Stated) → IsStated s → AreNumbered s
