-- The limits on orbit matrices, in the order in which they are judged.
use Rattle.std.specs.Prelude.{ℕ, ◌*◌, ◌==◌, nat_lt, length, sum_by, slice_index, Option, Some, None, if◌then◌else◌}
use Rattle.std.specs.Option.{option_map}
use Rattle.df_subsets.specs.Subsets.{binomial}
use Rattle.df_lang.specs.Problems.{Stated, point_count}
use Rattle.df_kramer_mesner.specs.OrbitSystems.{columns_of, targets_of}
use Rattle.df_matrix.specs.declared.matrix.MatrixError.{MatrixError}
use Rattle.df_matrix.specs.declared.matrix.MatrixError.TheVariants.{TooManySubsets, TooManyColumns, TooLarge, OutOfMemory, TooManySummed}
use Rattle.df_matrix.specs.declared.matrix.TheConstants.{MOST_COLUMNS, MOST_ENTRIES}
use Rattle.df_orbits.specs.declared.orbits.OrbitError.{OrbitError}
use Rattle.df_orbits.specs.declared.orbits.OrbitError.TheVariants as orbits
use Rattle.df_orbits.specs.declared.orbits.TheConstants.{MOST_SUBSETS, MOST_SUMMED}

-- how many blocks have one of the sizes
abbrev pub block_count : Stated → ℕ
block_count s = sum_by (binomial (point_count s)) s.sizes

-- the size of version 1
abbrev pub only_size : Stated → ℕ
only_size s = slice_index s.sizes 0

-- too many blocks: above MOST_SUBSETS in version 1, which has one size, and above MOST_SUMMED in version 2
abbrev pub subset_limit_of : ℕ → ℕ → ℕ → ℕ → Option OrbitError
subset_limit_of version points size count =
    if version == 1
    then (if nat_lt MOST_SUBSETS count then Some (orbits.TooManySubsets points size) else None)
    else (if nat_lt MOST_SUMMED count then Some (orbits.TooManySummed points count) else None)

abbrev pub subset_limit : Stated → Option OrbitError
subset_limit s = subset_limit_of s.version (point_count s) (only_size s) (block_count s)

-- the same limit, of the matrix
abbrev pub passed_by : OrbitError → MatrixError
passed_by (orbits.TooManySubsets points size) = TooManySubsets points size
passed_by (orbits.TooManySummed points sum) = TooManySummed points sum
passed_by orbits.OutOfMemory = OutOfMemory

-- more columns than MOST_COLUMNS
abbrev pub column_limit_of : ℕ → Option MatrixError
column_limit_of columns = if nat_lt MOST_COLUMNS columns then Some (TooManyColumns columns) else None

abbrev pub column_limit : Stated → Option MatrixError
column_limit s = column_limit_of (length (columns_of s))

-- in version 1, rows times columns above MOST_ENTRIES
abbrev pub entry_limit_of : ℕ → ℕ → ℕ → Option MatrixError
entry_limit_of version rows columns =
    if version == 1
    then (if nat_lt MOST_ENTRIES (rows * columns) then Some (TooLarge rows columns) else None)
    else None

abbrev pub entry_limit : Stated → Option MatrixError
entry_limit s = entry_limit_of s.version (length (targets_of s)) (length (columns_of s))

-- the first of two
abbrev pub or_else : Option MatrixError → Option MatrixError → Option MatrixError
or_else (Some e) other = Some e
or_else None other = other

-- the first limit that a problem passes
unfoldable pub limit_passed : Stated → Option MatrixError
limit_passed s = or_else (option_map passed_by (subset_limit s)) (or_else (column_limit s) (entry_limit s))
