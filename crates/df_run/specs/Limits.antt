-- The limit that a problem is above, if any, and why a search can't go on at a path.
use Rattle.std.specs.Prelude.{◌*◌, ◌^◌, ◌<◌, nat_lt, if◌then◌else◌, length, Option, Some, None}
use Rattle.std.specs.Option.{option_map, option_and_then}
use Rattle.df_walk.specs.declared.Rules.{Rules}
use Rattle.df_walk.specs.Systems.{System}
use Rattle.df_walk.specs.Paths.{WrittenPath, path_of}
use Rattle.df_search.specs.Reasons.{why_no_node}
use Rattle.df_lang.specs.Problems.{Stated}
use Rattle.df_matrix.specs.Limits.{subset_limit, passed_by, limit_passed}
use Rattle.df_matrix.specs.declared.matrix.MatrixError.{MatrixError}
use Rattle.df_matrix.specs.declared.matrix.MatrixError.TheVariants as matrix
use Rattle.df_orbits.specs.declared.orbits.OrbitError.{OrbitError}
use Rattle.df_orbits.specs.declared.orbits.OrbitError.TheVariants as orbit
use Rattle.df_tell.specs.declared.limits.Limit.{Limit}
use Rattle.df_tell.specs.declared.limits.Limit.TheVariants.{Subsets, SizedSubsets, Columns, Entries}
use Rattle.df_tell.specs.declared.path.PathRefusal.{PathRefusal}
use Rattle.df_tell.specs.declared.path.PathRefusal.TheVariants.{Long, NoNode}
use Rattle.df_run.specs.declared.limits.LimitError.{LimitError}
use Rattle.df_run.specs.declared.limits.LimitError.TheVariants.{Above, OutOfMemory}

-- why the orbits of blocks were not listed, as a limit that the problem is above
abbrev pub limit_error : OrbitError → LimitError
limit_error (orbit.TooManySubsets v k) = Above (Subsets k v)
limit_error (orbit.TooManySummed v sum) = Above (SizedSubsets v)
limit_error orbit.OutOfMemory = OutOfMemory

-- why there is no orbit matrix, as a limit; out of memory is none
abbrev pub limit_of : MatrixError → Option Limit
limit_of (matrix.TooManySubsets v k) = Some (Subsets k v)
limit_of (matrix.TooManySummed v sum) = Some (SizedSubsets v)
limit_of (matrix.TooManyColumns columns) = Some (Columns columns)
limit_of (matrix.TooLarge rows columns) = Some (Entries (rows * columns))
limit_of matrix.OutOfMemory = None

-- the same as an error
abbrev pub limited_to : Option Limit → LimitError
limited_to None = OutOfMemory
limited_to (Some limit) = Above limit

-- its rows times its columns, where these are told, fit in 64 bits
abbrev pub IsCountable : MatrixError → Type 0
IsCountable (matrix.TooManySubsets v k) = Unit {0}
IsCountable (matrix.TooManySummed v sum) = Unit {0}
IsCountable (matrix.TooManyColumns columns) = Unit {0}
IsCountable (matrix.TooLarge rows columns) = rows * columns < 2 ^ 64
IsCountable matrix.OutOfMemory = Unit {0}

-- the limit on blocks that a problem is above
abbrev pub subsets_limit : Stated → Option Limit
subsets_limit s = option_and_then limit_of (option_map passed_by (subset_limit s))

-- the first limit that the orbit matrix of a problem is above: that on blocks, on columns, or on entries
abbrev pub matrix_limit : Stated → Option Limit
matrix_limit s = option_and_then limit_of (limit_passed s)

-- why a search by these rules can't go on at a path: it is longer than there are columns, or it is no node
abbrev pub path_refusal : Rules → System → WrittenPath → Option PathRefusal
path_refusal rules s path =
    if nat_lt (length s.columns) path.size then Some (Long path.size (length s.columns)) else option_map NoNode (why_no_node rules s (path_of path))
