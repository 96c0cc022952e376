-- The problem of a workload, stated as a source.
use Rattle.std.specs.Prelude.{ℕ, ◌+◌, ◌*◌, List, [], ◌∷◌, ◌++◌, codes}
use Rattle.std.specs.Fmt.{decimal}

-- the number of points of the workload of this number
abbrev pub points_of : ℕ → ℕ
points_of n = 6 * n + 5

-- in how many blocks of three points each two lie together: in all that hold them, so that all blocks are the one design
abbrev pub target_of : ℕ → ℕ
target_of n = 6 * n + 3

unfoldable pub workload_source : ℕ → List ℕ
workload_source n = (((codes "group " ++ decimal (points_of n)) ++ codes "\nk 3\nlambda ") ++ decimal (target_of n)) ++ 10 ∷ []
