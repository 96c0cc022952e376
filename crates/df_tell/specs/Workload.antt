-- The text of a workload: how large its problem is, and what the run of its search passed.
use Rattle.std.specs.Prelude.{ℕ, List, [], ◌∷◌, ◌++◌, codes, length}
use Rattle.std.specs.Fmt.{decimal}
use Rattle.df_walk.specs.Walks.{solutions_in, nodes_in}
use Rattle.df_runs.specs.Runs.{Run}
use Rattle.df_lang.specs.Problems.{Stated, point_count}
use Rattle.df_kramer_mesner.specs.OrbitSystems.{orbit_system, columns_of}

-- the workload's number, the points, the columns, how many designs were found and how many nodes visited
unfoldable pub workload_line : ℕ → ℕ → ℕ → ℕ → ℕ → List ℕ
workload_line n points columns designs nodes =
    (((((((((codes "workload " ++ decimal n) ++ codes " points ") ++ decimal points) ++ codes " columns ") ++ decimal columns)
    ++ codes " designs ") ++ decimal designs) ++ codes " nodes ") ++ decimal nodes) ++ 10 ∷ []

-- the line of a run
abbrev pub workload_text : ℕ → Stated → Run → List ℕ
workload_text n s run =
    workload_line n (point_count s) (length (columns_of s)) (length (solutions_in (orbit_system s) run.taken)) (length (nodes_in run.taken))
