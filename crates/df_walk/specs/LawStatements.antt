-- The laws of systems, walks and logs. Each is the contract of a function of this crate.
use Rattle.std.specs.Prelude.{◌≡◌, ◌↔◌, ℕ, ◌+◌, ◌*◌, ◌<◌, ◌≤◌, Bool, true, false, List, [], ◌∷◌, ◌++◌, length, map, filter, replicate, drop, Some, None, slice_get, slice_set}
use Rattle.std.specs.List.Sorted.{IsPermutation}
use Rattle.df_walk.specs.declared.Rules.{Rules}
use Rattle.df_walk.specs.declared.Entry.{Entry}
use Rattle.df_walk.specs.Systems.{System, IsSystem, entries, entry, target, cells, widest}
use Rattle.df_walk.specs.Assignments.{Decisions, taken, cap, divisor, common_divisor, is_settled}
use Rattle.df_walk.specs.Solutions.{keeps, is_solution, solutions, solutions_with, yes_vector, chosen_columns}
use Rattle.df_walk.specs.Walks.{decided, walk, solutions_in, nodes_in, entries_in}
use Rattle.df_walk.specs.Paths.{is_node, nodes, rest, load, WrittenPath, IsWritten, path_of, written_path}
use Rattle.df_walk.specs.Remains.{remaining, earlier, walk_on}
use Rattle.df_walk.specs.Logs.{Proves, AreLogs, Completes}

-- what a decision for an undecided column changes in a row: yes takes the column's entry, no takes nothing, and either lowers the cap by it
pub record DecisionChanges (s : System) (ds : Decisions) (column row : ℕ) : Type 0 where
  pub taken_yes : taken (entries s row) (slice_set ds column (Some true)) ≡ taken (entries s row) ds + entry s row column
  pub taken_no : taken (entries s row) (slice_set ds column (Some false)) ≡ taken (entries s row) ds
  pub cap_after : (b : Bool) → cap (entries s row) (slice_set ds column (Some b)) + entry s row column ≡ cap (entries s row) ds

abbrev pub DecisionsChange : Type 0
DecisionsChange = (s : System) (ds : Decisions) (column row : ℕ) → slice_get ds column ≡ Some None → DecisionChanges s ds column row

-- of a solution that keeps the decisions each need is from 0 to the cap, and a multiple of the divisor
pub record NeedIsWithin (s : System) (ds : Decisions) (row : ℕ) : Type 0 where
  pub not_negative : taken (entries s row) ds ≤ target s row
  pub at_most_cap : target s row ≤ taken (entries s row) ds + cap (entries s row) ds
  pub multiple : (k : ℕ) × (target s row ≡ taken (entries s row) ds + k * divisor (entries s row) ds)

abbrev pub SolutionsBoundNeeds : Type 0
SolutionsBoundNeeds = (s : System) (ds : Decisions) (x : List Bool) (row : ℕ) → is_solution s x ≡ true → keeps ds x ≡ true → row < length s.targets → NeedIsWithin s ds row

-- the divisor of a row at a path is that of the columns past it
abbrev pub PathsHaveDivisors : Type 0
PathsHaveDivisors = (s : System) (p : List Bool) (row : ℕ) → divisor (entries s row) (decided p) ≡ common_divisor (drop (length p) (entries s row))

-- needs and caps are no greater than the greatest entry, once for each column
abbrev pub SumsAreBounded : Type 0
SumsAreBounded = (s : System) (ds : Decisions) (row most : ℕ) → ((column : ℕ) → column < length s.columns → entry s row column ≤ most) → taken (entries s row) ds + cap (entries s row) ds ≤ most * length s.columns

-- the solutions with a path are those with it and yes, followed by those with it and no
abbrev pub PathsSplit : Type 0
PathsSplit = (s : System) (p : List Bool) → length p < length s.columns → solutions_with s (decided p) ≡ solutions_with s (decided (p ++ true ∷ [])) ++ solutions_with s (decided (p ++ false ∷ []))

-- by any undecided column: those with it yes and those with it no are, each once, those with neither
abbrev pub ColumnsSplit : Type 0
ColumnsSplit = (s : System) (ds : Decisions) (column : ℕ) → slice_get ds column ≡ Some None → IsPermutation (solutions_with s ds) (solutions_with s (slice_set ds column (Some true)) ++ solutions_with s (slice_set ds column (Some false)))

-- where all needs are 0 the only solution is the yes columns alone
abbrev pub SettledIsOne : Type 0
SettledIsOne = (s : System) (ds : Decisions) → IsSystem s → length ds ≤ length s.columns → is_settled s ds ≡ true → solutions_with s ds ≡ yes_vector (length s.columns) ds ∷ []

-- no solution stands twice in the list
abbrev pub SolutionsAreDistinct : Type 0
SolutionsAreDistinct = (s : System) (x : List Bool) → length x ≡ length s.columns → is_solution s x ≡ true → filter (keeps (decided x)) (solutions s) ≡ x ∷ []

-- the walk from the empty path has the solutions and the nodes, each once and in order
pub record WalksAll (rules : Rules) (s : System) : Type 0 where
  pub solutions_are : solutions_in s (walk rules s []) ≡ solutions s
  pub nodes_are : nodes_in (walk rules s []) ≡ nodes rules s

abbrev pub WalksAreWhole : Type 0
WalksAreWhole = (rules : Rules) (s : System) → IsSystem s → WalksAll rules s

-- a walk cut at a node: first what comes before it, then what remains there, which has the node's rest and load
pub record IsCutAt (rules : Rules) (s : System) (p : List Bool) : Type 0 where
  pub parts : walk rules s [] ≡ earlier p (walk rules s []) ++ walk_on rules s p
  pub remains : remaining rules s p ≡ walk_on rules s p
  pub rest_remains : solutions_in s (walk_on rules s p) ≡ rest s p
  pub load_remains : length (nodes_in (walk_on rules s p)) ≡ load rules s p
  pub solutions_add : solutions_in s (earlier p (walk rules s [])) ++ rest s p ≡ solutions s
  pub loads_add : length (nodes_in (earlier p (walk rules s []))) + load rules s p ≡ load rules s []

abbrev pub WalksCutAtNodes : Type 0
WalksCutAtNodes = (rules : Rules) (s : System) (p : List Bool) → IsSystem s → length p ≤ length s.columns → is_node rules s p ≡ true → IsCutAt rules s p

-- a log from nothing decided has, whatever the order of branching, each solution's columns once and nothing else
abbrev pub LogsAreComplete : Type 0
LogsAreComplete = (s : System) (E : List Entry) (L : List (List ℕ)) → IsSystem s → Proves s (replicate (length s.columns) None) E L → IsPermutation L (map chosen_columns (solutions s))

-- the walk's entries are a log that proves its solutions, in order
abbrev pub WalksAreLogs : Type 0
WalksAreLogs = (rules : Rules) (s : System) → IsSystem s → Proves s (replicate (length s.columns) None) (entries_in (walk rules s [])) (map chosen_columns (solutions s))

-- logs one for each of the decisions are what completes them entry by entry
abbrev pub LogsComplete : Type 0
LogsComplete = (s : System) (wanted : List Decisions) (E : List Entry) (L : List (List ℕ)) → AreLogs s wanted E L ↔ Completes s wanted E L

-- a path and its written form give each other back
pub record PathsAreRead : Type 0 where
  pub read_back : (p : List Bool) → path_of (written_path p) ≡ p
  pub written_back : (w : WrittenPath) → IsWritten w → written_path (path_of w) ≡ w

-- no column has more positive entries than the widest
abbrev pub ColumnsAreNoWider : Type 0
ColumnsAreNoWider = (s : System) (column : ℕ) → length (cells s column) ≤ widest s.columns
