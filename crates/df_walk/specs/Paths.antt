-- Paths, nodes, and what isn't before a path: the rest and the load.
use Rattle.std.specs.Prelude.{◌≡◌, ℕ, suc, zero, ◌<◌, ◌≤◌, Bool, true, false, not, ◌&&◌, ◌||◌, ◌==◌, List, [], ◌∷◌, ◌++◌, length, map, filter, All}
use Rattle.std.specs.List.{list_all, list_any, range_with_len}
use Rattle.std.specs.List.Sorted.{IsStrictlyIncreasing}
use Rattle.df_walk.specs.declared.Rules.{Rules}
use Rattle.df_walk.specs.declared.Rules.TheVariants.{Plain, Divisor}
use Rattle.df_walk.specs.Systems.{System, rows_of}
use Rattle.df_walk.specs.Assignments.{Decisions, is_over, is_under, has_residue, is_settled}
use Rattle.df_walk.specs.Solutions.{solutions, chosen_columns}
use Rattle.df_walk.specs.Walks.{decided}

-- by the rules, the row doesn't rule the decisions out: its need is from 0 to its cap, and by the divisor's rules a multiple of its divisor where that is at least 2
abbrev pub is_live_row : Rules → System → Decisions → ℕ → Bool
is_live_row Plain s ds row = not (is_over s ds row) && not (is_under s ds row)
is_live_row Divisor s ds row = not (is_over s ds row) && not (is_under s ds row) && not (has_residue s ds row)

abbrev pub is_live : Rules → System → Decisions → Bool
is_live rules s ds = list_all (is_live_row rules s ds) (rows_of s)

-- some prefix of `before ++ p` is settled that is at least as long as `before`, and not all of it
abbrev pub settled_between : System → List Bool → List Bool → Bool
settled_between s before [] = false
settled_between s before (b ∷ p) = is_settled s (decided before) || settled_between s (before ++ b ∷ []) p

-- a proper prefix of the path is settled
abbrev pub settled_before : System → List Bool → Bool
settled_before s p = settled_between s [] p

-- live, and no proper prefix is settled
abbrev pub is_node : Rules → System → List Bool → Bool
is_node rules s p = is_live rules s (decided p) && not (settled_before s p)

-- the path is a node of the system
pub record IsNode (rules : Rules) (s : System) (p : List Bool) : Type 0 where
  pub short : length p ≤ length s.columns
  pub node : is_node rules s p ≡ true

-- all paths of at most this many columns: a prefix before its extensions, and yes before no
abbrev pub paths : ℕ → List (List Bool)
paths zero = [] ∷ []
paths (suc left) = [] ∷ (map (λ p. true ∷ p) (paths left) ++ map (λ p. false ∷ p) (paths left))

abbrev pub nodes : Rules → System → List (List Bool)
nodes rules s = filter (is_node rules s) (paths (length s.columns))

-- x extends p or stands after it
abbrev pub not_before : List Bool → List Bool → Bool
not_before [] x = true
not_before (b ∷ p) [] = false
not_before (true ∷ p) (true ∷ x) = not_before p x
not_before (true ∷ p) (false ∷ x) = true
not_before (false ∷ p) (true ∷ x) = false
not_before (false ∷ p) (false ∷ x) = not_before p x

-- the solutions that extend p or stand after it
abbrev pub rest : System → List Bool → List (List Bool)
rest s p = filter (not_before p) (solutions s)

-- how many nodes aren't before p
abbrev pub load : Rules → System → List Bool → ℕ
load rules s p = length (filter (not_before p) (nodes rules s))

-- a path as it is written: how many columns it decides, and which of them with yes, increasing
pub record WrittenPath : Type 0 where
  pub size : ℕ
  pub chosen : List ℕ

-- the numbers increase, and are those of columns that it decides
pub record IsWritten (p : WrittenPath) : Type 0 where
  pub increasing : IsStrictlyIncreasing p.chosen
  pub within : All (λ column. column < p.size) p.chosen

-- the decisions of a written path: yes at the chosen columns
abbrev pub path_of : WrittenPath → List Bool
path_of p = map (λ column. list_any (λ c. c == column) p.chosen) (range_with_len 0 p.size)

-- a path, written
abbrev pub written_path : List Bool → WrittenPath
written_path p = record { size = length p; chosen = chosen_columns p }
