-- What remains of the walk at a path: as the steps that aren't before it, and as a search holds it.
use Rattle.std.specs.Prelude.{◌≡◌, ℕ, zero, suc, ◌-◌, ◌≤◌, Bool, true, false, not, List, [], ◌∷◌, ◌++◌, length, filter, replicate, Option, Some, None}
use Rattle.df_walk.specs.declared.Rules.{Rules}
use Rattle.df_walk.specs.Systems.{System}
use Rattle.df_walk.specs.Assignments.{Decisions}
use Rattle.df_walk.specs.Walks.{Step, decided, entry_at, is_branch, walk}
use Rattle.df_walk.specs.Paths.{not_before}

-- the steps of the whole walk whose path isn't before p
abbrev pub remaining : Rules → System → List Bool → List Step
remaining rules s p = filter (λ step. not_before p step.0) (walk rules s [])

-- the steps that come before a path
abbrev pub earlier : List Bool → List Step → List Step
earlier p steps = filter (λ step. not (not_before p step.0)) steps

-- what remains once the paths that extend `before ++ p` are done: at each yes of p, from the last to the first, the walk with no
abbrev pub later_walk : Rules → System → List Bool → List Bool → List Step
later_walk rules s before [] = []
later_walk rules s before (true ∷ p) = later_walk rules s (before ++ true ∷ []) p ++ walk rules s (before ++ false ∷ [])
later_walk rules s before (false ∷ p) = later_walk rules s (before ++ false ∷ []) p

-- what remains from p on
abbrev pub walk_on : Rules → System → List Bool → List Step
walk_on rules s p = walk rules s p ++ later_walk rules s [] p

-- the walk comes by `before ++ p`: each proper prefix that is at least as long as `before` branches
abbrev pub IsVisitedFrom : Rules → System → List Bool → List Bool → Type 0
IsVisitedFrom rules s before [] = Unit {0}
IsVisitedFrom rules s before (b ∷ p) = (is_branch (entry_at rules s before) ≡ true) × IsVisitedFrom rules s (before ++ b ∷ []) p

abbrev pub IsVisited : Rules → System → List Bool → Type 0
IsVisited rules s p = IsVisitedFrom rules s [] p

-- a search or a run may begin at the path: the walk comes by it, as by the empty path and by each node
pub record IsStart (rules : Rules) (s : System) (p : List Bool) : Type 0 where
  pub short : length p ≤ length s.columns
  pub visited : IsVisited rules s p

-- a path as the decisions of this many columns
abbrev pub padded : ℕ → List Bool → Decisions
padded columns p = decided p ++ replicate (columns - length p) None

-- the columns of a path, the last one first
abbrev pub down_from : ℕ → List ℕ
down_from zero = []
down_from (suc n) = n ∷ down_from n

abbrev pub after_first : Bool → Option (List Bool) → Option (List Bool)
after_first b (Some q) = Some (b ∷ q)
after_first true None = Some (false ∷ [])
after_first false None = None

-- the path with its last yes turned to no, and cut there
abbrev pub turned : List Bool → Option (List Bool)
turned [] = None
turned (b ∷ p) = after_first b (turned p)
