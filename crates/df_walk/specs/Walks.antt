-- The walk through the paths of a system.
use Rattle.std.specs.Prelude.{ℕ, suc, zero, ◌-◌, Bool, true, false, List, [], ◌∷◌, ◌++◌, length, map, Option, Some, None, filter_map}
use Rattle.df_walk.specs.declared.Rules.{Rules}
use Rattle.df_walk.specs.declared.Entry.{Entry}
use Rattle.df_walk.specs.declared.Entry.TheVariants.{Branch, Over, Under, Settled, Residue, Cut}
use Rattle.df_walk.specs.Systems.{System, entries}
use Rattle.df_walk.specs.Assignments.{Decisions, divisor, is_settled, least_over, least_under, least_residue}
use Rattle.df_walk.specs.Solutions.{yes_vector}

-- a path has yes or no for the first columns
abbrev pub decided : List Bool → Decisions
decided p = map Some p

-- an entry of the walk, and the path at which it stands
abbrev pub Step : Type 0
Step = List Bool × Entry

-- the least row that is over; else the least that is under; else the least with a residue, and its divisor; else that all is settled; else the next column
abbrev pub entry_from : Option ℕ → Option ℕ → Option ℕ → (ℕ → ℕ) → Bool → ℕ → Entry
entry_from (Some row) under residue divisors met column = Over row
entry_from None (Some row) residue divisors met column = Under row
entry_from None None (Some row) divisors met column = Residue row (divisors row)
entry_from None None None divisors true column = Settled
entry_from None None None divisors false column = Branch column

-- the entry of a path
abbrev pub entry_at : Rules → System → List Bool → Entry
entry_at rules s p = entry_from (least_over s (decided p)) (least_under s (decided p)) (least_residue rules s (decided p)) (λ row. divisor (entries s row) (decided p)) (is_settled s (decided p)) (length p)

abbrev pub is_branch : Entry → Bool
is_branch (Branch column) = true
is_branch Settled = false
is_branch (Over row) = false
is_branch (Under row) = false
is_branch (Residue row m) = false
is_branch (Cut ws) = false

-- what follows below a branch, and nothing below another entry
abbrev pub below : Entry → List Step → List Step
below (Branch column) more = more
below Settled more = []
below (Over row) more = []
below (Under row) more = []
below (Residue row m) more = []
below (Cut ws) more = []

-- the walk from a path, with this many columns to go: below a branch first with yes, then with no
abbrev pub walk_from : Rules → System → ℕ → List Bool → List Step
walk_from rules s zero p = (p, entry_at rules s p) ∷ []
walk_from rules s (suc left) p = (p, entry_at rules s p) ∷ below (entry_at rules s p) (walk_from rules s left (p ++ true ∷ []) ++ walk_from rules s left (p ++ false ∷ []))

abbrev pub walk : Rules → System → List Bool → List Step
walk rules s p = walk_from rules s (length s.columns - length p) p

-- the solution at an entry: where all is settled, the path with no for all later columns
abbrev pub solution_of : System → Step → Option (List Bool)
solution_of s (p, Settled) = Some (yes_vector (length s.columns) (decided p))
solution_of s (p, Branch column) = None
solution_of s (p, Over row) = None
solution_of s (p, Under row) = None
solution_of s (p, Residue row m) = None
solution_of s (p, Cut ws) = None

abbrev pub solutions_in : System → List Step → List (List Bool)
solutions_in s steps = filter_map (solution_of s) steps

-- the path of an entry that counts as a node
abbrev pub node_of : Step → Option (List Bool)
node_of (p, Settled) = Some p
node_of (p, Branch column) = Some p
node_of (p, Over row) = None
node_of (p, Under row) = None
node_of (p, Residue row m) = None
node_of (p, Cut ws) = None

abbrev pub nodes_in : List Step → List (List Bool)
nodes_in steps = filter_map node_of steps

-- the entries without their paths
abbrev pub entries_in : List Step → List Entry
entries_in steps = map (λ step. step.1) steps
