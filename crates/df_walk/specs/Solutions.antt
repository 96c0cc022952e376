-- All 0-1 vectors, and those that solve a system.
use Rattle.std.specs.Prelude.{ℕ, suc, zero, ◌+◌, Bool, true, false, not, ◌&&◌, ◌==◌, List, [], ◌∷◌, ◌++◌, map, Some, None, filter, length}
use Rattle.std.specs.List.{list_all}
use Rattle.df_walk.specs.Systems.{System, rows_of, entries, target}
use Rattle.df_walk.specs.Assignments.{Decisions}

-- all 0-1 vectors of a length: 1 before 0, the first column first
abbrev pub vectors : ℕ → List (List Bool)
vectors zero = [] ∷ []
vectors (suc n) = map (λ x. true ∷ x) (vectors n) ++ map (λ x. false ∷ x) (vectors n)

-- what a 0-1 vector makes of a row's entries
abbrev pub product : List ℕ → List Bool → ℕ
product es [] = 0
product [] (b ∷ x) = 0
product (e ∷ es) (true ∷ x) = e + product es x
product (e ∷ es) (false ∷ x) = product es x

-- M x = target
abbrev pub is_solution : System → List Bool → Bool
is_solution s x = list_all (λ row. target s row == product (entries s row) x) (rows_of s)

-- the solutions, 1 before 0
abbrev pub solutions : System → List (List Bool)
solutions s = filter (is_solution s) (vectors (length s.columns))

-- the vector has the decisions' values
abbrev pub keeps : Decisions → List Bool → Bool
keeps [] x = true
keeps (d ∷ ds) [] = false
keeps (None ∷ ds) (b ∷ x) = keeps ds x
keeps (Some true ∷ ds) (b ∷ x) = b && keeps ds x
keeps (Some false ∷ ds) (b ∷ x) = not b && keeps ds x

-- the solutions with the decisions' values
abbrev pub solutions_with : System → Decisions → List (List Bool)
solutions_with s ds = filter (λ x. keeps ds x && is_solution s x) (vectors (length s.columns))

-- yes where it is decided so, no elsewhere
abbrev pub yes_vector : ℕ → Decisions → List Bool
yes_vector zero ds = []
yes_vector (suc n) [] = false ∷ yes_vector n []
yes_vector (suc n) (None ∷ ds) = false ∷ yes_vector n ds
yes_vector (suc n) (Some b ∷ ds) = b ∷ yes_vector n ds

-- the numbers of the yes columns, where the first column has the given number
abbrev pub yes_columns_from : ℕ → Decisions → List ℕ
yes_columns_from column [] = []
yes_columns_from column (None ∷ ds) = yes_columns_from (column + 1) ds
yes_columns_from column (Some true ∷ ds) = column ∷ yes_columns_from (column + 1) ds
yes_columns_from column (Some false ∷ ds) = yes_columns_from (column + 1) ds

-- the numbers of the yes columns, increasing
abbrev pub yes_columns : Decisions → List ℕ
yes_columns ds = yes_columns_from 0 ds

-- the columns that a 0-1 vector chooses, increasing
abbrev pub chosen_columns : List Bool → List ℕ
chosen_columns x = yes_columns (map Some x)
