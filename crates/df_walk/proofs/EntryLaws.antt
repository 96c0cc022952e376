-- The entries of a row, column by column.
use Rattle.std.proofs.Common.{◌≡◌, ℕ, suc, zero, ◌<◌, List, [], ◌∷◌, length, get_or, map, refl, arith, ◌+◌, ◌++◌}
use Rattle.std.specs.List.{AllByRecursion}
use Rattle.std.proofs.lemmas.Bool.{eq-eqb}
use Rattle.std.proofs.lemmas.List.{length-map}
use Rattle.df_walk.specs.declared.Cell.{Cell}
use Rattle.df_walk.specs.Systems.{System, entry_of, entries, cells, IsColumn, IsSystem}

pub length-entries : (s : System) (row : ℕ) → length (entries s row) ≡ length s.columns
length-entries s row = length-map s.columns (λ column. entry_of column row)

entry_at_column : (columns : List (List Cell)) (row column : ℕ) → get_or (map (λ c. entry_of c row) columns) column 0 ≡ entry_of (get_or columns column []) row
entry_at_column [] row column = refl
entry_at_column (c ∷ columns) row zero = refl
entry_at_column (c ∷ columns) row (suc column) = entry_at_column columns row column

-- an entry is what the column's cells add up to in the row
pub entry_is : (s : System) (row column : ℕ) → get_or (entries s row) column 0 ≡ entry_of (cells s column) row
entry_is s row column = entry_at_column s.columns row column

column_at : (n : ℕ) (columns : List (List Cell)) (column : ℕ) → AllByRecursion (IsColumn n) columns → column < length columns → IsColumn n (get_or columns column [])
column_at n [] column all h = absurd (omega arith)
column_at n (c ∷ columns) zero all h = all.0
column_at n (c ∷ columns) (suc column) all h = column_at n columns column all.1 (omega arith)

-- each column of a system is one
pub column_of : (s : System) (column : ℕ) → IsSystem s → column < length s.columns → IsColumn (length s.targets) (cells s column)
column_of s column ok h = column_at (length s.targets) s.columns column ok.columns h

first_positive : (n : ℕ) (column : List Cell) → IsColumn n column → (row : ℕ) × (row < n) × (0 < entry_of column row)
first_positive n [] ok = absurd (omega (arith, ok.some))
first_positive n (cell ∷ column) ok =
    let within = ok.cells.in_range 0 cell (omega arith) in
    let positive = ok.cells.positive 0 cell (omega arith) in
    (cell.row, within, rw (eq-eqb cell.row cell.row refl) (omega arith))

-- each column has a positive entry
pub has_positive : (s : System) (column : ℕ) → IsSystem s → column < length s.columns → (row : ℕ) × (row < length s.targets) × (0 < get_or (entries s row) column 0)
has_positive s column ok h =
    let r = first_positive (length s.targets) (cells s column) (column_of s column ok h) in
    (r.0, r.1, rw (entry_is s r.0 column) r.2)

-- a row's entries of joined cells
pub entry_of-append : (a b : List Cell) (row : ℕ) → entry_of (a ++ b) row ≡ entry_of a row + entry_of b row
entry_of-append [] b row = omega arith
entry_of-append (c ∷ a) b row = omega (arith, entry_of-append a b row)
