-- A system of rows over columns, from which columns are to be chosen whose entries add up to the target in each row. An orbit matrix is one (Kramer and Mesner 1976).
use Rattle.std.specs.Prelude.{ℕ, ◌+◌, ◌<◌, if◌then◌else◌, ◌==◌, max, List, [], ◌∷◌, length, map, slice_index, slice_index_or, All}
use Rattle.std.specs.List.{AllByRecursion, range_with_len}
use Rattle.std.specs.List.Sorted.{IsStrictlyIncreasing}
use Rattle.df_walk.specs.declared.Cell.{Cell}

-- a target for each row, and for each column its positive entries
pub record System : Type 0 where
  pub targets : List ℕ
  pub columns : List (List Cell)

-- the numbers of the rows
abbrev pub rows_of : System → List ℕ
rows_of s = range_with_len 0 (length s.targets)

-- the entry of a column in a row: what its cells there add up to, so 0 where there is none
abbrev pub entry_of : List Cell → ℕ → ℕ
entry_of [] row = 0
entry_of (cell ∷ column) row = (if cell.row == row then cell.value else 0) + entry_of column row

-- a row's entries, one for each column
abbrev pub entries : System → ℕ → List ℕ
entries s row = map (λ column. entry_of column row) s.columns

-- the entry of a row and a column
abbrev pub entry : System → ℕ → ℕ → ℕ
entry s row column = slice_index (entries s row) column

-- the target of a row
abbrev pub target : System → ℕ → ℕ
target s row = slice_index s.targets row

-- the positive entries of a column
abbrev pub cells : System → ℕ → List Cell
cells s column = slice_index_or s.columns column []

-- cells as they stand in a column: positive, in the order of their rows
pub record AreCells (rows : ℕ) (column : List Cell) : Type 0 where
  pub in_range : All (λ cell. cell.row < rows) column
  pub positive : All (λ cell. 0 < cell.value) column
  pub increasing : IsStrictlyIncreasing (map (λ cell. cell.row) column)

-- a column has at least one
pub record IsColumn (rows : ℕ) (column : List Cell) : Type 0 where
  pub some : 0 < length column
  pub cells : AreCells rows column

-- each column is one
pub record IsSystem (s : System) : Type 0 where
  pub columns : AllByRecursion (IsColumn (length s.targets)) s.columns

-- the greatest number of positive entries of a column, and 0 without columns
abbrev pub widest : List (List Cell) → ℕ
widest [] = 0
widest (column ∷ columns) = max (length column) (widest columns)
