-- The text of the orbit matrix of a problem.
use Rattle.std.specs.Prelude.{ℕ, nat_lt, List, [], ◌∷◌, ◌++◌, codes, length, slice_index, slice_index_or, Option, Some, None, if◌then◌else◌}
use Rattle.std.specs.List.{flat_map, range_with_len}
use Rattle.std.specs.Fmt.{decimal}
use Rattle.df_lang.specs.Problems.{Stated}
use Rattle.df_lang.specs.Canonical.{block_text}
use Rattle.df_kramer_mesner.specs.OrbitSystems.{pairs_of, needed_of, orbits_of, columns_of, entries_of, targets_of, column_number}

-- how many rows and orbits there are, and how many of the orbits are kept
unfoldable pub counts_line : ℕ → ℕ → ℕ → List ℕ
counts_line rows orbits kept = (((((codes "rows " ++ decimal rows) ++ codes " orbits ") ++ decimal orbits) ++ codes " kept ") ++ decimal kept) ++ 10 ∷ []

-- a row's number, what it is of, as a word and points, and its target
unfoldable pub row_line : List ℕ → Stated → ℕ → List ℕ → ℕ → List ℕ
row_line word s row block target = (((((codes "row " ++ decimal row) ++ word) ++ block_text s.group block) ++ codes " target ") ++ decimal target) ++ 10 ∷ []

-- what the rows are of: the representatives of the orbits of pairs, and then those of the required orbits
abbrev pub row_blocks : Stated → List (List ℕ)
row_blocks s = pairs_of s ++ needed_of s

abbrev pub row_word : Stated → ℕ → List ℕ
row_word s row = if nat_lt row (length (pairs_of s)) then codes " pair " else codes " block "

-- the line of the row of this number
abbrev pub row_at : Stated → ℕ → List ℕ
row_at s row = row_line (row_word s row) s row (slice_index_or (row_blocks s) row []) (slice_index (targets_of s) row)

abbrev pub rows_text : Stated → List ℕ
rows_text s = flat_map (row_at s) (range_with_len 0 (length (targets_of s)))

-- the beginning of an orbit's line: its representative
unfoldable pub orbit_head : Stated → List ℕ → List ℕ
orbit_head s b = (codes "orbit " ++ block_text s.group b) ++ codes " entries"

-- one of its entries
unfoldable pub entry_text : ℕ → List ℕ
entry_text e = 32 ∷ decimal e

-- and the end of the line: the number of its column, if it is kept
unfoldable pub column_text : ℕ → List ℕ
column_text column = (codes " column " ++ decimal column) ++ 10 ∷ []

abbrev pub end_of : Option ℕ → List ℕ
end_of (Some column) = column_text column
end_of None = codes " dropped\n"

abbrev pub end_text : Stated → List ℕ → List ℕ
end_text s b = end_of (column_number s b)

-- the line of an orbit
unfoldable pub orbit_line : Stated → List ℕ → List ℕ
orbit_line s b = orbit_head s b ++ (flat_map entry_text (entries_of s b) ++ end_text s b)

abbrev pub orbit_lines : Stated → List ℕ
orbit_lines s = flat_map (orbit_line s) (orbits_of s)

-- the rows, and then the orbits with their entries in these rows
abbrev pub matrix_text : Stated → List ℕ
matrix_text s = counts_line (length (targets_of s)) (length (orbits_of s)) (length (columns_of s)) ++ (rows_text s ++ orbit_lines s)
