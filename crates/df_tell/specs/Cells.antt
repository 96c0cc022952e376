-- Cells in the order of their rows, gone through row by row.
use Rattle.std.specs.Prelude.{ℕ, ◌+◌, ◌==◌, nat_lt, List, [], ◌∷◌, if◌then◌else◌}
use Rattle.df_walk.specs.declared.Cell.{Cell}

-- the entry of a row, where no cell of a row before it is left
abbrev pub entry_ahead : List Cell → ℕ → ℕ
entry_ahead [] row = 0
entry_ahead (cell ∷ cells) row = if cell.row == row then cell.value else 0

-- the number of the first cell of a later row
abbrev pub next_after : ℕ → ℕ → ℕ
next_after next entry = if nat_lt 0 entry then next + 1 else next
