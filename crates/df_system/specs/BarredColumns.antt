-- Columns that rows bar: a row that needs nothing bars each column in which it has a positive entry. Rows are barred by levels, one for each yes column and one below them.
use Rattle.std.specs.Prelude.{◌≡◌, ℕ, ◌+◌, ◌*◌, ◌/◌, ◌<◌, Bool, true, false, ◌||◌, ◌==◌, nat_le, if◌then◌else◌, List, [], ◌∷◌, length}
use Rattle.std.specs.List.{list_any}
use Rattle.df_walk.specs.Systems.{System, entry}
use Rattle.df_system.specs.declared.barred.TheConstants.{COLUMNS_A_WORD, SET_WORDS, LEVEL_WORDS}

-- the rows that each level bars beyond those of the levels below it, the last level first, and in a level the last row first
pub record Barring : Type 0 where
  pub system : System
  pub levels : List (List ℕ)

-- whether some level has the row
abbrev pub bars_row : List (List ℕ) → ℕ → Bool
bars_row [] row = false
bars_row (rows ∷ levels) row = list_any (λ r. row == r) rows || bars_row levels row

-- the last level has the row too
abbrev pub with_row : ℕ → List (List ℕ) → List (List ℕ)
with_row row [] = []
with_row row (rows ∷ levels) = (row ∷ rows) ∷ levels

-- some row of the levels has a positive entry in the column
pub record IsBarredBy (s : System) (levels : List (List ℕ)) (column : ℕ) : Type 0 where
  pub row : ℕ
  pub within : row < length s.targets
  pub barred : bars_row levels row ≡ true
  pub positive : 0 < entry s row column

-- how many words the columns take
abbrev pub word_count : System → ℕ
word_count s = length s.columns / COLUMNS_A_WORD + 1

-- how many levels have their columns kept: as many as some words hold, and none where the rows' own columns take too many words
abbrev pub kept_levels : System → ℕ
kept_levels s = if nat_le (length s.targets * word_count s) SET_WORDS then LEVEL_WORDS / word_count s else 0
