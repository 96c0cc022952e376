-- Sets of columns as bits of words, and the trail of barred rows, as they are stored.
use Rattle.std.specs.Prelude.{◌≡◌, ℕ, ◌+◌, ◌*◌, ◌/◌, ◌%◌, ◌<◌, ◌≤◌, false, min, List, [], ◌∷◌, length, slice_index, Option, Some, None, reverse, take}
use Rattle.std.specs.Int.{bit_at}
use Rattle.df_walk.specs.Systems.{System, entry}
use Rattle.df_system.specs.declared.barred.TheConstants.{COLUMNS_A_WORD}
use Rattle.df_system.specs.BarredColumns.{IsBarredBy, bars_row, with_row, word_count, kept_levels}

-- a bit of a word is set
abbrev pub HasBit : List ℕ → ℕ → ℕ → Type 0
HasBit words place bit = bit_at (slice_index words place) bit ≡ 1

-- the bit of a column is set in the set whose words start there
abbrev pub HasColumn : List ℕ → ℕ → ℕ → Type 0
HasColumn words start column = HasBit words (start + column / COLUMNS_A_WORD) (column % COLUMNS_A_WORD)

-- each column that a row's set has is one in which the row has a positive entry
abbrev pub SetsArePositive : System → ℕ → List ℕ → Type 0
SetsArePositive s words sets = (row column : ℕ) → row < length s.targets → column < words * COLUMNS_A_WORD → HasColumn sets (row * words) column → 0 < entry s row column

-- for each row the columns in which it has a positive entry
pub record AreRowSets (s : System) (words : ℕ) (sets : List ℕ) : Type 0 where
  pub long : length sets ≡ length s.targets * words
  pub positive : SetsArePositive s words sets
  pub whole : (row column : ℕ) → row < length s.targets → column < words * COLUMNS_A_WORD → 0 < entry s row column → HasColumn sets (row * words) column

-- the columns that the levels bar
pub record IsLevelSet (s : System) (words : ℕ) (barred : List ℕ) (start : ℕ) (levels : List (List ℕ)) : Type 0 where
  pub sound : (column : ℕ) → column < words * COLUMNS_A_WORD → HasColumn barred start column → IsBarredBy s levels column
  pub whole : (column : ℕ) → column < words * COLUMNS_A_WORD → IsBarredBy s levels column → HasColumn barred start column

-- each level of those that are kept has its set
abbrev pub AreLevelSets : System → ℕ → ℕ → List ℕ → List (List ℕ) → Type 0
AreLevelSets s words kept barred [] = Unit {0}
AreLevelSets s words kept barred (rows ∷ lower) = (length lower < kept → IsLevelSet s words barred (length lower * words) (rows ∷ lower)) × AreLevelSets s words kept barred lower

-- the levels of a trail, the last one first: a row, or none where a level begins
abbrev pub levels_of : List (Option ℕ) → List (List ℕ)
levels_of [] = [] ∷ []
levels_of (None ∷ earlier) = [] ∷ levels_of earlier
levels_of (Some row ∷ earlier) = with_row row (levels_of earlier)

-- no row comes twice
abbrev pub AreFresh : ℕ → List (Option ℕ) → Type 0
AreFresh rows [] = Unit {0}
AreFresh rows (None ∷ earlier) = AreFresh rows earlier
AreFresh rows (Some row ∷ earlier) = (row < rows) × (bars_row (levels_of earlier) row ≡ false) × AreFresh rows earlier

-- the trail of this many rows and columns, the last one first
pub record IsTrail (rows columns top : ℕ) (trail : List (Option ℕ)) : Type 0 where
  pub depth : length (levels_of trail) ≡ top + 1
  pub low : top ≤ columns
  pub fresh : AreFresh rows trail

-- what barred columns keep
pub record AreStoredBarred (s : System) (words kept : ℕ) (sets barred : List ℕ) (trail : List (Option ℕ)) (count top : ℕ) : Type 0 where
  pub words_are : words ≡ word_count s
  pub kept_is : kept ≡ min (length s.columns + 1) (kept_levels s)
  pub sets_are : 0 < kept → AreRowSets s words sets
  pub long : length barred ≡ kept * words
  pub room : length trail ≡ length s.targets + length s.columns
  pub within : count ≤ length trail
  pub trail_is : IsTrail (length s.targets) (length s.columns) top (reverse (take count trail))
  pub levels_are : AreLevelSets s words kept barred (levels_of (reverse (take count trail)))
