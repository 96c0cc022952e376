-- The rows of a path as they are kept, and how many of them are over or not met.
use Rattle.std.specs.Prelude.{◌≡◌, ℕ, ◌+◌, ◌-◌, ◌^◌, ◌<◌, ◌≤◌, Bool, true, false, not, ◌==◌, nat_lt, nat_le, List, [], ◌∷◌, length, slice_index, slice_index_or, take, drop, reverse, Option, Some, None}
use Rattle.df_walk.specs.declared.Cell.{Cell}
use Rattle.df_walk.specs.declared.Rules.{Rules}
use Rattle.df_walk.specs.Systems.{System, IsSystem, entries, entry, entry_of, target}
use Rattle.df_system.specs.declared.counted_rows.PathRow.{PathRow}
use Rattle.df_system.specs.declared.reaches.Reach.{Reach}
use Rattle.df_system.specs.declared.limits.TheConstants.{MOST_ENTRIES, ROW_LIMIT}
use Rattle.df_system.specs.Tallies.{one_if}
use Rattle.df_system.specs.BarredColumns.{Barring, bars_row}
use Rattle.df_system.specs.PathRows.{taken_in}
use Rattle.df_system.specs.Deadlines.{IsDeadline, AreAllDeadlines}

abbrev pub blank_row : PathRow
blank_row = record { target = 0; due = 0; taken = 0 }

abbrev pub row_at : List PathRow → ℕ → PathRow
row_at rows row = slice_index_or rows row blank_row

abbrev pub is_over_row : PathRow → Bool
is_over_row r = nat_lt r.target r.taken

abbrev pub is_unmet_row : PathRow → Bool
is_unmet_row r = not (r.target == r.taken)

-- the number of rows that pass
abbrev pub rows_passing : (PathRow → Bool) → List PathRow → ℕ
rows_passing test [] = 0
rows_passing test (r ∷ rows) = one_if (test r) + rows_passing test rows

pub record AreCountedRows (rows : List PathRow) (over unmet : ℕ) : Type 0 where
  pub over_is : over ≡ rows_passing is_over_row rows
  pub unmet_is : unmet ≡ rows_passing is_unmet_row rows
  pub few : length rows < ROW_LIMIT

-- the first place whose row passes
abbrev pub IsFirstRow : (PathRow → Bool) → List PathRow → Option ℕ → Type 0
IsFirstRow test rows None = (k : ℕ) → k < length rows → test (row_at rows k) ≡ false
IsFirstRow test rows (Some row) = (row < length rows) × (test (row_at rows row) ≡ true) × ((k : ℕ) → k < row → test (row_at rows k) ≡ false)

-- whether a row passes
pub record TellsSome (test : PathRow → Bool) (rows : List PathRow) (told : Bool) : Type 0 where
  pub some : told ≡ true → (k : ℕ) × (k < length rows) × (test (row_at rows k) ≡ true)
  pub none : told ≡ false → (k : ℕ) → k < length rows → test (row_at rows k) ≡ false

-- what a row has taken once a column with this entry is taken, and once it is given back
abbrev pub with_entry : ℕ → ℕ → ℕ
with_entry taken value = taken + value

abbrev pub without_entry : ℕ → ℕ → ℕ
without_entry taken value = taken - value

-- each row is changed by the column's entry in it, and keeps its target
pub record RowsAlong (change : ℕ → ℕ → ℕ) (column : List Cell) (old new : List PathRow) : Type 0 where
  pub long : length new ≡ length old
  pub same : (row : ℕ) → row < length old → (row_at new row).target ≡ (row_at old row).target
  pub each : (row : ℕ) → row < length old → (row_at new row).taken ≡ change (row_at old row).taken (entry_of column row)

-- each sum has room for an entry more in 64 bits
abbrev pub HaveSmallSums : List PathRow → Type 0
HaveSmallSums rows = (row : ℕ) → row < length rows → (row_at rows row).taken + 4294967296 ≤ 2 ^ 63

-- each row has taken the column's entry in it
abbrev pub HaveTaken : List Cell → List PathRow → Type 0
HaveTaken column rows = (row : ℕ) → row < length rows → entry_of column row ≤ (row_at rows row).taken

-- the deadlines are those of the rows
abbrev pub HaveDeadlines : System → Rules → List PathRow → Type 0
HaveDeadlines s rules rows = (row : ℕ) → row < length rows → IsDeadline rules (entries s row) (row_at rows row).target (row_at rows row).taken (row_at rows row).due

-- the rows have the targets of their system
abbrev pub HaveTargets : System → List PathRow → Type 0
HaveTargets s rows = (row : ℕ) → row < length rows → (row_at rows row).target ≡ target s row

-- the rows under these yes columns
pub record AreRows (s : System) (rules : Rules) (chosen : List ℕ) (rows : List PathRow) : Type 0 where
  pub long : length rows ≡ length s.targets
  pub targets : (row : ℕ) → row < length s.targets → (row_at rows row).target ≡ target s row
  pub taken : (row : ℕ) → row < length s.targets → (row_at rows row).taken ≡ taken_in s row chosen
  pub due : HaveDeadlines s rules rows

-- the column's entries fit 32 bits
abbrev pub IsSmallColumn : System → ℕ → Type 0
IsSmallColumn s column = (row : ℕ) → entry s row column < 4294967296

-- the columns in the first `count` places are the yes columns, in their order
pub record IsStack (s : System) (trail : List ℕ) (count : ℕ) : Type 0 where
  pub places : length trail ≡ length s.columns
  pub within : count ≤ length s.columns
  pub columns : (k : ℕ) → k < count → slice_index trail k < length s.columns
  pub small : (k : ℕ) → k < count → IsSmallColumn s (slice_index trail k)

-- each level bars exactly the rows that have their targets under its yes columns
abbrev pub AllBarFull : System → List (List ℕ) → List ℕ → Type 0
AllBarFull s [] chosen = Unit {0}
AllBarFull s (rows ∷ lower) chosen = ((row : ℕ) → row < length s.targets → bars_row (rows ∷ lower) row ≡ nat_le (target s row) (taken_in s row chosen)) × AllBarFull s lower (drop 1 chosen)

-- there is a level for each yes column, and one below them
pub record AreBarring (s : System) (barring : Barring) (chosen : List ℕ) : Type 0 where
  pub same : barring.system ≡ s
  pub depth : length barring.levels ≡ length chosen + 1
  pub full : AllBarFull s barring.levels chosen

-- the barred rows are those that have their targets
abbrev pub BarFullRows : List (List ℕ) → List PathRow → Type 0
BarFullRows levels rows = (row : ℕ) → row < length rows → bars_row levels row ≡ nat_le (row_at rows row).target (row_at rows row).taken

-- the rows of a path as they are stored
pub record ArePathRows (s : System) (rules : Rules) (width : ℕ) (shorts dues : List ℕ) (far : List (List Reach)) (trail : List ℕ) (count : ℕ) (rows : List PathRow) (barring : Barring) : Type 0 where
  pub system : IsSystem s
  pub few_rows : length s.targets < ROW_LIMIT
  pub few_columns : length s.columns ≤ MOST_ENTRIES
  pub deadlines_are : AreAllDeadlines s rules width shorts dues far
  pub stacked : IsStack s trail count
  pub rows_are : AreRows s rules (reverse (take count trail)) rows
  pub barring_are : AreBarring s barring (reverse (take count trail))
