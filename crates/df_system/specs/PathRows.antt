-- What the rows of a path have, where its yes columns alone count: a no changes no need.
use Rattle.std.specs.Prelude.{◌≡◌, ℕ, ◌+◌, ◌%◌, ◌<◌, ◌≤◌, Bool, true, false, not, ◌&&◌, ◌||◌, ◌==◌, nat_lt, List, length, map, drop, Option, None}
use Rattle.df_walk.specs.declared.Rules.{Rules}
use Rattle.df_walk.specs.declared.Rules.TheVariants.{Plain, Divisor}
use Rattle.df_walk.specs.Systems.{System, entries, entry, target}
use Rattle.df_walk.specs.Assignments.{total, common_divisor, least_row}
use Rattle.df_system.specs.declared.barred.TheConstants.{COLUMNS_A_WORD}
use Rattle.df_system.specs.BarredColumns.{kept_levels}

-- a row's entries in these columns, added up
abbrev pub taken_in : System → ℕ → List ℕ → ℕ
taken_in s row columns = total (map (λ column. entry s row column) columns)

-- a system, the rules, and the yes columns of a path, the last one first
pub record Yeses : Type 0 where
  pub system : System
  pub rules : Rules
  pub chosen : List ℕ

-- what a row has taken
abbrev pub taken_by : Yeses → ℕ → ℕ
taken_by y row = taken_in y.system row y.chosen

-- more than its target, or its target
abbrev pub is_over_in : Yeses → ℕ → Bool
is_over_in y row = nat_lt (target y.system row) (taken_by y row)

abbrev pub is_met_in : Yeses → ℕ → Bool
is_met_in y row = target y.system row == taken_by y row

-- a row of these entries: what it has taken, and its entries from the column on, are less than its target
abbrev pub is_short : List ℕ → ℕ → ℕ → ℕ → Bool
is_short es from goal has = nat_lt (has + total (drop from es)) goal

-- the divisor of its entries from the column on is at least 2, and its target and what it has taken leave different rests
abbrev pub leaves_residue : List ℕ → ℕ → ℕ → ℕ → Bool
leaves_residue es from goal has = nat_lt 1 (common_divisor (drop from es)) && not (goal % common_divisor (drop from es) == has % common_divisor (drop from es))

-- the first column from which on what is needed leaves a rest, and one past the columns where there is none
pub record IsFirstResidue (es : List ℕ) (needed column : ℕ) : Type 0 where
  pub before : (from : ℕ) → from < column → leaves_residue es from needed 0 ≡ false
  pub here : column ≤ length es → leaves_residue es column needed 0 ≡ true
  pub few : column ≤ length es + 1

-- a residue rules a path out by the divisor's rules alone
abbrev pub has_residue_by : Rules → List ℕ → ℕ → ℕ → ℕ → Bool
has_residue_by Plain es from goal has = false
has_residue_by Divisor es from goal has = leaves_residue es from goal has

-- what divides all the row's entries from the column on
abbrev pub divisor_from : System → ℕ → ℕ → ℕ
divisor_from s from row = common_divisor (drop from (entries s row))

-- with the columns from this one on undecided, and no further yes before it, the row rules the path out
abbrev pub is_dead : Rules → List ℕ → ℕ → ℕ → ℕ → Bool
is_dead rules es from goal has = nat_lt goal has || is_short es from goal has || has_residue_by rules es from goal has

-- the same of a row under yes columns
abbrev pub is_short_from : Yeses → ℕ → ℕ → Bool
is_short_from y from row = is_short (entries y.system row) from (target y.system row) (taken_by y row)

abbrev pub has_residue_from : Yeses → ℕ → ℕ → Bool
has_residue_from y from row = leaves_residue (entries y.system row) from (target y.system row) (taken_by y row)

abbrev pub is_dead_from : Yeses → ℕ → ℕ → Bool
is_dead_from y from row = is_dead y.rules (entries y.system row) from (target y.system row) (taken_by y row)

-- the least row with a residue, which is looked for by the divisor's rules alone
abbrev pub least_residue_by : Rules → Yeses → ℕ → Option ℕ
least_residue_by Plain y from = None
least_residue_by Divisor y from = least_row y.system (has_residue_from y from)

-- before the limit no row is dead; from it on, up to the number of columns, one row is
pub record IsLimit (y : Yeses) (limit : ℕ) : Type 0 where
  pub before : (row from : ℕ) → row < length y.system.targets → from < limit → is_dead_from y from row ≡ false
  pub after : limit ≤ length y.system.columns → (row : ℕ) × (row < length y.system.targets) × ((from : ℕ) → limit ≤ from → from ≤ length y.system.columns → is_dead_from y from row ≡ true)
  pub few : limit ≤ length y.system.columns + 1

-- some row has a positive entry in the column, and it is above the row's need: with yes the row is over
abbrev pub IsBarred : Yeses → ℕ → Type 0
IsBarred y column = (row : ℕ) × (row < length y.system.targets) × (0 < entry y.system row column) × (target y.system row < taken_by y row + entry y.system row column)

-- a row that needs nothing has a positive entry in the column
pub record IsClosed (y : Yeses) (column : ℕ) : Type 0 where
  pub row : ℕ
  pub within : row < length y.system.targets
  pub full : target y.system row ≤ taken_by y row
  pub positive : 0 < entry y.system row column

-- how many columns from one on are closed, of those of its word; none are told where more are chosen than levels are kept
pub record IsClosedRun (y : Yeses) (column run : ℕ) : Type 0 where
  pub closed : (k : ℕ) → k < run → IsClosed y (column + k)
  pub word : column % COLUMNS_A_WORD + run ≤ COLUMNS_A_WORD
  pub end : length y.chosen < kept_levels y.system → column % COLUMNS_A_WORD + run < COLUMNS_A_WORD → IsClosed y (column + run) → ⊥
  pub beyond : kept_levels y.system ≤ length y.chosen → run ≡ 0
