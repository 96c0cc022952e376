-- Where the numbers of rows are kept while they are counted.
use Rattle.std.specs.Prelude.{◌≡◌, ℕ, ◌+◌, ◌-◌, ◌*◌, ◌<◌, ◌≤◌, get_or}
use Rattle.df_group.specs.Elements.{order_of}
use Rattle.df_lang.specs.Problems.{Stated}
use Rattle.df_family.specs.declared.table.Row.{Row}
use Rattle.df_family.specs.declared.table.Row.TheVariants.{Diff, WithFixed, TwoFixed}
use Rattle.df_family.specs.declared.tally.Tally.{Tally}
use Rattle.df_family.specs.Tables.{found}

-- the number of a row
abbrev pub number_at : Tally → Row → ℕ
number_at t (Diff d) = get_or t.differences d 0
number_at t (WithFixed i) = get_or t.singles (i - 1) 0
number_at t (TwoFixed i j) = get_or t.pairs (16 * (i - 1) + (j - 1)) 0

-- there is a place for the number of the row
abbrev pub IsCell : Row → Type 0
IsCell (Diff d) = d < 128
IsCell (WithFixed i) = (0 < i) × (i ≤ 16)
IsCell (TwoFixed i j) = (0 < i) × (i ≤ 16) × (0 < j) × (j ≤ 16)

-- the row has a number: it names an element below the order, or fixed points
abbrev pub HasNumber : Stated → Row → Type 0
HasNumber s (Diff d) = d < order_of s.group
HasNumber s (WithFixed i) = (0 < i) × (i ≤ s.fixed)
HasNumber s (TwoFixed i j) = (0 < i) × (i ≤ s.fixed) × (0 < j) × (j ≤ 16)

-- no number of a row is above the bound
abbrev pub IsWithin : Stated → Tally → ℕ → Type 0
IsWithin s t bound = (row : Row) → HasNumber s row → number_at t row ≤ bound

-- each number is how often its row is found
abbrev pub IsTallyOf : Stated → Tally → Type 0
IsTallyOf s t = (row : Row) → HasNumber s row → number_at t row ≡ found s row
