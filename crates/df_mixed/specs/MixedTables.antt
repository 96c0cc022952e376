-- The table of a mixed family: how often the pairs of each orbit are found together, and how often that is stated.
use Rattle.std.specs.Prelude.{◌≡◌, ◌==◌, ℕ, ◌<◌, Bool, not, List, map, get_or}
use Rattle.df_lists.specs.Membership.{In}
use Rattle.df_lang.specs.Problems.{Stated, point_count}
use Rattle.df_lang.specs.Targets.{target}
use Rattle.df_family.specs.Developments.{develop_under}
use Rattle.df_family.specs.Covers.{found_at}
use Rattle.df_mixed.specs.declared.table.PairEntry.{PairEntry}
use Rattle.df_mixed.specs.PairOrbits.{shifts_of, pair_rows}

-- the translates of all members by the stated shifts, in their order
abbrev pub mixed_development : Stated → List (List ℕ)
mixed_development s = develop_under s (shifts_of s)

-- a pair with its two numbers
abbrev pub pair_entry : Stated → List ℕ → ℕ × ℕ → PairEntry
pair_entry s shifts pair = record { pair = pair; found = found_at s shifts pair.0 pair.1; stated = target s pair.0 pair.1 }

-- a row for each orbit of pairs under the stated shifts
abbrev pub mixed_table : Stated → List PairEntry
mixed_table s = map (pair_entry s (shifts_of s)) (pair_rows s (shifts_of s))

-- the entry at a place of a table
abbrev pub pair_entry_at : List PairEntry → ℕ → PairEntry
pair_entry_at entries place = get_or entries place record { pair = (0, 0); found = 0; stated = 0 }

-- whether the two numbers differ
abbrev pub is_wrong : PairEntry → Bool
is_wrong e = not (e.found == e.stated)

-- two points of a problem, the lower one first
abbrev pub IsPair : Stated → ℕ × ℕ → Type 0
IsPair s pair = (pair.0 < pair.1) × (pair.1 < point_count s)

-- each row is found as often as is stated
abbrev pub AreFoundAsStated : Stated → List ℕ → Type 0
AreFoundAsStated s shifts = (pair : ℕ × ℕ) → In (pair_rows s shifts) pair → found_at s shifts pair.0 pair.1 ≡ target s pair.0 pair.1
