-- A path of a system as a search holds it: its decisions are made, and it stands in a list that has no for the columns past it.
use Rattle.std.specs.Prelude.{◌≡◌, ℕ, ◌-◌, ◌≤◌, Bool, true, false, List, [], ◌∷◌, ◌++◌, length, replicate, take, Option, Some, None}
use Rattle.df_walk.specs.declared.Rules.{Rules}
use Rattle.df_walk.specs.declared.Entry.{Entry}
use Rattle.df_walk.specs.declared.Entry.TheVariants as entry
use Rattle.df_walk.specs.Systems.{System, IsSystem}
use Rattle.df_system.specs.declared.limits.TheConstants.{MOST_ENTRIES}
use Rattle.df_system.specs.PathRows.{Yeses, IsLimit}
use Rattle.df_search.specs.declared.held_path.Verdict.{Verdict}
use Rattle.df_search.specs.declared.held_path.Verdict.TheVariants.{Over, Under, Residue, Settled, Branch}

-- a system, the rules by which it is searched, and a path of it
pub record Held : Type 0 where
  pub system : System
  pub rules : Rules
  pub path : List Bool

-- the yes columns of a path, the last one first
abbrev pub IsTrail : List ℕ → List Bool → Type 0
IsTrail [] q = q ≡ replicate (length q) false
IsTrail (column ∷ earlier) q = (p : List Bool) × (n : ℕ) × (q ≡ (p ++ true ∷ []) ++ replicate n false) × (length p ≡ column) × IsTrail earlier p

-- the path stands in front of the values, with no for the columns past it, and its yes columns are these
pub record StandsAt (columns : ℕ) (chosen : List ℕ) (values q : List Bool) : Type 0 where
  pub within : length q ≤ columns
  pub values_are : values ≡ q ++ replicate (columns - length q) false
  pub trail : IsTrail chosen q

-- the path of this many columns is held: its yes columns are taken, and it is given up exactly where it has as many columns as the limit
pub record IsHeld (y : Yeses) (values : List Bool) (count limit : ℕ) : Type 0 where
  pub is_system : IsSystem y.system
  pub few : length y.system.columns ≤ MOST_ENTRIES
  pub short : count ≤ length values
  pub at : StandsAt (length y.system.columns) y.chosen values (take count values)
  pub limit_is : IsLimit y limit

-- the path is one turned, or there is none and the path is empty
abbrev pub TurnsTo : Option (List Bool) → Bool → List Bool → Type 0
TurnsTo (Some q) found path = (found ≡ true) × (path ≡ q)
TurnsTo None found path = (found ≡ false) × (path ≡ [])

-- the entry that a verdict says, at a path of this many columns
abbrev pub as_entry : Verdict → ℕ → Entry
as_entry (Over row) column = entry.Over row
as_entry (Under row) column = entry.Under row
as_entry (Residue row divisor) column = entry.Residue row divisor
as_entry Settled column = entry.Settled
as_entry Branch column = entry.Branch column
