-- Decisions together with the order in which they were made.
use Rattle.std.specs.Prelude.{◌≡◌, ◌≤◌, ◌<◌, ℕ, List, [], ◌∷◌, length, replicate, reverse, take, Some, None, Bool, slice_get, slice_set}
use Rattle.df_walk.specs.Systems.{System, IsSystem}
use Rattle.df_walk.specs.Assignments.{Decisions}
use Rattle.df_system.specs.declared.tallies.Tally.{Tally}
use Rattle.df_system.specs.Tallies.{AreTallied}
use Rattle.df_system.specs.declared.limits.TheConstants.{ROW_LIMIT}

-- a system, the decision of each column, and the decided columns, the last one first
pub record Assigned : Type 0 where
  pub system : System
  pub decisions : Decisions
  pub trail : List ℕ

-- with the last decisions taken back one after another, nothing is left decided
abbrev pub Unwinds : ℕ → Decisions → List ℕ → Type 0
Unwinds columns ds [] = ds ≡ replicate columns None
Unwinds columns ds (column ∷ earlier) = ((b : Bool) × (slice_get ds column ≡ Some (Some b))) × Unwinds columns (slice_set ds column None) earlier

-- the columns in the first `count` places of the trail are the decided ones, in their order
pub record IsKept (columns : ℕ) (ds : Decisions) (trail : List ℕ) (count : ℕ) : Type 0 where
  pub long : length ds ≡ columns
  pub places : length trail ≡ columns
  pub within : count ≤ columns
  pub unwinds : Unwinds columns ds (reverse (take count trail))

-- decisions, their trail and their tallies agree
pub record IsPartial (s : System) (ds : Decisions) (trail : List ℕ) (count : ℕ) (tallies : List Tally) : Type 0 where
  pub system : IsSystem s
  pub few_rows : length s.targets < ROW_LIMIT
  pub kept : IsKept (length s.columns) ds trail count
  pub tallied : AreTallied s ds tallies
