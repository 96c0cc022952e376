-- How a checker is stored: its decisions with their trail, and of each decision whether it is a branch whose no is still to come.
use Rattle.std.specs.Prelude.{◌≡◌, ℕ, ◌≤◌, Bool, List, [], ◌∷◌, length, reverse, take}
use Rattle.df_walk.specs.Systems.{System}
use Rattle.df_runs.specs.Waiting.{Standing, waiting, wanted}
use Rattle.df_runs.specs.WeightedSums.{IsBounded}
use Rattle.df_system.specs.Trails.{Assigned}
use Rattle.df_system.specs.declared.limits.TheConstants.{MOST_COLUMNS}
use Rattle.df_check.specs.declared.TheConstants.{MOST_VALUE}
use Rattle.df_check.specs.declared.checker.Stage.{Stage}
use Rattle.df_check.specs.declared.checker.Stage.TheVariants.{AtLog, AtLeaf, Done, Broken}
use Rattle.df_check.specs.Checkers.{Wants, Logs, Leaf, Failed}

-- a branch for each decided column
abbrev pub standings : List ℕ → List Bool → List Standing
standings [] flags = []
standings (column ∷ columns) [] = []
standings (column ∷ columns) (flag ∷ flags) = record { column = column; no_to_come = flag } ∷ standings columns flags

-- the branches, the last one first
abbrev pub branches : Assigned → List Bool → ℕ → List Standing
branches a flags count = standings a.trail (reverse (take count flags))

-- what is still to come
abbrev pub wants_at : Stage → Assigned → List Bool → ℕ → Wants
wants_at AtLog a flags count = Logs (wanted a.decisions (branches a flags count))
wants_at AtLeaf a flags count = Leaf a.decisions (waiting a.decisions (branches a flags count))
wants_at Done a flags count = Logs []
wants_at Broken a flags count = Failed

-- the flags belong to the decisions, one to each
pub record AreFlagged (a : Assigned) (flags : List Bool) (count : ℕ) : Type 0 where
  pub long : length flags ≡ length a.system.columns
  pub counted : length a.trail ≡ count
  pub within : count ≤ length flags
  pub width : length a.decisions ≡ length a.system.columns

-- the parts of a checker agree
pub record AreHeld (s : System) (a : Assigned) (flags : List Bool) (count : ℕ) : Type 0 where
  pub system : a.system ≡ s
  pub bounded : IsBounded s MOST_COLUMNS MOST_VALUE MOST_VALUE
  pub flagged : AreFlagged a flags count
