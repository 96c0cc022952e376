-- Logs of an orbit matrix, whose leaves are design lines: the representatives of the yes columns in place of their numbers.
use Rattle.std.specs.Prelude.{ℕ, List, map, Option}
use Rattle.df_lang.specs.Problems.{Stated}
use Rattle.df_subsets.specs.Subsets.{same_list}
use Rattle.df_kramer_mesner.specs.OrbitSystems.{column_at, orbit_system}
use Rattle.df_walk.specs.Assignments.{Decisions}
use Rattle.df_walk.specs.Solutions.{yes_columns}
use Rattle.df_check.specs.declared.LogFault.{LogFault}
use Rattle.df_check.specs.Leaves.{difference}
use Rattle.df_check.specs.Checkers.{Wants, begun, leaf_fault_by}
use Rattle.df_check.specs.Lines.{Line, after_lines_by}

-- a checker of the logs of a problem: what is still to come, and how many designs were given
pub record DesignChecking : Type 0 where
  pub problem : Stated
  pub wants : Wants
  pub designs : ℕ

-- one log with nothing decided is wanted
abbrev pub begun_on : Stated → DesignChecking
begun_on s = record { problem = s; wants = (begun (orbit_system s)).wants; designs = 0 }

-- the representatives of columns
abbrev pub blocks_of : Stated → List ℕ → List (List ℕ)
blocks_of s columns = map (column_at s) columns

-- where blocks differ from the representatives of the yes columns
abbrev pub blocks_differ : Stated → List (List ℕ) → Decisions → Option ℕ
blocks_differ s blocks ds = difference same_list blocks (blocks_of s (yes_columns ds))

-- the fault of a design line
abbrev pub design_fault : Stated → Wants → List (List ℕ) → Option LogFault
design_fault s wants blocks = leaf_fault_by (blocks_differ s blocks) wants

-- what is wanted after lines
abbrev pub after_design_lines : Stated → Wants → List (Line (List (List ℕ))) → Wants
after_design_lines s wants lines = after_lines_by (orbit_system s) (blocks_differ s) wants lines
