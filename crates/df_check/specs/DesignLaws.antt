-- The laws of checkers of designs. Each is the contract of a function of this crate.
use Rattle.std.specs.Prelude.{◌≡◌, ◌↔◌, ℕ, ◌<◌, ◌≤◌, true, List, map, length}
use Rattle.std.specs.List.{AllByRecursion}
use Rattle.std.specs.List.Sorted.{IsPermutation}
use Rattle.df_walk.specs.Assignments.{Decisions}
use Rattle.df_walk.specs.Logs.{Proves}
use Rattle.df_lang.specs.Problems.{Stated, IsStated}
use Rattle.df_kramer_mesner.specs.OrbitSystems.{columns_of, orbit_system}
use Rattle.df_correspondence.specs.Designs.{asked, base, union_of}
use Rattle.df_check.specs.Checkers.{undecided, columns_differ, is_closed}
use Rattle.df_check.specs.Lines.{Line, entries_of, leaves_of, AreInOrder}
use Rattle.df_check.specs.DesignLines.{begun_on, blocks_of, blocks_differ, after_design_lines}

-- columns are told by their representatives: these differ from those of the yes columns exactly where the columns differ
abbrev pub DesignsTellColumns : Type 0
DesignsTellColumns =
    (s : Stated) → IsStated s → (columns : List ℕ) (ds : Decisions)
    → AllByRecursion (λ column. column < length (columns_of s)) columns → length ds ≤ length (columns_of s)
    → blocks_differ s (blocks_of s columns) ds ≡ columns_differ columns ds

-- lines that prove a list of leaves: each design line comes after its settled entry, there is no other one, the entries are a
-- log of nothing decided, and the design lines have the representatives of the columns of its leaves
pub record AreProof (s : Stated) (lines : List (Line (List (List ℕ)))) : Type 0 where
  pub order : AreInOrder lines
  pub leaves : List (List ℕ)
  pub proves : Proves (orbit_system s) (undecided (orbit_system s)) (entries_of lines) leaves
  pub designs : leaves_of lines ≡ map (blocks_of s) leaves

-- such lines close a new checker, and no others do
abbrev pub DesignLinesCloseProofs : Type 0
DesignLinesCloseProofs =
    (s : Stated) (lines : List (Line (List (List ℕ))))
    → (is_closed (after_design_lines s (begun_on s).wants lines) ≡ true) ↔ AreProof s lines

-- the designs of the design lines are those that the problem asks for, each once and nothing else, and each line has the base
-- blocks of its design
pub record AreAllDesigns (s : Stated) (lines : List (Line (List (List ℕ)))) : Type 0 where
  pub designs : IsPermutation (map (union_of s) (leaves_of lines)) (asked s)
  pub bases : map (base s) (map (union_of s) (leaves_of lines)) ≡ leaves_of lines

abbrev pub ClosedDesignsAreAsked : Type 0
ClosedDesignsAreAsked =
    (s : Stated) → IsStated s → (lines : List (Line (List (List ℕ))))
    → is_closed (after_design_lines s (begun_on s).wants lines) ≡ true → AreAllDesigns s lines
