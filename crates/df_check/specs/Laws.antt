-- The laws of checkers. Each is the contract of a function of this crate.
use Rattle.std.specs.Prelude.{◌≡◌, ◌↔◌, ℕ, Bool, true, List, [], ◌∷◌, map, length, Some, None, take, slice_get, nat_eq, ◌≢◌, ◌≤◌}
use Rattle.std.specs.List.Sorted.{IsPermutation}
use Rattle.df_walk.specs.declared.Entry.{Entry}
use Rattle.df_walk.specs.Systems.{System, IsSystem}
use Rattle.df_walk.specs.Assignments.{Decisions}
use Rattle.df_walk.specs.Solutions.{solutions, chosen_columns}
use Rattle.df_walk.specs.Logs.{Proves}
use Rattle.df_subsets.specs.Subsets.{same_list}
use Rattle.df_check.specs.Leaves.{difference}
use Rattle.df_check.specs.Checkers.{Wants, Logs, Leaf, begun, undecided, fault_at, after_entry, leaf_fault, after_leaf, is_closed, IsCompletedBy}
use Rattle.df_check.specs.Lines.{Line, entries_of, leaves_of, AreInOrder, after_lines}

-- a new checker is completed by the logs that prove their leaves, and by nothing else
abbrev pub NewCheckersWantProofs : Type 0
NewCheckersWantProofs = (s : System) (E : List Entry) (L : List (List ℕ)) → IsCompletedBy s (begun s).wants E L ↔ Proves s (undecided s) E L

-- an entry without fault is the first of those that complete
abbrev pub EntriesMove : Type 0
EntriesMove = (s : System) (w : Wants) (e : Entry) (E : List Entry) (L : List (List ℕ)) → fault_at s w e ≡ None → IsCompletedBy s (after_entry w e) E L ↔ IsCompletedBy s w (e ∷ E) L

-- where no leaf is wanted, an entry with a fault is the first of none
abbrev pub FaultyEntriesEnd : Type 0
FaultyEntriesEnd = (s : System) (wanted : List Decisions) (e : Entry) (E : List Entry) (L : List (List ℕ)) → IsCompletedBy s (Logs wanted) (e ∷ E) L → fault_at s (Logs wanted) e ≡ None

-- a leaf without fault is the first of those that complete
abbrev pub LeavesMove : Type 0
LeavesMove = (s : System) (w : Wants) (columns : List ℕ) (E : List Entry) (L : List (List ℕ)) → leaf_fault w columns ≡ None → IsCompletedBy s (after_leaf w) E L ↔ IsCompletedBy s w E (columns ∷ L)

-- where a leaf is wanted, one with a fault is the first of none
abbrev pub FaultyLeavesEnd : Type 0
FaultyLeavesEnd = (s : System) (ds : Decisions) (more : List Decisions) (columns : List ℕ) (E : List Entry) (L : List (List ℕ)) → IsCompletedBy s (Leaf ds more) E (columns ∷ L) → leaf_fault (Leaf ds more) columns ≡ None

-- closed is what nothing completes
abbrev pub ClosedWantsNothing : Type 0
ClosedWantsNothing = (s : System) (w : Wants) → (is_closed w ≡ true) ↔ IsCompletedBy s w [] []

-- lines close a new checker exactly where they are a log that proves its leaves, with each leaf after its settled entry
abbrev pub LinesCloseProofs : Type 0
LinesCloseProofs = (s : System) (lines : List (Line (List ℕ))) → (is_closed (after_lines s (begun s).wants lines) ≡ true) ↔ (AreInOrder lines × Proves s (undecided s) (entries_of lines) (leaves_of lines))

-- the leaves are then all solutions, each once
abbrev pub ClosedLinesAreWhole : Type 0
ClosedLinesAreWhole = (s : System) (lines : List (Line (List ℕ))) → IsSystem s → is_closed (after_lines s (begun s).wants lines) ≡ true → IsPermutation (leaves_of lines) (map chosen_columns (solutions s))

-- a difference is the number of members that two lists have in common from the first on
pub record IsDifference {X : Type 0} (xs ys : List X) (place : ℕ) : Type 0 where
  pub within : place ≤ length xs
  pub common : take place xs ≡ take place ys
  pub differs : slice_get xs place ≢ slice_get ys place

pub record DifferencesAreTold {X : Type 0} (eq : X → X → Bool) (xs ys : List X) : Type 0 where
  pub same : (difference eq xs ys ≡ None) ↔ (xs ≡ ys)
  pub told : (place : ℕ) → difference eq xs ys ≡ Some place → IsDifference xs ys place

-- of lists of numbers, and of blocks
pub record DifferencesTell : Type 0 where
  pub numbers : (xs ys : List ℕ) → DifferencesAreTold nat_eq xs ys
  pub blocks : (xs ys : List (List ℕ)) → DifferencesAreTold same_list xs ys
