-- What a checker still wants, what it answers, and what completes it.
use Rattle.std.specs.Prelude.{◌≡◌, ℕ, ◌+◌, ◌-◌, ◌^◌, Bool, true, false, min, List, [], ◌∷◌, length, Option, Some, None, replicate, slice_set, nat_eq}
use Rattle.df_walk.specs.declared.Entry.{Entry}
use Rattle.df_walk.specs.declared.Entry.TheVariants.{Branch, Over, Under, Settled, Residue, Cut}
use Rattle.df_walk.specs.Systems.{System}
use Rattle.df_walk.specs.Assignments.{Decisions}
use Rattle.df_walk.specs.Solutions.{yes_columns}
use Rattle.df_walk.specs.Logs.{AreLogs}
use Rattle.df_check.specs.declared.Fed.{Fed}
use Rattle.df_check.specs.declared.Fed.TheVariants.{Ok as Passed, WantsDesign, Fault}
use Rattle.df_check.specs.declared.LogFault.{LogFault}
use Rattle.df_check.specs.declared.LogFault.TheVariants.{DesignWanted, AfterClose, NotEntry}
use Rattle.df_check.specs.Entries.{entry_fault}
use Rattle.df_check.specs.Leaves.{difference, difference_fault}

-- what is still to come
pub data Wants : Type 0 where
  -- a log of each of these decisions, in their order; where there are none, the log is closed
  Logs : List Decisions → Wants
  -- the leaf of the first decisions, which are settled, and then a log of each of the others
  Leaf : Decisions → List Decisions → Wants
  -- nothing can complete it: there was a fault
  Failed : Wants

-- a checker: its system, what is still to come, and how many leaves were given
pub record Checking : Type 0 where
  pub system : System
  pub wants : Wants
  pub leaves : ℕ

-- nothing decided
abbrev pub undecided : System → Decisions
undecided s = replicate (length s.columns) None

-- one log with nothing decided is wanted
abbrev pub begun : System → Checking
begun s = record { system = s; wants = Logs (undecided s ∷ []); leaves = 0 }

-- the fault of an entry: first that nothing is wanted any more, then that a leaf is, then its own
abbrev pub fault_at : System → Wants → Entry → Option LogFault
fault_at s (Logs []) e = Some AfterClose
fault_at s (Logs (ds ∷ more)) e = entry_fault s ds e
fault_at s (Leaf ds more) e = Some DesignWanted
fault_at s Failed e = Some AfterClose

-- what an entry without fault leaves to come at decisions: two logs, the leaf, or nothing but what was wanted after them
abbrev pub wants_after : Decisions → List Decisions → Entry → Wants
wants_after ds more (Branch column) = Logs (slice_set ds column (Some true) ∷ slice_set ds column (Some false) ∷ more)
wants_after ds more (Over row) = Logs more
wants_after ds more (Under row) = Logs more
wants_after ds more Settled = Leaf ds more
wants_after ds more (Residue row m) = Logs more
wants_after ds more (Cut ws) = Logs more

abbrev pub after_entry : Wants → Entry → Wants
after_entry (Logs []) e = Failed
after_entry (Logs (ds ∷ more)) e = wants_after ds more e
after_entry (Leaf ds more) e = Failed
after_entry Failed e = Failed

-- what an entry without fault is answered
abbrev pub answer_to : Entry → Fed
answer_to (Branch column) = Passed
answer_to (Over row) = Passed
answer_to (Under row) = Passed
answer_to Settled = WantsDesign
answer_to (Residue row m) = Passed
answer_to (Cut ws) = Passed

-- the fault of a leaf, by where it differs from the one that is wanted of decisions: first that nothing is wanted any more,
-- then that no leaf is, then that it differs
abbrev pub leaf_fault_by : (Decisions → Option ℕ) → Wants → Option LogFault
leaf_fault_by differs (Logs []) = Some AfterClose
leaf_fault_by differs (Logs (ds ∷ more)) = Some NotEntry
leaf_fault_by differs (Leaf ds more) = difference_fault (differs ds)
leaf_fault_by differs Failed = Some AfterClose

-- the leaf of decisions is their yes columns
abbrev pub columns_differ : List ℕ → Decisions → Option ℕ
columns_differ columns ds = difference nat_eq columns (yes_columns ds)

abbrev pub leaf_fault : Wants → List ℕ → Option LogFault
leaf_fault wants columns = leaf_fault_by (columns_differ columns) wants

-- what a leaf without fault leaves to come
abbrev pub after_leaf : Wants → Wants
after_leaf (Logs wanted) = Failed
after_leaf (Leaf ds more) = Logs more
after_leaf Failed = Failed

-- an answer where there may be a fault
abbrev pub told : Option LogFault → Fed → Fed
told None answer = answer
told (Some fault) answer = Fault fault

-- what is wanted where there may be a fault
abbrev pub then_wants : Option LogFault → Wants → Wants
then_wants None wants = wants
then_wants (Some fault) wants = Failed

-- the last value of a count of 64 bits
abbrev pub last_count : ℕ
last_count = 2 ^ 64 - 1

-- one leaf more where there is no fault, up to the last value
abbrev pub counted : Option LogFault → ℕ → ℕ
counted None leaves = min (leaves + 1) last_count
counted (Some fault) leaves = leaves

-- no log and no leaf is to come
abbrev pub is_closed : Wants → Bool
is_closed (Logs []) = true
is_closed (Logs (ds ∷ more)) = false
is_closed (Leaf ds more) = false
is_closed Failed = false

-- a leaf is to come next
abbrev pub is_leaf_wanted : Wants → Bool
is_leaf_wanted (Logs wanted) = false
is_leaf_wanted (Leaf ds more) = true
is_leaf_wanted Failed = false

-- these entries and these leaves, lists of columns, are all that is still to come
abbrev pub IsCompletedBy : System → Wants → List Entry → List (List ℕ) → Type 0
IsCompletedBy s (Logs wanted) E L = AreLogs s wanted E L
IsCompletedBy s (Leaf ds more) E L = (M : List (List ℕ)) × (L ≡ yes_columns ds ∷ M) × AreLogs s more E M
IsCompletedBy s Failed E L = ⊥
