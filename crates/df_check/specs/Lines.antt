-- Logs as they are given: entries, and after each settled one its leaf.
use Rattle.std.specs.Prelude.{ℕ, List, [], ◌∷◌, Option, ◌⊎◌}
use mathlib.Core.Logic.{inl, inr}
use Rattle.df_walk.specs.declared.Entry.{Entry}
use Rattle.df_walk.specs.declared.Entry.TheVariants.{Branch, Over, Under, Settled, Residue, Cut}
use Rattle.df_walk.specs.Systems.{System}
use Rattle.df_walk.specs.Assignments.{Decisions}
use Rattle.df_check.specs.Checkers.{Wants, fault_at, after_entry, leaf_fault_by, columns_differ, after_leaf, then_wants}

-- a line of a log: an entry, or a leaf, told by its columns or in another way
abbrev pub Line : Type 0 → Type 0
Line X = Entry ⊎ X

-- the entries, without the leaves
abbrev pub entries_of : {X : Type 0} → List (Line X) → List Entry
entries_of [] = []
entries_of (inl e ∷ lines) = e ∷ entries_of lines
entries_of (inr leaf ∷ lines) = entries_of lines

-- the leaves
abbrev pub leaves_of : {X : Type 0} → List (Line X) → List X
leaves_of [] = []
leaves_of (inl e ∷ lines) = leaves_of lines
leaves_of (inr leaf ∷ lines) = leaf ∷ leaves_of lines

-- after each settled entry its leaf comes before the next entry, and there is no other leaf
abbrev pub AreInOrder : {X : Type 0} → List (Line X) → Type 0
AreInOrder [] = Unit {0}
AreInOrder (inl (Branch column) ∷ lines) = AreInOrder lines
AreInOrder (inl (Over row) ∷ lines) = AreInOrder lines
AreInOrder (inl (Under row) ∷ lines) = AreInOrder lines
AreInOrder (inl Settled ∷ []) = ⊥
AreInOrder (inl Settled ∷ inl e ∷ lines) = ⊥
AreInOrder (inl Settled ∷ inr leaf ∷ lines) = AreInOrder lines
AreInOrder (inl (Residue row m) ∷ lines) = AreInOrder lines
AreInOrder (inl (Cut ws) ∷ lines) = AreInOrder lines
AreInOrder (inr leaf ∷ lines) = ⊥

-- what is wanted after a line, where it is said how a leaf differs from that of decisions
abbrev pub after_line_by : {X : Type 0} → System → (X → Decisions → Option ℕ) → Wants → Line X → Wants
after_line_by s differs wants (inl e) = then_wants (fault_at s wants e) (after_entry wants e)
after_line_by s differs wants (inr leaf) = then_wants (leaf_fault_by (differs leaf) wants) (after_leaf wants)

-- after lines
abbrev pub after_lines_by : {X : Type 0} → System → (X → Decisions → Option ℕ) → Wants → List (Line X) → Wants
after_lines_by s differs wants [] = wants
after_lines_by s differs wants (line ∷ lines) = after_lines_by s differs (after_line_by s differs wants line) lines

-- leaves are told by their columns
abbrev pub after_lines : System → Wants → List (Line (List ℕ)) → Wants
after_lines s wants lines = after_lines_by s columns_differ wants lines
