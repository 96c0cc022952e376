-- When an entry of a log holds of decisions, and the fault that is told where it doesn't.
use Rattle.std.specs.Prelude.{ℕ, ◌&&◌, Bool, true, false, not, nat_lt, if◌then◌else◌, List, length, Option, Some, None, ℤ, pos, negsuc, slice_get, find}
use Rattle.std.specs.List.{list_all, range_with_len}
use Rattle.df_walk.specs.declared.CutRow.{CutRow}
use Rattle.df_walk.specs.declared.Entry.{Entry}
use Rattle.df_walk.specs.declared.Entry.TheVariants.{Branch, Over, Under, Settled, Residue, Cut}
use Rattle.df_walk.specs.Systems.{System, entries, entry}
use Rattle.df_walk.specs.Assignments.{Decisions, cap, need, is_multiple, is_over, is_under, is_met, least_row}
use Rattle.df_walk.specs.Cuts.{is_cut, least_weight, greatest_weight}
use Rattle.df_walk.specs.Logs.{is_residue}
use Rattle.df_check.specs.declared.LogFault.{LogFault}
use Rattle.df_check.specs.declared.LogFault.TheVariants.{ColumnRange, RowRange, ColumnDecided, NotOver, NotUnder, NotSettled, NotResidue, NotCut}

-- no fault where the test holds
abbrev pub unless : Bool → LogFault → Option LogFault
unless true fault = None
unless false fault = Some fault

-- a row that there is passes the test, else the fault; a row that there isn't comes first
abbrev pub row_fault : System → ℕ → Bool → LogFault → Option LogFault
row_fault s row holds fault = if nat_lt row (length s.targets) then unless holds fault else Some RowRange

-- a branch wants a column that is undecided
abbrev pub branch_fault : Option (Option Bool) → Option LogFault
branch_fault None = Some ColumnRange
branch_fault (Some None) = None
branch_fault (Some (Some b)) = Some ColumnDecided

-- the least row whose need isn't 0
abbrev pub least_unmet : System → Decisions → Option ℕ
least_unmet s ds = least_row s (λ row. not (is_met s ds row))

abbrev pub unmet_fault : System → Decisions → Option ℕ → Option LogFault
unmet_fault s ds None = None
unmet_fault s ds (Some row) = Some (NotSettled row (need s ds row))

-- a column past the last decision is undecided too
abbrev pub is_undecided : Option (Option Bool) → Bool
is_undecided None = true
is_undecided (Some None) = true
is_undecided (Some (Some b)) = false

-- the column is undecided, and its entry in the row isn't a multiple of m
abbrev pub spoils : System → Decisions → ℕ → ℕ → ℕ → Bool
spoils s ds m row column = is_undecided (slice_get ds column) && not (is_multiple m (entry s row column))

-- the first such column
abbrev pub first_spoiling : System → Decisions → ℕ → ℕ → Option ℕ
first_spoiling s ds m row = find (spoils s ds m row) (range_with_len 0 (length s.columns))

-- its number, and -1 where there is none
abbrev pub column_or_none : Option ℕ → ℤ
column_or_none None = negsuc 0
column_or_none (Some column) = pos column

-- each of the rows is there
abbrev pub are_rows : System → List CutRow → Bool
are_rows s ws = list_all (λ w. nat_lt w.row (length s.targets)) ws

abbrev pub cut_fault : System → Decisions → List CutRow → Option LogFault
cut_fault s ds ws = if are_rows s ws then unless (is_cut s ds ws) (NotCut (least_weight s ds ws) (greatest_weight s ds ws)) else Some RowRange

-- the fault of an entry at decisions, if it has one
abbrev pub entry_fault : System → Decisions → Entry → Option LogFault
entry_fault s ds (Branch column) = branch_fault (slice_get ds column)
entry_fault s ds (Over row) = row_fault s row (is_over s ds row) (NotOver (need s ds row))
entry_fault s ds (Under row) = row_fault s row (is_under s ds row) (NotUnder (need s ds row) (pos (cap (entries s row) ds)))
entry_fault s ds Settled = unmet_fault s ds (least_unmet s ds)
entry_fault s ds (Residue row m) = row_fault s row (is_residue s ds m row) (NotResidue (need s ds row) (column_or_none (first_spoiling s ds m row)))
entry_fault s ds (Cut ws) = cut_fault s ds ws.items
