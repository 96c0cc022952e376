-- The rows of a path that change along a column, one more cell at a time.
use Rattle.std.proofs.Common.{◌≡◌, inl, inr, ℕ, ◌+◌, ◌<◌, List, [], length, get_or, set, take, refl, sym, ap, ◌∙◌, arith, length-set}
use Rattle.std.proofs.lemmas.Bool.{cases_eq}
use Rattle.std.proofs.lemmas.List.{get_or-set_same, get_or-set_other}
use Rattle.df_walk.specs.declared.Cell.{Cell}
use Rattle.df_walk.specs.declared.Rules.{Rules}
use Rattle.df_walk.specs.Systems.{System, AreCells, entries, entry_of}
use Rattle.df_system.specs.declared.counted_rows.PathRow.{PathRow}
use Rattle.df_system.specs.Deadlines.{IsDeadline}
use Rattle.df_system.specs.CountedRows.{blank_row, row_at, RowsAlong, HaveDeadlines}
use Rattle.df_system.proofs.SortedCells.{blank, entry_in_order}
use Rattle.df_system.proofs.LinkedDivisors.{absent_before, entry_here, entry_elsewhere}

-- nothing has changed yet
pub rows_start : (change : ℕ → ℕ → ℕ) → ((taken : ℕ) → change taken 0 ≡ taken) → (rows : List PathRow) → RowsAlong change [] rows rows
rows_start change none rows = record { long = refl; same = λ row h. refl; each = λ row h. sym (none (row_at rows row).taken) }

module _ (change : ℕ → ℕ → ℕ) (none : (taken : ℕ) → change taken 0 ≡ taken) (count : ℕ) (column : List Cell) (k : ℕ) (old now : List PathRow) (sorted : AreCells count column) (more : k < length column) (long : length old ≡ count) (along : RowsAlong change (take k column) old now) where
  pub cell_within : (get_or column k blank).row < count
  cell_within = sorted.in_range k blank more

  -- the cell's row is as it was
  pub row_untouched : (row_at now (get_or column k blank).row).taken ≡ (row_at old (get_or column k blank).row).taken
  row_untouched =
      let row = (get_or column k blank).row in
      along.each row (omega (arith, long, cell_within)) ∙ ap (change (row_at old row).taken) (absent_before column k sorted.increasing more) ∙ none (row_at old row).taken

  pub entry_at_cell : entry_of column (get_or column k blank).row ≡ (get_or column k blank).value
  entry_at_cell = entry_in_order column (get_or column k blank).row k sorted.increasing more refl

  pub rows_more : (after : PathRow) → after.target ≡ (row_at now (get_or column k blank).row).target → after.taken ≡ change (row_at now (get_or column k blank).row).taken (get_or column k blank).value → RowsAlong change (take (k + 1) column) old (set now (get_or column k blank).row after)
  rows_more after target taken =
      let cell = get_or column k blank in
      let here : cell.row < length now = omega (arith, along.long, long, cell_within) in
      record {
        long = length-set now cell.row after ∙ along.long;
        same = λ row h. elim (cases_eq row cell.row) [
          | inl is ↦ rw (is, get_or-set_same now cell.row after blank_row here) (target ∙ along.same cell.row (omega (arith, long, cell_within)))
          | inr other ↦ ap (λ (r : PathRow). r.target) (get_or-set_other now cell.row row after blank_row other) ∙ along.same row h
        ];
        each = λ row h. elim (cases_eq row cell.row) [
          | inl is ↦ rw (is, get_or-set_same now cell.row after blank_row here) (taken ∙ ap (λ t. change t cell.value) row_untouched ∙ ap (change (row_at old cell.row).taken) (sym (entry_here column k sorted.increasing more)))
          | inr other ↦ ap (λ (r : PathRow). r.taken) (get_or-set_other now cell.row row after blank_row other) ∙ along.each row h ∙ ap (change (row_at old row).taken) (sym (entry_elsewhere column k row more other))
        ];
      }

pub deadlines_more : (s : System) (rules : Rules) (now : List PathRow) (row : ℕ) (after : PathRow) → HaveDeadlines s rules now → IsDeadline rules (entries s row) after.target after.taken after.due → HaveDeadlines s rules (set now row after)
deadlines_more s rules now row after have due r h = elim (cases_eq r row) [
  | inl is ↦ let here : row < length now = omega (arith, length-set now row after) in rw (is, get_or-set_same now row after blank_row here) due
  | inr other ↦ rw (get_or-set_other now row r after blank_row other) (have r (omega (arith, length-set now row after)))
]

-- the entries of a column's first cells fit 32 bits
pub small_more : (count : ℕ) (column : List Cell) (k : ℕ) → AreCells count column → k < length column → (get_or column k blank).value < 4294967296 → ((row : ℕ) → entry_of (take k column) row < 4294967296) → (row : ℕ) → entry_of (take (k + 1) column) row < 4294967296
small_more count column k sorted more fits small row = elim (cases_eq row (get_or column k blank).row) [
  | inl is ↦ rw (is, entry_here column k sorted.increasing more) fits
  | inr other ↦ rw (entry_elsewhere column k row more other) (small row)
]
