-- Cells in the order of their rows are told by the entries of the rows.
use Rattle.std.proofs.Common.{◌≡◌, ℕ, suc, ◌+◌, ◌<◌, ◌≤◌, cond, List, [], ◌∷◌, length, get_or, refl, sym, ap, ap₂, ◌∙◌, arith, ⊎_elim}
use Rattle.std.proofs.lemmas.Bool.{lt-ltb, le-ltb, eq-eqb, ne_eqb, cases_eq}
use Rattle.df_walk.specs.declared.Cell.{Cell}
use Rattle.df_walk.specs.Systems.{AreCells, entry_of}
use Rattle.df_system.specs.Storage.{positive_cells}

-- positive cells whose rows rise strictly, from `low` on and below `rows`
abbrev CellsRise : ℕ → ℕ → List Cell → Type 0
CellsRise low rows [] = Unit {0}
CellsRise low rows (cell ∷ cells) = (low ≤ cell.row) × (cell.row < rows) × (0 < cell.value) × CellsRise (cell.row + 1) rows cells

CellsRise-lower : (low start rows : ℕ) (cells : List Cell) → low ≤ start → CellsRise start rows cells → CellsRise low rows cells
CellsRise-lower low start rows [] h r = tt
CellsRise-lower low start rows (cell ∷ cells) h r = (omega (arith, h, r.0), r.1, r.2, r.3)

tail_cells : (rows : ℕ) (cell : Cell) (cells : List Cell) → AreCells rows (cell ∷ cells) → AreCells rows cells
tail_cells rows cell cells are = record {
  in_range = λ k d l. are.in_range (suc k) d (omega (arith, l));
  positive = λ k d l. are.positive (suc k) d (omega (arith, l));
  increasing = λ k l. let e : suc k + 1 ≡ suc (k + 1) = omega arith in rw e at (are.increasing (suc k) (omega (arith, l)));
}

cells_rise : (low rows : ℕ) (cell : Cell) (cells : List Cell) → low ≤ cell.row → AreCells rows (cell ∷ cells) → CellsRise low rows (cell ∷ cells)
cells_rise low rows cell [] h are = (h, are.in_range 0 cell (omega arith), are.positive 0 cell (omega arith), tt)
cells_rise low rows cell (next ∷ cells) h are =
    let up : cell.row < next.row = are.increasing 0 (omega arith) in
    (h, are.in_range 0 cell (omega arith), are.positive 0 cell (omega arith), cells_rise (cell.row + 1) rows next cells (omega (arith, up)) (tail_cells rows cell (next ∷ cells) are))

all_rise : (rows : ℕ) (cells : List Cell) → AreCells rows cells → CellsRise 0 rows cells
all_rise rows [] are = tt
all_rise rows (cell ∷ cells) are = cells_rise 0 rows cell cells (omega arith) are

-- rows before the first have no entry
entry_before : (low rows row : ℕ) (cells : List Cell) → row < low → CellsRise low rows cells → entry_of cells row ≡ 0
entry_before low rows row [] h r = refl
entry_before low rows row (cell ∷ cells) h r =
    let rest = entry_before (cell.row + 1) rows row cells (omega (arith, r.0)) r.3 in
    rw (ne_eqb cell.row row (λ e. absurd (omega (arith, e, r.0))), rest) refl

told_from : (low rows : ℕ) (entries : List ℕ) (cells : List Cell) → low + length entries ≡ rows → CellsRise low rows cells → ((i : ℕ) → i < length entries → entry_of cells (low + i) ≡ get_or entries i 0) → cells ≡ positive_cells low entries
told_from low rows [] [] e r h = refl
told_from low rows [] (cell ∷ cells) e r h = absurd (omega (arith, e, r.0, r.1))
told_from low rows (value ∷ entries) [] e r h =
    let none : 0 ≡ value = h 0 (omega arith) in
    rw (le-ltb 0 value (omega (arith, none))) (told_from (low + 1) rows entries [] (omega (arith, e)) tt (λ i l. h (suc i) (omega (arith, l))))
told_from low rows (value ∷ entries) (cell ∷ cells) e r h =
    ⊎_elim (λ same. here same (told_from (low + 1) rows entries cells (omega (arith, e)))) (λ other. later other (told_from (low + 1) rows entries (cell ∷ cells) (omega (arith, e)))) (cases_eq cell.row low)
  where
    shifted : (i : ℕ) → low + 1 + i ≡ low + suc i
    shifted i = omega arith

    here : cell.row ≡ low → (CellsRise (low + 1) rows cells → ((i : ℕ) → i < length entries → entry_of cells (low + 1 + i) ≡ get_or entries i 0) → cells ≡ positive_cells (low + 1) entries) → cell ∷ cells ≡ positive_cells low (value ∷ entries)
    here same rest =
        let rise = CellsRise-lower (low + 1) (cell.row + 1) rows cells (omega (arith, same)) r.3 in
        let none = entry_before (low + 1) rows (low + 0) cells (omega arith) rise in
        let first : entry_of (cell ∷ cells) (low + 0) ≡ value = h 0 (omega arith) in
        let own : entry_of (cell ∷ cells) (low + 0) ≡ cell.value + 0 = rw (eq-eqb cell.row (low + 0) (omega (arith, same)), none) refl in
        let is : cell.value ≡ value = omega (arith, first, own) in
        let after : (i : ℕ) → i < length entries → entry_of cells (low + 1 + i) ≡ get_or entries i 0 = λ i l. past i ∙ h (suc i) (omega (arith, l)) in
        ap (λ l. cell ∷ l) (rest rise after)
        ∙ ap₂ (λ row value. record { row = row; value = value } ∷ positive_cells (low + 1) entries) same is
        ∙ sym (ap (λ t. cond t (record { row = low; value = value } ∷ positive_cells (low + 1) entries) (positive_cells (low + 1) entries)) (lt-ltb 0 value (omega (arith, is, r.2))))
      where
        past : (i : ℕ) → entry_of cells (low + 1 + i) ≡ entry_of (cell ∷ cells) (low + suc i)
        past i = ap (entry_of cells) (shifted i) ∙ rw (ne_eqb cell.row (low + suc i) (λ e. absurd (omega (arith, e, same)))) (omega arith)

    later : (cell.row ≡ low → ⊥) → (CellsRise (low + 1) rows (cell ∷ cells) → ((i : ℕ) → i < length entries → entry_of (cell ∷ cells) (low + 1 + i) ≡ get_or entries i 0) → cell ∷ cells ≡ positive_cells (low + 1) entries) → cell ∷ cells ≡ positive_cells low (value ∷ entries)
    later other rest =
        let above : low + 1 ≤ cell.row = omega (arith, r.0, other) in
        let none : value ≡ 0 = sym (h 0 (omega arith)) ∙ entry_before (low + 1) rows (low + 0) (cell ∷ cells) (omega arith) (above, r.1, r.2, r.3) in
        rw (le-ltb 0 value (omega (arith, none))) (rest (above, r.1, r.2, r.3) (λ i l. rw (shifted i) (h (suc i) (omega (arith, l)))))

pub cells_told : (rows : ℕ) (cells : List Cell) (entries : List ℕ) → length entries ≡ rows → AreCells rows cells → ((row : ℕ) → row < rows → entry_of cells row ≡ get_or entries row 0) → cells ≡ positive_cells 0 entries
cells_told rows cells entries long are h = told_from 0 rows entries cells (omega (arith, long)) (all_rise rows cells are) (λ i l. ap (entry_of cells) {x = 0 + i} {y = i} (omega arith) ∙ h i (omega (arith, l, long)))
