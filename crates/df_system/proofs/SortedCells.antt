-- The entry of a row among cells in the order of their rows.
use Rattle.std.proofs.Common.{◌≡◌, ◌≢◌, ℕ, suc, zero, ◌+◌, ◌-◌, ◌<◌, ◌≤◌, List, [], ◌∷◌, length, get_or, map, refl, arith, inl, inr, subst, sym, Ok, Err}
use Rattle.std.specs.List.Sorted.{IsStrictlyIncreasing, IsNonDecreasingBy, IsBinarySearchResult}
use Rattle.std.specs.Ordering.{nat_cmp, ordering_index}
use Rattle.std.proofs.lemmas.Bool.{eq-eqb, ne_eqb, cases_eq, cases_lt, cases_order}
use Rattle.std.proofs.lemmas.Bool.Decides.{nat_tests}
use Rattle.std.proofs.lemmas.Cmp.{ranked}
use Rattle.std.proofs.lemmas.List.Sorted.{IsNonDecreasingBy-from_default}
use Rattle.std.proofs.lemmas.List.{length-map}
use Rattle.df_walk.specs.declared.Cell.{Cell}
use Rattle.df_walk.specs.Systems.{entry_of}

-- what stands past the end
abbrev pub blank : Cell
blank = record { row = 0; value = 0 }

pub row_at : (column : List Cell) (k : ℕ) → get_or (map (λ cell. cell.row) column) k 0 ≡ (get_or column k blank).row
row_at [] k = refl
row_at (cell ∷ column) zero = refl
row_at (cell ∷ column) (suc k) = row_at column k

rows_rise_by : (column : List Cell) (i n : ℕ) → IsStrictlyIncreasing (map (λ cell. cell.row) column) → i + suc n < length column → (get_or column i blank).row < (get_or column (i + suc n) blank).row
rows_rise_by column i zero up h =
    let e : i + 1 ≡ i + suc zero = omega arith in
    let long = length-map column (λ cell. cell.row) in
    let step = up i (omega arith) in
    rw (← row_at column i, ← row_at column (i + suc zero), ← e) step
rows_rise_by column i (suc n) up h =
    let e : (i + suc n) + 1 ≡ i + suc (suc n) = omega arith in
    let long = length-map column (λ cell. cell.row) in
    let step = up (i + suc n) (omega arith) in
    let next = rw (row_at column (i + suc n), row_at column ((i + suc n) + 1), e) at step in
    omega (arith, rows_rise_by column i n up (omega arith))

-- rows rise along a column
pub rows_rise : (column : List Cell) (i j : ℕ) → IsStrictlyIncreasing (map (λ cell. cell.row) column) → i < j → j < length column → (get_or column i blank).row < (get_or column j blank).row
rows_rise column i j up h l =
    let e : i + suc (j - suc i) ≡ j = omega arith in
    let r = rows_rise_by column i (j - suc i) up (omega arith) in
    subst (λ k. (get_or column i blank).row < (get_or column k blank).row) e r

-- no cell has the row
pub entry_absent : (column : List Cell) (row : ℕ) → ((k : ℕ) → k < length column → (get_or column k blank).row ≡ row → ⊥) → entry_of column row ≡ 0
entry_absent [] row h = refl
entry_absent (cell ∷ column) row h = let rest = entry_absent column row (λ k l. h (suc k) (omega arith)) in rw (ne_eqb cell.row row (h 0 (omega arith))) (omega arith)

-- one cell has it
pub entry_found : (column : List Cell) (row k : ℕ) → k < length column → (get_or column k blank).row ≡ row → ((i : ℕ) → i < length column → i ≢ k → (get_or column i blank).row ≡ row → ⊥) → entry_of column row ≡ (get_or column k blank).value
entry_found [] row k h is others = absurd (omega arith)
entry_found (cell ∷ column) row zero h is others =
    rw (eq-eqb cell.row row is, entry_absent column row (λ i l. others (suc i) (omega arith) (omega arith))) (omega arith)
entry_found (cell ∷ column) row (suc k) h is others =
    let rest = entry_found column row k (omega arith) is (λ i l ne. others (suc i) (omega arith) (omega arith)) in
    rw (ne_eqb cell.row row (others 0 (omega arith) (omega arith))) (omega arith)

-- in order, the one cell is the only one
pub entry_in_order : (column : List Cell) (row k : ℕ) → IsStrictlyIncreasing (map (λ cell. cell.row) column) → k < length column → (get_or column k blank).row ≡ row → entry_of column row ≡ (get_or column k blank).value
entry_in_order column row k up h is =
    entry_found column row k h is (λ i l ne e. elim (cases_order i k) [
      | inl same ↦ ne same
      | inr (inl below) ↦ absurd (omega (arith, rows_rise column i k up below h))
      | inr (inr above) ↦ absurd (omega (arith, rows_rise column k i up above l))
    ])

-- what a search by halving finds: the cell of the row, or the place that it would have
module _ (column : List Cell) (row : ℕ) (up : IsStrictlyIncreasing (map (λ cell. cell.row) column)) where
  comparisons_rise : IsNonDecreasingBy (λ (cell : Cell). ordering_index (nat_cmp cell.row row)) column
  comparisons_rise = IsNonDecreasingBy-from_default (λ (cell : Cell). ordering_index (nat_cmp cell.row row)) column blank (λ i j le h.
      let rise : (get_or column i blank).row ≤ (get_or column j blank).row = elim (cases_eq i j) [
        | inl same ↦ rw same (omega arith)
        | inr other ↦ omega (arith, rows_rise column i j up (omega arith) h)
      ] in
      grind (arith, nat_tests))

  pub searched_found : (k : ℕ) → k < length column → IsBinarySearchResult (λ (cell : Cell). nat_cmp cell.row row) column (Ok k) → entry_of column row ≡ (get_or column k blank).value
  searched_found k within equal = entry_in_order column row k up within (ranked _ row _ (sym (equal blank)))

  pub searched_absent : (k : ℕ) → k ≤ length column → IsBinarySearchResult (λ (cell : Cell). nat_cmp cell.row row) column (Err k) → entry_of column row ≡ 0
  searched_absent k within parted = entry_absent column row (λ j l e. elim (cases_lt j k) [
    | inl before ↦ absurd (let less : (get_or column j blank).row < row = ranked _ row _ (sym ((parted comparisons_rise).0 j blank (omega arith) before)) in omega arith)
    | inr after ↦ absurd (let more : row < (get_or column j blank).row = ranked _ row _ (sym ((parted comparisons_rise).1 j blank after l)) in omega arith)
  ])
