-- The entries of rows among cells that stand in the order of their rows.
use Rattle.std.proofs.Common.{◌≡◌, ℕ, suc, ◌+◌, ◌<◌, ◌≤◌, map, drop, List, [], ◌∷◌, length, get_or, refl, sym, ap, ◌∙◌, subst, arith, inl, inr, ⊎_elim, eq-eqb}
use Rattle.std.specs.List.Sorted.{IsStrictlyIncreasing}
use Rattle.std.proofs.lemmas.Bool.{cases_eq, ne_eqb}
use Rattle.std.proofs.lemmas.List.{drop_more}
use Rattle.std.proofs.lemmas.Option.{slice_get-get_or}
use Rattle.df_lists.specs.Membership.{In}
use Rattle.df_lists.proofs.ListPlaces.{In-slice_get}
use Rattle.df_walk.specs.declared.Cell.{Cell}
use Rattle.df_walk.specs.Systems.{AreCells, entry_of}

-- the rows rise from `low` on
abbrev pub Rising : ℕ → List Cell → Type 0
Rising low [] = Unit {0}
Rising low (cell ∷ cells) = (low ≤ cell.row) × Rising (cell.row + 1) cells

rising_after : (low : ℕ) (cell : Cell) (cells : List Cell) → low ≤ cell.row → IsStrictlyIncreasing (map (λ cell. cell.row) (cell ∷ cells)) → Rising low (cell ∷ cells)
rising_after low cell [] h up = (h, tt)
rising_after low cell (next ∷ cells) h up =
    let first : cell.row < next.row = up 0 (omega arith) in
    (h, rising_after (cell.row + 1) next cells (omega (arith, first)) (λ k l. let e : suc k + 1 ≡ suc (k + 1) = omega arith in rw e at (up (suc k) (omega (arith, l)))))

pub rising_all : (n : ℕ) (cells : List Cell) → AreCells n cells → Rising 0 cells
rising_all n [] are = tt
rising_all n (cell ∷ cells) are = rising_after 0 cell cells (omega arith) are.increasing

pub entry_absent : (low row : ℕ) (cells : List Cell) → row < low → Rising low cells → entry_of cells row ≡ 0
entry_absent low row [] h r = refl
entry_absent low row (cell ∷ cells) h r =
    let rest = entry_absent (cell.row + 1) row cells (omega (arith, h, r.0)) r.1 in
    rw (ne_eqb cell.row row (λ e. absurd (omega (arith, e, h, r.0))), rest) refl

row_from : (low : ℕ) (cells : List Cell) (cell : Cell) → Rising low cells → In cells cell → low ≤ cell.row
row_from low [] cell r i = absurd i
row_from low (next ∷ cells) cell r (inl e) = subst (λ c. low ≤ c.row) e r.0
row_from low (next ∷ cells) cell r (inr i) = omega (arith, row_from (next.row + 1) cells cell r.1 i, r.0)

entry_head : (low : ℕ) (cell : Cell) (cells : List Cell) → Rising low (cell ∷ cells) → entry_of (cell ∷ cells) cell.row ≡ cell.value
entry_head low cell cells r = rw (eq-eqb cell.row cell.row refl, entry_absent (cell.row + 1) cell.row cells (omega arith) r.1) (omega arith)

-- a cell's value is its row's entry
pub entry_member : (low : ℕ) (cells : List Cell) (cell : Cell) → Rising low cells → In cells cell → entry_of cells cell.row ≡ cell.value
entry_member low [] cell r i = absurd i
entry_member low (next ∷ cells) cell r (inl e) = subst (λ c. entry_of (next ∷ cells) c.row ≡ c.value) e (entry_head low next cells r)
entry_member low (next ∷ cells) cell r (inr i) =
    let later = row_from (next.row + 1) cells cell r.1 i in
    rw (ne_eqb next.row cell.row (λ e. absurd (omega (arith, e, later)))) (omega (arith, entry_member (next.row + 1) cells cell r.1 i))

pub entry_at : (n k : ℕ) (cells : List Cell) (d : Cell) → AreCells n cells → k < length cells → entry_of cells (get_or cells k d).row ≡ (get_or cells k d).value
entry_at n k cells d are h = entry_member 0 cells (get_or cells k d) (rising_all n cells are) (In-slice_get cells k (get_or cells k d) (slice_get-get_or cells k d h))

-- a row that isn't the next cell's is looked up in the rest
pub entry_skips : (cells : List Cell) (k row : ℕ) (d : Cell) → k < length cells → ((get_or cells k d).row ≡ row → ⊥) → entry_of (drop k cells) row ≡ entry_of (drop (k + 1) cells) row
entry_skips cells k row d h ne = ap (λ l. entry_of l row) (drop_more cells k d h) ∙ rw (ne_eqb (get_or cells k d).row row ne) (omega arith)

-- cells of the same rows, whose values are found from the values and the rows
module _ (f : ℕ → ℕ → ℕ) (none : (row : ℕ) → f row 0 ≡ 0) where
  abbrev pub changed : Cell → Cell
  changed cell = record { row = cell.row; value = f cell.row cell.value }

  rising_changed : (low : ℕ) (cells : List Cell) → Rising low cells → Rising low (map changed cells)
  rising_changed low [] r = tt
  rising_changed low (cell ∷ cells) r = (r.0, rising_changed (cell.row + 1) cells r.1)

  changed_from : (low row : ℕ) (cells : List Cell) → Rising low cells → entry_of (map changed cells) row ≡ f row (entry_of cells row)
  changed_from low row [] r = sym (none row)
  changed_from low row (cell ∷ cells) r = ⊎_elim here (λ ne. there ne (changed_from (cell.row + 1) row cells r.1)) (cases_eq cell.row row)
    where
      here : cell.row ≡ row → entry_of (map changed (cell ∷ cells)) row ≡ f row (entry_of (cell ∷ cells) row)
      here e =
          let a = entry_absent (cell.row + 1) row cells (omega (arith, e)) r.1 in
          let b = entry_absent (cell.row + 1) row (map changed cells) (omega (arith, e)) (rising_changed (cell.row + 1) cells r.1) in
          rw (eq-eqb cell.row row e, a, b) (let x : f cell.row cell.value + 0 ≡ f cell.row cell.value = omega arith in let y : cell.value ≡ cell.value + 0 = omega arith in x ∙ ap (λ r. f r cell.value) e ∙ ap (f row) y)

      there : (cell.row ≡ row → ⊥) → entry_of (map changed cells) row ≡ f row (entry_of cells row) → entry_of (map changed (cell ∷ cells)) row ≡ f row (entry_of (cell ∷ cells) row)
      there ne rest = rw (ne_eqb cell.row row ne) (let x : 0 + entry_of (map changed cells) row ≡ entry_of (map changed cells) row = omega arith in let y : entry_of cells row ≡ 0 + entry_of cells row = omega arith in x ∙ rest ∙ ap (f row) y)

  pub entry_changed : (n row : ℕ) (cells : List Cell) → AreCells n cells → entry_of (map changed cells) row ≡ f row (entry_of cells row)
  entry_changed n row cells are = changed_from 0 row cells (rising_all n cells are)
