-- A merge of cells and rows finds the entry of each row.
use Rattle.std.proofs.Common.{◌≡◌, ℕ, zero, suc, ◌+◌, ◌<◌, ◌≤◌, cond, List, [], ◌∷◌, drop, length, get_or, refl, ap, ◌∙◌, arith}
use Rattle.std.proofs.lemmas.Bool.{lt-ltb, eq-eqb, ne_eqb}
use Rattle.std.proofs.lemmas.List.{drop_more}
use Rattle.df_walk.specs.declared.Cell.{Cell}
use Rattle.df_system.specs.Storage.{positive_cells}
use Rattle.df_tell.specs.Cells.{entry_ahead, next_after}

-- cells of later rows have no entry in a row
later : (low row : ℕ) (es : List ℕ) → row < low → entry_ahead (positive_cells low es) row ≡ 0
later low row [] h = refl
later low row (zero ∷ es) h = later (low + 1) row es (omega (arith, h))
later low row (suc e ∷ es) h = rw (lt-ltb 0 (suc e) (omega arith)) (rw (ne_eqb low row (λ same. absurd (omega (arith, same, h)))) refl)

-- the entry of a row is ahead
ahead : (row e : ℕ) (es : List ℕ) → entry_ahead (positive_cells row (e ∷ es)) row ≡ e
ahead row zero es = later (row + 1) row es (omega arith)
ahead row (suc e) es = rw (lt-ltb 0 (suc e) (omega arith)) (rw (eq-eqb row row refl) refl)

drop_tail : {X : Type 0} (n : ℕ) (xs ys : List X) (x : X) → drop n xs ≡ x ∷ ys → drop (n + 1) xs ≡ ys
drop_tail n [] ys x h = absurd (nothing n h)
  where
    nothing : {X : Type 0} {x : X} {ys : List X} (n : ℕ) → drop n [] ≡ x ∷ ys → ⊥
    nothing zero h = absurd (let e = h in cc)
    nothing (suc n) h = absurd (let e = h in cc)
drop_tail zero (y ∷ xs) ys x h = let e = h in cc
drop_tail (suc n) (y ∷ xs) ys x h = ap (λ k. drop k (y ∷ xs)) {x = suc n + 1} {y = suc (n + 1)} (omega arith) ∙ drop_tail n xs ys x h

-- and what is left after it are the cells of the later rows
left : (next row e : ℕ) (es : List ℕ) (cells : List Cell) → drop next cells ≡ positive_cells row (e ∷ es) → drop (next_after next e) cells ≡ positive_cells (row + 1) es
left next row zero es cells h = h
left next row (suc e) es cells h =
    let one = lt-ltb 0 (suc e) (omega arith) in
    let is : positive_cells row (suc e ∷ es) ≡ record { row = row; value = suc e } ∷ positive_cells (row + 1) es = ap (λ t. cond t (record { row = row; value = suc e } ∷ positive_cells (row + 1) es) (positive_cells (row + 1) es)) one in
    ap (λ t. drop (cond t (next + 1) next) cells) one ∙ drop_tail next cells (positive_cells (row + 1) es) (record { row = row; value = suc e }) (h ∙ is)

pub next_after_most : (next entry : ℕ) → next_after next entry ≤ next + 1
next_after_most next zero = omega arith
next_after_most next (suc entry) = let one = ap (λ t. cond t (next + 1) next) (lt-ltb 0 (suc entry) (omega arith)) in omega (arith, one)

module _ (entries : List ℕ) (cells : List Cell) (next row : ℕ) (within : row < length entries) (rest : drop next cells ≡ positive_cells row (drop row entries)) where
  here : drop next cells ≡ positive_cells row (get_or entries row 0 ∷ drop (row + 1) entries)
  here = rest ∙ ap (positive_cells row) (drop_more entries row 0 within)

  pub entry_here : entry_ahead (drop next cells) row ≡ get_or entries row 0
  entry_here = ap (λ l. entry_ahead l row) here ∙ ahead row (get_or entries row 0) (drop (row + 1) entries)

  pub rest_after : (entry : ℕ) → entry ≡ get_or entries row 0 → drop (next_after next entry) cells ≡ positive_cells (row + 1) (drop (row + 1) entries)
  rest_after entry is = ap (λ e. drop (next_after next e) cells) is ∙ left next row (get_or entries row 0) (drop (row + 1) entries) cells here
