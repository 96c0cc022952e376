-- Cells in the order of their rows, and one cell more.
use Rattle.std.proofs.Common.{ℕ, ◌+◌, ◌<◌, ◌++◌, map, List, [], ◌∷◌, All, length, get_or, sym, subst, arith, inl, inr, length-append}
use Rattle.std.specs.List.Sorted.{IsStrictlyIncreasing}
use Rattle.std.proofs.lemmas.Bool.{cases_lt}
use Rattle.std.proofs.lemmas.List.{length-map, map-append, get_or-map, get_or_append_left, get_or_push}
use Rattle.std.proofs.lemmas.List.Elements.{All-push}
use Rattle.df_walk.specs.declared.Cell.{Cell}
use Rattle.df_walk.specs.Systems.{AreCells}

increasing_push : (xs : List ℕ) (r : ℕ) → IsStrictlyIncreasing xs → ((k : ℕ) → k < length xs → get_or xs k 0 < r) → IsStrictlyIncreasing (xs ++ r ∷ [])
increasing_push xs r up below k h =
    let long = length-append xs (r ∷ []) in
    let front = get_or_append_left xs (r ∷ []) 0 k (omega (arith, h, long)) in
    elim (cases_lt (k + 1) (length xs)) [
      | inl inside ↦ omega (arith, front, get_or_append_left xs (r ∷ []) 0 (k + 1) inside, up k inside)
      | inr last ↦ omega (arith, front, get_or_push xs r 0 (k + 1) (omega (arith, last, h, long)), below k (omega (arith, h, long)))
    ]

-- no cells
pub cells_none : (n : ℕ) → AreCells n []
cells_none n = record { in_range = λ k d h. absurd (omega arith); positive = λ k d h. absurd (omega arith); increasing = λ k h. absurd (omega arith) }

-- one more, after all
pub cells_push : (n r v : ℕ) (cells : List Cell) → AreCells n cells → All (λ cell. cell.row < r) cells → r < n → 0 < v → AreCells n (cells ++ record { row = r; value = v } ∷ [])
cells_push n r v cells are below h some = record {
  in_range = All-push (λ cell. cell.row < n) cells (record { row = r; value = v }) are.in_range h;
  positive = All-push (λ cell. 0 < cell.value) cells (record { row = r; value = v }) are.positive some;
  increasing = subst IsStrictlyIncreasing (sym (map-append (λ cell. cell.row) cells (record { row = r; value = v } ∷ [])))
      (increasing_push (map (λ cell. cell.row) cells) r are.increasing (λ k l.
      let d : Cell = record { row = 0; value = 0 } in
      let inside : k < length cells = omega (arith, l, length-map cells (λ cell. cell.row)) in
      omega (arith, get_or-map (λ cell. cell.row) cells k d 0 inside, below k d inside)));
}
