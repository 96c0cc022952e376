-- How many cells a list of columns has.
use Rattle.std.proofs.Common.{◌≡◌, ℕ, suc, ◌+◌, ◌*◌, ◌≤◌, List, [], ◌∷◌, ◌++◌, length, map, ap, ◌∙◌, arith}
use Rattle.std.specs.List.{AllByRecursion}
use Rattle.std.proofs.lemmas.List.{map-append}
use Rattle.df_walk.specs.declared.Cell.{Cell}
use Rattle.df_walk.specs.Assignments.{total}
use Rattle.df_system.specs.Storage.{cell_count}

total-append : (ms ns : List ℕ) → total (ms ++ ns) ≡ total ms + total ns
total-append [] ns = omega arith
total-append (m ∷ ms) ns = omega (arith, total-append ms ns)

-- a column more adds its cells
pub cell_count-more : (columns : List (List Cell)) (column : List Cell) → cell_count (columns ++ column ∷ []) ≡ cell_count columns + length column
cell_count-more columns column = ap total (map-append length columns (column ∷ [])) ∙ total-append (map length columns) (length column ∷ []) ∙ omega arith

-- columns of at most so many cells each
pub cell_count-most : {X : Type 0} (column : X → List Cell) (most : ℕ) (xs : List X) → AllByRecursion (λ x. length (column x) ≤ most) xs → cell_count (map column xs) ≤ most * length xs
cell_count-most column most [] h = omega arith
cell_count-most column most (x ∷ xs) h =
    let step : most * suc (length xs) ≡ most + most * length xs = omega arith in
    omega (arith, step, h.0, cell_count-most column most xs h.1)
