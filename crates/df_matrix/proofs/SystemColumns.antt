-- The stored columns are those of the orbit system.
use Rattle.std.proofs.Common.{◌≡◌, ℕ, map, List, [], All, length, sym, ap, ◌∙◌, arith}
use Rattle.std.specs.List.{AllByRecursion}
use Rattle.std.proofs.lemmas.List.Elements.{All-from_recursion}
use Rattle.std.proofs.lemmas.Simd.{map-map}
use Rattle.df_lang.specs.Problems.{Stated}
use Rattle.df_walk.specs.declared.Cell.{Cell}
use Rattle.df_walk.specs.Systems.{IsColumn, AreCells}
use Rattle.df_system.specs.Storage.{IsFirstEmpty}
use Rattle.df_kramer_mesner.specs.OrbitSystems.{orbits_of, columns_of, is_kept, cells_of, orbit_at}
use Rattle.df_matrix.specs.MatrixParts.{kept_places}
use Rattle.df_matrix.proofs.PlaceLists.{blocks_at_places}

pub system_columns : (s : Stated) → map (λ orbit. cells_of s (orbit_at s orbit)) (kept_places s) ≡ map (cells_of s) (columns_of s)
system_columns s = sym (map-map (cells_of s) (orbit_at s) (kept_places s)) ∙ ap (map (cells_of s)) (blocks_at_places (is_kept s) (orbits_of s))

pub columns_cells : (n : ℕ) (columns : List (List Cell)) → AllByRecursion (IsColumn n) columns → All (AreCells n) columns
columns_cells n columns h = λ k d l. (All-from_recursion (IsColumn n) columns h k d l).cells

pub none_empty : (n : ℕ) (columns : List (List Cell)) (k : ℕ) → AllByRecursion (IsColumn n) columns → IsFirstEmpty columns k → ⊥
none_empty n columns k h e = let column = All-from_recursion (IsColumn n) columns h k [] e.within in absurd (omega (arith, column.some, ap length e.empty))
