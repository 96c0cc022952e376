use Rattle.std.proofs.Common.{ℕ, ◌<◌, map, List, All, length, get_or, sym, ap, ap₂, subst, arith, ◌∙◌}
use Rattle.std.proofs.lemmas.List.{length-map}
use Rattle.std.proofs.lemmas.Option.{slice_get-get_or}
use Rattle.df_lists.proofs.ListPlaces.{In-slice_get}
use Rattle.df_walk.specs.declared.Cell.{Cell}
use Rattle.df_walk.specs.Systems.{IsSystem, AreCells}
use Rattle.df_system.specs.Storage.{IsZeroColumn, IsFirstEmpty}
use Rattle.df_kramer_mesner.specs.OrbitSystems.{orbits_of, columns_of, is_kept, targets_of, orbit_system, cells_of, orbit_at}
use Rattle.df_kramer_mesner.specs.Laws.{AreSparse}
use Rattle.df_matrix.specs.MatrixParts.{kept_places}
use Rattle.df_matrix.proofs.PlaceLists.{place_passes}
use Rattle.df_matrix.proofs.SystemColumns.{system_columns, columns_cells, none_empty}
use Rattle.df_matrix.proofs.columns.system_of.Goals as goal

pub columns_of-requires-clause-numbers : goal.columns_of-requires-clause-numbers
columns_of-requires-clause-numbers c =
    let s = c.args.orbits.now in
    subst (All (λ orbit. orbit < length (orbits_of s))) (sym c.requires.kept)
    (λ k d h. (place_passes (is_kept s) (orbits_of s) (get_or (kept_places s) k d) (In-slice_get (kept_places s) k (get_or (kept_places s) k d) (slice_get-get_or (kept_places s) k d h))).0)

pub from_columns-requires-clause-few_rows : goal.from_columns-requires-clause-few_rows
from_columns-requires-clause-few_rows c =
    let sparse : AreSparse c.args.orbits.now = c.columns_are_sparse.ensures c.args.orbits.now c.requires.stated in
    omega (arith, c.args.targets.ok.0, ap length c.requires.targets, sparse.rows)

pub from_columns-requires-clause-few_columns : goal.from_columns-requires-clause-few_columns
from_columns-requires-clause-few_columns c =
    let s = c.args.orbits.now in
    let column : ℕ → List Cell = λ orbit. cells_of s (orbit_at s orbit) in
    omega (arith, ap length c.in_ok-columns.ensures.columns, length-map c.args.kept.now column, c.requires.few)

pub from_columns-requires-clause-columns : goal.from_columns-requires-clause-columns
from_columns-requires-clause-columns c =
    let s = c.args.orbits.now in
    let system : IsSystem (orbit_system s) = c.orbit_systems_are_systems.ensures s c.requires.stated in
    let column : ℕ → List Cell = λ orbit. cells_of s (orbit_at s orbit) in
    let are = c.in_ok-columns.ensures.columns ∙ ap (map column) c.requires.kept ∙ system_columns s in
    subst (λ n. All (AreCells n) c.in_ok-columns.columns) (sym (ap length c.requires.targets))
    (subst (All (AreCells (length (targets_of s)))) (sym are) (columns_cells (length (targets_of s)) (map (cells_of s) (columns_of s)) system.columns))

pub unreachable-requires : goal.unreachable-requires
unreachable-requires c =
    let s = c.args.orbits.now in
    let system : IsSystem (orbit_system s) = c.orbit_systems_are_systems.ensures s c.requires.stated in
    let column : ℕ → List Cell = λ orbit. cells_of s (orbit_at s orbit) in
    let are = c.in_ok-columns.ensures.columns ∙ ap (map column) c.requires.kept ∙ system_columns s in
    let empty = subst (IsZeroColumn c.in_ok-columns.columns) c.in-Err-ZeroColumn.field-0-is c.in-Err-ZeroColumn.ensures.zero_column in
    none_empty (length (targets_of s)) (map (cells_of s) (columns_of s)) c.in-Err-ZeroColumn.field-0-0 system.columns (subst (λ l. IsFirstEmpty l c.in-Err-ZeroColumn.field-0-0) are empty)

pub returns-in-Ok : goal.returns-in-Ok
returns-in-Ok c =
    let s = c.args.orbits.now in
    let column : ℕ → List Cell = λ orbit. cells_of s (orbit_at s orbit) in
    let are = c.in_ok-columns.ensures.columns ∙ ap (map column) c.requires.kept ∙ system_columns s in
    c.in-Ok.ensures.ok ∙ ap₂ (λ (t : List ℕ) (l : List (List Cell)). record { targets = t; columns = l }) c.requires.targets are
