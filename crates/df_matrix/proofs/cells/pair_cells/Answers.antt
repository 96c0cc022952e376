use Rattle.std.proofs.Common.{◌<◌, length, map, sym, ap, subst, arith, ◌∙◌, All}
use Rattle.df_walk.specs.Systems.{AreCells}
use Rattle.df_kramer_mesner.specs.OrbitSystems.{pairs_of, orbit_size}
use Rattle.df_matrix.specs.MatrixParts.{quotient_cell, pair_cells}
use Rattle.df_matrix.proofs.OrbitCells.{quotients_are, quotients_are_cells}
use Rattle.df_matrix.proofs.Tallies.{IsTally}
use Rattle.df_matrix.proofs.cells.pair_cells.Goals as goal

pub quotients-requires-clause-rows : goal.quotients-requires-clause-rows
quotients-requires-clause-rows c =
    let s = c.args.orbits.now in
    let are = c.tally.ensures.cells (length (pairs_of s)) (subst (All (λ row. row < length (pairs_of s))) (sym c.as_slice.ensures.value) c.sorted_rows-rows.ensures.rows.within) in
    subst (All (λ cell. cell.row < length (pairs_of s))) (sym c.as_slice-2.ensures.value) are.in_range

pub returns-clause-entries : goal.returns-clause-entries
returns-clause-entries c =
    let s = c.args.orbits.now in
    let b = c.orbit.result in
    let e = c.as_slice.ensures.value in
    let told : IsTally c.as_slice.result.now c.tally.result.items = record { cells = c.tally.ensures.cells; tally = c.tally.ensures.tally; small = c.tally.ensures.small } in
    let are = quotients_are c.entries_are_quotients.ensures c.cells_are_told_by_entries.ensures s c.orbit.ensures.stated b c.orbit.ensures.member c.orbit_size.result (c.orbit_size.ensures.size ∙ ap (orbit_size s) (sym c.orbit.ensures.orbit)) c.orbit_size.ensures.some
    c.sorted_rows-rows.result.items c.sorted_rows-rows.ensures.rows c.tally.result.items (subst (λ l. IsTally l c.tally.result.items) e told) in
    c.quotients.ensures.cells ∙ ap (map (quotient_cell s c.orbit_size.result)) c.as_slice-2.ensures.value ∙ are ∙ ap (pair_cells s) c.orbit.ensures.orbit

pub returns-clause-cells : goal.returns-clause-cells
returns-clause-cells c =
    let s = c.args.orbits.now in
    let b = c.orbit.result in
    let e = c.as_slice.ensures.value in
    let told : IsTally c.as_slice.result.now c.tally.result.items = record { cells = c.tally.ensures.cells; tally = c.tally.ensures.tally; small = c.tally.ensures.small } in
    let are = quotients_are_cells c.entries_are_quotients.ensures c.cells_are_told_by_entries.ensures s c.orbit.ensures.stated b c.orbit.ensures.member c.orbit_size.result (c.orbit_size.ensures.size ∙ ap (orbit_size s) (sym c.orbit.ensures.orbit)) c.orbit_size.ensures.some
    c.sorted_rows-rows.result.items c.sorted_rows-rows.ensures.rows c.tally.result.items (subst (λ l. IsTally l c.tally.result.items) e told) in
    subst (AreCells (length (pairs_of s))) (sym (c.quotients.ensures.cells ∙ ap (map (quotient_cell s c.orbit_size.result)) c.as_slice-2.ensures.value)) are

pub quotients-requires-clause-few : goal.quotients-requires-clause-few
quotients-requires-clause-few c = omega (arith, ap length c.as_slice-2.ensures.value, c.tally.ensures.few)
