use Rattle.std.proofs.Common.{length, sym, ap, subst, ◌∙◌}
use Rattle.df_walk.specs.Systems.{AreCells, entry_of}
use Rattle.df_system.proofs.PositiveCells.{positive_cells_are}
use Rattle.df_kramer_mesner.specs.OrbitSystems.{targets_of, entries_of, orbit_at}
use Rattle.df_kramer_mesner.proofs.OrbitNumbers.{entry_found}
use Rattle.df_matrix.proofs.matrix.OrbitMatrix.entry_of_orbit.Goals as goal

pub value_at-requires : goal.value_at-requires
value_at-requires c =
    let s = c.args.self.now in
    let b = orbit_at s c.args.orbit in
    let rows = c.rows_are_pairs_and_needed.ensures s b in
    (length (targets_of s), subst (AreCells (length (targets_of s))) (sym (c.as_slice.ensures.value ∙ c.orbit_cells.ensures)) (positive_cells_are (entries_of s b) (length (targets_of s)) (rows.entries ∙ sym rows.targets)))

pub returns : goal.returns
returns c =
    let s = c.args.self.now in
    c.value_at.ensures ∙ ap (λ l. entry_of l c.args.row) (c.as_slice.ensures.value ∙ c.orbit_cells.ensures) ∙ entry_found s (orbit_at s c.args.orbit) c.args.row c.requires.row
