use Rattle.std.proofs.Common.{◌<◌, [], false, length, get_or, sym, ap, ap₂, subst, arith, ◌∙◌, All, nat_le}
use Rattle.std.specs.List.{list_all}
use Rattle.std.proofs.lemmas.List.{get_or-map}
use Rattle.df_walk.specs.declared.Cell.{Cell}
use Rattle.df_kramer_mesner.specs.OrbitSystems.{has_in_orbit, orbits_of}
use Rattle.df_matrix.proofs.AllCells.{kept_is}
use Rattle.df_matrix.proofs.columns.keeps.Goals as goal

pub fit-requires : goal.fit-requires
fit-requires c =
    let s = c.args.orbits.now in
    let are = c.pair_cells-cells.ensures.cells in
    let rows = c.rows_are_pairs_and_needed.ensures s [] in
    subst (All (λ cell. cell.row < length c.args.targets.now)) (sym c.as_slice.ensures.value)
    (λ k d h. let l = are.in_range k d h in omega (arith, l, rows.targets, ap length c.requires.targets))

pub returns : goal.returns
returns c =
    let s = c.args.orbits.now in
    let allowed = sym (get_or-map (has_in_orbit s s.forbidden) (orbits_of s) c.args.orbit [] false c.requires.orbit) ∙ sym (ap (λ l. get_or l c.args.orbit false) c.requires.forbidden) ∙ c.if-forbidden-orbit.false in
    c.fit.ensures
    ∙ ap₂ (λ t l. list_all (λ (cell : Cell). nat_le cell.value (get_or t cell.row 0)) l) c.requires.targets (c.as_slice.ensures.value ∙ c.pair_cells-cells.ensures.entries)
    ∙ kept_is s c.args.orbit allowed
