use Rattle.std.proofs.Common.{◌≡◌, ◌≤◌, length, subst, ap, arith}
use Rattle.df_kramer_mesner.specs.OrbitSystems.{orbits_of, columns_of, all_blocks, is_kept}
use Rattle.df_orbits.specs.declared.orbits.TheConstants.{MOST_SUMMED}
use Rattle.df_lang.specs.Problems.{IsStated}
use Rattle.df_matrix.proofs.PlaceLists.{places_long}
use Rattle.df_matrix.proofs.MatrixBounds.{targets_low, entries_low}
use Rattle.df_matrix.proofs.matrix.matrix_is_bounded.Goals as goal

pub returns-clause-columns : goal.returns-clause-columns
returns-clause-columns c =
    let s = c.matrix.inside.orbits in
    omega (arith, ap (λ s. length (columns_of s)) c.matrix.view_is, ap length c.matrix.invariant.kept_are, places_long (is_kept s) (orbits_of s), c.matrix.invariant.few)

pub returns-clause-entries : goal.returns-clause-entries
returns-clause-entries c =
    let stated = subst IsStated c.matrix.view_is c.orbit_count.ensures.stated in
    let few = subst (λ s. length (all_blocks s) ≤ MOST_SUMMED) c.matrix.view_is c.orbit_count.ensures.blocks in
    entries_low c.args.matrix.now MOST_SUMMED (omega arith) few c.rows_are_pairs_and_needed.ensures (c.numbers_are_few.ensures c.args.matrix.now stated) c.entries_are_counts.ensures

pub returns-clause-targets : goal.returns-clause-targets
returns-clause-targets c =
    let stated = subst IsStated c.matrix.view_is c.orbit_count.ensures.stated in
    targets_low c.args.matrix.now stated c.rows_are_pairs_and_needed.ensures
