use Rattle.std.proofs.Common.{◌≡◌, ◌+◌, ◌++◌, ◌∷◌, [], length, sym, ap, ap₂, subst, refl, arith, ◌∙◌, slice_get}
use Rattle.std.specs.List.Sorted.{IsStrictlyIncreasing}
use Rattle.std.proofs.lemmas.Option.{slice_get_within}
use Rattle.df_lists.specs.Membership.{In}
use Rattle.df_lists.proofs.ListPlaces.{In-get_or}
use Rattle.df_lang.specs.Problems.{IsStated}
use Rattle.df_kramer_mesner.specs.OrbitSystems.{has_in_orbit, orbits_of, orbit_at, cells_of}
use Rattle.df_kramer_mesner.specs.Laws.{AreSparse}
use Rattle.df_matrix.proofs.AllCells.{cells_own, cells_others}
use Rattle.df_matrix.proofs.PlaceLists.{places_rise, places_long}
use Rattle.df_matrix.proofs.columns.orbit_cells.Goals as goal

pub place_in-requires-clause-increasing : goal.place_in-requires-clause-increasing
place_in-requires-clause-increasing c = let s = c.args.orbits.now in subst IsStrictlyIncreasing (sym c.requires.needed) (places_rise (has_in_orbit s s.required) (orbits_of s))

pub place_in-requires-clause-few : goal.place_in-requires-clause-few
place_in-requires-clause-few c =
    let s = c.args.orbits.now in
    let stated : IsStated s = c.pair_count-pairs.ensures.stated in
    let sparse : AreSparse s = c.columns_are_sparse.ensures s stated in
    omega (arith, ap length c.requires.needed, places_long (has_in_orbit s s.required) (orbits_of s), sparse.needed, stated.few_stated)

pub overflow_cast-orbit : goal.overflow_cast-orbit
overflow_cast-orbit c = omega (arith, c.requires.orbit, c.orbit_count.ensures.count, c.orbit_count.ensures.few)

pub overflow_add-pairs : goal.overflow_add-pairs
overflow_add-pairs c =
    let s = c.args.orbits.now in
    let stated : IsStated s = c.pair_count-pairs.ensures.stated in
    let sparse : AreSparse s = c.columns_are_sparse.ensures s stated in
    let within = slice_get_within c.args.needed.now c.in-Some.place c.args.orbit c.in-Some.ensures.some in
    omega (arith, within, ap length c.requires.needed, places_long (has_in_orbit s s.required) (orbits_of s), sparse.needed, stated.few_stated, c.pair_count-pairs.ensures.small)

own : (c : goal.After-push) → c.push.new.self.items ≡ cells_of c.args.orbits.now (orbit_at c.args.orbits.now c.args.orbit)
own c =
    let s = c.args.orbits.now in
    let own = cells_own s c.args.orbit c.blocks_are_ordered.ensures c.candidates_are_all.ensures c.requires.orbit c.in-Some.place (ap (λ l. slice_get l c.in-Some.place) (sym c.requires.needed) ∙ c.in-Some.ensures.some) in
    c.push.ensures.items ∙ ap₂ (λ l n. l ++ record { row = n + c.in-Some.place; value = 1 } ∷ []) c.pair_cells-cells.ensures.entries c.pair_count-pairs.ensures.count ∙ sym own

pub returns-in-Some-clause-cells : goal.returns-in-Some-clause-cells
returns-in-Some-clause-cells c = own c

pub returns-in-Some-clause-few : goal.returns-in-Some-clause-few
returns-in-Some-clause-few c =
    let s = c.args.orbits.now in
    let sparse : AreSparse s = c.columns_are_sparse.ensures s c.pair_count-pairs.ensures.stated in
    omega (arith, ap length (own c), sparse.cells (orbit_at s c.args.orbit) (In-get_or (orbits_of s) c.args.orbit [] c.requires.orbit))

pub returns-in-None-clause-cells : goal.returns-in-None-clause-cells
returns-in-None-clause-cells c =
    let s = c.args.orbits.now in
    let others = cells_others s c.args.orbit c.blocks_are_ordered.ensures c.requires.orbit (λ i. c.in-None.ensures.none refl (subst (λ l. In l c.args.orbit) (sym c.requires.needed) i)) in
    c.pair_cells-cells.ensures.entries ∙ sym others
