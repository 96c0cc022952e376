use Rattle.std.proofs.Common.{◌≤◌, All, sym, subst, ap, arith, ◌∙◌}
use Rattle.std.specs.List.{sum_by}
use Rattle.df_subsets.specs.Subsets.{binomial}
use Rattle.df_maps.specs.FullMaps.{point_count}
use Rattle.df_orbits.specs.Orbits.{pair_orbits, block_orbits}
use Rattle.df_kramer_mesner.specs.OrbitSystems.{maps_of_problem}
use Rattle.df_kramer_mesner.specs.Laws.{AreFew}
use Rattle.df_matrix.specs.MatrixParts.{AreOrbits}
use Rattle.df_matrix.proofs.OrbitParts.{shown}
use Rattle.df_matrix.proofs.orbits.listed.Goals as goal

pub orbits_of_sizes-requires-clause-range : goal.orbits_of_sizes-requires-clause-range
orbits_of_sizes-requires-clause-range c = subst (λ M. All (λ k. (2 ≤ k) × (k ≤ point_count M)) c.all_sizes.result.now) (sym (c.in_ok-images.ensures ∙ c.maps_of-maps.ensures.maps)) c.all_sizes.ensures.range

pub orbits_of_sizes-requires-clause-few : goal.orbits_of_sizes-requires-clause-few
orbits_of_sizes-requires-clause-few c =
    subst (λ M. sum_by (binomial (point_count M)) c.all_sizes.result.now ≤ 8000000) (sym (c.in_ok-images.ensures ∙ c.maps_of-maps.ensures.maps))
    (subst (λ sizes. sum_by (binomial (point_count (maps_of_problem c.args.problem.now))) sizes ≤ 8000000) (sym c.all_sizes.ensures.sizes) c.requires)

pub invariant_of-result : goal.invariant_of-result
invariant_of-result c =
    let s = c.args.problem.now in
    let few : AreFew s = c.numbers_are_few.ensures s c.maps_of-maps.ensures.stated in
    let maps = c.in_ok-images.ensures ∙ c.maps_of-maps.ensures.maps in
    let are : AreOrbits s c.maps_of-maps.result c.in_ok-pairs.pairs c.in_ok-numbers.numbers c.in_ok-blocks.blocks = record {
      maps_are = c.maps_of-maps.ensures.maps;
      pairs_are = c.in_ok-pairs.ensures.pairs ∙ ap pair_orbits maps;
      numbers_are = c.in_ok-numbers.ensures ∙ maps;
      orbits_are = c.in_ok-blocks.ensures ∙ ap (λ M. block_orbits M c.all_sizes.result.now) maps ∙ ap (block_orbits (maps_of_problem s)) c.all_sizes.ensures.sizes;
      stated = c.maps_of-maps.ensures.stated;
      group = c.maps_of-maps.ensures.group;
      few = omega (arith, few.blocks, c.requires);
    } in
    shown (sym c.in_ok-copied.ensures) are
