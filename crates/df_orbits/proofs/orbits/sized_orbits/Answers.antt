use Rattle.std.proofs.Common.{◌≤◌, ◌∙◌, ap, sym, subst, arith, All}
use Rattle.std.specs.List.{sum_by}
use Rattle.df_subsets.specs.Subsets.{binomial}
use Rattle.df_maps.specs.FullMaps.{point_count}
use Rattle.df_orbits.specs.Orbits.{block_orbits}
use Rattle.df_orbits.proofs.orbits.sized_orbits.Goals as goal

pub orbits_of_sizes-requires-clause-range : goal.orbits_of_sizes-requires-clause-range
orbits_of_sizes-requires-clause-range c = subst (λ M. All (λ k. (2 ≤ k) × (k ≤ point_count M)) c.args.sizes.now) (sym c.in_ok-images.ensures) c.requires.range

pub orbits_of_sizes-requires-clause-few : goal.orbits_of_sizes-requires-clause-few
orbits_of_sizes-requires-clause-few c =
    let sizes = c.args.sizes.now in
    let sum = c.count_blocks-sum.ensures ∙ ap (λ n. sum_by (binomial n) sizes) c.points-points.ensures.points in
    subst (λ M. sum_by (binomial (point_count M)) sizes ≤ 8000000) (sym c.in_ok-images.ensures) (omega (arith, sum, c.if-sum-gt-MOST_SUMMED.false))

pub returns-in-Ok-clause-sized : goal.returns-in-Ok-clause-sized
returns-in-Ok-clause-sized c = c.in-Ok.ensures ∙ ap (λ M. block_orbits M c.args.sizes.now) c.in_ok-images.ensures
