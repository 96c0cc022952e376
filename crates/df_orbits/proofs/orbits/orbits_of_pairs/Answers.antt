use Rattle.std.proofs.Common.{◌∙◌, ◌++◌, ℕ, List, map, ap, arith}
use Rattle.df_maps.specs.FullMaps.{point_count}
use Rattle.df_orbits.specs.Orbits.{orbits_with_sizes, pair_orbits}
use Rattle.df_orbits.specs.declared.orbits.Orbit.{Orbit}
use Rattle.df_orbits.proofs.OrbitNumbers.{one_size}
use Rattle.df_orbits.proofs.PairCounts.{few_pairs}
use Rattle.df_orbits.proofs.orbits.orbits_of_pairs.Goals as goal

pub find-requires-clause-few : goal.find-requires-clause-few
find-requires-clause-few c = few_pairs (point_count c.args.images.now) (omega (arith, c.points.ensures.points, c.points.ensures.small))

pub find-requires-clause-within : goal.find-requires-clause-within
find-requires-clause-within c = omega (arith, c.points.ensures.points, c.points.ensures.some)

pub returns-clause-sized : goal.returns-clause-sized
returns-clause-sized c =
    let M = c.args.images.now in
    c.in_ok-find.ensures
    ∙ ap (λ l. map {A = Orbit} {B = List ℕ × ℕ} (λ f. (f.block, f.size)) l ++ pair_orbits M) c.new-found.ensures.items ∙ ap (orbits_with_sizes M) (one_size (point_count M) 2)
