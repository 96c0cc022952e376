use Rattle.std.proofs.Common.{◌∙◌, ◌++◌, ℕ, List, map, ap}
use Rattle.df_subsets.specs.Subsets.{subsets}
use Rattle.df_maps.specs.FullMaps.{point_count}
use Rattle.df_orbits.specs.Orbits.{orbits_with_sizes}
use Rattle.df_orbits.specs.declared.orbits.Orbit.{Orbit}
use Rattle.df_orbits.proofs.OrbitNumbers.{one_size}
use Rattle.df_orbits.proofs.orbits.subset_orbits.Goals as goal

pub returns-clause-sized : goal.returns-clause-sized
returns-clause-sized c =
    let M = c.args.maps.now in
    c.in_ok-find.ensures ∙ ap (λ N. map {A = Orbit} {B = List ℕ × ℕ} (λ f. (f.block, f.size)) c.new-found.result.items ++ orbits_with_sizes N (subsets (point_count N) c.args.size)) c.in_ok-images.ensures
    ∙ ap (λ l. map {A = Orbit} {B = List ℕ × ℕ} (λ f. (f.block, f.size)) l ++ orbits_with_sizes M (subsets (point_count M) c.args.size)) c.new-found.ensures.items ∙ ap (orbits_with_sizes M) (one_size (point_count M) c.args.size)
