use Rattle.std.proofs.Common.{◌≡◌, ℕ, List, map, take}
use Rattle.std.specs.List.{flat_map}
use Rattle.df_subsets.specs.Subsets.{subsets}
use Rattle.df_maps.specs.FullMaps.{point_count}
use Rattle.df_orbits.specs.Orbits.{orbits_with_sizes}
use Rattle.df_orbits.proofs.orbits.orbits_of_sizes.Given as goal

abbrev pub invariant-loop-size : goal.invariant-loop-size
invariant-loop-size l = map {B = List ℕ × ℕ} (λ f. (f.block, f.size)) l.found.items ≡ flat_map (λ k. orbits_with_sizes l.images (subsets (point_count l.images) k)) (take l.size-index l.sizes)
