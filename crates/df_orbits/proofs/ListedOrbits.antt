-- The representatives and the sizes of the listed orbits.
use Rattle.std.proofs.Common.{◌≡◌, ℕ, List, map, ◌∙◌}
use Rattle.std.proofs.lemmas.List.{map-id}
use Rattle.std.proofs.lemmas.Simd.{map-map}
use Rattle.df_maps.specs.FullMaps.{MapGroup}
use Rattle.df_orbits.specs.Orbits.{orbit_size_in, orbits_with_sizes, representatives_of, listed_representatives, orbit_sizes}

pub members_are : (M : MapGroup) (blocks : List (List ℕ)) → listed_representatives (orbits_with_sizes M blocks) ≡ representatives_of M blocks
members_are M blocks = map-map (λ (c : List ℕ × ℕ). c.0) (λ b. (b, orbit_size_in M blocks b)) (representatives_of M blocks) ∙ map-id (representatives_of M blocks)

pub sizes_are : (M : MapGroup) (blocks : List (List ℕ)) → orbit_sizes (orbits_with_sizes M blocks) ≡ map (orbit_size_in M blocks) (representatives_of M blocks)
sizes_are M blocks = map-map (λ (c : List ℕ × ℕ). c.1) (λ b. (b, orbit_size_in M blocks b)) (representatives_of M blocks)
