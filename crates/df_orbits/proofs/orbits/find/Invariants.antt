use Rattle.std.proofs.Common.{◌≡◌, ◌<◌, ◌≤◌, ◌-◌, ◌*◌, ◌++◌, ℕ, List, [], length, slice_index_or, map, filter, take, slice_get, Some}
use Rattle.std.specs.List.{list_any}
use Rattle.df_lists.specs.NumberSets.{IsSet}
use Rattle.df_subsets.specs.Blocks.{before}
use Rattle.df_subsets.specs.Subsets.{subsets, binomial as binomial_of}
use Rattle.df_acting.specs.Representatives.{is_representative}
use Rattle.df_maps.specs.FullMaps.{point_count, image, full_maps}
use Rattle.df_orbits.specs.MarkedPlaces.{is_marked}
use Rattle.df_orbits.specs.Orbits.{are_in_one_orbit, orbit_size_in}
use Rattle.df_orbits.proofs.orbits.find.Given as goal

-- the block is that of the place before; the places of the orbits of the blocks so far have marks, and the representatives among these blocks are found
abbrev pub invariant-loop-place : goal.invariant-loop-place
invariant-loop-place l = record {
  block : IsSet l.points l.block;
  long : length l.block ≡ l.size;
  at : slice_get (subsets l.points (length l.block)) (l.place - 1) ≡ Some l.block;
  room : binomial_of (point_count l.images) l.size ≤ 64 * length l.marks;
  marks : (j : ℕ) → j < binomial_of (point_count l.images) l.size → is_marked l.marks j
      ≡ list_any (λ d. are_in_one_orbit l.images d (slice_index_or (subsets (point_count l.images) l.size) j [])) (take l.place (subsets (point_count l.images) l.size));
  found : map {B = List ℕ × ℕ} (λ f. (f.block, f.size)) l.found.items
      ≡ map {B = List ℕ × ℕ} (λ f. (f.block, f.size)) l.fn.found.items ++ map {B = List ℕ × ℕ} (λ b. (b, orbit_size_in l.images (subsets (point_count l.images) l.size) b)) (filter (is_representative before (image l.images) (full_maps l.images)) (take l.place (subsets (point_count l.images) l.size)));
}
