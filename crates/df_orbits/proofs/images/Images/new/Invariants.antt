use Rattle.std.proofs.Common.{◌≡◌, ◌<◌, ◌/◌, ◌%◌, ℕ, length, get_or}
use Rattle.df_maps.specs.FullMaps.{point_count, map_number, carried}
use Rattle.df_orbits.proofs.images.Images.new.Given as goal

abbrev pub invariant-loop-place : goal.invariant-loop-place
invariant-loop-place l = record {
  long : length l.table.items ≡ l.place;
  images : (k : ℕ) → k < l.place → get_or l.table.items k 0 ≡ carried l.maps (map_number l.maps (k / point_count l.maps)) (k % point_count l.maps);
}
