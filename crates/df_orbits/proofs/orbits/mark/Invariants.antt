use Rattle.std.proofs.Common.{◌≡◌, ◌<◌, ◌≤◌, ◌||◌, ℕ, [], length, slice_index_or}
use Rattle.std.specs.List.{list_any, range_with_len}
use Rattle.df_lists.specs.Membership.{count}
use Rattle.df_subsets.specs.Subsets.{subsets, same_list, binomial as binomial_of}
use Rattle.df_maps.specs.FullMaps.{point_count, image, map_number}
use Rattle.df_orbits.specs.MarkedPlaces.{is_marked}
use Rattle.df_orbits.proofs.orbits.mark.Given as goal

-- a place has a mark where it had one, or where one of the images so far stands, and those that are the block itself are counted
abbrev pub invariant-loop-i : goal.invariant-loop-i
invariant-loop-i l = record {
  room : length l.marks ≡ length l.fn.marks;
  marks : (place : ℕ) → place < binomial_of (point_count l.images) (length l.block) → is_marked l.marks place
      ≡ (is_marked l.fn.marks place || list_any (λ j. same_list (image l.images (map_number l.images j) l.block) (slice_index_or (subsets (point_count l.images) (length l.block)) place [])) (range_with_len 0 l.i));
  fixing : l.fixing ≡ count (λ j. same_list (image l.images (map_number l.images j) l.block) l.block) (range_with_len 0 l.i);
  few : l.fixing ≤ l.i;
}
