use Rattle.std.proofs.Common.{◌≡◌, length, map}
use Rattle.std.specs.List.{range_with_len}
use Rattle.df_lists.specs.NumberSets.{IsSet}
use Rattle.df_subsets.specs.Blocks.{before}
use Rattle.df_acting.specs.Representatives.{earliest}
use Rattle.df_maps.specs.FullMaps.{image, map_number, point_count}
use Rattle.df_maps.proofs.maps.Maps.least_image.Given as goal

abbrev pub invariant-loop-i : goal.invariant-loop-i
invariant-loop-i l = record {
  image : l.least ≡ earliest before l.block (map (λ j. image l.self (map_number l.self j) l.block) (range_with_len 0 l.i));
  block : IsSet (point_count l.self) l.least;
  size : length l.least ≡ length l.block;
}
