use Rattle.std.proofs.Common.{◌≡◌, true, not}
use Rattle.std.specs.List.{list_all, range_with_len}
use Rattle.df_subsets.specs.Blocks.{before}
use Rattle.df_maps.specs.FullMaps.{image, map_number}
use Rattle.df_maps.proofs.maps.Maps.is_least.Given as goal

abbrev pub invariant-loop-i : goal.invariant-loop-i
invariant-loop-i l = list_all (λ j. not (before (image l.self (map_number l.self j) l.block) l.block)) (range_with_len 0 l.i) ≡ true
