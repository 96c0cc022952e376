use Rattle.std.proofs.Common.{◌≡◌, ◌≤◌}
use Rattle.std.specs.List.{range_with_len}
use Rattle.df_lists.specs.Membership.{count}
use Rattle.df_subsets.specs.Subsets.{same_list}
use Rattle.df_maps.specs.FullMaps.{image, map_number}
use Rattle.df_maps.proofs.maps.Maps.orbit_size.Given as goal

abbrev pub invariant-loop-i : goal.invariant-loop-i
invariant-loop-i l = (l.fixing ≡ count (λ j. same_list (image l.self (map_number l.self j) l.block) l.block) (range_with_len 0 l.i)) × (l.fixing ≤ l.i)
