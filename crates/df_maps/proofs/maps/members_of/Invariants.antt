use Rattle.std.proofs.Common.{◌≡◌, ◌≤◌, filter, length}
use Rattle.std.specs.List.{range_with_len}
use Rattle.df_lists.specs.NumberSets.{has_member}
use Rattle.df_maps.proofs.maps.members_of.Given as goal

abbrev pub invariant-loop-number : goal.invariant-loop-number
invariant-loop-number l = (l.members.items ≡ filter (has_member l.subgroup) (range_with_len 0 l.number)) × (length l.members.items ≤ l.number)
