use Rattle.std.proofs.Common.{◌≡◌, ◌≤◌, ◌*◌, length, take}
use Rattle.std.specs.List.{flat_map}
use Rattle.df_family.specs.Developments.{translates_under}
use Rattle.df_mixed.proofs.blocks.block_count.Given as goal

abbrev pub invariant-loop-member : goal.invariant-loop-member
invariant-loop-member l = record {
  blocks : l.count ≡ length (flat_map (translates_under l.problem l.shifts) (take l.member-index l.problem.family));
  few : l.count ≤ 128 * l.member-index;
}
