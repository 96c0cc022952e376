use Rattle.std.proofs.Common.{◌≡◌, All, map, take}
use Rattle.df_mixed.specs.Origins.{counted, IsDivisor}
use Rattle.df_mixed.proofs.blocks.counted_blocks.Given as goal

abbrev pub invariant-loop-member : goal.invariant-loop-member
invariant-loop-member l = record {
  blocks : l.blocks.items ≡ map (counted l.problem l.shifts) (take l.member-index l.problem.family);
  divisors : All IsDivisor l.blocks.items;
}
