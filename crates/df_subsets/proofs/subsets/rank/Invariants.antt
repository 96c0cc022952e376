use Rattle.std.proofs.Common.{◌≡◌, ◌+◌, drop, length}
use Rattle.df_subsets.proofs.Places.{later}
use Rattle.df_subsets.proofs.subsets.rank.Given as goal

abbrev pub invariant-loop-p : goal.invariant-loop-p
invariant-loop-p l = record {
  items : l.p-items ≡ l.block;
  counted : l.later + later l.v (drop l.p-index l.block) ≡ later l.v l.block;
  left : l.left + l.p-index ≡ length l.block;
  size : l.size ≡ length l.block;
}
