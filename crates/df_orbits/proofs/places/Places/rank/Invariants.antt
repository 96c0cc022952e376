use Rattle.std.proofs.Common.{◌≡◌, ◌+◌, ◌*◌, drop}
use Rattle.df_subsets.proofs.Places.{later}
use Rattle.df_orbits.proofs.places.Places.rank.Given as goal

abbrev pub invariant-loop-p : goal.invariant-loop-p
invariant-loop-p l = record {
  items : l.p-items ≡ l.block;
  row : l.row ≡ l.p-index * l.width;
  counted : l.later + later l.width (drop l.p-index l.block) ≡ later l.width l.block;
}
