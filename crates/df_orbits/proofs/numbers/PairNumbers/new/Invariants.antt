use Rattle.std.proofs.Common.{◌≡◌, ◌*◌, length}
use Rattle.df_maps.specs.FullMaps.{point_count}
use Rattle.df_orbits.proofs.PairNumbering.{AreWritten}
use Rattle.df_orbits.proofs.numbers.PairNumbers.new.Given as goal

abbrev pub invariant-loop-i : goal.invariant-loop-i
invariant-loop-i l = record {
  long : length l.numbers.items ≡ point_count l.images * point_count l.images;
  written : AreWritten l.images l.numbers.items l.i;
}
