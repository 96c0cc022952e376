use Rattle.std.proofs.Common.{◌≡◌, ◌+◌, ◌<◌, length, drop, take}
use Rattle.std.specs.Prelude.{reverse}
use Rattle.df_system.specs.BarredWords.{levels_of}
use Rattle.df_system.proofs.barred.level_start.Given as goal

abbrev pub invariant-loop-place : goal.invariant-loop-place
invariant-loop-place l = record {
  within : l.place < l.count;
  levels : drop 1 (levels_of (reverse (take (l.place + 1) l.trail))) ≡ drop 1 (levels_of (reverse (take l.count l.trail)));
  some : 1 < length (levels_of (reverse (take (l.place + 1) l.trail)));
}

abbrev pub decreases-loop-place : goal.decreases-loop-place
decreases-loop-place l = l.place
