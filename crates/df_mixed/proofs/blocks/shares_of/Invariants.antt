use Rattle.std.proofs.Common.{◌≡◌, ◌≤◌, ◌*◌, take}
use Rattle.df_mixed.specs.Origins.{shares}
use Rattle.df_mixed.proofs.blocks.shares_of.Given as goal

abbrev pub invariant-loop-counted : goal.invariant-loop-counted
invariant-loop-counted l = record {
  sum : l.sum ≡ shares l.origins (take l.counted-index l.blocks);
  few : l.sum ≤ 128 * l.counted-index;
}
