use Rattle.std.proofs.Common.{◌≡◌, map, take}
use Rattle.df_kramer_mesner.specs.OrbitSystems.{pairs_of, pair_target}
use Rattle.df_matrix.proofs.columns.pair_targets.Given as goal

abbrev pub invariant-loop-row : goal.invariant-loop-row
invariant-loop-row l = l.targets.items ≡ map (pair_target l.orbits) (take l.row (pairs_of l.orbits))
