use Rattle.std.proofs.Common.{◌≡◌, map, take, ◌++◌}
use Rattle.df_kramer_mesner.specs.OrbitSystems.{pairs_of, needed_of, pair_target}
use Rattle.df_matrix.proofs.columns.targets_of.Given as goal

abbrev pub invariant-loop-i : goal.invariant-loop-i
invariant-loop-i l = l.targets.items ≡ map (pair_target l.orbits) (pairs_of l.orbits) ++ map (λ needed. 1) (take l._i (needed_of l.orbits))
