use Rattle.std.proofs.Common.{◌≡◌, filter}
use Rattle.std.specs.List.{range_with_len}
use Rattle.df_kramer_mesner.specs.OrbitSystems.{is_kept, orbit_at}
use Rattle.df_matrix.proofs.columns.kept_of.Given as goal

abbrev pub invariant-loop-orbit : goal.invariant-loop-orbit
invariant-loop-orbit l = l.kept.items ≡ filter (λ k. is_kept l.orbits (orbit_at l.orbits k)) (range_with_len 0 l.orbit)
