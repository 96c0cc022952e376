use Rattle.std.proofs.Common.{◌≡◌, map, take}
use Rattle.df_kramer_mesner.specs.OrbitSystems.{has_in_orbit, orbits_of}
use Rattle.df_matrix.proofs.columns.marked.Given as goal

abbrev pub invariant-loop-block : goal.invariant-loop-block
invariant-loop-block l = l.marks.items ≡ map (has_in_orbit l.orbits (take l.block-index l.blocks)) (orbits_of l.orbits)
